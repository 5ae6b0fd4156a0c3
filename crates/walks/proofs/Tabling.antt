-- Tables that hold what a search left show it whole. Assumes nothing.
use Rattle.std.proofs.Common.{◌≡◌, ℕ, Bool, true, false, cond, not, ◌||◌, eqb, ◌⊎◌, List, get_or, Some, None, Option, unwrap_or, sym, refl, ap, ◌∙◌, ap₂, inl, inr}
use mathlib.Core.Path.{fun_ext}
use Rattle.std.proofs.lemmas.Bool.{cases_eq, eq-eqb, ne_eqb, or_left, or_right}
use Rattle.measure.specs.Scale.{Scale, Lawful}
use Rattle.walks.specs.Net.{Net}
use Rattle.walks.specs.Search.{State, Settled, Keeps, Relaxes, Settles, Runs, ended, step, Searched}
use Rattle.walks.specs.Tables.{no_came_by, came_by, TabledWhole}
use Rattle.walks.proofs.Choosing.{Whether, some_same, none_some, goal?, has?}
use Rattle.walks.proofs.Frontier.{Reach, at_start, by_leg, Invariant}
use Rattle.walks.proofs.Settling.{invariant}

module _ {T : Type 0} (m : Scale T) (g : Net T) (start : ℕ) (goal : Option ℕ) where
  -- a came-by is a usable leg, and comes with a total
  abbrev Comes : State T → Type 0
  Comes s = (v e : ℕ) → s.came v ≡ Some e → (g.usable e ≡ true) × ((y : T) × (s.total v ≡ Some y))

  comes_step : (s t : State T) → Settles m g goal s t → Comes s → Comes t
  comes_step s t st h v e c = go (has? t.settled v) (goal? goal st.next)
    where
      Goal : Type 0
      Goal = (g.usable e ≡ true) × ((y : T) × (t.total v ≡ Some y))

      keep : Keeps s t v → Goal
      keep k = let r = h v e (sym k.same_came ∙ c) in (r.0, (r.1.0, k.same_total ∙ r.1.1))

      relaxed : Relaxes m g s st.next st.at t v → Goal
      relaxed (inl p) = keep p.1
      relaxed (inr p) = (ap g.usable (some_same c p.2.new_came) ∙ p.1.offer.usable, (_, p.2.new_total))

      go : Whether (Settled t v) → Whether (goal ≡ Some st.next) → Goal
      go (inl i) k = keep (st.settled_keep v i)
      go (inr n) (inl q) = keep (st.done q v)
      go (inr n) (inr k) = relaxed (st.relaxed k v n)

  comes_runs : (t s : State T) → Runs m g goal t s → Comes s → Comes t
  comes_runs t s (ended e) h = h
  comes_runs t s (step {r = r} st rs) h = comes_runs t r rs (comes_step s r st h)

  comes : (s : State T) → Searched m g start goal s → Comes s
  comes s r = comes_runs s r.first r.runs (λ v e c. absurd (none_some (r.begins.no_came v) c))

  -- a junction that was reached is the start or has a came-by
  reached_by : (s : State T) {v : ℕ} {es : List ℕ} {y : T} → Reach m g start s v es y → (v ≡ start) ⊎ ((e : ℕ) × (s.came v ≡ Some e))
  reached_by s (at_start q k) = inl q
  reached_by s (by_leg {e = e} k us h i r) = inr (e, k)

pub tabled_whole : {T : Type 0} {m : Scale T} (laws : Lawful m) → TabledWhole m
tabled_whole {T = T} {m} laws g start goal s r small totals came held =
    λ i. record {
      total = fun_ext (λ v. total_at v (s.total v) refl (s.came v) refl (cases_eq v start)) i;
      came = fun_ext (λ v. came_at v (s.came v) refl) i;
      settled = s.settled;
    }
  where
    inv : Invariant m g start goal s
    inv = (invariant laws g start goal s r).0

    entry : ℕ → ℕ
    entry v = get_or came v no_came_by

    is_none : (v : ℕ) → s.came v ≡ None → eqb (entry v) no_came_by ≡ true
    is_none v e = eq-eqb (entry v) no_came_by (held.came_held v ∙ ap (λ o. unwrap_or o no_came_by) e)

    is_some : (v e : ℕ) → s.came v ≡ Some e → (entry v ≡ e) × (eqb (entry v) no_came_by ≡ false)
    is_some v e q =
        let k : entry v ≡ e = held.came_held v ∙ ap (λ o. unwrap_or o no_came_by) q in
        (k, ne_eqb (entry v) no_came_by (λ z. small e (comes m g start goal s r v e q).0 (sym k ∙ z)))

    came_at : (v : ℕ) (o : Option ℕ) → s.came v ≡ o → came_by (entry v) ≡ s.came v
    came_at v None q = ap (λ c. cond c None (Some (entry v))) (is_none v q) ∙ sym q
    came_at v (Some e) q = let k = is_some v e q in ap (λ c. cond c None (Some (entry v))) k.1 ∙ ap {B = Option ℕ} Some k.0 ∙ sym q

    Shown : ℕ → Bool → Option T
    Shown v c = cond c (Some (get_or totals v m.unit)) None

    test : ℕ → Bool
    test v = eqb v start || not (eqb (entry v) no_came_by)

    with_total : (v : ℕ) (y : T) → s.total v ≡ Some y → test v ≡ true → Shown v (test v) ≡ s.total v
    with_total v y q t = ap (Shown v) t ∙ ap {B = Option T} Some (held.totals_held v ∙ ap (λ o. unwrap_or o m.unit) q) ∙ sym q

    total_at :
        (v : ℕ) (o : Option T) → s.total v ≡ o → (p : Option ℕ) → s.came v ≡ p → Whether (v ≡ start) → Shown v (test v) ≡ s.total v
    total_at v o q p k (inl z) =
        with_total v m.unit (ap s.total z ∙ inv.start_has)
        (or_left (eqb v start) (not (eqb (entry v) no_came_by)) (eq-eqb v start z))
    total_at v o q (Some e) k (inr n) =
        let h = (comes m g start goal s r v e k).1 in
        with_total v h.0 h.1 (or_right (eqb v start) (not (eqb (entry v) no_came_by)) (ap not (is_some v e k).1))
    total_at v None q None k (inr n) = ap₂ (λ a b. Shown v (a || not b)) (ne_eqb v start n) (is_none v k) ∙ sym q
    total_at v (Some y) q None k (inr n) = absurd (no (reached_by m g start goal s (inv.reached v y q).1))
      where
        no : ((v ≡ start) ⊎ ((e : ℕ) × (s.came v ≡ Some e))) → ⊥
        no (inl z) = n z
        no (inr z) = none_some k z.1
