-- A search that keeps the rule settles junctions at their best totals. Assumes nothing.
use Rattle.std.proofs.Common.{◌≡◌, ℕ, true, ◌≢◌, ◌⊎◌, List, [], ◌∷◌, ◌++◌, Some, None, Option, sym, refl, ap, ◌∙◌, subst, inl, inr}
use Rattle.std.proofs.lemmas.Bool.{cases_eq}
use Rattle.std.proofs.ByRecursion.{has_append_left, has_push, has_push_cases}
use Rattle.std.specs.List.{ContainsAt as Has}
use Rattle.measure.specs.Scale.{Scale, Lawful}
use Rattle.walks.specs.Net.{Net}
use Rattle.walks.specs.Walk.{total, Best}
use Rattle.walks.specs.Search.{State, Settled, Waits, Begins, Offer, offered, Above, Lowers, Keeps, Gets, Relaxes, Settles, Ends, Runs, ended, step, Searched}
use Rattle.walks.proofs.Order.{Le, Lt, no_both, le_trans, le_eq, lt_le, le_join_right}
use Rattle.walks.proofs.Choosing.{Whether, some_same, none_some, goal?, has?, has_none}
use Rattle.walks.proofs.Frontier.{Reach, at_start, by_leg, reach_keep, reach_walk, reach_total, Invariant, Outcome, arrived, waiting, stopped, arrives, frontier_start}

-- a total that z can move is above z
pub lower_than : {T : Type 0} (m : Scale T) (o : Option T) (y z : T) → o ≡ Some y → Above m o z → Lt m z y
lower_than m None y z e h = absurd (none_some refl e)
lower_than m (Some w) y z e h = subst (λ a. Lt m z a) (some_same refl e) h

module _ {T : Type 0} {m : Scale T} (laws : Lawful m) (g : Net T) (start : ℕ) (goal : Option ℕ) (s t : State T) (st : Settles m g goal s t)
    (inv : Invariant m g start goal s) where
  abbrev u : ℕ
  u = st.next

  abbrev x : T
  x = st.at

  old : (v : ℕ) → Settled s v → Settled t v
  old v i = subst (λ l. Has l v) (sym st.listed) (has_append_left s.settled (u ∷ []) v i)

  new : Settled t u
  new = subst (λ l. Has l u) (sym st.listed) (has_push s.settled u)

  split : (v : ℕ) → Settled t v → Settled s v ⊎ (u ≡ v)
  split v i = has_push_cases s.settled u v (subst (λ l. Has l v) st.listed i)

  -- what became of v
  data Change (v : ℕ) : Type 0 where
    kept : Keeps s t v → Change v
    lowered : ¬ Settled t v → goal ≢ Some u → (e : ℕ) → Lowers m g s u x v e → Gets t v (offered m g x e) e → Change v

  change : (v : ℕ) → Change v
  change v = go (has? t.settled v) (goal? goal u)
    where
      relax : ¬ Settled t v → goal ≢ Some u → Relaxes m g s u x t v → Change v
      relax n k (inl p) = kept p.1
      relax n k (inr p) = lowered n k p.0 p.1 p.2

      go : Whether (Settled t v) → Whether (goal ≡ Some u) → Change v
      go (inl i) k = kept (st.settled_keep v i)
      go (inr n) (inl e) = kept (st.done e v)
      go (inr n) (inr k) = relax n k (st.relaxed k v n)

  -- the totals of the settled are at most x, and those of the waiting at least x
  low : (v : ℕ) (y : T) → Settled t v → s.total v ≡ Some y → Le m y x
  low v y i e = go (split v i)
    where
      go : (Settled s v ⊎ (u ≡ v)) → Le m y x
      go (inl j) = inv.order v y u x j e st.lowest.waits
      go (inr q) = le_eq laws (some_same e (subst (λ a. s.total a ≡ Some x) q st.lowest.waits.has))

  best_next : Best m g start u x
  best_next =
      record {
        way = r.0;
        walk = reach_walk laws g start s r.1;
        reached = reach_total laws g start s r.1;
        lowest = λ es w. go (total m g es) (frontier_start laws g start goal s inv es u w);
      }
    where
      r : (es : List ℕ) × Reach m g start s u es x
      r = inv.reached u x st.lowest.waits.has

      go : (z : T) → Outcome m goal s u z → Le m x z
      go z (arrived y i e k) = absurd (st.lowest.waits.unsettled i)
      go z (waiting q y w k) = le_trans laws (st.lowest.not_above q y w) k
      go z (stopped w y q i e k) = absurd (st.not_arrived (arrives goal s w q i))

  next_start : t.total start ≡ Some m.unit
  next_start = go (change start)
    where
      go : Change start → t.total start ≡ Some m.unit
      go (kept k) = k.same_total ∙ inv.start_has
      go (lowered n k e l h) =
          absurd
          (no_both (lower_than m (s.total start) m.unit (offered m g x e) inv.start_has l.lower) (laws.lowest (offered m g x e)))

  keeps_old : (v : ℕ) → Settled s v → Settled t v × (t.came v ≡ s.came v)
  keeps_old v i = (old v i, (st.settled_keep v (old v i)).same_came)

  next_reached : (v : ℕ) (y : T) → t.total v ≡ Some y → (es : List ℕ) × Reach m g start t v es y
  next_reached v y e = go (change v)
    where
      r : (es : List ℕ) × Reach m g start s u es x
      r = inv.reached u x st.lowest.waits.has

      r' : Reach m g start t u r.0 x
      r' = reach_keep laws g start s t keeps_old (st.settled_keep u new).same_came r.1

      go : Change v → (es : List ℕ) × Reach m g start t v es y
      go (kept k) =
          let q = inv.reached v y (sym k.same_total ∙ e) in (q.0, reach_keep laws g start s t keeps_old k.same_came q.1)
      go (lowered n k l lo h) = (
        r.0 ++ (l ∷ []),
        subst (λ z. Reach m g start t v (r.0 ++ (l ∷ [])) z) (some_same h.new_total e)
            (by_leg h.new_came lo.offer.usable lo.offer.leads
            (subst (λ a. Settled t a) (sym lo.offer.leaves) new)
            (subst (λ a. Reach m g start t a r.0 x) (sym lo.offer.leaves) r')),
      )

  next_has : (v : ℕ) → Settled t v → (y : T) × (t.total v ≡ Some y)
  next_has v i = go (split v i)
    where
      go : (Settled s v ⊎ (u ≡ v)) → (y : T) × (t.total v ≡ Some y)
      go (inl j) = let h = inv.settled_has v j in (h.0, (st.settled_keep v i).same_total ∙ h.1)
      go (inr q) = (x, (st.settled_keep v i).same_total ∙ subst (λ a. s.total a ≡ Some x) q st.lowest.waits.has)

  next_best : (v : ℕ) (y : T) → Settled t v → t.total v ≡ Some y → Best m g start v y
  next_best v y i e = go (split v i)
    where
      e' : s.total v ≡ Some y
      e' = sym (st.settled_keep v i).same_total ∙ e

      go : (Settled s v ⊎ (u ≡ v)) → Best m g start v y
      go (inl j) = inv.settled_best v y j e'
      go (inr q) =
          let same : x ≡ y = some_same (subst (λ a. s.total a ≡ Some x) q st.lowest.waits.has) e' in
          subst (λ a. Best m g start a y) q (subst (λ z. Best m g start u z) same best_next)

  next_order : (a : ℕ) (p : T) (v : ℕ) (y : T) → Settled t a → t.total a ≡ Some p → Waits t v y → Le m p y
  next_order a p v y i e w = le_trans laws (low a p i (sym (st.settled_keep a i).same_total ∙ e)) (go (change v))
    where
      go : Change v → Le m x y
      go (kept k) = st.lowest.not_above v y (record { has = sym k.same_total ∙ w.has; unsettled = λ j. w.unsettled (old v j) })
      go (lowered n k l lo h) = subst (λ z. Le m x z) (some_same h.new_total w.has) (le_join_right laws x (g.weight l))

  next_relaxed :
      (a : ℕ) (p : T) → Settled t a → goal ≢ Some a → t.total a ≡ Some p → (e : ℕ) → g.usable e ≡ true → g.tail e ≡ a →
      (y : T) × (t.total (g.head e) ≡ Some y) × Le m y (m.joined p (g.weight e))
  next_relaxed a p i ng h e us ta = go (split a i)
    where
      Goal : T → Type 0
      Goal z = (y : T) × (t.total (g.head e) ≡ Some y) × Le m y z

      hs : s.total a ≡ Some p
      hs = sym (st.settled_keep a i).same_total ∙ h

      -- a total at the head in s that is low enough
      carry : (z y : T) → s.total (g.head e) ≡ Some y → Le m y z → Change (g.head e) → Goal z
      carry z y q k (kept c) = (y, c.same_total ∙ q, k)
      carry z y q k (lowered n k' l lo b) = (
        offered m g x l,
        b.new_total,
        le_trans laws (lt_le laws (lower_than m (s.total (g.head e)) y (offered m g x l) q lo.lower)) k,
      )

      fresh : ¬ Settled t (g.head e) → Offer g u (g.head e) e → Relaxes m g s u x t (g.head e) → Goal (offered m g x e)
      fresh n o (inl c) = let r = c.0 e o in (r.0, c.1.same_total ∙ r.1, r.2)
      fresh n o (inr c) = (m.joined x (g.weight c.0), c.2.new_total, c.1.lowest e o)

      here : goal ≢ Some u → Offer g u (g.head e) e → Whether (Settled t (g.head e)) → Goal (offered m g x e)
      here k o (inl j) =
          let q = next_has (g.head e) j in (
            q.0,
            q.1,
            le_trans laws (low (g.head e) q.0 j (sym (st.settled_keep (g.head e) j).same_total ∙ q.1))
                (le_join_right laws x (g.weight e)),
          )
      here k o (inr n) = fresh n o (st.relaxed k (g.head e) n)

      go : (Settled s a ⊎ (u ≡ a)) → Goal (m.joined p (g.weight e))
      go (inl j) = let r = inv.relaxed a p j ng hs e us ta in carry (m.joined p (g.weight e)) r.0 r.1 r.2 (change (g.head e))
      go (inr q) =
          let same : x ≡ p = some_same (subst (λ b. s.total b ≡ Some x) q st.lowest.waits.has) hs in
          subst (λ z. Goal (m.joined z (g.weight e))) same
          (here (λ k. ng (k ∙ ap {B = Option ℕ} Some q)) (record { usable = us; leaves = ta ∙ sym q; leads = refl })
          (has? t.settled (g.head e)))

  pub invariant_step : Invariant m g start goal t
  invariant_step =
      record {
        start_has = next_start;
        reached = next_reached;
        settled_has = next_has;
        settled_best = next_best;
        order = next_order;
        relaxed = next_relaxed;
      }

module _ {T : Type 0} {m : Scale T} (laws : Lawful m) (g : Net T) (start : ℕ) (goal : Option ℕ) where
  pub invariant_begin : (s : State T) → Begins m start s → Invariant m g start goal s
  invariant_begin s b =
      record {
        start_has = b.start_unit;
        reached = reach;
        settled_has = λ v i. absurd (nothing v i);
        settled_best = λ v y i e. absurd (nothing v i);
        order = λ u x v y i e w. absurd (nothing u i);
        relaxed = λ u x i. absurd (nothing u i);
      }
    where
      nothing : (v : ℕ) → Settled s v → ⊥
      nothing v i = has_none (subst (λ l. Has l v) b.none_settled i)

      reach : (v : ℕ) (y : T) → s.total v ≡ Some y → (es : List ℕ) × Reach m g start s v es y
      reach v y e = go (cases_eq v start)
        where
          go : Whether (v ≡ start) → (es : List ℕ) × Reach m g start s v es y
          go (inl q) = (
            [],
            subst (λ z. Reach m g start s v [] z) (some_same (subst (λ a. s.total a ≡ Some m.unit) (sym q) b.start_unit) e)
                (at_start q (b.no_came v)),
          )
          go (inr n) = absurd (none_some (b.others v n) e)

  pub invariant_runs : (t s : State T) → Runs m g goal t s → Invariant m g start goal s → Invariant m g start goal t × Ends goal t
  invariant_runs t s (ended e) inv = (inv, e)
  invariant_runs t s (step {r = r} st rs) inv = invariant_runs t r rs (invariant_step laws g start goal s r st inv)

  pub invariant : (t : State T) → Searched m g start goal t → Invariant m g start goal t × Ends goal t
  invariant t r = invariant_runs t r.first r.runs (invariant_begin r.first r.begins)
