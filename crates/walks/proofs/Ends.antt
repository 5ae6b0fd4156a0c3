-- The rule comes to an end: each step settles one more of the junctions that exist. Assumes nothing.
use Rattle.std.proofs.Common.{◌≡◌, ℕ, zero, suc, ◌+◌, ◌<◌, Bool, true, cond, not, eqb, [], ◌∷◌, ◌++◌, Some, None, Option, unwrap_or, sym, refl, ap, ◌∙◌, subst, inl, inr, le_refl, arith}
use Rattle.std.proofs.lemmas.Bool.{cases_eq, not-true, eq-eqb, ne_eqb, cond-true, cond-false}
use Rattle.std.proofs.ByRecursion.{has_append_left, has_push}
use Rattle.std.specs.List.{ContainsAt as Has}
use Rattle.measure.specs.Scale.{Scale, Lawful}
use Rattle.walks.specs.Net.{Net, Finite}
use Rattle.walks.specs.Search.{State, Settled, Arrived, Waits, Begins, Lowest, Keeps, Relaxes, Settles, Runs, ended, step}
use Rattle.walks.specs.Searches.{SearchEnds}
use Rattle.walks.proofs.Order.{Le, no_both}
use Rattle.walks.proofs.Choosing.{Whether, none_some, goal?, has?, says, says_yes, says_no}
use Rattle.walks.proofs.Counting.{count, count_lt}
use Rattle.walks.proofs.Firsts.{First, FirstOrNone, first?}
use Rattle.walks.proofs.Relaxing.{settles}

-- v has yet to be settled
abbrev missing : {T : Type 0} → State T → ℕ → Bool
missing s v = not (says (has? s.settled v))

arrived? : {T : Type 0} (goal : Option ℕ) (s : State T) → Whether (Arrived goal s)
arrived? None s = inr (λ a. a)
arrived? (Some v) s = has? s.settled v

module _ {T : Type 0} {m : Scale T} (laws : Lawful m) (g : Net T) (n l : ℕ) (fin : Finite g n l) (goal : Option ℕ) where
  -- what has a total exists
  abbrev Within : State T → Type 0
  Within s = (v : ℕ) (y : T) → s.total v ≡ Some y → v < n

  within_step : (s t : State T) → Settles m g goal s t → Within s → Within t
  within_step s t st w v y e = go (has? t.settled v) (goal? goal st.next)
    where
      keep : Keeps s t v → v < n
      keep k = w v y (sym k.same_total ∙ e)

      relaxed : Relaxes m g s st.next st.at t v → v < n
      relaxed (inl p) = keep p.1
      relaxed (inr p) = subst (λ a. a < n) p.1.offer.leads (fin.head_exists p.0 p.1.offer.usable)

      go : Whether (Settled t v) → Whether (goal ≡ Some st.next) → v < n
      go (inl i) c = keep (st.settled_keep v i)
      go (inr k) (inl q) = keep (st.done q v)
      go (inr k) (inr q) = relaxed (st.relaxed q v k)

  fewer : (s t : State T) → Settles m g goal s t → Within s → count (missing t) n < count (missing s) n
  fewer s t st w =
      count_lt (missing t) (missing s) still st.next
      (ap not (says_yes (has? t.settled st.next) (grown st.next (has_push s.settled st.next))))
      (ap not (says_no (has? s.settled st.next) st.lowest.waits.unsettled))
      n (w st.next st.at st.lowest.waits.has)
    where
      grown : (v : ℕ) → Has (s.settled ++ (st.next ∷ [])) v → Settled t v
      grown v i = subst (λ a. Has a v) (sym st.listed) i

      still : (v : ℕ) → missing t v ≡ true → missing s v ≡ true
      still v h =
          ap not
          (says_no (has? s.settled v)
          (λ i. no_both (says_yes (has? t.settled v) (grown v (has_append_left s.settled (st.next ∷ []) v i)))
          (not-true (says (has? t.settled v)) h)))

  abbrev Waiting : State T → ℕ → Type 0
  Waiting s v = (x : T) × Waits s v x

  waiting? : (s : State T) (v : ℕ) → Whether (Waiting s v)
  waiting? s v = go (s.total v) refl (has? s.settled v)
    where
      go : (o : Option T) → s.total v ≡ o → Whether (Settled s v) → Whether (Waiting s v)
      go None e i = inr (λ w. none_some e w.1.has)
      go (Some x) e (inl i) = inr (λ w. w.1.unsettled i)
      go (Some x) e (inr k) = inl (x, record { has = e; unsettled = k })

  abbrev total_at : State T → ℕ → T
  total_at s v = unwrap_or (s.total v) m.unit

  at_waiting : (s : State T) (v : ℕ) (x : T) → Waits s v x → total_at s v ≡ x
  at_waiting s v x w = ap (λ o. unwrap_or o m.unit) w.has

  lowest : (s : State T) → Within s → (p : First m (Waiting s) (total_at s) n) → Lowest m s p.number p.picked.0
  lowest s w p =
      record {
        waits = p.picked.1;
        not_above =
            λ v y b. subst (λ a. Le m a y) here
            (subst (λ a. Le m (total_at s p.number) a) (at_waiting s v y b) (p.lowest v (w v y b.has) (y, b)));
        ties = λ v y b q. p.first v (w v y b.has) (y, b) (at_waiting s v y b ∙ q ∙ sym here);
      }
    where
      here : total_at s p.number ≡ p.picked.0
      here = at_waiting s p.number p.picked.0 p.picked.1

  ends : (fuel : ℕ) (s : State T) → Within s → count (missing s) n < fuel → (t : State T) × Runs m g goal t s
  ends zero s w h = absurd (omega arith)
  ends (suc fuel) s w h =
      go (arrived? goal s) (first? laws (Waiting s) (total_at s) (waiting? s) n)
      (λ r st. ends fuel r (within_step s r st w) (let k = fewer s r st w in omega arith))
    where
      go :
          Whether (Arrived goal s) → FirstOrNone m (Waiting s) (total_at s) n →
          ((r : State T) → Settles m g goal s r → (t : State T) × Runs m g goal t r) → (t : State T) × Runs m g goal t s
      go (inl i) p ih = (s, ended (inl i))
      go (inr k) (inr a) ih = (s, ended (inr (λ v x b. a v (w v x b.has) (x, b))))
      go (inr k) (inl p) ih =
          let r = settles laws g l fin.leg_exists s p.number p.picked.0 goal k (lowest s w p) in
          let t = ih r.0 r.1 in
          (t.0, step r.1 t.1)

pub search_ends : {T : Type 0} {m : Scale T} (laws : Lawful m) → SearchEnds m
search_ends {T = T} {m} laws g n l fin start goal =
    let t = ends laws g bound l wider goal (suc (count (missing first) bound)) first within (le_refl (suc (count (missing first) bound))) in
    (t.0, record { first = first; begins = begins; runs = t.1 })
  where
    -- the start may be no junction of the net
    bound : ℕ
    bound = n + suc start

    wider : Finite g bound l
    wider = record { leg_exists = fin.leg_exists; head_exists = λ e h. let k = fin.head_exists e h in omega arith }

    first : State T
    first = record { total = λ v. cond (eqb v start) (Some m.unit) None; came = λ v. None; settled = [] }

    begins : Begins m start first
    begins =
        record {
          start_unit = cond-true (eqb start start) (Some m.unit) None (eq-eqb start start refl);
          others = λ v n. cond-false (eqb v start) (Some m.unit) None (ne_eqb v start n);
          no_came = λ v. refl;
          none_settled = refl;
        }

    within : (v : ℕ) (y : T) → first.total v ≡ Some y → v < bound
    within v y e = go (cases_eq v start)
      where
        go : Whether (v ≡ start) → v < bound
        go (inl q) = omega arith
        go (inr k) = absurd (none_some (begins.others v k) e)
