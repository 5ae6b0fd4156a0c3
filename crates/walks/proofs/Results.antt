-- What a finished search gives. Assumes nothing.
use Rattle.std.proofs.Common.{◌≡◌, ℕ, List, [], ◌∷◌, ◌++◌, Some, None, Option, sym, refl, subst, ap₂, inl, inr}
use Rattle.measure.specs.Scale.{Scale, Lawful}
use Rattle.walks.specs.Net.{Net}
use Rattle.walks.specs.Walk.{Walk, Leads, total}
use Rattle.walks.specs.Search.{State, Settled, Arrived, Waits, Ends, Searched, Traced, origin, back}
use Rattle.walks.specs.Searches.{SettledBest, FoundExactly, FoundAll, TracedWalk}
use Rattle.walks.proofs.Order.{Le, Lt, no_both, le_trans}
use Rattle.walks.proofs.Choosing.{Whether, some_same, none_some, has?}
use Rattle.walks.proofs.Frontier.{reach_walk, reach_traced, reach_total, Invariant, Outcome, arrived, waiting, stopped, arrives, frontier_start}
use Rattle.walks.proofs.Settling.{invariant}

-- came-by gives one way only
pub traced_once : {T : Type 0} (g : Net T) (s : State T) (v : ℕ) (es fs : List ℕ) → Traced g s v es → Traced g s v fs → es ≡ fs
traced_once g s v es fs (origin k) (origin k') = refl
traced_once g s v es fs (origin k) (back k' r') = absurd (none_some k k')
traced_once g s v es fs (back k r) (origin k') = absurd (none_some k' k)
traced_once g s v es fs (back {e = e} {es = es'} k r) (back {e = f} {es = fs'} k' r') =
    let q : e ≡ f = some_same k k' in
    ap₂ (λ a b. a ++ (b ∷ [])) (traced_once g s (g.tail e) es' fs' r (subst (λ a. Traced g s (g.tail a) fs') (sym q) r')) q

module _ {T : Type 0} {m : Scale T} (laws : Lawful m) where
  pub settled_best : SettledBest m
  settled_best g start goal s r v i =
      let inv = (invariant laws g start goal s r).0 in
      let h = inv.settled_has v i in
      (h.0, h.1, inv.settled_best v h.0 i h.1)

  pub traced_walk : TracedWalk m
  traced_walk g start goal s r v x e =
      let inv = (invariant laws g start goal s r).0 in
      let h = inv.reached v x e in
      let traced = reach_traced laws g start s h.1 in
      (h.0, traced, reach_walk laws g start s h.1, reach_total laws g start s h.1, λ fs t. traced_once g s v fs h.0 t traced)

  -- what is settled is what a walk leads to
  leads_to : (g : Net T) (start : ℕ) (goal : Option ℕ) (s : State T) → Searched m g start goal s → (v : ℕ) → Settled s v → Leads g start v
  leads_to g start goal s r v i = let h = settled_best g start goal s r v i in (h.2.way, h.2.walk)

  -- a search that did not arrive has settled all that walks lead to
  pub settles_all :
      (g : Net T) (start : ℕ) (goal : Option ℕ) (s : State T) → Searched m g start goal s → ¬ Arrived goal s →
      (v : ℕ) → Leads g start v → Settled s v
  settles_all g start goal s r away v w = go (invariant laws g start goal s r).1
    where
      out : (z : T) → ((v : ℕ) (x : T) → ¬ Waits s v x) → Outcome m goal s v z → Settled s v
      out z n (arrived y i e k) = i
      out z n (waiting q y h k) = absurd (n q y h)
      out z n (stopped u y q i e k) = absurd (away (arrives goal s u q i))

      go : Ends goal s → Settled s v
      go (inl i) = absurd (away i)
      go (inr n) = out (total m g w.0) n (frontier_start laws g start goal s (invariant laws g start goal s r).0 w.0 v w.1)

  pub found_exactly : FoundExactly m
  found_exactly g start goal s r = (leads_to g start (Some goal) s r goal, from (has? s.settled goal))
    where
      from : Whether (Settled s goal) → Leads g start goal → Settled s goal
      from (inl i) w = i
      from (inr n) w = settles_all g start (Some goal) s r n goal w

  pub found_all : FoundAll m
  found_all g start s r v = (leads_to g start None s r v, settles_all g start None s r (λ a. a) v)

  -- what a walk leads to below the goal's total is settled
  pub settles_below :
      (g : Net T) (start goal : ℕ) (s : State T) → Searched m g start (Some goal) s → (x : T) → Settled s goal → s.total goal ≡ Some x →
      (v : ℕ) (es : List ℕ) → Walk g start es v → Lt m (total m g es) x → Settled s v
  settles_below g start goal s r x i e v es w h = out (total m g es) h (frontier_start laws g start (Some goal) s inv es v w)
    where
      inv : Invariant m g start (Some goal) s
      inv = (invariant laws g start (Some goal) s r).0

      out : (z : T) → Lt m z x → Outcome m (Some goal) s v z → Settled s v
      out z lt (arrived y j q k) = j
      out z lt (waiting q y b k) = absurd (no_both lt (le_trans laws (inv.order goal x q y i e b) k))
      out z lt (stopped u y p j q k) =
          let same : y ≡ x = some_same q (subst (λ a. s.total a ≡ Some x) (some_same refl p) e) in
          absurd (no_both lt (subst (λ a. Le m a z) same k))
