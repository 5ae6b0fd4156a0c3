-- How a search reached a junction, and where a walk meets its frontier. Assumes nothing.
use Rattle.std.proofs.Common.{◌≡◌, ℕ, true, ◌≢◌, List, [], ◌∷◌, ◌++◌, Some, None, Option, sym, refl, ap, ◌∙◌, subst, inl, inr}
use Rattle.measure.specs.Scale.{Scale, Lawful}
use Rattle.walks.specs.Net.{Net}
use Rattle.walks.specs.Walk.{Walk, total, Best}
use Rattle.walks.specs.Search.{State, Settled, Arrived, Waits, offered, Traced, origin, back}
use Rattle.walks.proofs.Order.{Le, join_unit_left, le_trans, le_eq, le_join_right, mono_left}
use Rattle.walks.proofs.Choosing.{Whether, goal?, has?}
use Rattle.walks.proofs.Walks.{walk_append, total_append, total_one}

-- v was reached by the legs es, each from a settled junction, with total y
pub data Reach {T : Type 0} (m : Scale T) (g : Net T) (start : ℕ) (s : State T) : ℕ → List ℕ → T → Type 0 where
  at_start : {v : ℕ} → v ≡ start → s.came v ≡ None → Reach m g start s v [] m.unit
  by_leg :
      {v : ℕ} {e : ℕ} {es : List ℕ} {x : T} → s.came v ≡ Some e → g.usable e ≡ true → g.head e ≡ v → Settled s (g.tail e) →
      Reach m g start s (g.tail e) es x → Reach m g start s v (es ++ (e ∷ [])) (offered m g x e)

module _ {T : Type 0} {m : Scale T} (laws : Lawful m) (g : Net T) (start : ℕ) where
  pub reach_keep :
      (s t : State T) → ((v : ℕ) → Settled s v → Settled t v × (t.came v ≡ s.came v)) → {v : ℕ} {es : List ℕ} {y : T} →
      t.came v ≡ s.came v → Reach m g start s v es y → Reach m g start t v es y
  reach_keep s t keep c (at_start e k) = at_start e (c ∙ k)
  reach_keep s t keep c (by_leg {e = e} k u h i r) =
      by_leg (c ∙ k) u h (keep (g.tail e) i).0 (reach_keep s t keep (keep (g.tail e) i).1 r)

  pub reach_traced : (s : State T) {v : ℕ} {es : List ℕ} {y : T} → Reach m g start s v es y → Traced g s v es
  reach_traced s (at_start e k) = origin k
  reach_traced s (by_leg k u h i r) = back k (reach_traced s r)

  pub reach_walk : (s : State T) {v : ℕ} {es : List ℕ} {y : T} → Reach m g start s v es y → Walk g start es v
  reach_walk s (at_start e k) = sym e
  reach_walk s (by_leg {e = e} {es = es} k u h i r) = walk_append g start es (e ∷ []) (g.tail e) _ (reach_walk s r) (u, refl, h)

  pub reach_total : (s : State T) {v : ℕ} {es : List ℕ} {y : T} → Reach m g start s v es y → total m g es ≡ y
  reach_total s (at_start e k) = refl
  reach_total s (by_leg {e = e} {es = es} {x = x} k u h i r) =
      total_append laws g es (e ∷ [])
      ∙ ap (m.joined (total m g es)) (total_one laws g e)
      ∙ ap (λ z. m.joined z (g.weight e)) (reach_total s r)

-- what holds of every state that the rule leads to
pub record Invariant {T : Type 0} (m : Scale T) (g : Net T) (start : ℕ) (goal : Option ℕ) (s : State T) : Type 0 where
  pub start_has : s.total start ≡ Some m.unit
  pub reached : (v : ℕ) (y : T) → s.total v ≡ Some y → (es : List ℕ) × Reach m g start s v es y
  pub settled_has : (v : ℕ) → Settled s v → (y : T) × (s.total v ≡ Some y)
  pub settled_best : (v : ℕ) (y : T) → Settled s v → s.total v ≡ Some y → Best m g start v y
  pub order : (u : ℕ) (x : T) (v : ℕ) (y : T) → Settled s u → s.total u ≡ Some x → Waits s v y → Le m x y
  pub relaxed :
      (u : ℕ) (x : T) → Settled s u → goal ≢ Some u → s.total u ≡ Some x → (e : ℕ) → g.usable e ≡ true → g.tail e ≡ u →
      (y : T) × (s.total (g.head e) ≡ Some y) × Le m y (offered m g x e)

-- where a walk of total z to v meets the frontier of the search
pub data Outcome {T : Type 0} (m : Scale T) (goal : Option ℕ) (s : State T) (v : ℕ) (z : T) : Type 0 where
  arrived : (y : T) → Settled s v → s.total v ≡ Some y → Le m y z → Outcome m goal s v z
  waiting : (q : ℕ) (y : T) → Waits s q y → Le m y z → Outcome m goal s v z
  stopped : (w : ℕ) (y : T) → goal ≡ Some w → Settled s w → s.total w ≡ Some y → Le m y z → Outcome m goal s v z

-- where the goal is settled, the search has arrived
pub arrives : {T : Type 0} (goal : Option ℕ) (s : State T) (w : ℕ) → goal ≡ Some w → Settled s w → Arrived goal s
arrives goal s w e i = subst (λ o. Arrived o s) (sym e) i

pub outcome_mono :
    {T : Type 0} {m : Scale T} (laws : Lawful m) (goal : Option ℕ) (s : State T) (v : ℕ) {z z' : T} → Le m z z' → Outcome m goal s v z →
    Outcome m goal s v z'
outcome_mono laws goal s v h (arrived y i e k) = arrived y i e (le_trans laws k h)
outcome_mono laws goal s v h (waiting q y w k) = waiting q y w (le_trans laws k h)
outcome_mono laws goal s v h (stopped w y q i e k) = stopped w y q i e (le_trans laws k h)

module _ {T : Type 0} {m : Scale T} (laws : Lawful m) (g : Net T) (start : ℕ) (goal : Option ℕ) where
  pub frontier :
      (s : State T) → Invariant m g start goal s → (u : ℕ) (x : T) → Settled s u → s.total u ≡ Some x → (es : List ℕ) (v : ℕ) →
      Walk g u es v → Outcome m goal s v (m.joined x (total m g es))
  frontier s inv u x i e [] v w =
      arrived x (subst (λ a. Settled s a) w i) (subst (λ a. s.total a ≡ Some x) w e) (le_join_right laws x m.unit)
  frontier s inv u x i e (l ∷ es) v w = pick (λ y j h. frontier s inv (g.head l) y j h es v w.2) (goal? goal u)
    where
      Goal : Type 0
      Goal = Outcome m goal s v (m.joined x (m.joined (g.weight l) (total m g es)))

      past : (y : T) → Le m y (offered m g x l) → Le m (m.joined y (total m g es)) (m.joined x (m.joined (g.weight l) (total m g es)))
      past y k = le_trans laws (mono_left laws (total m g es) k) (le_eq laws (laws.assoc x (g.weight l) (total m g es)))

      onward :
          (y : T) → s.total (g.head l) ≡ Some y → Le m y (offered m g x l) →
          (Settled s (g.head l) → Outcome m goal s v (m.joined y (total m g es))) → Whether (Settled s (g.head l)) → Goal
      onward y h k ih (inl j) = outcome_mono laws goal s v (past y k) (ih j)
      onward y h k ih (inr n) =
          waiting (g.head l) y (record { has = h; unsettled = n }) (le_trans laws (le_join_right laws y (total m g es)) (past y k))

      pick :
          ((y : T) → Settled s (g.head l) → s.total (g.head l) ≡ Some y → Outcome m goal s v (m.joined y (total m g es))) →
          Whether (goal ≡ Some u) → Goal
      pick ih (inl q) = stopped u x q i e (le_join_right laws x (m.joined (g.weight l) (total m g es)))
      pick ih (inr n) =
          let r = inv.relaxed u x i n e l w.0 w.1 in
          onward r.0 r.1 r.2 (λ j. ih r.0 j r.1) (has? s.settled (g.head l))

  pub frontier_start :
      (s : State T) → Invariant m g start goal s → (es : List ℕ) (v : ℕ) → Walk g start es v → Outcome m goal s v (total m g es)
  frontier_start s inv es v w = go (has? s.settled start)
    where
      go : Whether (Settled s start) → Outcome m goal s v (total m g es)
      go (inl i) =
          outcome_mono laws goal s v (le_eq laws (join_unit_left laws (total m g es)))
          (frontier s inv start m.unit i inv.start_has es v w)
      go (inr n) = waiting start m.unit (record { has = inv.start_has; unsettled = n }) (laws.lowest (total m g es))
