-- The search rule, as a relation between a state and the next. Assumes nothing.
use Rattle.std.specs.Prelude.{◌≡◌, ℕ, ◌≤◌, true, false, ◌≢◌, ◌⊎◌, List, [], ◌∷◌, ◌++◌, Some, None, Option}
use Rattle.std.specs.List.{ContainsAt as Has}
use Rattle.measure.specs.Scale.{Scale}
use Rattle.walks.specs.Net.{Net}

-- the total and the came-by of each junction, and the junctions settled so far, in settling order
pub record State (T : Type 0) : Type 0 where
  pub total : ℕ → Option T
  pub came : ℕ → Option ℕ
  pub settled : List ℕ

abbrev pub Settled : {T : Type 0} → State T → ℕ → Type 0
Settled s v = Has s.settled v

-- the goal is settled; a search may have no goal, and never arrives then
abbrev pub Arrived : {T : Type 0} → Option ℕ → State T → Type 0
Arrived None s = ⊥
Arrived (Some goal) s = Settled s goal

-- v waits with total x
pub record Waits {T : Type 0} (s : State T) (v : ℕ) (x : T) : Type 0 where
  pub has : s.total v ≡ Some x
  pub unsettled : ¬ Settled s v

-- the start has the unit, and no other junction has a total
pub record Begins {T : Type 0} (m : Scale T) (start : ℕ) (s : State T) : Type 0 where
  pub start_unit : s.total start ≡ Some m.unit
  pub others : (v : ℕ) → v ≢ start → s.total v ≡ None
  pub no_came : (v : ℕ) → s.came v ≡ None
  pub none_settled : s.settled ≡ []

-- u waits with the lowest total x, and has the lowest number of those that do
pub record Lowest {T : Type 0} (m : Scale T) (s : State T) (u : ℕ) (x : T) : Type 0 where
  pub waits : Waits s u x
  pub not_above : (v : ℕ) (y : T) → Waits s v y → m.below y x ≡ false
  pub ties : (v : ℕ) (y : T) → Waits s v y → y ≡ x → u ≤ v

-- leg e is usable and leads from u to v
pub record Offer {T : Type 0} (g : Net T) (u v e : ℕ) : Type 0 where
  pub usable : g.usable e ≡ true
  pub leaves : g.tail e ≡ u
  pub leads : g.head e ≡ v

-- the total that leg e offers after x
abbrev pub offered : {T : Type 0} → Scale T → Net T → T → ℕ → T
offered m g x e = m.joined x (g.weight e)

-- there is no total, or one above y
abbrev pub Above : {T : Type 0} → Scale T → Option T → T → Type 0
Above m None y = Unit {0}
Above m (Some z) y = m.below y z ≡ true

-- nothing that u, settled at x, offers to v is below the total that v has
abbrev pub Unmoved : {T : Type 0} → Scale T → Net T → State T → ℕ → T → ℕ → Type 0
Unmoved {T = T} m g s u x v =
    (e : ℕ) → Offer g u v e → (y : T) × (s.total v ≡ Some y) × (m.below (offered m g x e) y ≡ false)

-- leg e offers v the lowest total, is the first leg that does, and v has no total or one above it
pub record Lowers {T : Type 0} (m : Scale T) (g : Net T) (s : State T) (u : ℕ) (x : T) (v e : ℕ) : Type 0 where
  pub offer : Offer g u v e
  pub lower : Above m (s.total v) (offered m g x e)
  pub lowest : (f : ℕ) → Offer g u v f → m.below (offered m g x f) (offered m g x e) ≡ false
  pub first : (f : ℕ) → Offer g u v f → offered m g x f ≡ offered m g x e → e ≤ f

-- v keeps its total and came-by
pub record Keeps {T : Type 0} (s t : State T) (v : ℕ) : Type 0 where
  pub same_total : t.total v ≡ s.total v
  pub same_came : t.came v ≡ s.came v

-- v gets total y and came-by e
pub record Gets {T : Type 0} (t : State T) (v : ℕ) (y : T) (e : ℕ) : Type 0 where
  pub new_total : t.total v ≡ Some y
  pub new_came : t.came v ≡ Some e

-- what the legs leaving u, settled at x, do to junction v
abbrev pub Relaxes : {T : Type 0} → Scale T → Net T → State T → ℕ → T → State T → ℕ → Type 0
Relaxes m g s u x t v =
    (Unmoved m g s u x v × Keeps s t v)
    ⊎ ((e : ℕ) × Lowers m g s u x v e × Gets t v (offered m g x e) e)

-- the lowest waiting junction is settled, and unless it is the goal its legs are taken
pub record Settles {T : Type 0} (m : Scale T) (g : Net T) (goal : Option ℕ) (s t : State T) : Type 0 where
  pub not_arrived : ¬ Arrived goal s
  pub next : ℕ
  pub at : T
  pub lowest : Lowest m s next at
  pub listed : t.settled ≡ s.settled ++ (next ∷ [])
  pub done : goal ≡ Some next → (v : ℕ) → Keeps s t v
  pub settled_keep : (v : ℕ) → Settled t v → Keeps s t v
  pub relaxed : goal ≢ Some next → (v : ℕ) → ¬ Settled t v → Relaxes m g s next at t v

-- the goal is settled, or none waits
abbrev pub Ends : {T : Type 0} → Option ℕ → State T → Type 0
Ends {T = T} goal s = Arrived goal s ⊎ ((v : ℕ) (x : T) → ¬ Waits s v x)

-- from a state the rule leads to t, where it ends
pub data Runs {T : Type 0} (m : Scale T) (g : Net T) (goal : Option ℕ) (t : State T) : State T → Type 0 where
  ended : Ends goal t → Runs m g goal t t
  step : {s r : State T} → Settles m g goal s r → Runs m g goal t r → Runs m g goal t s

-- the rule, begun at the start, ends in t
pub record Searched {T : Type 0} (m : Scale T) (g : Net T) (start : ℕ) (goal : Option ℕ) (t : State T) : Type 0 where
  pub first : State T
  pub begins : Begins m start first
  pub runs : Runs m g goal t first

-- the way is followed back from v by came-by, and written first leg first
pub data Traced {T : Type 0} (g : Net T) (s : State T) : ℕ → List ℕ → Type 0 where
  origin : {v : ℕ} → s.came v ≡ None → Traced g s v []
  back : {v : ℕ} {e : ℕ} {es : List ℕ} → s.came v ≡ Some e → Traced g s (g.tail e) es → Traced g s v (es ++ (e ∷ []))
