-- What the search rule gives, for every lawful measure. Assumes nothing.
use Rattle.std.specs.Prelude.{◌≡◌, ℕ, ◌↔◌, List, Some, None, Option}
use Rattle.measure.specs.Scale.{Scale}
use Rattle.walks.specs.Net.{Net, Finite, turned}
use Rattle.walks.specs.Walk.{Walk, Leads, total, Best}
use Rattle.walks.specs.Search.{State, Settled, Searched, Traced}

-- Every junction that a search settled has its best total.
abbrev pub SettledBest : {T : Type 0} → Scale T → Type 0
SettledBest {T = T} m =
    (g : Net T) (start : ℕ) (goal : Option ℕ) (s : State T) → Searched m g start goal s →
    (v : ℕ) → Settled s v → (x : T) × (s.total v ≡ Some x) × Best m g start v x

-- The goal is settled exactly when a walk leads there.
abbrev pub FoundExactly : {T : Type 0} → Scale T → Type 0
FoundExactly {T = T} m =
    (g : Net T) (start goal : ℕ) (s : State T) → Searched m g start (Some goal) s → Settled s goal ↔ Leads g start goal

-- A search without a goal settles exactly what walks lead to.
abbrev pub FoundAll : {T : Type 0} → Scale T → Type 0
FoundAll {T = T} m =
    (g : Net T) (start : ℕ) (s : State T) → Searched m g start None s → (v : ℕ) → Settled s v ↔ Leads g start v

-- What came-by leads back over is a walk from the start with the total given, and came-by gives no other way.
abbrev pub TracedWalk : {T : Type 0} → Scale T → Type 0
TracedWalk {T = T} m =
    (g : Net T) (start : ℕ) (goal : Option ℕ) (s : State T) → Searched m g start goal s →
    (v : ℕ) (x : T) → s.total v ≡ Some x →
    (es : List ℕ) × Traced g s v es × Walk g start es v × (total m g es ≡ x) × ((fs : List ℕ) → Traced g s v fs → fs ≡ es)

-- Two searches for the same leave the same.
abbrev pub Determined : {T : Type 0} → Scale T → Type 0
Determined {T = T} m =
    (g : Net T) (start : ℕ) (goal : Option ℕ) (s t : State T) → Searched m g start goal s → Searched m g start goal t → s ≡ t

-- The rule always comes to an end.
abbrev pub SearchEnds : {T : Type 0} → Scale T → Type 0
SearchEnds {T = T} m =
    (g : Net T) (n l : ℕ) → Finite g n l → (start : ℕ) (goal : Option ℕ) → (s : State T) × Searched m g start goal s

-- Over the turned layer best totals are those of the ways back.
abbrev pub TurnedBest : {T : Type 0} → Scale T → Type 0
TurnedBest {T = T} m = (g : Net T) (u v : ℕ) (x : T) → Best m g u v x ↔ Best m (turned g) v u x

-- Where a walk leads, there is a best one.
abbrev pub BestExists : {T : Type 0} → Scale T → Type 0
BestExists {T = T} m = (g : Net T) (n l : ℕ) → Finite g n l → (u v : ℕ) → Leads g u v → (x : T) × Best m g u v x
