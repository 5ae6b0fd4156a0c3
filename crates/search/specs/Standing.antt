-- How the tables of a search stand while it runs. Assumes nothing.
use Rattle.std.specs.Prelude.{◌≡◌, ℕ, ◌<◌, true, false, cond, ◌&&◌, ◌≢◌, ◌⊎◌, List, [], length, Some, None, Option, ◌==◌, nat_eq, slice_index_or, slice_set}
use Rattle.std.specs.Map.{update}
use Rattle.measure.specs.Scale.{Scale}
use Rattle.layout.specs.Plant.{Plant}
use Rattle.walks.specs.Net.{Net, net}
use Rattle.walks.specs.InTurn.{Takes, TakesTo}
use Rattle.walks.specs.Search.{State, Settled}
use Rattle.walks.specs.Tables.{no_came_by, tabled}
use Rattle.search.specs.Waiting.{lowers}

-- what waits in the queue is what waits in the state: the junctions that have a total and are not settled
pub record Agrees {T : Type 0} (s : State T) (waits : ℕ → Option T) : Type 0 where
  pub settled_out : (v : ℕ) → Settled s v → waits v ≡ None
  pub others_in : (v : ℕ) → ¬ Settled s v → waits v ≡ s.total v

-- tables of n junctions: where no total was given stands the unit
pub record TablesOf {T : Type 0} (m : Scale T) (n start : ℕ) (totals : List T) (came : List ℕ) : Type 0 where
  pub all_totals : length totals ≡ n
  pub all_came : length came ≡ n
  pub start_exists : start < n
  pub unit_else : (v : ℕ) → v ≢ start → slice_index_or came v no_came_by ≡ no_came_by → slice_index_or totals v m.unit ≡ m.unit

-- every settled junction has a total, not above x
pub record Firm {T : Type 0} (m : Scale T) (x : T) (s : State T) : Type 0 where
  pub firm : (v : ℕ) → Settled s v → (z : T) × (s.total v ≡ Some z) × (m.below x z ≡ false)

-- whoever waits in the queue has that total by the tables
abbrev pub Totalled : {T : Type 0} → State T → (ℕ → Option T) → Type 0
Totalled {T = T} s waits = (v : ℕ) (x : T) → waits v ≡ Some x → s.total v ≡ Some x

-- the tables and the queue after total y by leg e was offered to junction v: v had no total, or one above y, or it keeps its own
abbrev pub Offered : {T : Type 0} → Scale T → ℕ → ℕ → ℕ → T → List T → List ℕ → (ℕ → Option T) → List T → List ℕ → (ℕ → Option T) → Type 0
Offered {T = T} m start v e y totals came waits totals' came' waits' =
    (((tabled m start totals came []).total v ≡ None)
    × (totals' ≡ slice_set totals v y) × (came' ≡ slice_set came v e) × ((w : ℕ) → waits' w ≡ update nat_eq waits v (Some y) w))
    ⊎ (((z : T) × ((tabled m start totals came []).total v ≡ Some z) × (m.below y z ≡ true)
    × (totals' ≡ slice_set totals v y) × (came' ≡ slice_set came v e) × ((w : ℕ) → waits' w ≡ cond (lowers m y (waits v) && w == v) (Some y) (waits w)))
    ⊎ ((z : T) × ((tabled m start totals came []).total v ≡ Some z) × (m.below y z ≡ false)
    × (totals' ≡ totals) × (came' ≡ came) × ((w : ℕ) → waits' w ≡ waits w)))

-- a state, as tables and queue have it while the legs of u are taken, with u settled at x: settled junctions are firm, and the queue agrees
pub record Stands {T : Type 0} (m : Scale T) (x : T) (s : State T) (waits : ℕ → Option T) : Type 0 where
  pub firm : Firm m x s
  pub agrees : Agrees s waits

-- it so stands with some junctions settled
abbrev pub Standing : {T : Type 0} → Scale T → T → ℕ → List T → List ℕ → (ℕ → Option T) → Type 0
Standing m x start totals came waits = (st : List ℕ) × Stands m x (tabled m start totals came st) waits

-- leg e was taken from state s, and the tables show state c
pub record Took {T : Type 0} (m : Scale T) (g : Net T) (st : List ℕ) (u : ℕ) (x : T) (e : ℕ) (s c : State T) (waits : ℕ → Option T) : Type 0 where
  pub takes : Takes m g st u x e s c
  pub stands : Stands m x c waits

-- after the legs below j were taken from state s the tables show state c
pub record Relaxed {T : Type 0} (m : Scale T) (p : Plant) (st : List ℕ) (u : ℕ) (x : T) (s c : State T) (waits : ℕ → Option T) (j : ℕ) : Type 0 where
  pub taken : TakesTo m (net m p) st u x s j c
  pub stands : Stands m x c waits
