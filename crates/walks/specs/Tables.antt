-- A state of the search as tables hold it. Assumes nothing.
use Rattle.std.specs.Prelude.{◌≡◌, ℕ, true, cond, not, ◌||◌, ◌≢◌, List, Some, None, Option, ◌==◌, slice_index_or}
use Rattle.std.specs.Option.{unwrap_or}
use Rattle.measure.specs.Scale.{Scale}
use Rattle.walks.specs.Net.{Net}
use Rattle.walks.specs.Search.{State, Searched}

-- what stands in a table of came-bys where there is none
abbrev pub no_came_by : ℕ
no_came_by = 65535

abbrev pub came_by : ℕ → Option ℕ
came_by n = cond (n == no_came_by) None (Some n)

-- the state that tables of the junctions' totals and came-bys show, with the list of the settled; a junction has a total when it is the
-- start or has a came-by, and past the end of a table there is none
abbrev pub tabled : {T : Type 0} → Scale T → ℕ → List T → List ℕ → List ℕ → State T
tabled m start totals came settled = record {
  total = λ v. cond (v == start || not (slice_index_or came v no_came_by == no_came_by)) (Some (slice_index_or totals v m.unit)) None;
  came = λ v. came_by (slice_index_or came v no_came_by);
  settled = settled;
}

-- the tables hold the state, with the unit where there is no total
pub record Held {T : Type 0} (m : Scale T) (s : State T) (totals : List T) (came : List ℕ) : Type 0 where
  pub totals_held : (v : ℕ) → slice_index_or totals v m.unit ≡ unwrap_or (s.total v) m.unit
  pub came_held : (v : ℕ) → slice_index_or came v no_came_by ≡ unwrap_or (s.came v) no_came_by

-- Tables that hold what a search left show it whole.
abbrev pub TabledWhole : {T : Type 0} → Scale T → Type 0
TabledWhole {T = T} m =
    (g : Net T) (start : ℕ) (goal : Option ℕ) (s : State T) → Searched m g start goal s →
    ((e : ℕ) → g.usable e ≡ true → e ≢ no_came_by) →
    (totals : List T) (came : List ℕ) → Held m s totals came → tabled m start totals came s.settled ≡ s
