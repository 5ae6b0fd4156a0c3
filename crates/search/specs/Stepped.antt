-- What one step of a search leaves. Assumes nothing.
use Rattle.std.specs.Prelude.{ℕ, Bool, true, false, take, Option}
use Rattle.measure.specs.Scale.{Scale}
use Rattle.walks.specs.Net.{Net}
use Rattle.walks.specs.Search.{Searched}
use Rattle.search.specs.Frontier.{state}
use Rattle.search.specs.Running.{Running}
use Rattle.search.specs.declared.frontier.Frontier.{Frontier}

-- the search is under way, with the junctions settled that stand in the table
abbrev pub Underway : {T : Type 0} → Scale T → Net T → Option ℕ → ℕ → Frontier T → (ℕ → Option T) → Type 0
Underway m g goal n f waits = Running m g f.start goal n f.totals.now f.came.now (take f.count f.settled.now) waits

-- the search goes on, or it has ended: at the goal, or since none waits
abbrev pub Stepped : {T : Type 0} → Scale T → Net T → Option ℕ → ℕ → Frontier T → (ℕ → Option T) → Bool → Type 0
Stepped m g goal n f waits true = Underway m g goal n f waits
Stepped m g goal n f waits false = Searched m g f.start goal (state m f (take f.count f.settled.now))
