-- How a search that is under way stands, and what of it its steps leave alone. Assumes nothing.
use Rattle.std.specs.Prelude.{◌≡◌, ℕ, List, length}
use Rattle.measure.specs.Scale.{Scale}
use Rattle.walks.specs.Search.{State}
use Rattle.walks.specs.Tables.{tabled}
use Rattle.search.specs.Standing.{TablesOf}
use Rattle.search.specs.declared.frontier.Frontier.{Frontier}
use Rattle.search.specs.declared.queue.Queue.{Queue}

-- the state that its tables show, with these junctions settled
abbrev pub state : {T : Type 0} → Scale T → Frontier T → List ℕ → State T
state m f settled = tabled m f.start f.totals.now f.came.now settled

-- the tables are those of n junctions, with a slot of the queue and a place among the settled for each
pub record Sized {T : Type 0} (m : Scale T) (n : ℕ) (f : Frontier T) (queue : Queue T) : Type 0 where
  pub tables : TablesOf m n f.start f.totals.now f.came.now
  pub slots : length queue.slots.now ≡ n
  pub places : length f.settled.now ≡ n

-- the same lent memory, from the same start
pub record SameSearch {T : Type 0} (old new : Frontier T) : Type 0 where
  pub start : new.start ≡ old.start
  pub totals : new.totals.ghost_name ≡ old.totals.ghost_name
  pub came : new.came.ghost_name ≡ old.came.ghost_name
  pub settled : new.settled.ghost_name ≡ old.settled.ghost_name

-- nor is a junction settled
pub record SameSettled {T : Type 0} (old new : Frontier T) : Type 0 where
  pub same : SameSearch old new
  pub list : new.settled.now ≡ old.settled.now
  pub count : new.count ≡ old.count
