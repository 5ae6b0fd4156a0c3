-- A search that is under way: its tables and its queue hold a state that the rule leads to. Assumes nothing.
use Rattle.std.specs.Prelude.{ℕ, ◌<◌, List, Option}
use Rattle.std.specs.List.{AllByRecursion}
use Rattle.measure.specs.Scale.{Scale}
use Rattle.walks.specs.Net.{Net}
use Rattle.walks.specs.Search.{State, Arrived, Runs, Searched}
use Rattle.walks.specs.Tables.{tabled}
use Rattle.walks.proofs.Frontier.{Invariant}
use Rattle.search.specs.Standing.{Agrees, TablesOf}
use Rattle.search.specs.Apart.{Apart}

pub record Running {T : Type 0} (m : Scale T) (g : Net T) (start : ℕ) (goal : Option ℕ) (n : ℕ) (totals : List T) (came st : List ℕ) (waits : ℕ → Option T) : Type 0 where
  pub tables : TablesOf m n start totals came
  pub agrees : Agrees (tabled m start totals came st) waits
  -- wherever the rule leads from here, the search ends
  pub leads : (t : State T) → Runs m g goal t (tabled m start totals came st) → Searched m g start goal t
  pub kept : Invariant m g start goal (tabled m start totals came st)
  pub not_arrived : ¬ Arrived goal (tabled m start totals came st)
  -- no junction is settled twice
  pub apart : Apart st
  pub exist : AllByRecursion (λ v. v < n) st
