-- How many junctions a search has settled, and which of them where it has no goal. Assumes nothing.
use Rattle.std.specs.Prelude.{◌≡◌, ℕ, ◌<◌, ◌≤◌, List, length, take, Ok, Err, Result, slice_index_or, ◌↔◌}
use Rattle.std.specs.List.{ContainsAt as Has}
use Rattle.measure.specs.Scale.{Scale}
use Rattle.layout.specs.Plant.{Plant}
use Rattle.layout.specs.declared.refusal.Refusal.{Refusal}
use Rattle.layout.specs.declared.refusal.Refusal.TheVariants.{NoWay}
use Rattle.walks.specs.Net.{net, junctions}
use Rattle.walks.specs.Walk.{Leads, Best}
use Rattle.search.specs.Desk.{Desk}
use Rattle.search.specs.declared.found.Found.{Found}

-- the list of so many at the head of the settled table is that long, and there are no fewer junctions
pub record Counted (p : Plant) (settled : List ℕ) (count : ℕ) : Type 0 where
  pub whole_list : length (take count settled) ≡ count
  pub few : count ≤ junctions p

-- so it is with the count that a search for a goal answers, and with the figure of 9, no way
abbrev pub AllCounted : {T : Type 0} → Plant → List ℕ → Result (Found T) Refusal → Type 0
AllCounted p settled (Ok f) = Counted p settled f.settled
AllCounted p settled (Err r) = (count : ℕ) → r ≡ NoWay count → Counted p settled count

-- exactly the junctions that walks of open legs lead to from the start are settled, and the totals table has the best total of each
pub record SettledAll {T : Type 0} (m : Scale T) (p : Plant) (start : ℕ) (d : Desk T) (count : ℕ) : Type 0 where
  pub exactly : (v : ℕ) → Has (take count d.settled) v ↔ Leads (net m p) start v
  pub within : (v : ℕ) → Has (take count d.settled) v → v < junctions p
  pub best : (v : ℕ) → Has (take count d.settled) v → Best m (net m p) start v (slice_index_or d.totals v m.unit)
