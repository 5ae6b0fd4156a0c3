use Rattle.std.proofs.Common.{◌≡◌, ◌≤◌, get_or}
use Rattle.std.specs.List.{IsFirstBest}
use Rattle.search.specs.Waiting.{before}
use Rattle.search.proofs.places.lowest_place.Given as goal

abbrev pub invariant-loop-place : goal.invariant-loop-place
invariant-loop-place g l = (1 ≤ l.place) × IsFirstBest (before g.M.Measure.scale) l.slots l.place l.best × (l.lowest ≡ get_or l.slots l.best l.lowest)
