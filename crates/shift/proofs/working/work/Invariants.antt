use Rattle.std.proofs.Common.{◌≡◌}
use Rattle.search.specs.Desk.{held, SameTables}
use Rattle.shift.specs.Turns.{places_of}
use Rattle.shift.proofs.Histories.{SoFar}
use Rattle.shift.proofs.working.work.Given as goal

abbrev pub invariant-loop-turn : goal.invariant-loop-turn
invariant-loop-turn g l = record {
  below : l.router.sheet.below ≡ l.initial.router.sheet.below;
  so_far : SoFar g.M.Measure.scale (g.L.Layout.meaning l.initial.router.sheet.below) (places_of (held l.initial.tables) l.initial.way) l.turn-index l.initial.turns l.turns l.router.sheet.sheet l.router.halls;
  places : places_of (held l.tables) l.way ≡ places_of (held l.initial.tables) l.initial.way;
  lent : SameTables l.initial.tables l.tables;
}
