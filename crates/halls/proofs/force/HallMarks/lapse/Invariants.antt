use Rattle.std.proofs.Common.{◌≡◌}
use Rattle.walks.specs.Answers.{count_below}
use Rattle.halls.specs.Force.{lapsing, Lapsed}
use Rattle.halls.proofs.Striking.{Below}
use Rattle.halls.proofs.force.HallMarks.lapse.Given as goal

abbrev pub invariant-loop-hall : goal.invariant-loop-hall
invariant-loop-hall l =
    let test = lapsing l.initial.self l.strikes in
    (l.count ≡ count_below l.hall test) × Lapsed (Below l.hall test) l.initial.self l.self
