use Rattle.halls.proofs.Marking.{MarkedTo}
use Rattle.halls.proofs.lapsing.mark_all.Given as goal

abbrev pub invariant-loop-leg : goal.invariant-loop-leg
invariant-loop-leg l = MarkedTo l.hall l.leg l.initial.marks l.marks
