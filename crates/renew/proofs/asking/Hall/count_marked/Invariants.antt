use Rattle.std.proofs.Common.{◌≡◌}
use Rattle.marks.specs.Mark.{is_marked}
use Rattle.walks.specs.Answers.{count_below}
use Rattle.renew.proofs.asking.Hall.count_marked.Given as goal

abbrev pub invariant-loop-leg : goal.invariant-loop-leg
invariant-loop-leg g l = l.count ≡ count_below l.leg (is_marked l.marks l.self.number)
