use Rattle.std.proofs.Common.{take}
use Rattle.std.specs.Fmt.{IsPlainFormatter, HasWritten}
use Rattle.replies.specs.Written.{followed}
use Rattle.replies.proofs.way.write_legs.Given as goal

abbrev pub invariant-loop-leg : goal.invariant-loop-leg
invariant-loop-leg g l = IsPlainFormatter l.initial.f → HasWritten g.W.Write.write_str_gives l.initial.f (followed (take l.leg-index l.rest)) l.f
