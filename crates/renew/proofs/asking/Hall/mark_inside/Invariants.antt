use Rattle.renew.specs.Flags.{FlaggedTo, Written}
use Rattle.renew.proofs.asking.Hall.mark_inside.Given as goal

abbrev pub invariant-loop-leg : goal.invariant-loop-leg
invariant-loop-leg g l = Written l.self.number l.leg (FlaggedTo g.M.Measure.scale (g.L.Layout.meaning l.self.layout.now) l.self.number 0) l.initial.marks l.marks
