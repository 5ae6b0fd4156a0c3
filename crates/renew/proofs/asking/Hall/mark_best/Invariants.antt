use Rattle.std.proofs.Common.{◌≡◌, true, ◌⊎◌}
use Rattle.marks.specs.Mark.{is_marked}
use Rattle.renew.specs.Flags.{LeadsBest, Written}
use Rattle.renew.proofs.asking.Hall.mark_best.Given as goal

abbrev pub invariant-loop-leg : goal.invariant-loop-leg
invariant-loop-leg g l =
    Written l.self.number l.leg
    (λ e. (is_marked l.initial.marks l.self.number e ≡ true) ⊎ LeadsBest g.M.Measure.scale (g.L.Layout.meaning l.self.layout.now) l.ways.entry e)
    l.initial.marks l.marks
