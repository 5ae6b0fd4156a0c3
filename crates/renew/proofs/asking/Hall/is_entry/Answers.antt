use Rattle.std.proofs.Common.{false, refl, arith}
use Rattle.std.proofs.lemmas.Bool.{both_ways}
use Rattle.renew.proofs.Reaching.{head_within, quiet_more, no_entry}
use Rattle.renew.proofs.asking.Hall.is_entry.Goals as goal

pub loop-leg-preserved : goal.loop-leg-preserved
loop-leg-preserved g c =
    let hall = c.args.self.now in
    let p = g.L.Layout.meaning hall.layout.now in
    let leg = head_within p c.in-Some.leg c.args.junction c.in-Some.ensures.1 in
    let quiet = quiet_more p c.args.junction hall.number c.loop-leg.from c.in-Some.leg c.is_entered_by.result c.loop-leg.invariant.1 c.in-Some.ensures c.is_entered_by.ensures c.if-is_entered_by.false in
    (omega arith, quiet)

pub returns : goal.returns
returns g c =
    let hall = c.args.self.now in
    let p = g.L.Layout.meaning hall.layout.now in
    let none = no_entry g.M.Measure.scale p c.args.junction hall.number c.loop-leg.from c.loop-leg.invariant.1 c.in_default.ensures in
    ((λ e. absurd (both_ways false refl e)), (λ entry. absurd (none entry)))
