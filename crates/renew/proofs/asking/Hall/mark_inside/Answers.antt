use Rattle.std.proofs.Common.{◌<◌, arith}
use Rattle.layout.specs.Limits.{most_halls, most_legs}
use Rattle.renew.proofs.Writing.{written_put, inside_flagged}
use Rattle.renew.proofs.asking.Hall.mark_inside.Goals as goal

pub loop-leg-preserved : goal.loop-leg-preserved
loop-leg-preserved g c =
    let p = g.L.Layout.meaning c.args.self.now.layout.now in
    let sound = g.L.Layout.sound c.args.self.now.layout.now in
    let hall = c.args.self.now.number in
    let leg = c.loop-leg.leg in
    let hall_in : hall < most_halls = let exists = c.args.self.now.exists in omega (arith, sound.few_halls) in
    let leg_in : leg < most_legs = omega (arith, sound.few_legs) in
    written_put hall leg _ c.args.marks.now c.loop-leg.marks c.put.new.self c.has_inside.result hall_in leg_in c.loop-leg.invariant c.put.ensures
    (inside_flagged g.M.Measure.scale p hall leg c.has_inside.result c.has_inside.ensures)
