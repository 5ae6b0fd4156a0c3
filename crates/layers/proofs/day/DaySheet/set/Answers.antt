use Rattle.std.proofs.Common.{◌≡◌, ◌<◌, None, sym, arith, rules}
use Rattle.layers.specs.Day.{refuses_set}
use Rattle.layers.proofs.Entering.{figured_wide, figured_fit, set_order}
use Rattle.layers.proofs.day.DaySheet.set.Goals as goal

pub invariant_of-self : goal.invariant_of-self
invariant_of-self g c =
    let d = c.args.self.now in
    let few = (g.L.Layout.sound d.below).few_legs in
    let low : c.args.leg < 512 = omega (arith, few) in
    let class_fits = sym c.if-not-class_fits.ensures in
    let clearance_fits = sym c.if-not-clearance_fits.ensures in
    record {
      wide = figured_wide d.sheet c.args.leg c.args.class c.args.clearance d.wide;
      fit = figured_fit d.sheet c.args.leg c.args.class c.args.clearance d.wide d.fit low class_fits clearance_fits;
    }

pub returns : goal.returns
returns g c =
    let d = c.args.self.now in
    let p = g.L.Layout.meaning d.below in
    let few = (g.L.Layout.sound d.below).few_legs in
    let low : c.args.leg < 512 = omega (arith, few) in
    let passed : refuses_set p c.args.leg c.args.class c.args.clearance ≡ None = search rules in
    record { order = set_order p d.sheet c.args.leg d.wide low c.args.class c.args.clearance passed; below = search rules }
