use Rattle.std.proofs.Common.{◌≡◌, ◌<◌, None, arith, rules}
use Rattle.layers.specs.Day.{refuses_sign}
use Rattle.layers.proofs.Entering.{sign_order}
use Rattle.layers.proofs.day.DaySheet.sign.Goals as goal

pub returns : goal.returns
returns g c =
    let d = c.args.self.now in
    let p = g.L.Layout.meaning d.below in
    let few = (g.L.Layout.sound d.below).few_legs in
    let low : c.args.leg < 512 = omega (arith, few) in
    let passed : refuses_sign p d.sheet c.args.leg c.args.shut ≡ None = search rules in
    record { order = sign_order p d.sheet c.args.leg d.wide low c.args.shut passed; below = search rules }
