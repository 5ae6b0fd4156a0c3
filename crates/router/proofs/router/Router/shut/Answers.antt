use Rattle.std.proofs.Common.{Ok, rules}
use Rattle.router.proofs.Strikings.{shut_carries}
use Rattle.router.proofs.router.Router.shut.Goals as goal

pub returns-in_err-shut-clause-order : goal.returns-in_err-shut-clause-order
returns-in_err-shut-clause-order g c =
    let old = c.args.self.now in
    shut_carries g.met.M.Measure.lawful (g.L.Layout.meaning old.sheet.below) (g.L.Layout.sound old.sheet.below) old.sheet.sheet old.sheet.wide old.halls old.halls c.args.leg c.shut.new.self.sheet _ (search rules) (search rules)

pub returns-clause-order : goal.returns-clause-order
returns-clause-order g c =
    let old = c.args.self.now in
    let new = c.lapse.new.self in
    shut_carries g.met.M.Measure.lawful (g.L.Layout.meaning old.sheet.below) (g.L.Layout.sound old.sheet.below) old.sheet.sheet old.sheet.wide old.halls new.halls c.args.leg new.sheet.sheet (Ok c.lapse.result) (search rules) (search rules)
