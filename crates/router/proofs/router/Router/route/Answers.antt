use Rattle.std.proofs.Common.{rules}
use Rattle.search.specs.Desk.{held}
use Rattle.router.proofs.Routes.{route_goes_on, route_promised}
use Rattle.router.proofs.router.Router.route.Goals as goal

pub returns-clause-book : goal.returns-clause-book
returns-clause-book g c =
    let router = c.args.self.now in
    route_goes_on g.met.M.Measure.lawful (g.L.Layout.meaning router.sheet.below) (g.L.Layout.sound router.sheet.below) router.sheet.sheet router.halls c.args.start c.args.goal (held c.args.tables.now) (held c.search.new.tables) c.args.way.now c.search.new.way c.search.result (search rules) (search rules)

pub returns-clause-promise : goal.returns-clause-promise
returns-clause-promise g c =
    let router = c.args.self.now in
    route_promised g.met.M.Measure.lawful (g.L.Layout.meaning router.sheet.below) (g.L.Layout.sound router.sheet.below) router.sheet.sheet router.halls c.args.start c.args.goal (held c.args.tables.now) (held c.search.new.tables) c.args.way.now c.search.new.way c.search.result (search rules) (search rules)
