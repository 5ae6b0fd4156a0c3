use Rattle.std.proofs.Common.{take, Ok, refl, rules}
use Rattle.router.specs.Routing.{route_answer}
use Rattle.router.specs.Worked.{GoesOn}
use Rattle.search.specs.Desk.{held}
use Rattle.shift.specs.Turns.{places_of, lent, call_of}
use Rattle.shift.proofs.lending.try_turn.Goals as goal

pub returns-in_ok-route_in-in-Route-clause-book : goal.returns-in_ok-route_in-in-Route-clause-book
returns-in_ok-route_in-in-Route-clause-book g c =
    let router = c.args.router.now in
    let found = c.in_ok-route_in-in-Route.field-0 in
    let routed = c.in_ok-route_in-in-Route.ensures in
    let a = route_answer (Ok found) routed.0 in
    let goes : GoesOn g.M.Measure.scale (g.L.Layout.meaning router.sheet.below) (call_of c.args.turn.now.order (lent c.args.turn.now.places (places_of (held c.args.tables.now) c.args.way.now))) a router.sheet.sheet router.halls router.sheet.sheet router.halls = search rules in
    (a, (take found.legs routed.0, routed.1, refl), goes)
