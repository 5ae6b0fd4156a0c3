use Rattle.std.proofs.Common.{ap, ◌∙◌, subst, rules}
use Rattle.layout.specs.Plant.{Plant}
use Rattle.router.specs.Worked.{Worked}
use Rattle.search.specs.Desk.{held}
use Rattle.shift.specs.Kept.{KeptAfter}
use Rattle.shift.specs.Turns.{places_of, calls_of}
use Rattle.shift.specs.declared.turn.Places.{Places}
use Rattle.shift.proofs.Promising.{kept_after}
use Rattle.shift.proofs.keeping.promise_kept_after.Goals as goal

pub returns-clause-promise : goal.returns-clause-promise
returns-clause-promise g c =
    let m = g.M.Measure.scale in
    let router = c.work.new.router in
    let q = g.L.Layout.meaning router.sheet.below in
    let there = places_of (held c.args.tables.now) c.args.way.now in
    let calls = calls_of there c.args.turns.now in
    let routed = c.route-found in
    let worked : Worked m q calls router.sheet.sheet router.halls = search rules in
    let kept = kept_after m q router.sheet.sheet router.halls calls c.args.start c.args.goal (held c.work.new.tables) (held routed.new.tables) c.work.new.way routed.new.way routed.result routed.ensures.answer routed.ensures.promise worked in
    let on-plant = subst (λ (p : Plant). KeptAfter m p calls c.args.start c.args.goal (places_of (held c.work.new.tables) c.work.new.way) (held routed.new.tables) routed.new.way routed.result) (ap g.L.Layout.meaning (c.work.ensures.below ∙ c.commission-router.ensures.below)) kept in
    subst (λ (n : Places). KeptAfter m (g.L.Layout.meaning c.args.layout) calls c.args.start c.args.goal n (held routed.new.tables) routed.new.way routed.result) c.work.ensures.places on-plant
