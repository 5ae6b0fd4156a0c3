use Rattle.std.proofs.Common.{◌≡◌, ◌<◌, get_or, None, sym, subst, rules}
use Rattle.std.proofs.lemmas.Option.{unwrap_or-slice_get}
use Rattle.plan.specs.Chained.{ends_of}
use Rattle.plan.proofs.Chaining.{Sought, left, sought_first, sought_within, left_falls}
use Rattle.plan.proofs.chains.Chains.seek.Goals as goal

pub loop-at-init : goal.loop-at-init
loop-at-init c =
    let start : c.flatten-at.result ≡ get_or c.self.inside.links.first c.args.junction None = search (rules, unwrap_or-slice_get) in
    subst (Sought (ends_of c.self.inside) c.args.junction c.args.from) (sym start) (sought_first c.self.inside c.self.invariant c.args.junction c.args.from)

pub bounds-self-inside-leg : goal.bounds-self-inside-leg
bounds-self-inside-leg c =
    let here = subst (Sought (ends_of c.self.inside) c.args.junction c.args.from) c.in-Some.is c.loop-at.invariant in
    sought_within c.self.inside c.self.invariant c.args.junction c.args.from c.in-Some.leg here

pub loop-at-smaller : goal.loop-at-smaller
loop-at-smaller c =
    let here = subst (Sought (ends_of c.self.inside) c.args.junction c.args.from) c.in-Some.is c.loop-at.invariant in
    subst (λ o. left (get_or c.self.inside.links.next c.in-Some.leg None) < left o) (sym c.in-Some.is)
    (left_falls c.self.inside c.self.invariant c.args.junction c.args.from c.in-Some.leg here)
