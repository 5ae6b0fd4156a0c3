use Rattle.std.proofs.Common.{Some, sym, ap, ◌∙◌, subst, arith}
use Rattle.layout.specs.Plant.{Next, heads}
use Rattle.sorter.specs.Ring.{ring}
use Rattle.sorter.proofs.Rings.{end_at, from_end, after_within, next_alone}
use Rattle.sorter.proofs.looped.SorterLoopLayout.reaching.Goals as goal

pub returns-then-junction-self : goal.returns-then-junction-self
returns-then-junction-self c = λ i low e.
    let l = c.args.self.now in
    let there = from_end l (λ g. g.head) i c.args.junction e in
    let within = after_within l.junctions i there.0 in
    let same = there.1 in
    omega arith

pub returns : goal.returns
returns c =
    let l = c.args.self.now in
    let leg = c.before-leg.result in
    subst (Next (heads (ring l)) c.args.junction c.args.from) (sym c.then_some.ensures)
    (next_alone (heads (ring l)) c.args.junction c.args.from leg
    (end_at l (λ g. g.head) leg c.before-leg.ensures.within ∙ ap Some c.before-leg.ensures.leads)
    (λ i e. let there = from_end l (λ g. g.head) i c.args.junction e in c.before-leg.ensures.alone i there.0 there.1))
