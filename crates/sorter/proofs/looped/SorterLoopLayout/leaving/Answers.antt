use Rattle.std.proofs.Common.{sym, ap, ◌∙◌, subst, arith}
use Rattle.std.specs.Bool.{then_some}
use Rattle.std.proofs.lemmas.Bool.{le-ltb}
use Rattle.layout.specs.Plant.{Next, tails}
use Rattle.sorter.specs.Ring.{ring}
use Rattle.sorter.proofs.Rings.{end_at, from_end, next_alone}
use Rattle.sorter.proofs.looped.SorterLoopLayout.leaving.Goals.{then-junction-self, else-junction-self}
use Rattle.sorter.proofs.looped.SorterLoopLayout.leaving.Goals as goal

pub returns : goal.returns
returns c =
    let l = c.args.self.now in
    let j = c.args.junction in
    elim c.if-junction-self.branch [
      | then-junction-self w ↦ subst (Next (tails (ring l)) j c.args.from) (sym (c.then_some.ensures ∙ ap (λ b. then_some b j) w.then_some-is))
          (next_alone (tails (ring l)) j c.args.from j (end_at l (λ g. g.tail) j (omega arith)) (λ i e. (from_end l (λ g. g.tail) i j e).1))
      | else-junction-self w ↦ subst (Next (tails (ring l)) j c.args.from) (sym (c.then_some.ensures ∙ ap (λ b. then_some b j) (w.then_some-is ∙ le-ltb j l.junctions (omega arith))))
          (λ i low e. let there = from_end l (λ g. g.tail) i j e in let within = there.0 in let same = there.1 in omega arith)
    ]
