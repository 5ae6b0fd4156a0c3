use Rattle.std.proofs.Common.{◌/◌, sym, ◌∙◌}
use Rattle.sorter.proofs.Rings.{counted_at}
use Rattle.sorter.proofs.looped.SorterLoopLayout.hall_of.Goals as goal

pub returns : goal.returns
returns c = c.then_some.ensures ∙ sym (counted_at (λ i. i / 8) c.args.self.now.junctions c.args.junction)
