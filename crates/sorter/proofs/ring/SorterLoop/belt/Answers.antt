use Rattle.std.proofs.Common.{sym, ◌∙◌, rules}
use Rattle.sorter.specs.Ring.{ring_leg}
use Rattle.sorter.proofs.Rings.{counted_at}
use Rattle.sorter.proofs.ring.SorterLoop.belt.Goals as goal

pub returns : goal.returns
returns c = search (rules, counted_at) ∙ sym (counted_at (ring_leg c.args.self.now) c.args.self.now.junctions c.args.leg)
