use Rattle.plan.specs.Chained.{ends_of}
use Rattle.plan.proofs.Chaining.{Sought, left}
use Rattle.plan.proofs.chains.Chains.seek.Given as goal

abbrev pub invariant-loop-at : goal.invariant-loop-at
invariant-loop-at l = Sought (ends_of l.self-inside) l.junction l.from l.at

abbrev pub decreases-loop-at : goal.decreases-loop-at
decreases-loop-at l = left l.at
