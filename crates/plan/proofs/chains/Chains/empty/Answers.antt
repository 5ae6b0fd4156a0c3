use Rattle.std.proofs.Common.{ℕ, arith}
use Rattle.std.proofs.lemmas.List.{length-replicate}
use Rattle.std.proofs.lemmas.Option.{none-some}
use Rattle.plan.proofs.Chaining.{none_linked}
use Rattle.plan.proofs.chains.Chains.empty.Goals as goal

pub invariant_of-result : goal.invariant_of-result
invariant_of-result c = record {
  few = omega arith;
  wide_ends = length-replicate {A = ℕ} 512 0;
  low = λ k n e. absurd (none-some n e);
  linked = none_linked;
}
