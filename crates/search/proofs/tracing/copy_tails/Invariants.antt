use Rattle.std.proofs.Common.{◌≡◌, ℕ, ◌<◌, length, get_or}
use Rattle.walks.specs.Net.{leg_at}
use Rattle.search.proofs.tracing.copy_tails.Given as goal

abbrev pub invariant-loop-leg : goal.invariant-loop-leg
invariant-loop-leg g l = (length l.tails ≡ 512) × ((e : ℕ) → e < l.leg → get_or l.tails e 0 ≡ (leg_at (g.L.Layout.meaning l.layout) e).tail)
