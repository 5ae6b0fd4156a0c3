-- Stopping numbers before they are made a total alters nothing. Assumes nothing.
use Rattle.std.proofs.Common.{◌≡◌, ℕ, min, refl, arith}
use Rattle.std.proofs.lemmas.Bool.Decides.{nat_tests}
use Rattle.measure.specs.Limits.{stop}
use Rattle.measure.specs.Kinds.{pair_of, BothStop}
use Rattle.measure.specs.Same.{same_pair}

pub stopped_before : (time turns : ℕ) → pair_of (min time stop) (min turns stop) ≡ pair_of time turns
stopped_before time turns = same_pair _ _ (omega arith) (grind (arith, nat_tests))

-- the same where only the time is stopped before
pub time_stopped_before : (time turns : ℕ) → pair_of (min time stop) turns ≡ pair_of time turns
time_stopped_before time turns = same_pair _ _ (omega arith) (grind (arith, nat_tests))

pub both_stop : BothStop
both_stop = same_pair _ _ refl refl
