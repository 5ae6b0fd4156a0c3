-- The three measures keep the laws. Assumes nothing.
use Rattle.std.proofs.Common.{arith}
use Rattle.std.proofs.lemmas.Bool.Decides.{nat_tests}
use Rattle.measure.specs.Scale.{Lawful}
use Rattle.measure.specs.Kinds.{time_scale, clearance_scale, turns_scale}
use Rattle.measure.specs.Same.{same_time, same_headroom, same_pair}

pub time_lawful : Lawful time_scale
time_lawful = record {
  assoc = λ p q w. same_time _ _ (omega arith);
  comm = λ p q. same_time _ _ (omega arith);
  neutral = λ p. same_time _ _ (omega arith);
  asym = λ p q h. grind (arith, nat_tests);
  trans = λ p q w h k. grind (arith, nat_tests);
  same = λ p q h k. same_time _ _ (grind (arith, nat_tests));
  lowest = λ p. grind (arith, nat_tests);
  mono = λ p q w h. grind (arith, nat_tests);
}

pub clearance_lawful : Lawful clearance_scale
clearance_lawful = record {
  assoc = λ p q w. same_headroom _ _ (omega arith);
  comm = λ p q. same_headroom _ _ (omega arith);
  neutral = λ p. same_headroom _ _ (omega arith);
  asym = λ p q h. grind (arith, nat_tests);
  trans = λ p q w h k. grind (arith, nat_tests);
  same = λ p q h k. same_headroom _ _ (grind (arith, nat_tests));
  lowest = λ p. grind (arith, nat_tests);
  mono = λ p q w h. grind (arith, nat_tests);
}

pub turns_lawful : Lawful turns_scale
turns_lawful = record {
  assoc = λ p q w. same_pair _ _ (omega arith) (grind (arith, nat_tests));
  comm = λ p q. same_pair _ _ (omega arith) (grind (arith, nat_tests));
  neutral = λ p. same_pair _ _ (omega arith) (grind (arith, nat_tests));
  asym = λ p q h. grind (arith, nat_tests);
  trans = λ p q w h k. grind (arith, nat_tests);
  same = λ p q h k. same_pair _ _ (grind (arith, nat_tests)) (grind (arith, nat_tests));
  lowest = λ p. grind (arith, nat_tests);
  mono = λ p q w h. grind (arith, nat_tests);
}
