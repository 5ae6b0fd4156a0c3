-- Two totals with the same numbers are the same total. Assumes nothing.
use Rattle.std.specs.Prelude.{◌≡◌, ◌≤◌}
use mathlib.Core.HLevel.{is_prop→PathP, Π_prop}
use Rattle.std.proofs.Math.Bridge.{le_prop}
use Rattle.std.proofs.Math.Nat.{ℕ_set}
use Rattle.measure.specs.Limits.{stop, highest}
use Rattle.measure.specs.declared.totals.Tenths.{Tenths}
use Rattle.measure.specs.declared.totals.Headroom.{Headroom}
use Rattle.measure.specs.declared.totals.TimeTurns.{TimeTurns}

pub same_time : (p q : Tenths) → p.tenths ≡ q.tenths → p ≡ q
same_time p q e = λ i. record {
  tenths = e i;
  fits = is_prop→PathP (λ j. e j ≤ stop) (λ j. le_prop) p.fits q.fits i;
}

pub same_headroom : (p q : Headroom) → p.centimetres ≡ q.centimetres → p ≡ q
same_headroom p q e = λ i. record {
  centimetres = e i;
  fits = is_prop→PathP (λ j. e j ≤ highest) (λ j. le_prop) p.fits q.fits i;
}

pub same_pair : (p q : TimeTurns) → p.time ≡ q.time → p.turns ≡ q.turns → p ≡ q
same_pair p q e f = λ i. record {
  time = e i;
  turns = f i;
  timefits = is_prop→PathP (λ j. e j ≤ stop) (λ j. le_prop) p.timefits q.timefits i;
  turnsfit = is_prop→PathP (λ j. f j ≤ stop) (λ j. le_prop) p.turnsfit q.turnsfit i;
  stopped = is_prop→PathP (λ j. e j ≡ stop → f j ≡ stop) (λ j. Π_prop (λ _. ℕ_set (f j) stop)) p.stopped q.stopped i;
}
