-- Whom an order strikes. Assumes nothing.
use Rattle.std.specs.Prelude.{ℕ, cond, Some, None, Option}
use Rattle.measure.specs.Scale.{Scale}
use Rattle.layout.specs.Plant.{Plant}
use Rattle.halls.specs.declared.force.Strikes.{Strikes}
use Rattle.halls.specs.declared.force.Strikes.TheVariants as strikes
use Rattle.layers.specs.Day.{entered, figured}
use Rattle.layers.specs.declared.sheet.Sheet.{Sheet}
use Rattle.walks.specs.Net.{leg_at, weight_of, weight_if_any}

-- the weight of a leg, where it is open
abbrev pub open_weight : {T : Type 0} → Scale T → Plant → ℕ → Option T
open_weight m p e = cond (leg_at p e).is_open (Some (weight_of m p e)) None

-- an open leg's weight changes: where it falls every hall is struck, where it rises those for which the leg is marked
abbrev pub changed : {T : Type 0} → Scale T → ℕ → Option T → Option T → Strikes
changed m leg None new = strikes.None
changed m leg (Some x) None = strikes.None
changed m leg (Some x) (Some y) = cond (m.below y x) strikes.Every (cond (m.below x y) (strikes.Marking leg) strikes.None)

-- whom it strikes that a leg of the plant under the sheet gets these figures
abbrev pub set_strikes : {T : Type 0} → Scale T → Plant → Sheet → ℕ → ℕ → ℕ → Strikes
set_strikes m p s leg class clearance = changed m leg (open_weight m (entered s p) leg) (weight_if_any m (entered (figured s leg class clearance) p) leg)
