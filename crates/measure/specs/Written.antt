-- How totals are written. Assumes nothing.
use Rattle.std.specs.Prelude.{ℕ, List, ◌∷◌, ◌++◌, decimal}
use Rattle.measure.specs.declared.totals.Tenths.{Tenths}
use Rattle.measure.specs.declared.totals.Headroom.{Headroom}
use Rattle.measure.specs.declared.totals.TimeTurns.{TimeTurns}

abbrev pub time_written : Tenths → List ℕ
time_written total = decimal total.tenths

abbrev pub clearance_written : Headroom → List ℕ
clearance_written total = decimal total.centimetres

-- the time, a comma and the turns
abbrev pub turns_written : TimeTurns → List ℕ
turns_written total = decimal total.time ++ (44 ∷ decimal total.turns)
