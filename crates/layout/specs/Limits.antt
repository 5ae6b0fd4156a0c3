-- The limits of a plant and the ranges of a leg's figures. Assumes nothing.
use Rattle.std.specs.Prelude.{ℕ, Bool, ◌&&◌, nat_le}

abbrev pub most_halls : ℕ
most_halls = 32

abbrev pub most_junctions : ℕ
most_junctions = 256

abbrev pub most_legs : ℕ
most_legs = 512

-- n lies from low to high
abbrev pub within : ℕ → ℕ → ℕ → Bool
within low high n = nat_le low n && nat_le n high

abbrev pub halls_fit : ℕ → Bool
halls_fit n = within 1 most_halls n

abbrev pub metres_fit : ℕ → Bool
metres_fit n = within 1 1000 n

abbrev pub class_fits : ℕ → Bool
class_fits n = nat_le n 7

-- in centimetres
abbrev pub clearance_fits : ℕ → Bool
clearance_fits n = within 1 500 n

abbrev pub turn_fits : ℕ → Bool
turn_fits n = nat_le n 1
