-- Where the numbers of totals end. Assumes nothing.
use Rattle.std.specs.Prelude.{ℕ}

-- the largest number of 32 bits, at which times and turns stop
abbrev pub stop : ℕ
stop = 4294967295

-- the largest number of 16 bits, the clearance of a way of no legs
abbrev pub highest : ℕ
highest = 65535
