-- The plant of a sorter loop. Assumes nothing.
use Rattle.std.specs.Prelude.{ℕ, ◌+◌, ◌/◌, true, cond, map, None, Option, nat_lt}
use Rattle.std.specs.List.{range_with_len}
use Rattle.layout.specs.Limits.{within, most_junctions, metres_fit, class_fits, clearance_fits}
use Rattle.layout.specs.Plant.{Leg, Plant}
use Rattle.layout.specs.Refused.{refuse_unless}
use Rattle.layout.specs.declared.refusal.Refusal.{Refusal}
use Rattle.layout.specs.declared.refusal.Refusal.TheVariants.{OutOfRange}
use Rattle.sorter.specs.declared.ring.SorterLoop.{SorterLoop}

-- the junction after i in a ring of n
abbrev pub after : ℕ → ℕ → ℕ
after n i = cond (nat_lt (i + 1) n) (i + 1) 0

-- leg i runs from junction i to the next, the last to 0; it is open and has no turn
abbrev pub ring_leg : SorterLoop → ℕ → Leg
ring_leg l i = record {
  tail = i;
  head = after l.junctions i;
  metres = l.metres;
  class = l.class;
  clearance = l.clearance;
  turn = 0;
  is_open = true;
}

-- junction i lies in hall i / 8, and there are so many halls that none is empty
abbrev pub ring : SorterLoop → Plant
ring l = record {
  halls = (l.junctions + 7) / 8;
  hall_of = map (λ i. i / 8) (range_with_len 0 l.junctions);
  legs = map (ring_leg l) (range_with_len 0 l.junctions);
}

-- why a loop is refused, by position
abbrev pub loop_due : ℕ → ℕ → ℕ → ℕ → Option Refusal
loop_due junctions metres class clearance =
    refuse_unless (within 2 most_junctions junctions) (OutOfRange 1) (
    refuse_unless (metres_fit metres) (OutOfRange 2) (
    refuse_unless (class_fits class) (OutOfRange 3) (
    refuse_unless (clearance_fits clearance) (OutOfRange 4) None)))
