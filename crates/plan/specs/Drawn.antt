-- What a drawing means, and what entering does to it. Assumes nothing.
use Rattle.std.specs.Prelude.{ℕ, [], ◌∷◌, ◌++◌, length, None, Option, nat_lt}
use Rattle.layout.specs.Limits.{most_junctions, most_legs, halls_fit, metres_fit, class_fits, clearance_fits, turn_fits}
use Rattle.layout.specs.Plant.{Leg, Plant}
use Rattle.layout.specs.Refused.{refuse_unless}
use Rattle.layout.specs.declared.refusal.Refusal.{Refusal}
use Rattle.layout.specs.declared.refusal.Refusal.TheVariants.{OutOfRange, Full, NotEntered}
use Rattle.plan.specs.Entered.{plant_of}
use Rattle.plan.specs.declared.drawing.Drawing.{Drawing}

-- what was entered into a drawing
abbrev pub drawn : Drawing → Plant
drawn d = plant_of d.halls d.points d.tables.places d.count d.tables.belts

-- a draft of so many halls, with nothing entered
abbrev pub begun : ℕ → Plant
begun halls = record { halls = halls; hall_of = []; legs = [] }

-- the plant with one junction or one leg more
abbrev pub with_junction : Plant → ℕ → Plant
with_junction p hall = record { halls = p.halls; hall_of = p.hall_of ++ (hall ∷ []); legs = p.legs }

abbrev pub with_leg : Plant → Leg → Plant
with_leg p leg = record { halls = p.halls; hall_of = p.hall_of; legs = p.legs ++ (leg ∷ []) }

-- why a draft of so many halls is refused
abbrev pub begin_due : ℕ → Option Refusal
begin_due halls = refuse_unless (halls_fit halls) (OutOfRange 1) None

-- why a junction is refused, with so many halls and junctions: its hall, then the places
abbrev pub place_due : ℕ → ℕ → ℕ → Option Refusal
place_due halls junctions hall =
    refuse_unless (nat_lt hall halls) (OutOfRange 1) (
    refuse_unless (nat_lt junctions most_junctions) (Full most_junctions) None)

-- why a leg is refused, with so many junctions and legs: the ranges by position, then its ends, then the places
abbrev pub entry_due : ℕ → ℕ → Leg → Option Refusal
entry_due junctions legs l =
    refuse_unless (metres_fit l.metres) (OutOfRange 3) (
    refuse_unless (class_fits l.class) (OutOfRange 4) (
    refuse_unless (clearance_fits l.clearance) (OutOfRange 5) (
    refuse_unless (turn_fits l.turn) (OutOfRange 6) (
    refuse_unless (nat_lt l.tail junctions) (NotEntered 1) (
    refuse_unless (nat_lt l.head junctions) (NotEntered 2) (
    refuse_unless (nat_lt legs most_legs) (Full most_legs) None))))))

-- why a draft refuses a junction, or a leg
abbrev pub junction_due : Plant → ℕ → Option Refusal
junction_due p hall = place_due p.halls (length p.hall_of) hall

abbrev pub leg_due : Plant → Leg → Option Refusal
leg_due p l = entry_due (length p.hall_of) (length p.legs) l
