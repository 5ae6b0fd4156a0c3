-- What the accepted lines of a plan have said so far, and which line is due next. Assumes nothing.
use Rattle.std.specs.Prelude.{ℕ, Bool, true, false, cond, List, [], ◌∷◌, length, Some, None, Option, nat_lt}
use Rattle.layout.specs.Plant.{Plant}
use Rattle.plan_text.specs.declared.kind.Kind.{Kind}
use Rattle.plan_text.specs.declared.due.Due.{Due}
use Rattle.plan_text.specs.declared.due.Due.TheVariants.{Version, Measure, Halls, Points, Legs, At, Leg}

pub record Heard : Type 0 where
  -- the plan line was accepted
  pub version : Bool
  -- the measure named
  pub kind : Option Kind
  -- what was entered; nothing to enter into before the halls line
  pub plant : Option Plant
  -- how many junctions and legs were announced
  pub points : Option ℕ
  pub legs : Option ℕ

-- before the first line
abbrev pub silence : Heard
silence = record { version = false; kind = None; plant = None; points = None; legs = None }

-- while fewer junctions are entered than announced an `at` line is due, and then a `leg` line while there are fewer legs
abbrev pub entries_due : Plant → ℕ → ℕ → Option Due
entries_due plant points legs =
    cond (nat_lt (length plant.hall_of) points) (Some At) (
    cond (nat_lt (length plant.legs) legs) (Some Leg) None)

-- the line that is due, by what the lines before it said; none where the plan is whole
abbrev pub due_after : Bool → Option Kind → Option Plant → Option ℕ → Option ℕ → Option Due
due_after false kind plant points legs = Some Version
due_after true None plant points legs = Some Measure
due_after true (Some k) None points legs = Some Halls
due_after true (Some k) (Some p) None legs = Some Points
due_after true (Some k) (Some p) (Some n) None = Some Legs
due_after true (Some k) (Some p) (Some n) (Some m) = entries_due p n m

abbrev pub due : Heard → Option Due
due h = due_after h.version h.kind h.plant h.points h.legs

-- the key of a line: plan, measure, halls, points, legs, at, leg
abbrev pub key_of : Due → List ℕ
key_of Version = 112 ∷ 108 ∷ 97 ∷ 110 ∷ []
key_of Measure = 109 ∷ 101 ∷ 97 ∷ 115 ∷ 117 ∷ 114 ∷ 101 ∷ []
key_of Halls = 104 ∷ 97 ∷ 108 ∷ 108 ∷ 115 ∷ []
key_of Points = 112 ∷ 111 ∷ 105 ∷ 110 ∷ 116 ∷ 115 ∷ []
key_of Legs = 108 ∷ 101 ∷ 103 ∷ 115 ∷ []
key_of At = 97 ∷ 116 ∷ []
key_of Leg = 108 ∷ 101 ∷ 103 ∷ []
