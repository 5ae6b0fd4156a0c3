-- What a search sees of a plant: its legs by number, and what each weighs. Assumes nothing.
use Rattle.std.specs.Prelude.{◌≡◌, ℕ, ◌<◌, Bool, true, false, ◌&&◌, length, Option}
use Rattle.std.specs.Option.{option_map, unwrap_or}
use Rattle.std.specs.List.{slice_get}
use Rattle.measure.specs.Scale.{Scale}
use Rattle.measure.specs.declared.figures.Figures.{Figures}
use Rattle.layout.specs.Plant.{Leg, Plant}

-- the figures of a leg that a measure weighs
abbrev pub figures_of : Leg → Figures
figures_of l = record { metres = l.metres; class = l.class; clearance = l.clearance; turn = l.turn }

-- what stands past the end of the legs: a leg that is not open
abbrev pub no_leg : Leg
no_leg = record { tail = 0; head = 0; metres = 0; class = 0; clearance = 0; turn = 0; is_open = false }

abbrev pub leg_at : Plant → ℕ → Leg
leg_at plant e = unwrap_or (slice_get plant.legs e) no_leg

-- the weight of a leg, by its number; search, marks and orders know no other
abbrev pub weight_of : {T : Type 0} → Scale T → Plant → ℕ → T
weight_of m plant e = m.weighed (figures_of (leg_at plant e))

-- the same where there is such a leg, and none past the end
abbrev pub weight_if_any : {T : Type 0} → Scale T → Plant → ℕ → Option T
weight_if_any m plant e = option_map (λ l. weight_of m plant e) (slice_get plant.legs e)

abbrev pub junctions : Plant → ℕ
junctions plant = length plant.hall_of

-- the hall of a junction; what is no junction lies in no hall
abbrev pub hall_at : Plant → ℕ → ℕ
hall_at plant v = unwrap_or (slice_get plant.hall_of v) plant.halls

-- legs by number: their ends, their weights, and whether a walk may use them
pub record Net (T : Type 0) : Type 0 where
  pub tail : ℕ → ℕ
  pub head : ℕ → ℕ
  pub weight : ℕ → T
  pub usable : ℕ → Bool

-- the net of a plant: its open legs may be used
abbrev pub net : {T : Type 0} → Scale T → Plant → Net T
net m plant = record {
  tail = λ e. (leg_at plant e).tail;
  head = λ e. (leg_at plant e).head;
  weight = weight_of m plant;
  usable = λ e. (leg_at plant e).is_open;
}

-- only the marked legs may be used, as the marked layer has it
abbrev pub only : {T : Type 0} → (ℕ → Bool) → Net T → Net T
only marked g = record { tail = g.tail; head = g.head; weight = g.weight; usable = λ e. g.usable e && marked e }

-- each leg the other way round, as the turned layer has it
abbrev pub turned : {T : Type 0} → Net T → Net T
turned g = record { tail = g.head; head = g.tail; weight = g.weight; usable = g.usable }

-- the legs of the net are numbered below `legs`, and lead to junctions numbered below `junctions`
pub record Finite {T : Type 0} (g : Net T) (junctions legs : ℕ) : Type 0 where
  pub leg_exists : (e : ℕ) → g.usable e ≡ true → e < legs
  pub head_exists : (e : ℕ) → g.usable e ≡ true → g.head e < junctions
