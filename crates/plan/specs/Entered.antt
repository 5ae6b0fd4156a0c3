-- What the tables of a drawing mean. Assumes nothing.
use Rattle.std.specs.Prelude.{ℕ, List, map, take}
use Rattle.layout.specs.Plant.{Plant, leg_of}
use Rattle.layout.specs.declared.belt.Belt.{Belt}

-- what was entered, in order of entry: so many junctions with their halls, and so many legs, which are open
abbrev pub plant_of : (halls points : ℕ) → List ℕ → ℕ → List Belt → Plant
plant_of halls points places count belts = record { halls = halls; hall_of = take points places; legs = map leg_of (take count belts) }
