-- A plant with each leg changed by its number. Assumes nothing.
use Rattle.std.specs.Prelude.{ℕ, suc, cond, List, [], ◌∷◌, ◌==◌}
use Rattle.layout.specs.Plant.{Leg, Plant}

-- each element changed by its place, counted from k
abbrev pub changed_from : {X Y : Type 0} → ℕ → (ℕ → X → Y) → List X → List Y
changed_from k f [] = []
changed_from k f (x ∷ xs) = f k x ∷ changed_from (suc k) f xs

-- halls and junctions stay, and leg k becomes f k of it
abbrev pub relegged : (ℕ → Leg → Leg) → Plant → Plant
relegged f p = record { halls = p.halls; hall_of = p.hall_of; legs = changed_from 0 f p.legs }

-- leg n becomes f of it, and all else stays
abbrev pub with_leg : ℕ → (Leg → Leg) → Plant → Plant
with_leg n f p = relegged (λ k l. cond (k == n) (f l) l) p
