-- Walks, their totals, and the best total. Assumes nothing.
use Rattle.std.specs.Prelude.{◌≡◌, ℕ, true, false, List, [], ◌∷◌}
use Rattle.measure.specs.Scale.{Scale}
use Rattle.walks.specs.Net.{Net}

-- a walk from u to v: usable legs, each one's head the next one's tail; the empty walk leads from a junction to itself
abbrev pub Walk : {T : Type 0} → Net T → ℕ → List ℕ → ℕ → Type 0
Walk g u [] v = u ≡ v
Walk g u (e ∷ es) v = (g.usable e ≡ true) × (g.tail e ≡ u) × Walk g (g.head e) es v

-- some walk leads from u to v
abbrev pub Leads : {T : Type 0} → Net T → ℕ → ℕ → Type 0
Leads g u v = (es : List ℕ) × Walk g u es v

-- a walk's total is its weights joined, and the unit where it is empty
abbrev pub total : {T : Type 0} → Scale T → Net T → List ℕ → T
total m g [] = m.unit
total m g (e ∷ es) = m.joined (g.weight e) (total m g es)

-- x is the lowest total of any walk from u to v
pub record Best {T : Type 0} (m : Scale T) (g : Net T) (u v : ℕ) (x : T) : Type 0 where
  pub way : List ℕ
  pub walk : Walk g u way v
  pub reached : total m g way ≡ x
  pub lowest : (es : List ℕ) → Walk g u es v → m.below (total m g es) x ≡ false
