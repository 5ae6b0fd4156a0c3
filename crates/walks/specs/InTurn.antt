-- The relaxation of the search rule, leg by leg in number order. Assumes nothing.
use Rattle.std.specs.Prelude.{◌≡◌, ℕ, zero, suc, ◌<◌, true, List}
use Rattle.std.specs.List.{ContainsAt as Has}
use Rattle.measure.specs.Scale.{Scale}
use Rattle.walks.specs.Net.{Net}
use Rattle.walks.specs.Search.{State, Offer, offered, Above, Keeps, Gets, Relaxes}

-- leg e from u moves v: v is unsettled and has no total, or one above what e offers
pub record Moves {T : Type 0} (m : Scale T) (g : Net T) (settled : List ℕ) (u : ℕ) (x : T) (c : State T) (e v : ℕ) : Type 0 where
  pub offer : Offer g u v e
  pub unsettled : ¬ Has settled v
  pub lower : Above m (c.total v) (offered m g x e)

-- leg e is taken: a head that it moves gets its total and this leg as came-by, and all else stays
pub record Takes {T : Type 0} (m : Scale T) (g : Net T) (settled : List ℕ) (u : ℕ) (x : T) (e : ℕ) (c d : State T) : Type 0 where
  pub moved : (v : ℕ) → Moves m g settled u x c e v → Gets d v (offered m g x e) e
  pub others : (v : ℕ) → ¬ Moves m g settled u x c e v → Keeps c d v

-- the legs below j are taken, one after the other
abbrev pub TakesTo : {T : Type 0} → Scale T → Net T → List ℕ → ℕ → T → State T → ℕ → State T → Type 0
TakesTo m g settled u x s zero c = (v : ℕ) → Keeps s c v
TakesTo {T = T} m g settled u x s (suc j) c =
    (b : State T) × TakesTo m g settled u x s j b × Takes m g settled u x j b c

-- Taking the legs in number order is the relaxation that the rule describes.
abbrev pub InTurn : {T : Type 0} → Scale T → Type 0
InTurn {T = T} m =
    (g : Net T) (l : ℕ) → ((e : ℕ) → g.usable e ≡ true → e < l) →
    (settled : List ℕ) (u : ℕ) (x : T) (s c : State T) → TakesTo m g settled u x s l c →
    (v : ℕ) → (Has settled v → Keeps s c v) × (¬ Has settled v → Relaxes m g s u x c v)
