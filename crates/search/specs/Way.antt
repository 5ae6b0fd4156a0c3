-- The way that the came-by table holds, and why tracing it back ends. Assumes nothing.
use Rattle.std.specs.Prelude.{◌≡◌, ℕ, suc, ◌<◌, cond, List, [], ◌∷◌, ◌++◌, length, Some, None, Option, ◌==◌, slice_index}

-- what stands in the came-by table for no leg
abbrev pub no_leg : ℕ
no_leg = 65535

-- the leg by which junction v came, by the table
abbrev pub came_by : List ℕ → ℕ → Option ℕ
came_by came v = cond (slice_index came v == no_leg) None (Some (slice_index came v))

-- the junction that leg e leaves, by the table
abbrev pub tail_of : List ℕ → ℕ → ℕ
tail_of tails e = slice_index tails e

-- the way is followed back from v by came-by, and written first leg first
pub data Traced (came : ℕ → Option ℕ) (tail : ℕ → ℕ) : ℕ → List ℕ → Type 0 where
  origin : {v : ℕ} → came v ≡ None → Traced came tail v []
  back : {v e : ℕ} {es : List ℕ} → came v ≡ Some e → Traced came tail (tail e) es → Traced came tail v (es ++ (e ∷ []))

-- the place of v in a list; the list's length where it stands nowhere
abbrev pub place_in : List ℕ → ℕ → ℕ
place_in [] v = 0
place_in (u ∷ us) v = cond (u == v) 0 (suc (place_in us v))

-- each settled junction has a place in the came-by table, and came by no leg, or by a leg with a place in the tails table that leaves a junction settled earlier
pub record Falls (came tails settled : List ℕ) : Type 0 where
  pub known : (v : ℕ) → place_in settled v < length settled → v < length came
  pub leg : (v e : ℕ) → place_in settled v < length settled → came_by came v ≡ Some e → e < length tails
  pub earlier : (v e : ℕ) → place_in settled v < length settled → came_by came v ≡ Some e → place_in settled (tail_of tails e) < place_in settled v
