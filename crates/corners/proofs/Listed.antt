-- Listed legs of the small plant, and what holds of exactly these. Assumes nothing.
use Rattle.std.proofs.Common.{◌≡◌, ℕ, ◌<◌, Bool, true, false, ◌↔◌, List, [], ◌∷◌, refl, arith}
use Rattle.std.proofs.lemmas.Bool.{ne_eqb}
use Rattle.walks.proofs.Order.{no_both}
use Rattle.corners.specs.Corners.{among}
use Rattle.corners.proofs.Legs.{past_legs}

-- the test passes, and so it should
pub yes : {b : Bool} {F : Type 0} → b ≡ true → F → (b ≡ true) ↔ F
yes h f = (λ _. f, λ _. h)

-- the test fails, and so it should
pub no : {b : Bool} {F : Type 0} → b ≡ false → ¬ F → (b ≡ true) ↔ F
no h n = (λ k. absurd (no_both k h), λ f. absurd (n f))

-- the list has legs of the small plant only
abbrev pub Legs : List ℕ → Type 0
Legs [] = Unit {0}
Legs (d ∷ ds) = (d < 6) × Legs ds

pub past : (ds : List ℕ) → Legs ds → (l : ℕ) → among ds (past_legs l) ≡ false
past [] p l = refl
past (d ∷ ds) p l =
    let k = p.0 in
    rw (ne_eqb (past_legs l) d (λ q. omega arith)) (past ds p.1 l)
