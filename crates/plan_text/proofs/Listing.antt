-- Short lists by their elements. Assumes nothing.
use Rattle.std.proofs.Common.{◌≡◌, ℕ, List, [], ◌∷◌, length, get_or, refl, ap, arith}

pub none_left : (xs : List ℕ) → length xs ≡ 0 → xs ≡ []
none_left [] e = refl
none_left (x ∷ xs) e = absurd (let w : ⊥ = omega arith in w)

pub one_of : (xs : List ℕ) → length xs ≡ 1 → xs ≡ get_or xs 0 0 ∷ []
one_of [] e = absurd (let w : ⊥ = omega arith in w)
one_of (x ∷ xs) e = ap (λ l. x ∷ l) (none_left xs (omega arith))

pub six_of : (xs : List ℕ) → length xs ≡ 6 → xs ≡ get_or xs 0 0 ∷ get_or xs 1 0 ∷ get_or xs 2 0 ∷ get_or xs 3 0 ∷ get_or xs 4 0 ∷ get_or xs 5 0 ∷ []
six_of [] e = absurd (let w : ⊥ = omega arith in w)
six_of (a ∷ []) e = absurd (let w : ⊥ = omega arith in w)
six_of (a ∷ b ∷ []) e = absurd (let w : ⊥ = omega arith in w)
six_of (a ∷ b ∷ c ∷ []) e = absurd (let w : ⊥ = omega arith in w)
six_of (a ∷ b ∷ c ∷ d ∷ []) e = absurd (let w : ⊥ = omega arith in w)
six_of (a ∷ b ∷ c ∷ d ∷ f ∷ []) e = absurd (let w : ⊥ = omega arith in w)
six_of (a ∷ b ∷ c ∷ d ∷ f ∷ g ∷ xs) e = ap (λ l. a ∷ b ∷ c ∷ d ∷ f ∷ g ∷ l) (none_left xs (omega arith))
