-- A list with one element more at its end. Assumes nothing.
use Rattle.std.proofs.Common.{◌≡◌, ℕ, zero, suc, ◌<◌, ◌⊎◌, List, [], ◌∷◌, ◌++◌, length, Some, refl, ap, inl, inr, ⊎_elim, arith}
use Rattle.std.specs.List.{slice_get}

-- what stands in it stood there before, or is the new one at the end
pub old_or_new : {X : Type 0} (xs : List X) (y z : X) (i : ℕ) → slice_get (xs ++ (y ∷ [])) i ≡ Some z → ((i < length xs) × (slice_get xs i ≡ Some z)) ⊎ ((i ≡ length xs) × (y ≡ z))
old_or_new [] y z zero e = inr (refl, cc)
old_or_new [] y z (suc i) e = let w : ◌≡◌ {A = ℕ} 0 1 = cc in absurd (let v : ⊥ = omega arith in v)
old_or_new (x ∷ xs) y z zero e = inl (omega arith, e)
old_or_new (x ∷ xs) y z (suc i) e =
    ⊎_elim (λ old. let lt = old.0 in inl (omega arith, old.1)) (λ new. inr (ap suc new.0, new.1)) (old_or_new xs y z i e)

pub nth_old : {X : Type 0} (xs : List X) (y z : X) (i : ℕ) → slice_get xs i ≡ Some z → slice_get (xs ++ (y ∷ [])) i ≡ Some z
nth_old [] y z i e = let w : ◌≡◌ {A = ℕ} 0 1 = cc in absurd (let v : ⊥ = omega arith in v)
nth_old (x ∷ xs) y z zero e = e
nth_old (x ∷ xs) y z (suc i) e = nth_old xs y z i e

pub nth_new : {X : Type 0} (xs : List X) (y : X) → slice_get (xs ++ (y ∷ [])) (length xs) ≡ Some y
nth_new [] y = refl
nth_new (x ∷ xs) y = nth_new xs y
