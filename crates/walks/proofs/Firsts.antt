-- The first of the lowest: of the numbers below a bound that are picked, one whose total none undercuts, and the first such. Assumes nothing.
use Rattle.std.proofs.Common.{◌≡◌, ℕ, zero, suc, ◌<◌, ◌≤◌, ◌⊎◌, inl, inr, le_refl, arith}
use Rattle.measure.specs.Scale.{Scale, Lawful}
use Rattle.walks.proofs.Order.{Le, Lt, no_both, le_eq, irrefl, lt_le, lt_le_trans, lt_or_ge}
use Rattle.walks.proofs.Choosing.{Whether, below_each}

pub record First {T : Type 0} (m : Scale T) (Picked : ℕ → Type 0) (at : ℕ → T) (j : ℕ) : Type 0 where
  pub number : ℕ
  pub within : number < j
  pub picked : Picked number
  pub lowest : (i : ℕ) → i < j → Picked i → Le m (at number) (at i)
  pub first : (i : ℕ) → i < j → Picked i → at i ≡ at number → number ≤ i

-- there is a first of the lowest below j, or none below j is picked
abbrev pub FirstOrNone : {T : Type 0} → Scale T → (ℕ → Type 0) → (ℕ → T) → ℕ → Type 0
FirstOrNone m Picked at j = First m Picked at j ⊎ ((i : ℕ) → i < j → ¬ Picked i)

module _ {T : Type 0} {m : Scale T} (laws : Lawful m) (Picked : ℕ → Type 0) (at : ℕ → T) where
  -- j is lower than all before it
  abbrev pub newer : (j : ℕ) → Picked j → ((i : ℕ) → i < j → Picked i → Lt m (at j) (at i)) → First m Picked at (suc j)
  newer j p low =
      record {
        number = j;
        within = le_refl (suc j);
        picked = p;
        lowest = below_each j (λ i. Picked i → Le m (at j) (at i)) (λ i k q. lt_le laws (low i k q)) (λ q. irrefl laws (at j));
        first =
            below_each j (λ i. Picked i → at i ≡ at j → j ≤ i) (λ i k q e. absurd (no_both (low i k q) (le_eq laws e))) (λ q e. le_refl j);
      }

  -- j undercuts nothing
  abbrev pub older : (j : ℕ) (f : First m Picked at j) → (Picked j → Le m (at f.number) (at j)) → First m Picked at (suc j)
  older j f high =
      let w = f.within in
      record {
        number = f.number;
        within = omega arith;
        picked = f.picked;
        lowest = below_each j (λ i. Picked i → Le m (at f.number) (at i)) f.lowest high;
        first = below_each j (λ i. Picked i → at i ≡ at f.number → f.number ≤ i) f.first (λ q e. omega arith);
      }

  pub first? : ((i : ℕ) → Whether (Picked i)) → (j : ℕ) → FirstOrNone m Picked at j
  first? picks zero = inr (λ i h. absurd (omega arith))
  first? picks (suc j) = go (first? picks j) (picks j)
    where
      both :
          (f : First m Picked at j) → Picked j → (Lt m (at j) (at f.number) ⊎ Le m (at f.number) (at j)) → First m Picked at (suc j)
      both f p (inl lt) = newer j p (λ i k q. lt_le_trans laws lt (f.lowest i k q))
      both f p (inr le) = older j f (λ q. le)

      go : FirstOrNone m Picked at j → Whether (Picked j) → FirstOrNone m Picked at (suc j)
      go (inl f) (inl p) = inl (both f p (lt_or_ge laws (at j) (at f.number)))
      go (inl f) (inr n) = inl (older j f (λ q. absurd (n q)))
      go (inr a) (inl p) = inl (newer j p (λ i k q. absurd (a i k q)))
      go (inr a) (inr n) = inr (below_each j (λ i. ¬ Picked i) a n)
