-- What a measure means, and the laws that it keeps. Assumes nothing.
use Rattle.std.specs.Prelude.{◌≡◌, Bool, true, false}
use Rattle.measure.specs.declared.figures.Figures.{Figures}

-- a measure with totals M
pub record Scale (M : Type 0) : Type 0 where
  -- the total of no legs
  pub unit : M
  -- the total of one way after another
  pub joined : M → M → M
  -- the first is lower than the second; so `below q p ≡ false` says that p is not above q
  pub below : M → M → Bool
  -- the total of one leg
  pub weighed : Figures → M

-- what holds of all totals p, q and w
pub record Lawful {M : Type 0} (s : Scale M) : Type 0 where
  pub assoc : (p q w : M) → s.joined (s.joined p q) w ≡ s.joined p (s.joined q w)
  pub comm : (p q : M) → s.joined p q ≡ s.joined q p
  pub neutral : (p : M) → s.joined p s.unit ≡ p
  -- the order is total, since `below` answers for every pair
  pub asym : (p q : M) → s.below p q ≡ true → s.below q p ≡ false
  pub trans : (p q w : M) → s.below p q ≡ true → s.below q w ≡ true → s.below p w ≡ true
  -- two totals neither of which is below the other are the same
  pub same : (p q : M) → s.below p q ≡ false → s.below q p ≡ false → p ≡ q
  -- the unit is not above any total
  pub lowest : (p : M) → s.below p s.unit ≡ false
  -- where p is not above q, it is not after both are joined with w
  pub mono : (p q w : M) → s.below q p ≡ false → s.below (s.joined q w) (s.joined p w) ≡ false
