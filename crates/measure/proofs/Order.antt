-- What the laws give of the order of totals; p ≤ q stands for `below q p ≡ false`. Assumes nothing.
use Rattle.std.proofs.Common.{◌≡◌, true, false, subst, ⊎_elim}
use Rattle.std.proofs.lemmas.Bool.{both_ways, cases_Bool}
use Rattle.measure.specs.Scale.{Scale, Lawful}

module _ {M : Type 0} {s : Scale M} (laws : Lawful s) where
  pub not_below_itself : (p : M) → s.below p p ≡ false
  not_below_itself p = ⊎_elim (laws.asym p p) (λ f. f) (cases_Bool (s.below p p))

  -- p ≤ q < w
  pub not_above_below : (p q w : M) → s.below q p ≡ false → s.below q w ≡ true → s.below p w ≡ true
  not_above_below p q w h k =
      ⊎_elim
      (λ t. laws.trans p q w t k)
      (λ f. subst (λ (x : M). s.below x w ≡ true) (laws.same q p h f) k)
      (cases_Bool (s.below p q))

  -- p < q ≤ w
  pub below_not_above : (p q w : M) → s.below p q ≡ true → s.below w q ≡ false → s.below p w ≡ true
  below_not_above p q w h k =
      ⊎_elim
      (λ t. laws.trans p q w h t)
      (λ f. subst (λ (x : M). s.below p x ≡ true) (laws.same q w f k) h)
      (cases_Bool (s.below q w))

  -- p ≤ q ≤ w
  pub not_above : (p q w : M) → s.below q p ≡ false → s.below w q ≡ false → s.below w p ≡ false
  not_above p q w h k =
      ⊎_elim
      (λ t. absurd (both_ways (s.below w q) k (below_not_above w p q t h)))
      (λ f. f)
      (cases_Bool (s.below w p))
