-- The legs of the plant with the book entered. Assumes nothing.
use Rattle.std.proofs.Common.{◌≡◌, ℕ, zero, suc, ◌+◌, true, not, eqb, ◌≢◌, List, [], ◌∷◌, length, Some, None, Option, unwrap_or, sym, refl, ap, subst, subst₂, arith}
use Rattle.std.proofs.lemmas.Bool.{cond-true, cond-false, eq-eqb, ne_eqb, and_parts}
use Rattle.std.specs.Option.{option_map}
use Rattle.std.specs.List.{slice_get}
use Rattle.measure.specs.Scale.{Scale}
use Rattle.layout.specs.Plant.{Leg, Plant, Sound}
use Rattle.walks.specs.Net.{net, Finite, no_leg, leg_at, junctions}
use Rattle.walks.specs.Book.{Book, amended, amended_from, with_book, put}
use Rattle.walks.proofs.Nets.{net_finite, fewer_finite}

pub put_other : {A : Type 0} (e : ℕ) (x : A) (f : ℕ → A) (i : ℕ) → i ≢ e → put e x f i ≡ f i
put_other e x f i n = cond-false (eqb i e) x (f i) (ne_eqb i e n)

pub put_same : {A : Type 0} (e : ℕ) (x : A) (f : ℕ → A) (i : ℕ) → i ≡ e → put e x f i ≡ x
put_same e x f i q = cond-true (eqb i e) x (f i) (eq-eqb i e q)

nth_amended :
    (b : Book) (k : ℕ) (ls : List Leg) (i e : ℕ) → k + i ≡ e →
    slice_get (amended_from b k ls) i ≡ option_map (amended (b.sign e) (b.replaced e)) (slice_get ls i)
nth_amended b k [] i e q = refl
nth_amended b k (l ∷ ls) zero e q = let r : k ≡ e = omega arith in ap (λ n. Some (amended (b.sign n) (b.replaced n) l)) r
nth_amended b k (l ∷ ls) (suc i) e q = nth_amended b (suc k) ls i e (omega arith)

module _ (plant : Plant) where
  at_book :
      (b : Book) (e : ℕ) →
      leg_at (with_book plant b) e ≡ unwrap_or (option_map (amended (b.sign e) (b.replaced e)) (slice_get plant.legs e)) no_leg
  at_book b e = ap (λ o. unwrap_or o no_leg) (nth_amended b 0 plant.legs e e (omega arith))

  -- what holds of a leg under two books
  pub between :
      (R : Leg → Leg → Type 0) (b c : Book) (e : ℕ) →
      ((l : Leg) → R (amended (b.sign e) (b.replaced e) l) (amended (c.sign e) (c.replaced e) l)) → R no_leg no_leg →
      R (leg_at (with_book plant b) e) (leg_at (with_book plant c) e)
  between R b c e h d = subst₂ R (sym (at_book b e)) (sym (at_book c e)) (go (slice_get plant.legs e))
    where
      go :
          (o : Option Leg) →
          R (unwrap_or (option_map (amended (b.sign e) (b.replaced e)) o) no_leg)
          (unwrap_or (option_map (amended (c.sign e) (c.replaced e)) o) no_leg)
      go None = d
      go (Some l) = h l

  pub finite :
      {T : Type 0} (m : Scale T) → Sound plant → (b : Book) →
      Finite (net m (with_book plant b)) (junctions plant) (length plant.legs)
  finite m sound b =
      fewer_finite (net m plant) (net m (with_book plant b)) (junctions plant) (length plant.legs)
      (λ e. (below e).0) (λ e. (below e).1) (net_finite m plant sound)
    where
      -- a leg that is open is open below, and has the head that it has there
      Below : Leg → Leg → Type 0
      Below l l' = (l'.is_open ≡ true → l.is_open ≡ true) × (l'.head ≡ l.head)

      go : (e : ℕ) (o : Option Leg) → Below (unwrap_or o no_leg) (unwrap_or (option_map (amended (b.sign e) (b.replaced e)) o) no_leg)
      go e None = (λ h. h, refl)
      go e (Some l) = (λ h. (and_parts l.is_open (not (b.sign e)) h).0, refl)

      below : (e : ℕ) → Below (leg_at plant e) (leg_at (with_book plant b) e)
      below e = subst (Below (leg_at plant e)) (sym (at_book b e)) (go e (slice_get plant.legs e))
