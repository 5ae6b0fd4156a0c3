-- The legs that leave a junction, as the layout's index gives them. Assumes nothing.
use Rattle.std.proofs.Common.{◌≡◌, ℕ, ◌<◌, true, length, Some, None, Option, unwrap_or, sym, refl, ap, ◌∙◌, arith}
use Rattle.std.specs.Option.{option_map}
use Rattle.std.specs.List.{slice_get}
use Rattle.std.proofs.lemmas.List.{length-map}
use Rattle.std.proofs.lemmas.Bool.{both_ways}
use Rattle.measure.specs.Scale.{Scale}
use Rattle.layout.specs.Plant.{Leg, Plant, tails}
use Rattle.layout.proofs.Listed.{nth_map, nth_within}
use Rattle.walks.specs.Net.{net, no_leg}
use Rattle.walks.specs.Search.{Offer}

module _ {T : Type 0} (m : Scale T) (p : Plant) where
  -- a usable leg exists
  pub usable_tail : (e u : ℕ) → (net m p).usable e ≡ true → (net m p).tail e ≡ u → slice_get (tails p) e ≡ Some u
  usable_tail e u usable leaves = nth_map (λ (l : Leg). l.tail) p.legs e ∙ by (slice_get p.legs e) refl
    where
      by : (o : Option Leg) → slice_get p.legs e ≡ o → option_map (λ l. l.tail) o ≡ Some u
      by None none = absurd (both_ways ((net m p).usable e) (ap (λ (o : Option Leg). (unwrap_or o no_leg).is_open) none) usable)
      by (Some l) some = ap Some (sym (ap (λ (o : Option Leg). (unwrap_or o no_leg).tail) some) ∙ leaves)

  pub offer_tail : (u v e : ℕ) → Offer (net m p) u v e → slice_get (tails p) e ≡ Some u
  offer_tail u v e offer = usable_tail e u offer.usable offer.leaves

  -- the tail of a leg that the index gives
  pub tail_there : (e u : ℕ) → slice_get (tails p) e ≡ Some u → (net m p).tail e ≡ u
  tail_there e u there = by (slice_get p.legs e) refl
    where
      asked : option_map (λ (l : Leg). l.tail) (slice_get p.legs e) ≡ Some u
      asked = sym (nth_map (λ (l : Leg). l.tail) p.legs e) ∙ there

      by : (o : Option Leg) → slice_get p.legs e ≡ o → (unwrap_or o no_leg).tail ≡ u
      by None none = let gone = sym (ap (option_map (λ (l : Leg). l.tail)) none) ∙ asked in let z : ◌≡◌ {A = ℕ} 0 1 = cc in absurd (let w : ⊥ = omega arith in w)
      by (Some l) some = let here = sym (ap (option_map (λ (l : Leg). l.tail)) some) ∙ asked in let same : l.tail ≡ u = cc in same

  pub leg_there : (e u : ℕ) → slice_get (tails p) e ≡ Some u → e < length p.legs
  leg_there e u there = let w = nth_within (tails p) e u there in let long = length-map p.legs (λ (l : Leg). l.tail) in omega arith
