-- The tail of a leg that there is. Assumes nothing.
use Rattle.std.proofs.Common.{◌≡◌, ℕ, ◌<◌, length, Some, None, Option, unwrap_or, refl, ap, ◌∙◌, subst, arith}
use Rattle.std.specs.Option.{option_map}
use Rattle.std.specs.List.{slice_get}
use Rattle.std.proofs.lemmas.Option.{slice_get-get_or}
use Rattle.layout.specs.Plant.{Leg, Plant, Sound}
use Rattle.walks.specs.Net.{leg_at, no_leg, junctions}

module _ (p : Plant) (e t : ℕ) (asked : Some t ≡ option_map (λ (l : Leg). l.tail) (slice_get p.legs e)) where
  pub asked_tail : t ≡ (leg_at p e).tail
  asked_tail = by (slice_get p.legs e) refl
    where
      by : (o : Option Leg) → slice_get p.legs e ≡ o → t ≡ (unwrap_or o no_leg).tail
      by None none = let gone = asked ∙ ap (option_map (λ (l : Leg). l.tail)) none in let z : ◌≡◌ {A = ℕ} 0 1 = cc in absurd (let w : ⊥ = omega arith in w)
      by (Some l) some = let here = asked ∙ ap (option_map (λ (l : Leg). l.tail)) some in let same : t ≡ l.tail = cc in same

  pub asked_exists : Sound p → t < junctions p
  asked_exists sound = by (slice_get p.legs e) refl
    where
      by : (o : Option Leg) → slice_get p.legs e ≡ o → t < junctions p
      by None none = let gone = asked ∙ ap (option_map (λ (l : Leg). l.tail)) none in let z : ◌≡◌ {A = ℕ} 0 1 = cc in absurd (let w : ⊥ = omega arith in w)
      by (Some l) some =
          let here = asked ∙ ap (option_map (λ (l : Leg). l.tail)) some in
          let same : l.tail ≡ t = cc in
          subst (λ k. k < junctions p) same (sound.each_leg e l some).tail_exists

-- a leg below the end has a tail
pub tail_asked : (p : Plant) (e : ℕ) → e < length p.legs → None ≡ option_map (λ (l : Leg). l.tail) (slice_get p.legs e) → ⊥
tail_asked p e inside none =
    let there = none ∙ ap (option_map (λ (l : Leg). l.tail)) (slice_get-get_or p.legs e no_leg inside) in
    let z : ◌≡◌ {A = ℕ} 0 1 = cc in omega arith
