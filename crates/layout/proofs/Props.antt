-- What is said of a plant is a proposition, so a struct can keep it in a ghost field. Assumes nothing.
use Rattle.std.proofs.Common.{◌≡◌, ℕ, zero, suc, List, length, Some, None, Option, sym, refl, ap, ◌∙◌}
use mathlib.Core.Bool.{Bool-set}
use mathlib.Core.HLevel.{Π_prop, →_prop, ×₃_prop, collapsible→set}
use native.Mathlib.Bridge.{le_prop}
use native.Mathlib.Nat.{ℕ_set}
use Rattle.std.specs.List.{slice_get}
use Rattle.layout.specs.Plant.{Leg, Plant, Sound, SoundProp, SoundLeg, SoundLegProp, Next}

-- an option of a number is a set, being a number itself
code : Option ℕ → ℕ
code None = 0
code (Some n) = suc n

back : ℕ → Option ℕ
back zero = None
back (suc n) = Some n

back_code : (o : Option ℕ) → back (code o) ≡ o
unfolding code back
back_code None = refl
back_code (Some n) = refl

same_code : (o p : Option ℕ) → code o ≡ code p → o ≡ p
same_code o p e = sym (back_code o) ∙ ap back e ∙ back_code p

pub option_set : IsSet (Option ℕ)
option_set = collapsible→set (λ o p e. same_code o p (ap code e)) (λ o p e f. ap (same_code o p) (ℕ_set (code o) (code p) (ap code e) (ap code f)))

pub no_prop : IsProp ⊥
no_prop = λ x y. absurd x

pub next_prop : (ks : List ℕ) (n from : ℕ) (o : Option ℕ) → IsProp (Next ks n from o)
next_prop ks n from None = Π_prop (λ i. →_prop (→_prop no_prop))
next_prop ks n from (Some k) = ×₃_prop le_prop (option_set (slice_get ks k) (Some n)) (Π_prop (λ i. →_prop (→_prop (→_prop no_prop))))

sound_leg_prop : (n : ℕ) (leg : Leg) → IsProp (SoundLeg n leg)
sound_leg_prop n leg = SoundLegProp {junctions = n} {leg = leg} le_prop le_prop (Bool-set _ _) (Bool-set _ _) (Bool-set _ _) (Bool-set _ _)

pub sound_prop : (p : Plant) → IsProp (Sound p)
sound_prop p = SoundProp {p = p} le_prop le_prop le_prop le_prop
    (Π_prop (λ k. Π_prop (λ h. Π_prop (λ e. le_prop))))
    (Π_prop (λ k. Π_prop (λ leg. Π_prop (λ e. sound_leg_prop (length p.hall_of) leg))))
