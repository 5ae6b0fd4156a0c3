-- The legs that reach a junction, as the layout's index gives them, and the entries among junctions. Assumes nothing.
use Rattle.std.proofs.Common.{◌≡◌, ℕ, ◌+◌, ◌<◌, Bool, true, false, eqb, length, Some, None, Decides, Option, unwrap_or, sym, refl, ap, ◌∙◌, subst, ⊎_elim, arith}
use Rattle.std.specs.Option.{option_map}
use Rattle.std.specs.List.{slice_get}
use Rattle.std.proofs.lemmas.List.{length-map}
use Rattle.std.proofs.lemmas.Bool.{both_ways, cases_Bool, cases_eq, cases_lt, eq-eqb, eqb-true}
use Rattle.measure.specs.Scale.{Scale}
use Rattle.layout.specs.Plant.{Leg, Plant, heads, Next}
use Rattle.layout.proofs.Listed.{nth_map, nth_within}
use Rattle.walks.specs.Marks.{Entry}
use Rattle.walks.specs.Net.{net, no_leg, leg_at, hall_at}

-- a leg that is open exists
pub leg_open : (p : Plant) (e : ℕ) → (leg_at p e).is_open ≡ true → slice_get p.legs e ≡ Some (leg_at p e)
leg_open p e h = by (slice_get p.legs e) refl
  where
    by : (o : Option Leg) → slice_get p.legs e ≡ o → slice_get p.legs e ≡ Some (leg_at p e)
    by None none = absurd (both_ways (leg_at p e).is_open (ap (λ (o : Option Leg). (unwrap_or o no_leg).is_open) none) h)
    by (Some l) some = some ∙ ap Some (sym (ap (λ (o : Option Leg). unwrap_or o no_leg) some))

open_head : (p : Plant) (e : ℕ) → (leg_at p e).is_open ≡ true → slice_get (heads p) e ≡ Some (leg_at p e).head
open_head p e h = nth_map (λ (l : Leg). l.head) p.legs e ∙ ap (option_map (λ (l : Leg). l.head)) (leg_open p e h)

pub head_within : (p : Plant) (e v : ℕ) → slice_get (heads p) e ≡ Some v → e < length p.legs
head_within p e v there =
    let w = nth_within (heads p) e v there in
    let long = length-map p.legs (λ (l : Leg). l.head) in
    omega arith

head_there : (p : Plant) (e v : ℕ) → slice_get (heads p) e ≡ Some v → (leg_at p e).is_open ≡ true → (leg_at p e).head ≡ v
head_there p e v there is_open =
    let here : Some (leg_at p e).head ≡ Some v = sym (open_head p e is_open) ∙ there in
    let same : (leg_at p e).head ≡ v = cc in
    same

-- an open leg to v with a number below k comes from inside the hall
abbrev pub Quiet : Plant → ℕ → ℕ → ℕ → Type 0
Quiet p v hall k = (e : ℕ) → e < k → (leg_at p e).is_open ≡ true → (leg_at p e).head ≡ v → eqb (hall_at p (leg_at p e).tail) hall ≡ true

-- one leg more, the next that reaches v
pub quiet_more :
    (p : Plant) (v hall from leg : ℕ) (r : Bool) → Quiet p v hall from → Next (heads p) v from (Some leg)
    → Decides r (((leg_at p leg).is_open ≡ true) × (eqb (hall_at p (leg_at p leg).tail) hall ≡ false)) → r ≡ false
    → Quiet p v hall (leg + 1)
quiet_more p v hall from leg r quiet (low, here, next) decides no_more e below is_open reaches =
    ⊎_elim
    (λ same.
    ⊎_elim
    (λ inside. inside)
    (λ outside. absurd (both_ways r no_more (decides.1 (subst (λ k. (leg_at p k).is_open ≡ true) same is_open, subst (λ k. eqb (hall_at p (leg_at p k).tail) hall ≡ false) same outside))))
    (cases_Bool (eqb (hall_at p (leg_at p e).tail) hall)))
    (λ apart.
    ⊎_elim
    (λ before. quiet e before is_open reaches)
    (λ after. absurd (next e after (omega (arith, below, apart)) (open_head p e is_open ∙ ap Some reaches)))
    (cases_lt e from))
    (cases_eq e leg)

module _ {T : Type 0} (m : Scale T) (p : Plant) (v hall : ℕ) where
  -- a leg from outside makes an entry
  pub entry_here : (leg : ℕ) → eqb (hall_at p v) hall ≡ true → slice_get (heads p) leg ≡ Some v → (leg_at p leg).is_open ≡ true → eqb (hall_at p (leg_at p leg).tail) hall ≡ false
      → Entry (net m p) (hall_at p) hall v
  entry_here leg inside there is_open outside = record {
    inside = eqb-true (hall_at p v) hall inside;
    leg = leg;
    usable = is_open;
    leads = head_there p leg v there is_open;
    outside = λ same. both_ways (eqb (hall_at p (leg_at p leg).tail) hall) outside (eq-eqb _ _ same);
  }

  -- where no leg from outside is left there is none
  pub no_entry : (from : ℕ) → Quiet p v hall from → Next (heads p) v from None → Entry (net m p) (hall_at p) hall v → ⊥
  no_entry from quiet none entry =
      ⊎_elim
      (λ before. entry.outside (eqb-true _ _ (quiet entry.leg before entry.usable entry.leads)))
      (λ after. none entry.leg after (open_head p entry.leg entry.usable ∙ ap Some entry.leads))
      (cases_lt entry.leg from)

  pub not_inside : eqb (hall_at p v) hall ≡ false → Entry (net m p) (hall_at p) hall v → ⊥
  not_inside out entry = both_ways (eqb (hall_at p v) hall) out (eq-eqb _ _ entry.inside)
