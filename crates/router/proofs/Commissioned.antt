-- A history begins with commissioning. Assumes nothing.
use Rattle.std.proofs.Common.{◌≡◌, ℕ, zero, suc, ◌<◌, true, false, ◌&&◌, ltb, [], length, get_or, replicate, Some, None, Ok, Err, Option, Result, sym, refl, ap, ◌∙◌, arith}
use Rattle.std.specs.Option.{option_map}
use Rattle.std.proofs.lemmas.Bool.{lt-ltb}
use Rattle.measure.specs.Scale.{Scale}
use Rattle.layout.specs.Plant.{Plant, Sound}
use Rattle.layout.specs.Refused.{answered}
use Rattle.layout.specs.declared.refusal.Refusal.{Refusal}
use Rattle.layers.specs.Day.{blank}
use Rattle.layers.specs.declared.sheet.Sheet.{Sheet}
use Rattle.marks.specs.Mark.{is_marked, possible}
use Rattle.halls.specs.Force.{in_force}
use Rattle.halls.specs.declared.force.HallMarks.{HallMarks}
use Rattle.walks.specs.Orders.{all_lapsed}
use Rattle.router.specs.Worked.{noted, Worked}

-- a list of one value has it everywhere, and past its end
all_alike : {X : Type 0} (n e : ℕ) (x : X) → get_or (replicate n x) e x ≡ x
all_alike zero e x = refl
all_alike (suc n) zero x = refl
all_alike (suc n) (suc e) x = all_alike n e x

-- a mark that the plant has a place for is possible
pub within : (p : Plant) → Sound p → (h e : ℕ) → h < p.halls → e < length p.legs → possible h e ≡ true
within p sound h e hall leg =
    let few_halls = sound.few_halls in
    let few_legs = sound.few_legs in
    ap (λ b. b && ltb e 512) (lt-ltb h 32 (omega (arith, hall))) ∙ lt-ltb e 512 (omega (arith, leg))

pub commissioned :
    {T : Type 0} (m : Scale T) (p : Plant) → Sound p → (s : Sheet) (halls : HallMarks) → s ≡ blank
    → ((h : ℕ) → in_force halls.force h ≡ false) → ((h e : ℕ) → is_marked halls.marks h e ≡ possible h e)
    → Worked m p [] s halls
commissioned m p sound s halls empty force marks = record {
  sheet = record {
    signs = λ e below. ap (λ (x : Sheet). get_or x.shut e false) empty ∙ all_alike 512 e false;
    figures = λ e below. ap (option_map noted) (ap (λ (x : Sheet). get_or x.replaced e None) empty ∙ all_alike 512 e None);
  };
  now_marks = all_lapsed;
  left = refl;
  marks = record { force = λ h hall. force h; marked = λ h e hall leg. marks h e ∙ within p sound h e hall leg };
}

-- what the answer of an order on the sheet says of its refusal
pub answered_ok : (due : Option Refusal) (u : Unit {0}) → ◌≡◌ {A = Result (Unit {0}) Refusal} (Ok u) (answered due tt) → due ≡ None
answered_ok None u e = refl
answered_ok (Some r) u e = absurd (let w : ⊥ = grind arith in w)

pub answered_err : (due : Option Refusal) (r : Refusal) → ◌≡◌ {A = Result (Unit {0}) Refusal} (Err r) (answered due tt) → due ≡ Some r
answered_err None r e = absurd (let w : ⊥ = grind arith in w)
answered_err (Some x) r e = let same : r ≡ x = cc in ap Some (sym same)
