-- What is entered on a day sheet: it stays wide and fit, what is then meant, and that an empty one changes nothing. Assumes nothing.
use Rattle.std.proofs.Common.{◌≡◌, ℕ, zero, suc, ◌<◌, Bool, true, false, cond, not, ◌&&◌, eqb, get_or, replicate, Some, None, Ok, Option, unwrap_or, sym, refl, ap, ◌∙◌, subst, ap₂, ⊎_elim, arith}
use Rattle.std.specs.Option.{option_map}
use Rattle.std.specs.List.{slice_get}
use Rattle.std.proofs.lemmas.List.{get_or-set_same, get_or-set_other, length-set, length-replicate}
use Rattle.std.proofs.lemmas.Bool.{and_from, cases_eq, eq-eqb, ne_eqb, cond-true, cond-false}
use Rattle.layout.specs.Limits.{most_legs, class_fits, clearance_fits}
use Rattle.layout.specs.Plant.{Leg, Plant, tails, heads}
use Rattle.layout.specs.Refused.{answered, unless}
use Rattle.layers.specs.Day.{Wide, Fit, in_range, is_shut, replacing, blank, entered, entered_leg, signed, figured, open_in, standing, refigured, refuses_sign, refuses_set, Signs, Sets}
use Rattle.layers.specs.Relegged.{with_leg}
use Rattle.layers.specs.declared.sheet.Replaced.{Replaced}
use Rattle.layers.specs.declared.sheet.Sheet.{Sheet}
use Rattle.layers.proofs.Relegging.{figures_changed, relegged_same, relegged_alike, relegged_twice}

-- one value everywhere, at a place and past the end
pub all_same : {X : Type 0} (n k : ℕ) (x : X) → get_or (replicate n x) k x ≡ x
all_same zero k x = refl
all_same (suc n) zero x = refl
all_same (suc n) (suc k) x = all_same n k x

pub blank_wide : Wide blank
blank_wide = (length-replicate 512 false, length-replicate {A = Option Replaced} 512 None)

pub blank_fit : Fit blank
blank_fit k = ap in_range (all_same most_legs k None)

-- a sheet changes no end of a leg
pub entered_tails : (s : Sheet) (p : Plant) → tails (entered s p) ≡ tails p
entered_tails s p = figures_changed (entered_leg s) (λ l. l.tail) (λ l. l.tail) (λ k l. refl) 0 p.legs

pub entered_heads : (s : Sheet) (p : Plant) → heads (entered s p) ≡ heads p
entered_heads s p = figures_changed (entered_leg s) (λ l. l.head) (λ l. l.head) (λ k l. refl) 0 p.legs

and_true : (b : Bool) → (b && true) ≡ b
and_true true = refl
and_true false = refl

-- a leg with these figures in place of its own, and shut or not
abbrev on_sheet : Leg → Option Replaced → Bool → Leg
on_sheet l by shut = record {
  tail = l.tail;
  head = l.head;
  metres = l.metres;
  turn = l.turn;
  class = unwrap_or (option_map (λ r. r.class) by) l.class;
  clearance = unwrap_or (option_map (λ r. r.clearance) by) l.clearance;
  is_open = l.is_open && not shut;
}

pub blank_entered : (p : Plant) → entered blank p ≡ p
blank_entered p = relegged_same (entered_leg blank) p (λ k l e.
    ap₂ (on_sheet l) (all_same most_legs k None) (all_same most_legs k false) ∙ ap (λ b. standing b l) (and_true l.is_open))

module _ (s : Sheet) (leg class clearance : ℕ) (wide : Wide s) where
  pub figured_wide : Wide (figured s leg class clearance)
  figured_wide = (wide.0, length-set s.replaced leg _ ∙ wide.1)

  pub figured_fit : Fit s → leg < most_legs → class_fits class ≡ true → clearance_fits clearance ≡ true → Fit (figured s leg class clearance)
  figured_fit fit low c h k =
      ⊎_elim
      (λ here. ap in_range (ap (replacing (figured s leg class clearance)) here ∙ get_or-set_same s.replaced leg _ None (omega arith)) ∙ and_from _ _ c h)
      (λ apart. ap in_range (get_or-set_other s.replaced leg k _ None apart) ∙ fit k)
      (cases_eq k leg)

and_swap : (a b : Bool) → (a && b) ≡ (b && a)
and_swap true b = sym (and_true b)
and_swap false true = refl
and_swap false false = refl

-- what is meant once a leg's sign, or its figures, are written: the same but for that leg
module _ (p : Plant) (s : Sheet) (leg : ℕ) (wide : Wide s) (low : leg < most_legs) where
  one_leg : (t : Sheet) (f : Leg → Leg) → ((l : Leg) → slice_get p.legs leg ≡ Some l → entered_leg t leg l ≡ f (entered_leg s leg l))
      → ((k : ℕ) (l : Leg) → (k ≡ leg → ⊥) → entered_leg t k l ≡ entered_leg s k l) → entered t p ≡ with_leg leg f (entered s p)
  one_leg t f here others =
      relegged_alike (entered_leg t) (λ k l. cond (eqb k leg) (f (entered_leg s k l)) (entered_leg s k l)) p
      (λ k l e. ⊎_elim
      (λ q. subst (λ n. entered_leg t n l ≡ f (entered_leg s n l)) (sym q) (here l (subst (λ n. slice_get p.legs n ≡ Some l) q e))
      ∙ sym (cond-true _ _ _ (eq-eqb k leg q)))
      (λ q. others k l q ∙ sym (cond-false _ _ _ (ne_eqb k leg q)))
      (cases_eq k leg))
      ∙ sym (relegged_twice (entered_leg s) (λ k l. cond (eqb k leg) (f l) l) p)

  signed_means : (shut : Bool) → entered (signed s leg shut) p ≡ with_leg leg (standing (not shut && open_in p leg)) (entered s p)
  signed_means shut = one_leg (signed s leg shut) (standing (not shut && open_in p leg))
      (λ l e. ap (λ b. standing b (entered_leg s leg l))
      (ap (λ b. l.is_open && not b) (get_or-set_same s.shut leg shut false (omega arith))
      ∙ and_swap l.is_open (not shut)
      ∙ sym (ap (λ o. not shut && unwrap_or (option_map (λ (x : Leg). x.is_open) o) false) e)))
      (λ k l apart. ap (on_sheet l (replacing s k)) (get_or-set_other s.shut leg k shut false apart))

  figured_means : (class clearance : ℕ) → entered (figured s leg class clearance) p ≡ with_leg leg (refigured class clearance) (entered s p)
  figured_means class clearance = one_leg (figured s leg class clearance) (refigured class clearance)
      (λ l e. ap (λ o. on_sheet l o (is_shut s leg)) (get_or-set_same s.replaced leg _ None (omega arith)))
      (λ k l apart. ap (λ o. on_sheet l o (is_shut s k)) (get_or-set_other s.replaced leg k _ None apart))

  -- the whole order, once nothing refuses it
  pub sign_order : (shut : Bool) → refuses_sign p s leg shut ≡ None → Signs p s leg shut (Ok tt) (signed s leg shut)
  sign_order shut passed = record {
    answers = sym (ap (λ o. answered o tt) passed);
    writes = sym (ap (λ o. unless o s (signed s leg shut)) passed);
    means =
        signed_means shut
        ∙ sym (ap (λ o. unless o (entered s p) (with_leg leg (standing (not shut && open_in p leg)) (entered s p))) passed);
  }

  pub set_order : (class clearance : ℕ) → refuses_set p leg class clearance ≡ None → Sets p s leg class clearance (Ok tt) (figured s leg class clearance)
  set_order class clearance passed = record {
    answers = sym (ap (λ o. answered o tt) passed);
    writes = sym (ap (λ o. unless o s (figured s leg class clearance)) passed);
    means =
        figured_means class clearance
        ∙ sym (ap (λ o. unless o (entered s p) (with_leg leg (refigured class clearance) (entered s p))) passed);
  }
