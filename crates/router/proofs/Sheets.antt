-- The day sheet and the crew's book. Assumes nothing.
use Rattle.std.proofs.Common.{◌≡◌, ℕ, suc, ◌+◌, ◌<◌, Bool, true, false, cond, not, ◌&&◌, eqb, ltb, List, [], ◌∷◌, length, get_or, set, Some, None, Option, unwrap_or, sym, refl, ap, ◌∙◌, subst, ap₂, ⊎_elim, arith}
use Rattle.std.specs.Option.{option_map}
use Rattle.std.proofs.lemmas.List.{get_or-set_same, get_or-set_other}
use Rattle.std.proofs.lemmas.Bool.{cases_eq, eq-eqb, ne_eqb, ltb-true}
use Rattle.layout.specs.Plant.{Leg, Plant, Sound}
use Rattle.layout.specs.Refused.{refuse_unless, unless}
use Rattle.layout.specs.declared.refusal.Refusal.{Refusal}
use Rattle.layout.specs.declared.refusal.Refusal.TheVariants.{NoLeg, Already}
use Rattle.layout.proofs.Listed.{mapped_mapped}
use Rattle.layers.specs.Day.{replacing, entered_leg, Wide, signed, figured, refuses_sign, refuses_set}
use Rattle.layers.specs.Day.{entered as with_sheet}
use Rattle.layers.specs.Relegged.{changed_from}
use Rattle.layers.specs.declared.sheet.Replaced.{Replaced}
use Rattle.layers.specs.declared.sheet.Sheet.{Sheet}
use Rattle.walks.specs.Book.{Book, shut, reopen, amended, amended_from, with_book, refusal_of, entered, after}
use Rattle.walks.specs.Book.{set as set_order, Replaced as Noted}
use Rattle.router.specs.Worked.{noted, SheetOf}

-- one leg
same_leg : (p : Plant) (b : Book) (s : Sheet) → SheetOf p b s → (e : ℕ) → e < length p.legs → (l : Leg) → entered_leg s e l ≡ amended (b.sign e) (b.replaced e) l
same_leg p b s sheet e below l =
    let sign = sheet.signs e below in
    let figures = sheet.figures e below in
    let class : unwrap_or (option_map (λ (r : Replaced). r.class) (replacing s e)) l.class ≡ unwrap_or (option_map (λ (r : Noted). r.class) (b.replaced e)) l.class
    = ap (λ o. unwrap_or o l.class) (sym (mapped_mapped noted (λ (r : Noted). r.class) (replacing s e)) ∙ ap (option_map (λ (r : Noted). r.class)) figures) in
    let clearance : unwrap_or (option_map (λ (r : Replaced). r.clearance) (replacing s e)) l.clearance ≡ unwrap_or (option_map (λ (r : Noted). r.clearance) (b.replaced e)) l.clearance
    = ap (λ o. unwrap_or o l.clearance) (sym (mapped_mapped noted (λ (r : Noted). r.clearance) (replacing s e)) ∙ ap (option_map (λ (r : Noted). r.clearance)) figures) in
    λ i. record {
      tail = l.tail;
      head = l.head;
      metres = l.metres;
      class = class i;
      clearance = clearance i;
      turn = l.turn;
      is_open = l.is_open && not (sign i);
    }

-- all of them, from number k on
same_legs : (p : Plant) (b : Book) (s : Sheet) → SheetOf p b s → (k : ℕ) (ls : List Leg) → k + length ls ≡ length p.legs → changed_from k (entered_leg s) ls ≡ amended_from b k ls
same_legs p b s sheet k [] all = refl
same_legs p b s sheet k (l ∷ ls) all =
    let here : k < length p.legs = omega (arith, all) in
    let rest : suc k + length ls ≡ length p.legs = omega (arith, all) in
    ap₂ (λ x xs. x ∷ xs) (same_leg p b s sheet k here l) (same_legs p b s sheet (suc k) ls rest)

-- the layout under the sheet is the book's
pub sheet_meaning : (p : Plant) (b : Book) (s : Sheet) → SheetOf p b s → with_sheet s p ≡ with_book p b
sheet_meaning p b s sheet i = record {
  halls = p.halls;
  hall_of = p.hall_of;
  legs = same_legs p b s sheet 0 p.legs (omega arith) i;
}

-- a check that the first test decides
decided : (ok : Bool) (r : Refusal) (later other : Option Refusal) → (ok ≡ true → later ≡ other) → refuse_unless ok r later ≡ refuse_unless ok r other
decided true r later other same = same refl
decided false r later other same = refl

-- shutting is refused as the book has it, and so is opening
pub shut_due : (p : Plant) (s : Sheet) (leg : ℕ) (b : Book) → SheetOf p b s → refuses_sign p s leg true ≡ refusal_of p b (shut leg)
shut_due p s leg b sheet = decided (ltb leg (length p.legs)) (NoLeg leg) _ _ (λ low.
    ap (λ x. refuse_unless (not x) (Already leg) None) (sheet.signs leg (ltb-true leg (length p.legs) low)))

pub open_due : (p : Plant) (s : Sheet) (leg : ℕ) (b : Book) → SheetOf p b s → refuses_sign p s leg false ≡ refusal_of p b (reopen leg)
open_due p s leg b sheet = decided (ltb leg (length p.legs)) (NoLeg leg) _ _ (λ low.
    ap (λ x. refuse_unless x (Already leg) None) (sheet.signs leg (ltb-true leg (length p.legs) low)))

pub set_due : (p : Plant) (s : Sheet) (leg class clearance : ℕ) (b : Book) → SheetOf p b s → refuses_set p leg class clearance ≡ refusal_of p b (set_order leg class clearance)
set_due p s leg class clearance b sheet = refl

-- a call that passed has a leg
pub leg_passed : (ok : Bool) (r : Refusal) (later : Option Refusal) → refuse_unless ok r later ≡ None → ok ≡ true
leg_passed true r later e = refl
leg_passed false r later e = absurd (let w : ⊥ = grind arith in w)

-- a place of a list that was set
get_or_put : {X : Type 0} (xs : List X) (leg e : ℕ) (x d : X) → leg < length xs → get_or (set xs leg x) e d ≡ cond (eqb e leg) x (get_or xs e d)
get_or_put xs leg e x d below =
    ⊎_elim
    (λ same. ap (λ k. get_or (set xs leg x) k d) same ∙ get_or-set_same xs leg x d below ∙ sym (ap (λ b. cond b x (get_or xs e d)) (eq-eqb e leg same)))
    (λ apart. get_or-set_other xs leg e x d apart ∙ sym (ap (λ b. cond b x (get_or xs e d)) (ne_eqb e leg apart)))
    (cases_eq e leg)

module _ (p : Plant) (sound : Sound p) (s : Sheet) (wide : Wide s) (leg : ℕ) where
  -- after a sign was put on or taken off
  signed_book : (b : Book) (on : Bool) → leg < length p.legs → SheetOf p b s
      → SheetOf p (record { sign = λ e. cond (eqb e leg) on (b.sign e); replaced = b.replaced }) (signed s leg on)
  signed_book b on below sheet =
      let few = sound.few_legs in
      let long = wide.0 in
      record {
        signs = λ e there. get_or_put s.shut leg e on false (omega (arith, below)) ∙ ap (λ x. cond (eqb e leg) on x) (sheet.signs e there);
        figures = sheet.figures;
      }

  -- after figures were replaced
  figured_book : (b : Book) (class clearance : ℕ) → leg < length p.legs → SheetOf p b s → SheetOf p (entered b (set_order leg class clearance)) (figured s leg class clearance)
  figured_book b class clearance below sheet =
      let few = sound.few_legs in
      let long = wide.1 in
      let inside : leg < length s.replaced = omega (arith, below) in
      record {
        signs = sheet.signs;
        figures = λ e there.
            ap (option_map noted) (get_or_put s.replaced leg e (Some (record { class = class; clearance = clearance })) None inside) ∙ pushed (eqb e leg) _ _ (sheet.figures e there);
      }
    where
      pushed : (b : Bool) (x : Replaced) (o : Option Replaced) {q : Option Noted} → option_map noted o ≡ q → option_map noted (cond b (Some x) o) ≡ cond b (Some (noted x)) q
      pushed true x o e = refl
      pushed false x o e = e

  -- the sheet after the call, carried out or refused
  written_after : (b : Book) (due : Option Refusal) (s' : Sheet) (b' : Book) → SheetOf p b s → (due ≡ None → SheetOf p b' s') → SheetOf p (unless due b b') (unless due s s')
  written_after b None s' b' sheet new = new refl
  written_after b (Some r) s' b' sheet new = sheet

  pub shut_written : (b : Book) → SheetOf p b s → SheetOf p (after p b (shut leg)) (unless (refuses_sign p s leg true) s (signed s leg true))
  shut_written b sheet =
      subst (λ due. SheetOf p (after p b (shut leg)) (unless due s (signed s leg true))) (sym (shut_due p s leg b sheet))
      (written_after b (refusal_of p b (shut leg)) (signed s leg true) (entered b (shut leg)) sheet (λ none. signed_book b true (ltb-true leg _ (leg_passed _ _ _ none)) sheet))

  pub open_written : (b : Book) → SheetOf p b s → SheetOf p (after p b (reopen leg)) (unless (refuses_sign p s leg false) s (signed s leg false))
  open_written b sheet =
      subst (λ due. SheetOf p (after p b (reopen leg)) (unless due s (signed s leg false))) (sym (open_due p s leg b sheet))
      (written_after b (refusal_of p b (reopen leg)) (signed s leg false) (entered b (reopen leg)) sheet (λ none. signed_book b false (ltb-true leg _ (leg_passed _ _ _ none)) sheet))

  pub set_written : (class clearance : ℕ) (b : Book) → SheetOf p b s → SheetOf p (after p b (set_order leg class clearance)) (unless (refuses_set p leg class clearance) s (figured s leg class clearance))
  set_written class clearance b sheet =
      written_after b (refusal_of p b (set_order leg class clearance)) (figured s leg class clearance) (entered b (set_order leg class clearance)) sheet
      (λ none. figured_book b class clearance (ltb-true leg _ (leg_passed _ _ _ none)) sheet)
