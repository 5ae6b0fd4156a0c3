-- Marking every leg for a hall. Assumes nothing.
use Rattle.std.proofs.Common.{◌≡◌, ℕ, ◌+◌, ◌≤◌, Bool, true, false, cond, ◌&&◌, eqb, ltb, sym, refl, ap, ◌∙◌, ⊎_elim, arith}
use Rattle.std.proofs.lemmas.Bool.{cases_eq, cases_lt, eq-eqb, ne_eqb, lt-ltb, le-ltb, and_right, and_left}
use Rattle.std.proofs.lemmas.Bool.Decides.{nat_tests}
use Rattle.layout.specs.Limits.{most_legs}
use Rattle.marks.specs.Mark.{is_marked, possible}
use Rattle.marks.specs.declared.words.Marks.{Marks}

-- the legs below i are marked for the hall, and all else is as it was
abbrev pub MarkedTo : ℕ → ℕ → Marks → Marks → Type 0
MarkedTo hall i old new = (h e : ℕ) → is_marked new h e ≡ cond (eqb h hall && ltb e i) (possible h e) (is_marked old h e)

-- at first none is
pub marked_none : (hall : ℕ) (old : Marks) → MarkedTo hall 0 old old
marked_none hall old h e = ap (λ b. cond b (possible h e) (is_marked old h e)) (sym (and_right (eqb h hall) (ltb e 0) (le-ltb e 0 (omega arith))))

and_true : (b : Bool) → (b && true) ≡ b
and_true true = refl
and_true false = refl

-- one leg more
pub marked_more :
    (hall i : ℕ) (old mid new : Marks) → MarkedTo hall i old mid
    → ((h e : ℕ) → is_marked new h e ≡ cond (eqb h hall && eqb e i) (possible hall i && true) (is_marked mid h e))
    → MarkedTo hall (i + 1) old new
marked_more hall i old mid new before put h e = grind (arith, nat_tests, before h e, put h e)

-- past the last leg nothing is marked, and nothing can be
pub marked_whole :
    (hall i : ℕ) (old new : Marks) → most_legs ≤ i → MarkedTo hall i old new
    → (h e : ℕ) → is_marked new h e ≡ cond (eqb h hall) (possible h e) (is_marked old h e)
marked_whole hall i old new all before h e =
    ⊎_elim
    (λ low. before h e ∙ ap (λ b. cond (eqb h hall && b) (possible h e) (is_marked old h e)) (lt-ltb e i low) ∙ ap (λ b. cond b (possible h e) (is_marked old h e)) (and_true (eqb h hall)))
    (λ high.
    let far = le-ltb e most_legs (omega (arith, high, all)) in
    let none : possible h e ≡ false = and_right _ _ far in
    let unmarked : (m : Marks) → is_marked m h e ≡ false = λ m. and_left _ _ none in
    unmarked new ∙ sym (⊎_elim
    (λ same. ap (λ b. cond b (possible h e) (is_marked old h e)) (eq-eqb h hall same) ∙ none)
    (λ other. ap (λ b. cond b (possible h e) (is_marked old h e)) (ne_eqb h hall other) ∙ unmarked old)
    (cases_eq h hall)))
    (cases_lt e i)
