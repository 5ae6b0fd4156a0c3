-- Renewing goes on as the crew's book has it. Assumes nothing.
use Rattle.std.proofs.Common.{◌≡◌, ℕ, suc, ◌<◌, true, cond, ◌&&◌, eqb, ltb, ◌↔◌, List, [], ◌∷◌, length, Some, None, Ok, Err, Option, Result, sym, refl, ap, ◌∙◌, subst, inl, ⊎_elim, MatchOption}
use Rattle.std.proofs.lemmas.Bool.{cases_eq, eq-eqb, ne_eqb, lt-ltb, and_parts, and_from, ltb-true}
use Rattle.measure.specs.Scale.{Scale, Lawful}
use Rattle.layers.specs.Day.{entered, entered_leg}
use Rattle.layers.specs.Relegged.{changed_from}
use Rattle.layers.specs.declared.sheet.Sheet.{Sheet}
use Rattle.layout.specs.Plant.{Plant, Sound}
use Rattle.layout.specs.Refused.{unless}
use Rattle.layout.specs.declared.refusal.Refusal.{Refusal}
use Rattle.marks.specs.Mark.{is_marked}
use Rattle.halls.specs.Force.{in_force}
use Rattle.halls.specs.declared.force.HallMarks.{HallMarks}
use Rattle.walks.specs.Answers.{Answer, refused, count_below, CarriedOut, Answered}
use Rattle.walks.specs.Answers.{legs as legs_answer}
use Rattle.walks.specs.Book.{Book, with_book, refusal_of}
use Rattle.walks.specs.Marks.{Exactly, Flagged}
use Rattle.walks.specs.Net.{net, hall_at}
use Rattle.walks.specs.Orders.{Marks, Acts, Turns}
use Rattle.walks.specs.Orders.{Renewed as RenewedMarks}
use Rattle.walks.proofs.Nets.{net_finite}
use Rattle.search.specs.Desk.{Desk}
use Rattle.renew.specs.Flags.{Written}
use Rattle.renew.specs.Renewed.{Renewed}
use Rattle.router.specs.Ordered.{marked_answer}
use Rattle.router.specs.Renewing.{Enforced, renewing, RenewsHall}
use Rattle.router.specs.Worked.{SheetOf, MarksOf, GoesOn}
use Rattle.router.proofs.Histories.{goes_on_by, count_same}
use Rattle.router.proofs.Sheets.{sheet_meaning}

changed_length : {X Y : Type 0} (k : ℕ) (f : ℕ → X → Y) (xs : List X) → length (changed_from k f xs) ≡ length xs
changed_length k f [] = refl
changed_length k f (x ∷ xs) = ap suc (changed_length (suc k) f xs)

same_halls : (a b : HallMarks) → a.marks ≡ b.marks → a.force ≡ b.force → a ≡ b
same_halls a b marks force i = record { marks = marks i; force = force i }

-- a call that enters nothing leaves the book
pub nothing_entered : (p : Plant) (b : Book) (s : Sheet) (due : Option Refusal) → SheetOf p b s → SheetOf p (unless due b b) s
nothing_entered p b s None sheet = sheet
nothing_entered p b s (Some r) sheet = sheet

module _ {T : Type 0} {m : Scale T} (laws : Lawful m) (p : Plant) (sound : Sound p) (s : Sheet) (q_sound : Sound (entered s p)) (hall : ℕ) (old new : HallMarks) (d : Desk T) where
  -- the marks that renewing leaves
  abbrev renewed : Marks → Marks
  renewed k = record {
    force = λ h. cond (eqb h hall) true (k.force h);
    marked = λ h e. cond (eqb h hall) (ltb e (length p.legs) && is_marked new.marks hall e) (k.marked h e);
  }

  legs_same : length (entered s p).legs ≡ length p.legs
  legs_same = changed_length 0 (entered_leg s) p.legs

  here : (k : Marks) (e : ℕ) → (renewed k).marked hall e ≡ (ltb e (length p.legs) && is_marked new.marks hall e)
  here k e = ap (λ b. cond b (ltb e (length p.legs) && is_marked new.marks hall e) (k.marked hall e)) (eq-eqb hall hall refl)

  module _ (written : Written hall (length (entered s p).legs) (Flagged m (net m (entered s p)) (hall_at (entered s p)) hall) old.marks new.marks) where
    -- exactly the flagged legs
    flags : (k : Marks) (e : ℕ) → ((renewed k).marked hall e ≡ true) ↔ Flagged m (net m (entered s p)) (hall_at (entered s p)) hall e
    flags k e = subst (λ b. (b ≡ true) ↔ Flagged m (net m (entered s p)) (hall_at (entered s p)) hall e) (sym (here k e)) (to, from)
      where
        to : (ltb e (length p.legs) && is_marked new.marks hall e) ≡ true → Flagged m (net m (entered s p)) (hall_at (entered s p)) hall e
        to h =
            let parts = and_parts _ _ h in
            let below : e < length (entered s p).legs = subst (λ n. e < n) (sym legs_same) (ltb-true e (length p.legs) parts.0) in
            (written.exactly e below).0 parts.1

        from : Flagged m (net m (entered s p)) (hall_at (entered s p)) hall e → (ltb e (length p.legs) && is_marked new.marks hall e) ≡ true
        from f =
            let below = (net_finite m (entered s p) q_sound).leg_exists e f.usable in
            and_from _ _ (lt-ltb e (length p.legs) (subst (λ n. e < n) legs_same below)) ((written.exactly e below).1 f)

    acts : (b : Book) (k : Marks) → SheetOf p b s → RenewedMarks m (with_book p b) hall k (renewed k)
    acts b k sheet = record {
      in_force = ap (λ x. cond x true (k.force hall)) (eq-eqb hall hall refl);
      exactly = subst (λ q. Exactly m (net m q) (hall_at q) hall ((renewed k).marked hall)) (sheet_meaning p b s sheet) (flags k);
      others = λ h apart. record {
        same_force = ap (λ x. cond x true (k.force h)) (ne_eqb h hall apart);
        same_marks = λ e. ap (λ x. cond x (ltb e (length p.legs) && is_marked new.marks hall e) (k.marked h e)) (ne_eqb h hall apart);
      };
    }

    marks_after : (k : Marks) → MarksOf p k old → ((h : ℕ) → in_force new.force h ≡ cond (eqb h hall) true (in_force old.force h)) → MarksOf p (renewed k) new
    marks_after k marks enforced = record {
      force = λ h below. enforced h ∙ ap (λ x. cond (eqb h hall) true x) (marks.force h below);
      marked = λ h e below leg.
          ⊎_elim
          (λ same.
          ap (λ x. is_marked new.marks x e) same ∙ ap (λ b. b && is_marked new.marks hall e) (sym (lt-ltb e (length p.legs) leg))
          ∙ ap (λ b. cond b (ltb e (length p.legs) && is_marked new.marks hall e) (k.marked h e)) (sym (eq-eqb h hall same)))
          (λ apart.
          written.others h e (inl apart) ∙ marks.marked h e below leg
          ∙ ap (λ b. cond b (ltb e (length p.legs) && is_marked new.marks hall e) (k.marked h e)) (sym (ne_eqb h hall apart)))
          (cases_eq h hall);
    }

  pub renew_goes_on : (d' : Desk T) (r : Result ℕ Refusal) → Renewed m (entered s p) hall old.marks new.marks d d' r → Enforced hall old.force new.force r
      → GoesOn m p (renewing hall d) (marked_answer r) s old s new
  renew_goes_on d' (Ok n) (none, renews) enforced =
      let free : (b : Book) → refusal_of p b (renewing hall d) ≡ None = λ b. none in
      goes_on_by laws p sound (renewing hall d) (legs_answer n) s s old new
      (λ b sheet. nothing_entered p b s (refusal_of p b (renewing hall d)) sheet)
      (λ b k sheet marks.
      let turns : Turns m p b k (renewing hall d) (renewed k) = subst (λ o. MatchOption o (Acts m p b k (renewing hall d) (renewed k)) (λ x. renewed k ≡ k)) (sym (free b)) (acts renews.marks b k sheet) in
      let counted : n ≡ count_below (length p.legs) ((renewed k).marked hall)
      = renews.counted ∙ ap (λ l. count_below l (is_marked new.marks hall)) legs_same
      ∙ count_same (length p.legs) _ _ (λ i below. sym (here k i ∙ ap (λ x. x && is_marked new.marks hall i) (lt-ltb i (length p.legs) below))) in
      let told : Answered m p b k (renewed k) (renewing hall d) (legs_answer n)
      = subst (λ o. MatchOption o (CarriedOut m p b k (renewed k) (renewing hall d) (legs_answer n)) (λ x. ◌≡◌ {A = Answer T} (legs_answer n) (refused x))) (sym (free b)) (ap (λ x. legs_answer x) counted) in
      (renewed k, turns, marks_after renews.marks k marks enforced, told))
  renew_goes_on d' (Err r) (some, same, tables) enforced =
      goes_on_by laws p sound (renewing hall d) (refused r) s s old new
      (λ b sheet. nothing_entered p b s (refusal_of p b (renewing hall d)) sheet)
      (λ b k sheet marks.
      let held : refusal_of p b (renewing hall d) ≡ Some r = some in
      let turns : Turns m p b k (renewing hall d) k = subst (λ o. MatchOption o (Acts m p b k (renewing hall d) k) (λ x. k ≡ k)) (sym held) refl in
      let told : Answered m p b k k (renewing hall d) (refused r) = subst (λ o. MatchOption o (CarriedOut m p b k k (renewing hall d) (refused r)) (λ x. ◌≡◌ {A = Answer T} (refused r) (refused x))) (sym held) refl in
      (k, turns, subst (MarksOf p k) (sym (same_halls new old same enforced)) marks, told))

  pub renews_hall : (d' : Desk T) (r : Result ℕ Refusal) → Renewed m (entered s p) hall old.marks new.marks d d' r → Enforced hall old.force new.force r → RenewsHall m p hall s old new d d' r
  renews_hall d' r marks force = record { marks = marks; force = force; book = renew_goes_on d' r marks force }
