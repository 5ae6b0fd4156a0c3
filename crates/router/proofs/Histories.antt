-- One call more in a history. Assumes nothing.
use Rattle.std.proofs.Common.{◌≡◌, ℕ, zero, suc, ◌+◌, ◌<◌, Bool, true, false, cond, not, ◌&&◌, ◌||◌, ltb, List, [], ◌∷◌, ◌++◌, length, Some, None, Ok, Err, Option, Result, sym, refl, ap, ◌∙◌, subst, arith, MatchOption}
use Rattle.std.proofs.lemmas.Bool.{lt-ltb}
use Rattle.measure.specs.Scale.{Scale, Lawful}
use Rattle.layout.specs.Plant.{Plant, Sound}
use Rattle.layout.specs.declared.refusal.Refusal.{Refusal}
use Rattle.layers.specs.declared.sheet.Sheet.{Sheet}
use Rattle.marks.specs.Mark.{is_marked, possible}
use Rattle.halls.specs.Force.{in_force, Lapsed}
use Rattle.halls.specs.Force.{lapsing as lapsing_of}
use Rattle.halls.specs.declared.force.HallMarks.{HallMarks}
use Rattle.halls.specs.declared.force.Strikes.{Strikes}
use Rattle.halls.proofs.Counted.{count_more}
use Rattle.walks.specs.Answers.{Answer, refused, count_below, Answered}
use Rattle.walks.specs.Answers.{halls as halls_answer, CarriedOut, halls_lapsed}
use Rattle.walks.specs.Book.{Call, Book, blank, book, kept, after, refusal_of}
use Rattle.walks.specs.Orders.{Marks, Left, lapsed, lapsing, Acts, Turns}
use Rattle.walks.proofs.Left.{marks_left, carries_on}
use Rattle.router.specs.Ordered.{Ordered, lapsed_answer}
use Rattle.router.specs.Worked.{SheetOf, MarksOf, Worked, GoesOn}

-- the book after one call more
kept_more : (p : Plant) (b : Book) (calls : List Call) (call : Call) → kept p b (calls ++ (call ∷ [])) ≡ after p (kept p b calls) call
kept_more p b [] call = refl
kept_more p b (c ∷ calls) call = kept_more p (after p b c) calls call

pub book_more : (p : Plant) (calls : List Call) (call : Call) → book p (calls ++ (call ∷ [])) ≡ after p (book p calls) call
book_more p calls call = kept_more p blank calls call

-- counts of tests that agree below the bound
pub count_same : (n : ℕ) (test other : ℕ → Bool) → ((i : ℕ) → i < n → test i ≡ other i) → count_below n test ≡ count_below n other
count_same zero test other same = refl
count_same (suc n) test other same =
    let here : n < suc n = omega arith in
    count_more n test ∙ ap (λ k. k + cond (test n) 1 0) (count_same n test other (λ i below. same i (omega (arith, below))))
    ∙ ap (λ b. count_below n other + cond b 1 0) (same n here) ∙ sym (count_more n other)

module _ {T : Type 0} {m : Scale T} (laws : Lawful m) (p : Plant) (sound : Sound p) where
  -- a history leaves one set of marks
  same_marks : (calls : List Call) (k other : Marks) → Left m p calls k → Left m p calls other → other ≡ k
  same_marks calls k other here there =
      let only = (marks_left laws p sound calls).2 in
      only other there ∙ sym (only k here)

  -- a call that turns the marks and the sheet as the book has it goes on
  pub goes_on_by :
      (call : Call) (a : Answer T) (s s' : Sheet) (halls halls' : HallMarks)
      → ((b : Book) → SheetOf p b s → SheetOf p (after p b call) s')
      → ((b : Book) (k : Marks) → SheetOf p b s → MarksOf p k halls → (k' : Marks) × Turns m p b k call k' × MarksOf p k' halls' × Answered m p b k k' call a)
      → GoesOn m p call a s halls s' halls'
  goes_on_by call a s s' halls halls' written turned = record { worked = worked; answered = answered }
    where
      worked : (calls : List Call) → Worked m p calls s halls → Worked m p (calls ++ (call ∷ [])) s' halls'
      worked calls w =
          let turn = turned (book p calls) w.now_marks w.sheet w.marks in
          record {
            sheet = subst (λ b. SheetOf p b s') (sym (book_more p calls call)) (written (book p calls) w.sheet);
            now_marks = turn.0;
            left = carries_on laws p calls w.now_marks w.left call turn.0 turn.1;
            marks = turn.2;
          }

      answered : (calls : List Call) → Worked m p calls s halls → (k k' : Marks) → Left m p calls k → Left m p (calls ++ (call ∷ [])) k' → Answered m p (book p calls) k k' call a
      answered calls w k k' left left' =
          let turn = turned (book p calls) w.now_marks w.sheet w.marks in
          let more = carries_on laws p calls w.now_marks w.left call turn.0 turn.1 in
          let was = same_marks calls w.now_marks k w.left left in
          let is = same_marks (calls ++ (call ∷ [])) turn.0 k' more left' in
          subst (λ x. Answered m p (book p calls) x k' call a) (sym was) (subst (λ y. Answered m p (book p calls) w.now_marks y call a) (sym is) turn.3)

  -- the marks after halls have lapsed
  lapsed_marks :
      (k : Marks) (old new : HallMarks) (out : ℕ → Bool) (strikes : Strikes) → MarksOf p k old
      → Lapsed (λ h. ltb h p.halls && lapsing_of old strikes h) old new → ((h : ℕ) → h < p.halls → lapsing_of old strikes h ≡ out h)
      → MarksOf p (lapsed out k) new
  lapsed_marks k old new out strikes marks l same =
      let outs : (h : ℕ) → h < p.halls → (ltb h p.halls && lapsing_of old strikes h) ≡ out h
      = λ h below. ap (λ b. b && lapsing_of old strikes h) (lt-ltb h p.halls below) ∙ same h below in
      let can : (h e : ℕ) → h < p.halls → e < length p.legs → possible h e ≡ true
      = λ h e hall leg.
      let few_halls = sound.few_halls in
      let few_legs = sound.few_legs in
      ap (λ b. b && ltb e 512) (lt-ltb h 32 (omega (arith, hall))) ∙ lt-ltb e 512 (omega (arith, leg)) in
      record {
        force = λ h below. l.force h ∙ ap (λ b. in_force old.force h && not b) (outs h below) ∙ ap (λ b. b && not (out h)) (marks.force h below);
        marked = λ h e hall leg.
            l.marks h e ∙ ap (λ b. is_marked old.marks h e || (b && possible h e)) (outs h hall) ∙ ap (λ b. is_marked old.marks h e || (out h && b)) (can h e hall leg)
            ∙ ap (λ b. is_marked old.marks h e || b) (and_true (out h)) ∙ ap (λ b. b || out h) (marks.marked h e hall leg);
      }
    where
      and_true : (b : Bool) → (b && true) ≡ b
      and_true true = refl
      and_true false = refl

  -- an order on the sheet goes on
  pub order_goes_on :
      (call : Call) (s s' : Sheet) (old new : HallMarks) (due : Option Refusal) (strikes : Strikes) (r : Result ℕ Refusal)
      → ((b : Book) → SheetOf p b s → due ≡ refusal_of p b call)
      → ((b : Book) → SheetOf p b s → SheetOf p (after p b call) s')
      → ((b : Book) (k : Marks) → SheetOf p b s → MarksOf p k old → due ≡ None → (h : ℕ) → h < p.halls → lapsing_of old strikes h ≡ lapsing m p b k call h)
      → ((b : Book) (k : Marks) → Acts m p b k call (lapsed (lapsing m p b k call) k))
      → ((b : Book) (k k' : Marks) (n : ℕ) → n ≡ halls_lapsed m p b k call → CarriedOut m p b k k' call (halls_answer n))
      → Ordered p due strikes old new r
      → GoesOn m p call (lapsed_answer r) s old s' new
  order_goes_on call s s' old new due strikes (Ok n) refusals written strikes_same acts tells (none, lapses) =
      goes_on_by call (halls_answer n) s s' old new written (λ b k sheet marks.
      let out = lapsing m p b k call in
      let same = strikes_same b k sheet marks none in
      let free : refusal_of p b call ≡ None = sym (refusals b sheet) ∙ none in
      let turns : Turns m p b k call (lapsed out k) = subst (λ o. MatchOption o (Acts m p b k call (lapsed out k)) (λ r. lapsed out k ≡ k)) (sym free) (acts b k) in
      let counted : n ≡ halls_lapsed m p b k call = lapses.counted ∙ count_same p.halls _ out same in
      let told : Answered m p b k (lapsed out k) call (halls_answer n)
      = subst (λ o. MatchOption o (CarriedOut m p b k (lapsed out k) call (halls_answer n)) (λ x. ◌≡◌ {A = Answer T} (halls_answer n) (refused x))) (sym free) (tells b k (lapsed out k) n counted) in
      (lapsed out k, turns, lapsed_marks k old new out strikes marks lapses.lapsed same, told))
  order_goes_on call s s' old new due strikes (Err r) refusals written strikes_same acts tells (some, same) =
      goes_on_by call (refused r) s s' old new written (λ b k sheet marks.
      let held : refusal_of p b call ≡ Some r = sym (refusals b sheet) ∙ some in
      let turns : Turns m p b k call k = subst (λ o. MatchOption o (Acts m p b k call k) (λ r. k ≡ k)) (sym held) refl in
      let told : Answered m p b k k call (refused r) = subst (λ o. MatchOption o (CarriedOut m p b k k call (refused r)) (λ x. ◌≡◌ {A = Answer T} (refused r) (refused x))) (sym held) refl in
      (k, turns, subst (MarksOf p k) (sym same) marks, told))
