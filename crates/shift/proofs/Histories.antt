-- A shift, turn by turn. Assumes nothing.
use Rattle.std.proofs.Common.{◌≡◌, ℕ, ◌+◌, ◌<◌, ◌≤◌, List, [], ◌∷◌, ◌++◌, length, get_or, take, drop, set, Some, sym, refl, ap, ◌∙◌, subst, arith}
use Rattle.std.proofs.lemmas.List.{take_more, take_more_set, take_all, drop-set-lt, get_or-drop, drop-drop, map_push}
use Rattle.measure.specs.Scale.{Scale, Lawful}
use Rattle.layers.specs.declared.sheet.Sheet.{Sheet}
use Rattle.layout.specs.Plant.{Plant, Sound}
use Rattle.halls.specs.declared.force.HallMarks.{HallMarks}
use Rattle.walks.specs.Answers.{Answer, Answered, Told}
use Rattle.walks.specs.Book.{Call, Book, blank, kept, after, book}
use Rattle.walks.specs.Orders.{Marks, all_lapsed, Turns, Leaves}
use Rattle.walks.proofs.Left.{marks_left}
use Rattle.router.specs.Worked.{Worked}
use Rattle.shift.specs.Turns.{lent, call_of, calls_of, Says, Replied, AnswersCall, AnswersShift}
use Rattle.shift.specs.declared.turn.Places.{Places}
use Rattle.shift.specs.declared.turn.Reply.{Reply}
use Rattle.shift.specs.declared.turn.Turn.{Turn}

-- one call more gets one answer more
told_more :
    {T : Type 0} (m : Scale T) (p : Plant) (b : Book) (k : Marks) (calls : List Call) (answers : List (Answer T)) (k₁ : Marks) (call : Call) (a : Answer T) (k₂ : Marks)
    → Told m p b k calls answers k₁ → Turns m p (kept p b calls) k₁ call k₂ → Answered m p (kept p b calls) k₁ k₂ call a
    → Told m p b k (calls ++ (call ∷ [])) (answers ++ (a ∷ [])) k₂
told_more m p b k [] [] k₁ call a k₂ same turns answered =
    (k₂, subst (λ x. Turns m p b x call k₂) same turns, subst (λ x. Answered m p b x k₂ call a) same answered, refl)
told_more m p b k [] (x ∷ xs) k₁ call a k₂ told turns answered = absurd told
told_more m p b k (c ∷ cs) [] k₁ call a k₂ told turns answered = absurd told
told_more m p b k (c ∷ cs) (x ∷ xs) k₁ call a k₂ (mid, turned, first, rest) turns answered =
    (mid, turned, first, told_more m p (after p b c) mid cs xs k₁ call a k₂ rest turns answered)

-- the last call of a list turned the marks that the others left
leaves_split :
    {T : Type 0} (m : Scale T) (p : Plant) (b : Book) (k : Marks) (calls : List Call) (call : Call) (k₂ : Marks) → Leaves m p b k (calls ++ (call ∷ [])) k₂
    → (k₁ : Marks) × Leaves m p b k calls k₁ × Turns m p (kept p b calls) k₁ call k₂
leaves_split m p b k [] call k₂ (mid, turns, same) = (k, refl, subst (Turns m p b k call) (sym same) turns)
leaves_split m p b k (c ∷ cs) call k₂ (mid, turned, rest) =
    let split = leaves_split m p (after p b c) mid cs call k₂ rest in
    (split.0, (mid, turned, split.1), split.2)

-- one turn more
replied_more :
    {T : Type 0} (ts us : List (Turn T)) (answers : List (Answer T)) (t u : Turn T) (a : Answer T) (r : Reply T) → Replied ts us answers
    → u.order ≡ t.order → u.places ≡ t.places → u.reply ≡ Some r → Says r a → Replied (ts ++ (t ∷ [])) (us ++ (u ∷ [])) (answers ++ (a ∷ []))
replied_more [] [] [] t u a r replied order places reply says = (order, places, (r, reply, says), tt)
replied_more [] [] (x ∷ xs) t u a r replied order places reply says = absurd replied
replied_more [] (v ∷ vs) answers t u a r replied order places reply says = absurd replied
replied_more (s ∷ ss) [] answers t u a r replied order places reply says = absurd replied
replied_more (s ∷ ss) (v ∷ vs) [] t u a r replied order places reply says = absurd replied
replied_more (s ∷ ss) (v ∷ vs) (x ∷ xs) t u a r (same, alike, told, rest) order places reply says =
    (same, alike, told, replied_more ss vs xs t u a r rest order places reply says)

-- the turns below i were carried out, and the others are as they were
pub record SoFar {T : Type 0} (m : Scale T) (p : Plant) (there : Places) (i : ℕ) (turns turns' : List (Turn T)) (s : Sheet) (halls : HallMarks) : Type 0 where
  pub worked : Worked m p (calls_of there (take i turns)) s halls
  pub answers : List (Answer T)
  pub told : Told m p blank all_lapsed (calls_of there (take i turns)) answers worked.now_marks
  pub replied : Replied (take i turns) (take i turns') answers
  pub rest : drop i turns' ≡ drop i turns

pub first_turn : {T : Type 0} {m : Scale T} {p : Plant} {there : Places} {turns : List (Turn T)} {s : Sheet} {halls : HallMarks} → Worked m p [] s halls → SoFar m p there 0 turns turns s halls
first_turn w = record { worked = w; answers = []; told = w.left; replied = tt; rest = refl }

module _ {T : Type 0} {m : Scale T} (laws : Lawful m) (p : Plant) (sound : Sound p) (there : Places) where
  pub next_turn :
      (i : ℕ) (turns turns' : List (Turn T)) (s s' : Sheet) (old new : HallMarks) (turn : Turn T) (reply : Reply T) → i < length turns → i < length turns'
      → SoFar m p there i turns turns' s old → turn ≡ get_or turns' i turn
      → AnswersCall m p (call_of turn.order (lent turn.places there)) s old s' new reply
      → SoFar m p there (i + 1) turns (set turns' i (record { order = turn.order; places = turn.places; reply = Some reply })) s' new
  next_turn i turns turns' s s' old new turn reply below inside far is (a, says, goes) =
      record { worked = moved.0; answers = far.answers ++ (a ∷ []); told = moved.1; replied = replied; rest = rest }
    where
      call : Call
      call = call_of turn.order (lent turn.places there)

      calls : List Call
      calls = calls_of there (take i turns)

      after_turn : Turn T
      after_turn = record { order = turn.order; places = turn.places; reply = Some reply }

      -- the turn is the one that was ordered
      ordered : turn ≡ get_or turns i turn
      ordered =
          let here : i ≡ i + 0 = omega arith in
          is ∙ ap (λ n. get_or turns' n turn) here ∙ sym (get_or-drop i turns' 0 turn) ∙ ap (λ l. get_or l 0 turn) far.rest ∙ get_or-drop i turns 0 turn ∙ ap (λ n. get_or turns n turn) (sym here)

      front : take (i + 1) turns ≡ take i turns ++ (turn ∷ [])
      front = take_more turns i turn below ∙ ap (λ t. take i turns ++ (t ∷ [])) (sym ordered)

      more : calls_of there (take (i + 1) turns) ≡ calls ++ (call ∷ [])
      more = ap (calls_of there) front ∙ map_push (λ t. call_of t.order (lent t.places there)) (take i turns) turn

      then : Worked m p (calls ++ (call ∷ [])) s' new
      then = goes.worked calls far.worked

      told : Told m p blank all_lapsed (calls ++ (call ∷ [])) (far.answers ++ (a ∷ [])) then.now_marks
      told =
          let split = leaves_split m p blank all_lapsed calls call then.now_marks then.left in
          let only = (marks_left laws p sound calls).2 in
          let same : split.0 ≡ far.worked.now_marks = only split.0 split.1 ∙ sym (only far.worked.now_marks far.worked.left) in
          told_more m p blank all_lapsed calls far.answers far.worked.now_marks call a then.now_marks far.told
          (subst (λ k. Turns m p (book p calls) k call then.now_marks) same split.2)
          (goes.answered calls far.worked far.worked.now_marks then.now_marks far.worked.left then.left)

      moved : (w : Worked m p (calls_of there (take (i + 1) turns)) s' new) × Told m p blank all_lapsed (calls_of there (take (i + 1) turns)) (far.answers ++ (a ∷ [])) w.now_marks
      moved = subst (λ (cs : List Call). (w : Worked m p cs s' new) × Told m p blank all_lapsed cs (far.answers ++ (a ∷ [])) w.now_marks) (sym more) (then, told)

      replied : Replied (take (i + 1) turns) (take (i + 1) (set turns' i after_turn)) (far.answers ++ (a ∷ []))
      replied =
          subst (λ ts. Replied ts (take (i + 1) (set turns' i after_turn)) (far.answers ++ (a ∷ []))) (sym front)
          (subst (λ us. Replied (take i turns ++ (turn ∷ [])) us (far.answers ++ (a ∷ []))) (sym (take_more_set turns' i after_turn inside))
          (replied_more (take i turns) (take i turns') far.answers turn after_turn a reply far.replied refl refl refl says))

      rest : drop (i + 1) (set turns' i after_turn) ≡ drop (i + 1) turns
      rest = drop-set-lt (i + 1) turns' i after_turn (omega arith) ∙ sym (drop-drop 1 i turns') ∙ ap (drop 1) far.rest ∙ drop-drop 1 i turns

-- all turns
pub all_turns : {T : Type 0} {m : Scale T} {p : Plant} {there : Places} {i : ℕ} {turns turns' : List (Turn T)} {s : Sheet} {halls : HallMarks} → length turns ≤ i → length turns' ≤ i
    → SoFar m p there i turns turns' s halls → Worked m p (calls_of there turns) s halls × AnswersShift m p there turns turns'
all_turns {T = T} {m = m} {p = p} {there = there} {i = i} {turns = turns} {turns' = turns'} {s = s} {halls = halls} long long' far =
    let moved : (w : Worked m p (calls_of there turns) s halls) × Told m p blank all_lapsed (calls_of there turns) far.answers w.now_marks × Replied turns (take i turns') far.answers
    = subst (λ (ts : List (Turn T)). (w : Worked m p (calls_of there ts) s halls) × Told m p blank all_lapsed (calls_of there ts) far.answers w.now_marks × Replied ts (take i turns') far.answers) (take_all i turns long)
    (far.worked, far.told, far.replied) in
    (moved.0, record { answers = far.answers; marks_left = moved.0.now_marks; told = moved.1; replied = subst (λ us. Replied turns us far.answers) (take_all i turns' long') moved.2 })
