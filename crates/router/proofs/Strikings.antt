-- Orders strike the halls that the crew's book says. Assumes nothing.
use Rattle.std.proofs.Common.{◌≡◌, ℕ, suc, ◌<◌, Bool, true, false, cond, ◌&&◌, ◌||◌, List, [], ◌∷◌, length, Some, None, Result, sym, refl, ap, ◌∙◌, subst, ap₂}
use Rattle.std.specs.Option.{option_map}
use Rattle.std.proofs.lemmas.Option.{slice_get-get_or}
use Rattle.std.proofs.lemmas.Bool.{ltb-true}
use Rattle.measure.specs.Scale.{Scale, Lawful}
use Rattle.layout.specs.Plant.{Leg, Plant, Sound}
use Rattle.layout.specs.Refused.{unless}
use Rattle.layout.specs.declared.refusal.Refusal.{Refusal}
use Rattle.layers.specs.Day.{Wide, signed, figured, refuses_sign, refuses_set}
use Rattle.layers.specs.Day.{entered as with_sheet}
use Rattle.layers.specs.declared.sheet.Sheet.{Sheet}
use Rattle.marks.specs.Mark.{is_marked}
use Rattle.halls.specs.Force.{struck}
use Rattle.halls.specs.Force.{lapsing as lapsing_of}
use Rattle.halls.specs.declared.force.HallMarks.{HallMarks}
use Rattle.halls.specs.declared.force.Strikes.TheVariants as strike
use Rattle.walks.specs.Answers.{halls as halls_answer}
use Rattle.walks.specs.Book.{Book, shut, reopen, with_book, amended_from, entered}
use Rattle.walks.specs.Book.{set as set_order}
use Rattle.walks.specs.Net.{no_leg, leg_at, weight_of, weight_if_any}
use Rattle.walks.specs.Orders.{Marks, lapsing}
use Rattle.router.specs.Ordered.{Ordered, lapsed_answer, Carries}
use Rattle.router.specs.Struck.{changed, open_weight, set_strikes}
use Rattle.router.specs.Worked.{SheetOf, MarksOf, GoesOn}
use Rattle.router.proofs.Histories.{order_goes_on}
use Rattle.router.proofs.Sheets.{sheet_meaning, shut_due, open_due, set_due, leg_passed, shut_written, open_written, set_written}

-- whom a change of weight strikes
struck_changed : {T : Type 0} (m : Scale T) (leg : ℕ) (is_open : Bool) (x y : T) (marks : ℕ → Bool)
    → struck (changed m leg (cond is_open (Some x) None) (Some y)) marks ≡ (is_open && ((m.below x y && marks leg) || m.below y x))
struck_changed m leg false x y marks = refl
struck_changed m leg true x y marks = by (m.below y x) (m.below x y)
  where
    or_true : (b : Bool) → true ≡ (b || true)
    or_true true = refl
    or_true false = refl

    or_false : (b : Bool) → b ≡ (b || false)
    or_false true = refl
    or_false false = refl

    by : (lower higher : Bool) → struck (cond lower strike.Every (cond higher (strike.Marking leg) strike.None)) marks ≡ ((higher && marks leg) || lower)
    by true higher = or_true (higher && marks leg)
    by false true = or_false (marks leg)
    by false false = refl

-- a leg that exists has a weight
weight_exists : {T : Type 0} (m : Scale T) (q : Plant) (e : ℕ) → e < length q.legs → weight_if_any m q e ≡ Some (weight_of m q e)
weight_exists m q e below = ap (option_map (λ l. weight_of m q e)) (slice_get-get_or q.legs e no_leg below)

pub amended_length : (b : Book) (k : ℕ) (ls : List Leg) → length (amended_from b k ls) ≡ length ls
amended_length b k [] = refl
amended_length b k (l ∷ ls) = ap suc (amended_length b (suc k) ls)

module _ {T : Type 0} {m : Scale T} (laws : Lawful m) (p : Plant) (sound : Sound p) (s : Sheet) (wide : Wide s) (old new : HallMarks) (leg : ℕ) where
  -- a hall that is struck by a leg's marks
  marking_same : (k : Marks) → MarksOf p k old → leg < length p.legs → (h : ℕ) → h < p.halls → lapsing_of old (strike.Marking leg) h ≡ (k.force h && k.marked h leg)
  marking_same k marks below h hall = ap₂ ◌&&◌ (marks.force h hall) (marks.marked h leg hall below)

  pub shut_goes_on : (r : Result ℕ Refusal) → Ordered p (refuses_sign p s leg true) (strike.Marking leg) old new r
      → GoesOn m p (shut leg) (lapsed_answer r) s old (unless (refuses_sign p s leg true) s (signed s leg true)) new
  shut_goes_on r ordered =
      order_goes_on laws p sound (shut leg) s _ old new (refuses_sign p s leg true) (strike.Marking leg) r
      (shut_due p s leg)
      (shut_written p sound s wide leg)
      (λ b k sheet marks none h hall. marking_same k marks (ltb-true leg _ (leg_passed _ _ _ none)) h hall)
      (λ b k. refl)
      (λ b k k' n e. ap (λ x. halls_answer x) e)
      ordered

  pub open_goes_on : (r : Result ℕ Refusal) → Ordered p (refuses_sign p s leg false) strike.Every old new r
      → GoesOn m p (reopen leg) (lapsed_answer r) s old (unless (refuses_sign p s leg false) s (signed s leg false)) new
  open_goes_on r ordered =
      order_goes_on laws p sound (reopen leg) s _ old new (refuses_sign p s leg false) strike.Every r
      (open_due p s leg)
      (open_written p sound s wide leg)
      (λ b k sheet marks none h hall. ap (λ x. x && true) (marks.force h hall))
      (λ b k. refl)
      (λ b k k' n e. ap (λ x. halls_answer x) e)
      ordered

  module _ (class clearance : ℕ) where
    -- the strikes of a set order that is carried out
    set_same : (b : Book) (k : Marks) → SheetOf p b s → MarksOf p k old → refuses_set p leg class clearance ≡ None
        → (h : ℕ) → h < p.halls → lapsing_of old (set_strikes m p s leg class clearance) h ≡ lapsing m p b k (set_order leg class clearance) h
    set_same b k sheet marks none h hall =
        let below : leg < length p.legs = ltb-true leg _ (leg_passed _ _ _ none) in
        let before = sheet_meaning p b s sheet in
        let after_sheet : SheetOf p (entered b (set_order leg class clearance)) (figured s leg class clearance)
        = subst (λ due. SheetOf p (unless due b (entered b (set_order leg class clearance))) (unless due s (figured s leg class clearance))) none (set_written p sound s wide leg class clearance b sheet) in
        let then = sheet_meaning p (entered b (set_order leg class clearance)) _ after_sheet in
        let old_weight : open_weight m (with_sheet s p) leg ≡ open_weight m (with_book p b) leg = ap (λ q. open_weight m q leg) before in
        let new_weight : weight_if_any m (with_sheet (figured s leg class clearance) p) leg ≡ Some (weight_of m (with_book p (entered b (set_order leg class clearance))) leg)
        = ap (λ q. weight_if_any m q leg) then ∙ weight_exists m (with_book p (entered b (set_order leg class clearance))) leg (subst (λ n. leg < n) (sym (amended_length (entered b (set_order leg class clearance)) 0 p.legs)) below) in
        ap₂ ◌&&◌ (marks.force h hall)
        (ap (λ c. struck c (is_marked old.marks h)) (ap₂ (changed m leg) old_weight new_weight)
        ∙ struck_changed m leg (leg_at (with_book p b) leg).is_open _ _ (is_marked old.marks h)
        ∙ ap (λ x. (leg_at (with_book p b) leg).is_open && ((m.below (weight_of m (with_book p b) leg) (weight_of m (with_book p (entered b (set_order leg class clearance))) leg) && x) || m.below (weight_of m (with_book p (entered b (set_order leg class clearance))) leg) (weight_of m (with_book p b) leg))) (marks.marked h leg hall below))

    pub set_goes_on : (r : Result ℕ Refusal) → Ordered p (refuses_set p leg class clearance) (set_strikes m p s leg class clearance) old new r
        → GoesOn m p (set_order leg class clearance) (lapsed_answer r) s old (unless (refuses_set p leg class clearance) s (figured s leg class clearance)) new
    set_goes_on r ordered =
        order_goes_on laws p sound (set_order leg class clearance) s _ old new (refuses_set p leg class clearance) (set_strikes m p s leg class clearance) r
        (set_due p s leg class clearance)
        (set_written p sound s wide leg class clearance)
        set_same
        (λ b k. refl)
        (λ b k k' n e. ap (λ x. halls_answer x) e)
        ordered

  -- what each order does
  pub shut_carries : (s' : Sheet) (r : Result ℕ Refusal) → s' ≡ unless (refuses_sign p s leg true) s (signed s leg true) → Ordered p (refuses_sign p s leg true) (strike.Marking leg) old new r
      → Carries m p (shut leg) (refuses_sign p s leg true) (strike.Marking leg) (signed s leg true) s s' old new r
  shut_carries s' r written ordered = record { sheet = written; marks = ordered; book = subst (λ x. GoesOn m p (shut leg) (lapsed_answer r) s old x new) (sym written) (shut_goes_on r ordered) }

  pub open_carries : (s' : Sheet) (r : Result ℕ Refusal) → s' ≡ unless (refuses_sign p s leg false) s (signed s leg false) → Ordered p (refuses_sign p s leg false) strike.Every old new r
      → Carries m p (reopen leg) (refuses_sign p s leg false) strike.Every (signed s leg false) s s' old new r
  open_carries s' r written ordered = record { sheet = written; marks = ordered; book = subst (λ x. GoesOn m p (reopen leg) (lapsed_answer r) s old x new) (sym written) (open_goes_on r ordered) }

  pub set_carries : (class clearance : ℕ) (s' : Sheet) (r : Result ℕ Refusal) → s' ≡ unless (refuses_set p leg class clearance) s (figured s leg class clearance)
      → Ordered p (refuses_set p leg class clearance) (set_strikes m p s leg class clearance) old new r
      → Carries m p (set_order leg class clearance) (refuses_set p leg class clearance) (set_strikes m p s leg class clearance) (figured s leg class clearance) s s' old new r
  set_carries class clearance s' r written ordered =
      record { sheet = written; marks = ordered; book = subst (λ x. GoesOn m p (set_order leg class clearance) (lapsed_answer r) s old x new) (sym written) (set_goes_on class clearance r ordered) }
