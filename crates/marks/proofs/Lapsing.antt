-- When the marked layer shows what is below: under lapsed marks, and for a hall that is not there. Assumes nothing.
use Rattle.std.proofs.Common.{◌≡◌, ℕ, ◌/◌, ◌%◌, ◌^◌, ◌<◌, ◌≤◌, Bool, true, false, not, ◌&&◌, ◌||◌, eqb, ltb, length, get_or, replicate, refl, ap, ◌∙◌, ⊎_elim, arith}
use Rattle.std.proofs.lemmas.List.{get_or-replicate}
use Rattle.std.proofs.lemmas.Bool.{cases_lt, ltb-true, lt-ltb, le-ltb, and_parts, and_from, or_left, or_right, not_from_false}
use Rattle.layout.specs.Limits.{most_halls, most_legs}
use Rattle.layout.specs.Plant.{Plant, Sound, tails, heads}
use Rattle.std.proofs.lemmas.Option.{slice_get_within}
use Rattle.layers.specs.Day.{standing}
use Rattle.marks.specs.Mark.{bit_set, is_marked, possible, shown, shown_leg}
use Rattle.marks.specs.declared.words.MarkWords.{MarkWords}
use Rattle.marks.specs.declared.words.Marks.{Marks}
use Rattle.marks.proofs.Flipping.{at_below}
use Rattle.layers.proofs.Relegging.{relegged_same, figures_changed}

-- marks change no end of a leg
pub shown_tails : (m : Marks) (hall : ℕ) (p : Plant) → tails (shown m hall p) ≡ tails p
shown_tails m hall p = figures_changed (shown_leg m p.halls hall) (λ l. l.tail) (λ l. l.tail) (λ k l. refl) 0 p.legs

pub shown_heads : (m : Marks) (hall : ℕ) (p : Plant) → heads (shown m hall p) ≡ heads p
shown_heads m hall p = figures_changed (shown_leg m p.halls hall) (λ l. l.head) (λ l. l.head) (λ k l. refl) 0 p.legs

and_same : (b x : Bool) → (b ≡ true → x ≡ true) → (b && x) ≡ b
and_same true x h = h refl
and_same false x h = refl

-- every bit of the full word is set
full_word : (hall : ℕ) → hall < most_halls → eqb (4294967295 / 2 ^ hall % 2) 1 ≡ true
full_word hall h = at_below (λ b. eqb (4294967295 / 2 ^ b % 2) 1) most_halls hall refl h

pub full_marks : (w : MarkWords) → w.bits ≡ replicate 512 4294967295 → (hall leg : ℕ) → (possible hall leg && bit_set w hall leg) ≡ possible hall leg
full_marks w full hall leg = and_same (possible hall leg) _ (λ e.
    let both = and_parts _ _ e in
    ap (λ n. eqb (n / 2 ^ hall % 2) 1) (ap (λ bits. get_or bits leg 0) full ∙ get_or-replicate 512 leg 4294967295 0 (ltb-true leg most_legs both.1))
    ∙ full_word hall (ltb-true hall most_halls both.0))

-- nothing is hidden where every leg passes
all_shown : (m : Marks) (hall : ℕ) (p : Plant) → ((k : ℕ) → k < length p.legs → (not (ltb hall p.halls) || is_marked m hall k) ≡ true) → shown m hall p ≡ p
all_shown m hall p passes = relegged_same (shown_leg m p.halls hall) p (λ k l e.
    ap (λ b. standing b l) (and_same l.is_open _ (λ _. passes k (slice_get_within p.legs k l e))))

pub absent_shown : (m : Marks) (hall : ℕ) (p : Plant) → p.halls ≤ hall → shown m hall p ≡ p
absent_shown m hall p past = all_shown m hall p (λ k low. or_left _ _ (not_from_false _ (le-ltb hall p.halls past)))

pub full_shown : (m : Marks) → ((hall leg : ℕ) → is_marked m hall leg ≡ possible hall leg) → (hall : ℕ) (p : Plant) → Sound p → shown m hall p ≡ p
full_shown m marked hall p s = ⊎_elim
    (λ there. all_shown m hall p (λ k low.
    let h : hall < most_halls = omega (arith, s.few_halls) in
    let t : k < most_legs = omega (arith, s.few_legs) in
    or_right _ _ (marked hall k ∙ and_from _ _ (lt-ltb hall most_halls h) (lt-ltb k most_legs t))))
    (λ past. absent_shown m hall p past)
    (cases_lt hall p.halls)
