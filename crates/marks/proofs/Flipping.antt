-- One bit of the mark words turned, and no other. Assumes nothing.
use Rattle.std.proofs.Common.{◌≡◌, ℕ, zero, suc, ◌/◌, ◌%◌, ◌^◌, ◌<◌, Bool, true, false, cond, not, ◌&&◌, eqb, length, get_or, sym, refl, ap, ◌∙◌, ⊎_elim, arith}
use lib.Bits.{bit_xor, xor_shr, xor_mod, xor_zero_r}
use Rattle.std.proofs.lemmas.Nat.{mod_below}
use Rattle.std.proofs.lemmas.Bool.Decides.{nat_tests}
use Rattle.std.proofs.lemmas.List.{get_or-set_same, get_or-set_other}
use Rattle.std.proofs.lemmas.Bool.{cases_eq, cases_lt, eqb-true, and_parts, cond-false, ne_eqb}
use Rattle.layout.specs.Limits.{most_halls, most_legs}
use Rattle.marks.specs.Mark.{bit_set, flipped, possible}
use Rattle.marks.specs.declared.words.MarkWords.{MarkWords}

-- a test that passes at each number below n: antt computes it
abbrev pub all_below : (ℕ → Bool) → ℕ → Bool
all_below f zero = true
all_below f (suc n) = f n && all_below f n

pub at_below : (f : ℕ → Bool) (n k : ℕ) → all_below f n ≡ true → k < n → f k ≡ true
at_below f zero k e h = absurd (let w : ⊥ = omega arith in w)
at_below f (suc n) k e h =
    let both = and_parts (f n) (all_below f n) e in
    ⊎_elim (λ q. ap f q ∙ both.0) (λ q. at_below f n k both.1 (omega arith)) (cases_eq k n)

-- bit j of a power of two
power_bit : (h j : ℕ) → h < most_halls → j < most_halls → 2 ^ h / 2 ^ j % 2 ≡ cond (eqb j h) 1 0
power_bit h j lh lj =
    eqb-true (2 ^ h / 2 ^ j % 2) (cond (eqb j h) 1 0)
    (at_below (λ n. eqb (2 ^ h / 2 ^ n % 2) (cond (eqb n h) 1 0)) most_halls j
    (at_below (λ m. all_below (λ n. eqb (2 ^ m / 2 ^ n % 2) (cond (eqb n m) 1 0)) most_halls) most_halls h refl lh) lj)

other_digit : (x : ℕ) → x < 2 → eqb (bit_xor x 1) 1 ≡ not (eqb x 1)
other_digit zero h = refl
other_digit (suc zero) h = refl
other_digit (suc (suc x)) h = absurd (let w : ⊥ = omega arith in w)

digit_turned : (a h : ℕ) (here : Bool) → eqb (bit_xor (a / 2 ^ h % 2) (cond here 1 0)) 1 ≡ cond here (not (eqb (a / 2 ^ h % 2) 1)) (eqb (a / 2 ^ h % 2) 1)
digit_turned a h true = other_digit (a / 2 ^ h % 2) (mod_below (a / 2 ^ h) 2 (omega arith))
digit_turned a h false = ap (λ n. eqb n 1) (xor_zero_r (a / 2 ^ h % 2))

-- bit h of a word whose bit `hall` was turned
word_turned : (a hall h : ℕ) → hall < most_halls → h < most_halls
    → eqb (bit_xor a (2 ^ hall) / 2 ^ h % 2) 1 ≡ cond (eqb h hall) (not (eqb (a / 2 ^ h % 2) 1)) (eqb (a / 2 ^ h % 2) 1)
word_turned a hall h lh lj =
    ap (λ n. eqb n 1)
    (ap (λ n. n % 2) (xor_shr a (2 ^ hall) h) ∙ xor_mod (a / 2 ^ h) (2 ^ hall / 2 ^ h) 1 ∙ ap (bit_xor (a / 2 ^ h % 2)) (power_bit hall h lh lj))
    ∙ digit_turned a h (eqb h hall)

module _ (w : MarkWords) (hall leg : ℕ) (full : length w.bits ≡ most_legs) (lh : hall < most_halls) (ll : leg < most_legs) where
  -- in the leg's own word
  own_word : (h : ℕ) → h < most_halls → bit_set (flipped w hall leg) h leg ≡ cond (eqb h hall) (not (bit_set w h leg)) (bit_set w h leg)
  own_word h lj =
      ap (λ n. eqb (n / 2 ^ h % 2) 1) (get_or-set_same w.bits leg (bit_xor (get_or w.bits leg 0) (2 ^ hall)) 0 (omega arith))
      ∙ word_turned (get_or w.bits leg 0) hall h lh lj

  -- in any other
  other_word : (h k : ℕ) → (k ≡ leg → ⊥) → bit_set (flipped w hall leg) h k ≡ bit_set w h k
  other_word h k apart = ap (λ n. eqb (n / 2 ^ h % 2) 1) (get_or-set_other w.bits leg k _ 0 apart)

  -- nor another hall's mark
  other_hall : (h k : ℕ) → (h ≡ hall → ⊥) → h < most_halls → bit_set (flipped w hall leg) h k ≡ bit_set w h k
  other_hall h k apart lj =
      ⊎_elim
      (λ q. ap (bit_set (flipped w hall leg) h) q ∙ own_word h lj ∙ cond-false _ _ _ (ne_eqb h hall apart) ∙ ap (bit_set w h) (sym q))
      (λ q. other_word h k q)
      (cases_eq k leg)

  pub marks_turned : (on : Bool) → not (bit_set w hall leg) ≡ on → (h k : ℕ)
      → (possible h k && bit_set (flipped w hall leg) h k) ≡ cond (eqb h hall && eqb k leg) (possible hall leg && on) (possible h k && bit_set w h k)
  marks_turned on turn h k =
      ⊎_elim
      (λ lj. ⊎_elim
      (λ q. let own = own_word h lj in
      ap (λ x. possible h x && bit_set (flipped w hall leg) h x) q
      ∙ grind (arith, nat_tests, own, turn)
      ∙ sym (ap (λ x. cond (eqb h hall && eqb x leg) (possible hall leg && on) (possible h x && bit_set w h x)) q))
      (λ q. let other = other_word h k q in grind (arith, nat_tests, other))
      (cases_eq k leg))
      (λ past. grind (arith, nat_tests))
      (cases_lt h most_halls)
