-- What the digits of a number are, and that no other text writes it.
use Rattle.std.proofs.Common.{◌≡◌, ℕ, zero, suc, ◌+◌, ◌*◌, ◌^◌, ◌<◌, ◌≤◌, ◌⊎◌, List, [], ◌∷◌, length, get_or, take, drop, Some, None, decimal, Option, sym, refl, ap, ◌∙◌, subst, inl, inr, ⊎_elim, arith, pow-add, MatchOption}
use Rattle.std.specs.Str.Parse.{AllDigits, digits_value, digits_value_after}
use Rattle.std.specs.Char.{digit_value}
use Rattle.std.proofs.lemmas.Str.Parse.{IsNumeralModel, numerals_by_value, tells_digits, digits_value_short, digit_at}
use Rattle.std.proofs.ByRecursion.{All-from_get_or}
use Rattle.std.specs.List.{AllByRecursion}
use Rattle.std.proofs.lemmas.Fmt.{decimal_digit, decimal-digits_value, digits_decimal, decimal_nonempty, length-decimal-le, first_decimal, decimal_injective}
use Rattle.std.proofs.lemmas.Int.Digits.{digits_more}
use Rattle.std.proofs.lemmas.List.{at_drop_more, at_drop_all, take_all}
use Rattle.tokens.specs.Values.{Plain, Small, Numeral}

own : IsNumeralModel (AllDigits 10) (digits_value 10)
own = numerals_by_value (AllDigits 10) tells_digits

-- n is small enough for what is known of decimals
wide : (n : ℕ) → Small n → n < 2 ^ 64
wide n small = omega arith

-- digits with no leading zero write their value
pub numeral_of_value : (ds : List ℕ) → AllDigits 10 ds → 0 < length ds → length ds ≤ 5 → (get_or ds 0 0 ≡ 48 → ⊥) → Numeral ds (digits_value 10 ds)
numeral_of_value ds all some few lead =
    let small : Small (digits_value 10 ds) = digits_value_short own ds 5 all few in
    (small, sym (decimal-digits_value own ds all some (λ e. absurd (lead e)) (wide _ small)))

cases_zero : (n : ℕ) → (n ≡ 0) ⊎ (0 < n)
cases_zero zero = inl refl
cases_zero (suc n) = inr (omega arith)

-- the digit 0 alone writes 0
pub zero_numeral : (ds : List ℕ) → length ds ≡ 1 → get_or ds 0 0 ≡ 48 → Numeral ds 0
zero_numeral [] one is = absurd (omega arith)
zero_numeral (d ∷ []) one is = (omega arith, ap (λ b. b ∷ []) is ∙ sym (decimal_digit 0 (omega arith)))
zero_numeral (d ∷ e ∷ ds) one is = absurd (omega arith)

-- what a numeral is made of
pub record Digital (ds : List ℕ) : Type 0 where
  pub all : AllDigits 10 ds
  pub some : 0 < length ds
  pub few : length ds ≤ 5
  pub lead : get_or ds 0 0 ≡ 48 → length ds ≡ 1

pub digital : (ds : List ℕ) (n : ℕ) → Numeral ds n → Digital ds
digital ds n (small, is) = subst Digital (sym is) (record {
  all = digits_decimal own n (wide n small);
  some = decimal_nonempty n (wide n small);
  few = length-decimal-le 5 n (omega arith) small (wide n small);
  lead = λ e. ⊎_elim (λ none. ap length (decimal_digit n (omega arith))) (λ some. let more = first_decimal n some (wide n small) in absurd (omega arith)) (cases_zero n);
})

-- a first digit other than 0 and up to four more are a numeral just where the rest is digits
pub numeral_from_rest :
    (ds : List ℕ) (first : ℕ) (rest : List ℕ) (d : ℕ) (r : Option ℕ) → ds ≡ first ∷ rest → length rest ≤ 4 → (first ≡ 48 → ⊥) → d < 10 → d ≡ digit_value first
    → MatchOption r (AllDigits 10 rest → ⊥) (λ n. AllDigits 10 rest × (n ≡ digits_value_after 10 d rest))
    → MatchOption r ((n : ℕ) → Numeral ds n → ⊥) (λ n. Numeral ds n)
numeral_from_rest ds first rest d None split few lead low is told = λ n h. told (subst (AllDigits 10) split (digital ds n h).all).1
numeral_from_rest ds first rest d (Some n) split few lead low is (all, reads) =
    let value_is : digits_value 10 (first ∷ rest) ≡ n = ap (λ m. digits_value_after 10 m rest) (omega arith) ∙ sym reads in
    let whole = numeral_of_value (first ∷ rest) (omega arith, all) (omega arith) (omega arith) lead in
    subst (λ l. Numeral l n) (sym split) (subst (Numeral (first ∷ rest)) value_is whole)

-- a numeral writes one number
pub one_number : (ds : List ℕ) (m n : ℕ) → Numeral ds m → Numeral ds n → m ≡ n
one_number ds m n one other = decimal_injective m n (wide m one.0) (wide n other.0) (sym one.1 ∙ other.1)

-- each of the digits counts less than ten
pub digits_at : (ds : List ℕ) (i : ℕ) → AllDigits 10 ds → i < length ds → digit_value (get_or ds i 0) < 10
digits_at [] i all inside = absurd (omega arith)
digits_at (d ∷ ds) zero all inside = all.0
digits_at (d ∷ ds) (suc i) all inside = digits_at ds i all.1 (omega arith)

-- after start, the first i bytes of ds were read as digits, and n is what was read
pub record Read (start : ℕ) (ds : List ℕ) (i n : ℕ) : Type 0 where
  pub digits : AllDigits 10 (take i ds)
  pub same : digits_value_after 10 n (drop i ds) ≡ digits_value_after 10 start ds
  pub low : n < 10 ^ (i + 1)

pub read_more : (start : ℕ) (ds : List ℕ) (i n d : ℕ) → i < length ds → Read start ds i n → d < 10 → d ≡ digit_value (get_or ds i 0) → Read start ds (i + 1) (10 * n + d)
read_more start ds i n d inside read low is =
    let step : 10 * n + d ≡ n * 10 + digit_value (get_or ds i 0) = omega arith in
    record {
      digits = digits_more 10 ds i inside read.digits (omega arith);
      same = ap (λ m. digits_value_after 10 m (drop (i + 1) ds)) step ∙ sym (at_drop_more (digits_value_after 10 n) ds i 0 inside) ∙ read.same;
      low = omega (arith, read.low, pow-add 10 (i + 1) 1);
    }

pub read_all : (start : ℕ) (ds : List ℕ) (i n : ℕ) → length ds ≤ i → Read start ds i n → AllDigits 10 ds × (n ≡ digits_value_after 10 start ds)
read_all start ds i n past read =
    (subst (AllDigits 10) (take_all i ds past) read.digits, sym (at_drop_all (digits_value_after 10 n) ds i past) ∙ read.same)

-- digits are plain characters
pub plain_decimal : (n : ℕ) → Small n → AllByRecursion Plain (decimal n)
plain_decimal n small =
    All-from_get_or Plain (decimal n) 0 (λ i inside. inl (digit_at (decimal n) i (digits_decimal own n (wide n small)) inside))
