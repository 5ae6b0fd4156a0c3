-- The numbers and the letter that a line has left.
use Rattle.std.proofs.Common.{◌≡◌, Bool, true, false, Decides, ℕ, ◌+◌, ◌<◌, ◌≤◌, List, [], ◌∷◌, ◌++◌, length, get_or, take, drop, set, Some, None, decimal, Option, sym, refl, ap, ◌∙◌, subst, inl, inr, ⊎_elim, append_assoc, append-nil, arith, MatchOption}
use Rattle.std.specs.Bool.{then_some}
use Rattle.std.specs.List.{AllByRecursion}
use Rattle.std.proofs.lemmas.Bool.{both_ways}
use Rattle.std.proofs.lemmas.List.{take_more_set, take_more, drop_more, drop_all, take_all, length-set}
use Rattle.tokens.specs.declared.line.Due.{Due}
use Rattle.tokens.specs.declared.line.Line.{Line}
use Rattle.tokens.specs.declared.line.Token.TheVariants.{Value}
use Rattle.tokens.specs.Cuts.{Lacks}
use Rattle.tokens.specs.Taken.{Bytes, left, Takes, TakesNumber, LeftNumbers, LeftLetter}
use Rattle.tokens.specs.Values.{Plain, Small, Numeral, written, Numbers, OneLetter}
use Rattle.tokens.proofs.Cutting.{lacks_divided, same_halves}
use Rattle.tokens.proofs.Decimal.{plain_decimal, one_number}
use Rattle.tokens.proofs.Taking.{lent, Alike, one_value, plain_lacks_comma, value_not_nothing}

-- a number is taken where the next value writes one
pub number_taken : (line after : Line) (part : Bytes) (r : Option ℕ) → Takes line (Value part) after → MatchOption r ((n : ℕ) → Numeral part.now n → ⊥) (λ n. Numeral part.now n) → MatchOption r ((n : ℕ) (other : Line) → TakesNumber line n other → ⊥) (λ n. TakesNumber line n after)
number_taken line after part None takes told = λ n other t. told n (subst (λ p. Numeral p n) (one_value line t.0 part other after t.1 takes).0 t.2)
number_taken line after part (Some n) takes told = (part, takes, told)

-- the first of the numbers left can be taken, and the others are left then
pub left_takes : (line : Line) (n : ℕ) (ns : List ℕ) → LeftNumbers line (n ∷ ns) → (after : Line) × TakesNumber line n after × LeftNumbers after ns
left_takes line n [] (inl (due, ((small, _), is))) =
    let after : Line = record { rest = line.rest; due = Due.Nothing } in
    (after, (lent line (decimal n), (due, plain_decimal n small, inr (is, refl)), (small, refl)), inr (refl, refl))
left_takes line n (m ∷ ns) (inl (due, ((small, all), is))) =
    let after : Line = record { rest = lent line (written m ns); due = Due.Value } in
    let plain = plain_decimal n small in
    (after, (lent line (decimal n), (due, plain, inl (record { whole = is; first = plain_lacks_comma _ plain }, refl)), (small, refl)), inl (refl, (all, refl)))
left_takes line n ns (inr (due, none)) = absurd (let z : ◌≡◌ {A = ℕ} 0 1 = cc in omega arith)

-- lines that are alike have the same numbers left
alike_left : (one other : Line) (ns : List ℕ) → Alike one other → LeftNumbers other ns → LeftNumbers one ns
alike_left one other ns same (inl (due, numbers)) =
    let here = same.due ∙ due in
    inl (here, subst (λ v. Numbers v ns) (sym (same.bytes here)) numbers)
alike_left one other ns same (inr (due, none)) = inr (same.due ∙ due, none)

-- a number taken is the first of the numbers left
pub takes_only : (line after : Line) (n m : ℕ) (ms : List ℕ) → TakesNumber line n after → LeftNumbers line (m ∷ ms) → (m ≡ n) × LeftNumbers after ms
takes_only line after n m ms takes numbers =
    let other = left_takes line m ms numbers in
    let same = one_value line takes.0 other.1.0 after other.0 takes.1 other.1.1 in
    (one_number _ m n (subst (λ p. Numeral p m) (sym same.0) other.1.2) takes.2, alike_left after other.0 ms same.1 other.2)

-- a number taken and the numbers left after it are the numbers left before
pub takes_first : (line after : Line) (n : ℕ) (ns : List ℕ) → TakesNumber line n after → LeftNumbers after ns → LeftNumbers line (n ∷ ns)
takes_first line after n ns (part, (due, plain, inl (cut, next)), (small, is)) (inr (none, empty)) = absurd (value_not_nothing _ next none)
takes_first line after n [] (part, (due, plain, inl (cut, next)), (small, is)) (inl (_, none)) = absurd none
takes_first line after n (m ∷ ns) (part, (due, plain, inl (cut, next)), (small, is)) (inl (_, (all, rest))) =
    inl (due, ((small, all), cut.whole ∙ (λ i. is i ++ (44 ∷ rest i))))
takes_first line after n ns (part, (due, plain, inr (last, next)), (small, is)) (inl (value, numbers)) = absurd (value_not_nothing _ value next)
takes_first line after n ns (part, (due, plain, inr (last, next)), (small, is)) (inr (_, empty)) =
    subst (λ l. LeftNumbers line (n ∷ l)) (sym empty) (inl (due, ((small, tt), last ∙ is)))

-- a list of one byte is that byte
pub one_byte : (bytes : List ℕ) → length bytes ≡ 1 → bytes ≡ get_or bytes 0 0 ∷ []
one_byte [] one = absurd (omega arith)
one_byte (b ∷ []) one = refl
one_byte (b ∷ c ∷ bytes) one = absurd (omega arith)

-- where the value that was taken is the last, the letter left is the letter that it is
pub letter_taken : (line after : Line) (part : Bytes) (r : Option ℕ) → Takes line (Value part) after → after.due ≡ Due.Nothing → MatchOption r ((c : ℕ) → OneLetter part.now c → ⊥) (λ c. OneLetter part.now c) → MatchOption r ((c : ℕ) → LeftLetter line c → ⊥) (λ c. LeftLetter line c)
letter_taken line after part r (due, plain, inl (cut, next)) last told = absurd (value_not_nothing _ next last)
letter_taken line after part None (due, plain, inr (is, next)) last told = λ c h. told c (h.1.0, sym is ∙ h.1.1)
letter_taken line after part (Some c) (due, plain, inr (is, next)) last told = (due, (told.0, is ∙ told.1))

-- a letter is a plain value
letter_plain : (value : List ℕ) (c : ℕ) → OneLetter value c → AllByRecursion Plain value
letter_plain value c (small, is) = subst (AllByRecursion Plain) (sym is) (inr small, tt)

-- line with all its tokens taken
abbrev spent : Line → Line
spent line = record { rest = line.rest; due = Due.Nothing }

-- a letter left is the last value
letter_last : (line : Line) (c : ℕ) → LeftLetter line c → Takes line (Value line.rest) (spent line)
letter_last line c (due, letter) = (due, letter_plain (left line) c letter, inr (refl, refl))

-- no letter is left where no value can be taken
pub letter_stuck : (line : Line) → ((part : Bytes) (after : Line) → Takes line (Value part) after → ⊥) → (c : ℕ) → LeftLetter line c → ⊥
letter_stuck line stuck c h = stuck line.rest (spent line) (letter_last line c h)

-- nor where more follows the value taken
pub letter_not_last : (line after : Line) (part : Bytes) → Takes line (Value part) after → (after.due ≡ Due.Nothing → ⊥) → (c : ℕ) → LeftLetter line c → ⊥
letter_not_last line after part takes more c h = more (one_value line part line.rest after (spent line) takes (letter_last line c h)).1.due

-- of the k numbers that were left at the entry, the first ones were found, and the others are left in line
pub record Found (k : ℕ) (entry line : Line) (found : List ℕ) (place : ℕ) : Type 0 where
  pub size : length found ≡ k
  pub first : (ns : List ℕ) → LeftNumbers line ns → LeftNumbers entry (take place found ++ ns)
  pub only : (ms : List ℕ) → length ms ≡ k → LeftNumbers entry ms → (take place ms ≡ take place found) × LeftNumbers line (drop place ms)

pub found_none : (k : ℕ) (line : Line) (found : List ℕ) → length found ≡ k → Found k line line found 0
found_none k line found size = record { size = size; first = λ ns h. h; only = λ ms _ h. (refl, h) }

pub found_more : (k : ℕ) (entry line after : Line) (found : List ℕ) (place n : ℕ) → place < k → Found k entry line found place → TakesNumber line n after → Found k entry after (set found place n) (place + 1)
found_more k entry line after found place n inside h takes =
    let room : place < length found = omega (arith, h.size) in
    let pushed = take_more_set found place n room in
    record {
      size = length-set found place n ∙ h.size;
      first = λ ns rest.
          subst (LeftNumbers entry) (sym (ap (λ l. l ++ ns) pushed ∙ append_assoc (take place found) (n ∷ []) ns)) (h.first (n ∷ ns) (takes_first line after n ns takes rest));
      only = λ ms long all.
          let before = h.only ms long all in
          let here : place < length ms = omega arith in
          let next = takes_only line after n (get_or ms place 0) (drop (place + 1) ms) takes (subst (LeftNumbers line) (drop_more ms place 0 here) before.1) in
          (take_more ms place 0 here ∙ (λ i. before.0 i ++ (next.0 i ∷ [])) ∙ sym pushed, next.1);
    }

-- where k numbers were found and nothing is left, they are the numbers
pub found_all : (k : ℕ) (entry line : Line) (found : List ℕ) (place : ℕ) → k ≤ place → Found k entry line found place → line.due ≡ Due.Nothing → LeftNumbers entry found
found_all k entry line found place past h spent =
    subst (LeftNumbers entry) (append-nil (take place found) ∙ take_all place found (omega (arith, h.size))) (h.first [] (inr (spent, refl)))

-- where something is left after k numbers, there are not k
pub found_more_left : (k : ℕ) (entry line : Line) (found : List ℕ) (place : ℕ) → k ≤ place → Found k entry line found place → (line.due ≡ Due.Nothing → ⊥) → (ms : List ℕ) → length ms ≡ k → LeftNumbers entry ms → ⊥
found_more_left k entry line found place past h more ms long all =
    let none = subst (LeftNumbers line) (drop_all place ms (omega arith)) (h.only ms long all).1 in
    ⊎_elim (λ value. value.1) (λ spent. more spent.0) none

-- so once k were found, the numbers found are the answer just where nothing is left
pub found_at_end : (k : ℕ) (entry line : Line) (found : List ℕ) (place : ℕ) (ended : Bool) → k ≤ place → Found k entry line found place → Decides ended (line.due ≡ Due.Nothing) → MatchOption (then_some ended found) ((ms : List ℕ) → length ms ≡ k → LeftNumbers entry ms → ⊥) (λ ns. (length ns ≡ k) × LeftNumbers entry ns)
found_at_end k entry line found place true past h ends = (h.size, found_all k entry line found place past h (ends.0 refl))
found_at_end k entry line found place false past h ends = found_more_left k entry line found place past h (λ spent. both_ways false refl (ends.1 spent))

-- where fewer than k were found and no other can be taken, there are not k
pub found_stuck : (k : ℕ) (entry line : Line) (found : List ℕ) (place : ℕ) → place < k → Found k entry line found place → ((n : ℕ) (after : Line) → TakesNumber line n after → ⊥) → (ms : List ℕ) → length ms ≡ k → LeftNumbers entry ms → ⊥
found_stuck k entry line found place inside h stuck ms long all =
    let here : place < length ms = omega arith in
    let next = left_takes line (get_or ms place 0) (drop (place + 1) ms) (subst (LeftNumbers line) (drop_more ms place 0 here) (h.only ms long all).1) in
    stuck _ next.0 next.1

-- one number has no comma
comma_in_one : (n m : ℕ) (rest : List ℕ) → Small n → decimal n ≡ decimal m ++ (44 ∷ rest) → ⊥
comma_in_one n m rest small e = lacks_divided 44 (decimal m) rest (subst (Lacks 44) e (plain_lacks_comma _ (plain_decimal n small)))

-- a value writes one list of numbers
pub one_list : (value ns ms : List ℕ) → Numbers value ns → Numbers value ms → ns ≡ ms
one_list value [] ms one other = absurd one
one_list value (n ∷ ns) [] one other = absurd other
one_list value (n ∷ []) (m ∷ []) one other = ap (λ k. k ∷ []) (one_number value n m (one.0.0, one.1) (other.0.0, other.1))
one_list value (n ∷ []) (m ∷ k ∷ ms) one other = absurd (comma_in_one n m (written k ms) one.0.0 (sym one.1 ∙ other.1))
one_list value (n ∷ k ∷ ns) (m ∷ []) one other = absurd (comma_in_one m n (written k ns) other.0.0 (sym other.1 ∙ one.1))
one_list value (n ∷ j ∷ ns) (m ∷ k ∷ ms) one other =
    let lacks : (i : ℕ) → Small i → Lacks 44 (decimal i) = λ i small. plain_lacks_comma _ (plain_decimal i small) in
    let same = same_halves 44 (decimal n) (decimal m) (written j ns) (written k ms) (lacks n one.0.0) (lacks m other.0.0) (sym one.1 ∙ other.1) in
    let first = one_number (decimal n) n m (one.0.0, refl) (other.0.0, same.0) in
    let more = one_list (written j ns) (j ∷ ns) (k ∷ ms) (one.0.1, refl) (other.0.1, same.1) in
    λ i. first i ∷ more i

-- a value is one letter
pub one_letter : (value : List ℕ) (c d : ℕ) → OneLetter value c → OneLetter value d → c ≡ d
one_letter value c d one other = let e = sym one.1 ∙ other.1 in cc

-- what `numbers` answers where a value is due, in terms of its bytes
pub numbers_read : (line : Line) (k : ℕ) (r : Option (List ℕ)) → line.due ≡ Due.Value → MatchOption r ((ns : List ℕ) → length ns ≡ k → LeftNumbers line ns → ⊥) (λ ns. (length ns ≡ k) × LeftNumbers line ns) → MatchOption r ((ns : List ℕ) → length ns ≡ k → Numbers (left line) ns → ⊥) (λ ns. (length ns ≡ k) × Numbers (left line) ns)
numbers_read line k None due told = λ ns long h. told ns long (inl (due, h))
numbers_read line k (Some ns) due (long, inl (_, h)) = (long, h)
numbers_read line k (Some ns) due (long, inr (spent, _)) = absurd (value_not_nothing _ due spent)

-- what `letter` answers there
pub letter_read : (line : Line) (r : Option ℕ) → line.due ≡ Due.Value → MatchOption r ((c : ℕ) → LeftLetter line c → ⊥) (λ c. LeftLetter line c) → MatchOption r ((c : ℕ) → OneLetter (left line) c → ⊥) (λ c. OneLetter (left line) c)
letter_read line None due told = λ c h. told c (due, h)
letter_read line (Some c) due told = told.1
