-- A table whose front was handed on, and what stands past it. Assumes nothing.
use Rattle.std.proofs.Common.{◌≡◌, ℕ, ◌≤◌, List, ◌++◌, length, take, drop, sym, ap, ◌∙◌, arith}
use borrow.Rule.Slice.PartMut.{post_of}
use Rattle.std.proofs.lemmas.List.{length-append, take-append-le, drop-append-le, take-append-drop, length-take-le}
use Rattle.std.proofs.lemmas.Slice.{take-put_mid, drop-put_mid}

module _ {X : Type 0} (n k : ℕ) (xs ys : List X) (all : length ys ≡ n) (front : k ≡ n) where
  pub front_is : take n (ys ++ post_of 0 k xs) ≡ ys
  front_is = take-put_mid 0 k xs ys n (omega arith) (omega arith)

  pub past_is : drop n (ys ++ post_of 0 k xs) ≡ drop n xs
  past_is = drop-put_mid 0 k xs ys n (omega arith) (omega arith) (omega arith)

  pub front_long : n ≤ length (ys ++ post_of 0 k xs)
  front_long = let parts = length-append ys (post_of 0 k xs) in omega arith

  -- a list in the front, and what stands past it
  pub list_is : (count : ℕ) → count ≤ n → take count (ys ++ post_of 0 k xs) ≡ take count ys
  list_is count few = take-append-le count ys (post_of 0 k xs) (omega arith)

  pub past_list : (count : ℕ) → count ≤ n → drop count ys ≡ drop count (take n xs) → n ≤ length xs → drop count (ys ++ post_of 0 k xs) ≡ drop count xs
  past_list count few same long =
      let whole : (ys ++ post_of 0 k xs) ≡ ys ++ drop n xs =
      sym (take-append-drop n (ys ++ post_of 0 k xs)) ∙ ap (λ l. l ++ drop n (ys ++ post_of 0 k xs)) front_is ∙ ap (λ l. ys ++ l) past_is in
      let there = length_front in
      ap (drop count) whole ∙ drop-append-le count ys (drop n xs) (omega arith) ∙ ap (λ l. l ++ drop n xs) same
      ∙ sym (drop-append-le count (take n xs) (drop n xs) (omega arith)) ∙ ap (drop count) (take-append-drop n xs)
    where
      length_front : length (take n xs) ≡ n
      length_front = length-take-le n xs long
