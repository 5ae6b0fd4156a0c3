-- Counting the numbers below a bound that pass a test. Assumes nothing.
use Rattle.std.proofs.Common.{◌≡◌, ℕ, zero, suc, ◌+◌, ◌≤◌, Bool, true, false, cond, [], ◌∷◌, ◌++◌, sum_by, ap, ◌∙◌, arith}
use Rattle.std.specs.List.{range_with_len}
use Rattle.std.proofs.lemmas.List.Sums.{sum_by_push}
use Rattle.walks.specs.Answers.{count_below}

last : (a n : ℕ) → range_with_len a (suc n) ≡ range_with_len a n ++ ((a + n) ∷ [])
last a zero =
    let e : a ≡ a + 0 = omega arith in
    ap (λ k. k ∷ []) e
last a (suc n) =
    let e : a + 1 + n ≡ a + suc n = omega arith in
    ap (λ l. a ∷ l) (last (a + 1) n ∙ ap (λ k. range_with_len (a + 1) n ++ (k ∷ [])) e)

-- one number more
pub count_more : (n : ℕ) (test : ℕ → Bool) → count_below (suc n) test ≡ count_below n test + cond (test n) 1 0
count_more n test =
    let one : ℕ → ℕ = λ k. cond (test k) 1 0 in
    let here : 0 + n ≡ n = omega arith in
    ap (sum_by one) (last 0 n ∙ ap (λ k. range_with_len 0 n ++ (k ∷ [])) here) ∙ sum_by_push one (range_with_len 0 n) n

pub count_yes : (n : ℕ) (test : ℕ → Bool) → test n ≡ true → count_below (n + 1) test ≡ count_below n test + 1
count_yes n test e =
    let on : n + 1 ≡ suc n = omega arith in
    ap (λ k. count_below k test) on ∙ count_more n test ∙ ap (λ b. count_below n test + cond b 1 0) e

pub count_no : (n : ℕ) (test : ℕ → Bool) → test n ≡ false → count_below (n + 1) test ≡ count_below n test
count_no n test e =
    let on : n + 1 ≡ suc n = omega arith in
    ap (λ k. count_below k test) on ∙ count_more n test ∙ ap (λ b. count_below n test + cond b 1 0) e ∙ omega arith

-- no more pass than there are
pub count_le : (n : ℕ) (test : ℕ → Bool) → count_below n test ≤ n
count_le zero test = omega arith
count_le (suc n) test =
    let more = count_more n test in
    let before = count_le n test in
    let small : cond (test n) 1 0 ≤ 1 = at_most_one (test n) in
    omega arith
  where
    at_most_one : (b : Bool) → cond b 1 0 ≤ 1
    at_most_one true = omega arith
    at_most_one false = omega arith

-- none passes from number k on, so no bound past k counts more
pub count_past : (k n : ℕ) (test : ℕ → Bool) → ((i : ℕ) → k ≤ i → test i ≡ false) → count_below (k + n) test ≡ count_below k test
count_past k zero test none =
    let e : k + 0 ≡ k = omega arith in
    ap (λ i. count_below i test) e
count_past k (suc n) test none =
    let e : k + suc n ≡ suc (k + n) = omega arith in
    ap (λ i. count_below i test) e ∙ count_more (k + n) test ∙ ap (λ b. count_below (k + n) test + cond b 1 0) (none (k + n) (omega arith)) ∙ right ∙ count_past k n test none
  where
    right : count_below (k + n) test + 0 ≡ count_below (k + n) test
    right = omega arith
