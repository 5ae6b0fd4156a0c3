-- How many numbers below a bound pass a test. Assumes nothing.
use Rattle.std.proofs.Common.{◌≡◌, ℕ, zero, suc, ◌<◌, ◌≤◌, Bool, true, false, cond, ◌⊎◌, sym, refl, ap, ◌∙◌, inl, inr, arith}
use Rattle.walks.proofs.Order.{no_both}
use Rattle.walks.proofs.Choosing.{below_suc}

-- how many numbers below n pass a test
pub count : (ℕ → Bool) → ℕ → ℕ
count f zero = 0
count f (suc n) = cond (f n) (suc (count f n)) (count f n)

count_step : (a b : Bool) (x y : ℕ) → (a ≡ true → b ≡ true) → x ≤ y → cond a (suc x) x ≤ cond b (suc y) y
count_step true true x y h k = omega arith
count_step true false x y h k = absurd (no_both (h refl) refl)
count_step false true x y h k = omega arith
count_step false false x y h k = k

count_more : (a b : Bool) (x y : ℕ) → (a ≡ true → b ≡ true) → x < y → cond a (suc x) x < cond b (suc y) y
count_more true true x y h k = omega arith
count_more true false x y h k = absurd (no_both (h refl) refl)
count_more false true x y h k = omega arith
count_more false false x y h k = k

count_le : (f h : ℕ → Bool) → ((i : ℕ) → f i ≡ true → h i ≡ true) → (n : ℕ) → count f n ≤ count h n
unfolding count
count_le f h s zero = omega arith
count_le f h s (suc n) = count_step (f n) (h n) (count f n) (count h n) (s n) (count_le f h s n)

pub count_lt :
    (f h : ℕ → Bool) → ((i : ℕ) → f i ≡ true → h i ≡ true) → (j : ℕ) → f j ≡ false → h j ≡ true → (n : ℕ) → j < n → count f n < count h n
unfolding count
count_lt f h s j a b zero k = absurd (omega arith)
count_lt f h s j a b (suc n) k = go (λ l. count_lt f h s j a b n l) (below_suc j n k)
  where
    here : j ≡ n → cond (f n) (suc (count f n)) (count f n) < cond (h n) (suc (count h n)) (count h n)
    here e =
        let fn : f n ≡ false = ap f (sym e) ∙ a in
        let hn : h n ≡ true = ap h (sym e) ∙ b in
        let le = count_le f h s n in
        rw (fn, hn) (omega arith)

    go :
        (j < n → count f n < count h n) → ((j < n) ⊎ (j ≡ n)) →
        cond (f n) (suc (count f n)) (count f n) < cond (h n) (suc (count h n)) (count h n)
    go ih (inl l) = count_more (f n) (h n) (count f n) (count h n) (s n) (ih l)
    go ih (inr e) = here e

-- not more than there are
pub count_few : (f : ℕ → Bool) (n : ℕ) → count f n ≤ n
unfolding count
count_few f zero = omega arith
count_few f (suc n) = step (f n) (count_few f n)
  where
    step : (b : Bool) → count f n ≤ n → cond b (suc (count f n)) (count f n) ≤ suc n
    step true h = omega arith
    step false h = omega arith
