-- How many numbers below a bound pass a test, and one more. Assumes nothing.
use Rattle.std.proofs.Common.{◌≡◌, ℕ, zero, suc, ◌<◌, Bool, true, false, cond, ◌≢◌, ◌⊎◌, sym, refl, ap, ◌∙◌, inl, inr, arith}
use Rattle.walks.proofs.Choosing.{below_suc}

pub tally : (ℕ → Bool) → ℕ → ℕ
tally f zero = 0
tally f (suc n) = cond (f n) (suc (tally f n)) (tally f n)

pub tally_none : (f : ℕ → Bool) → ((i : ℕ) → f i ≡ false) → (n : ℕ) → tally f n ≡ 0
unfolding tally
tally_none f h zero = refl
tally_none f h (suc n) = rw (h n) (tally_none f h n)

pub tally_all : (f : ℕ → Bool) (n : ℕ) → ((i : ℕ) → i < n → f i ≡ true) → tally f n ≡ n
unfolding tally
tally_all f zero h = refl
tally_all f (suc n) h = rw (h n (omega arith)) (ap suc (tally_all f n (λ i k. h i (omega arith))))

-- tests that pass for the same below n
tally_same : (f h : ℕ → Bool) (n : ℕ) → ((i : ℕ) → i < n → h i ≡ f i) → tally h n ≡ tally f n
unfolding tally
tally_same f h zero e = refl
tally_same f h (suc n) e = rw (e n (omega arith), tally_same f h n (λ i k. e i (omega arith))) refl

-- h passes for j as well, and else for the same as f
pub tally_more :
    (f h : ℕ → Bool) (j : ℕ) → f j ≡ false → h j ≡ true → ((i : ℕ) → i ≢ j → h i ≡ f i) → (n : ℕ) → j < n → tally h n ≡ suc (tally f n)
unfolding tally
tally_more f h j a b e zero k = absurd (omega arith)
tally_more f h j a b e (suc n) k = go (λ l. tally_more f h j a b e n l) (below_suc j n k)
  where
    step : (b : Bool) → tally h n ≡ suc (tally f n) → cond b (suc (tally h n)) (tally h n) ≡ suc (cond b (suc (tally f n)) (tally f n))
    step true q = ap suc q
    step false q = q

    go :
        (j < n → tally h n ≡ suc (tally f n)) → ((j < n) ⊎ (j ≡ n)) →
        cond (h n) (suc (tally h n)) (tally h n) ≡ suc (cond (f n) (suc (tally f n)) (tally f n))
    go ih (inl l) = rw (e n (λ q. omega arith)) (step (f n) (ih l))
    go ih (inr q) =
        let fn : f n ≡ false = ap f (sym q) ∙ a in
        let hn : h n ≡ true = ap h (sym q) ∙ b in
        rw (fn, hn) (ap suc (tally_same f h n (λ i l. e i (λ r. omega arith))))
