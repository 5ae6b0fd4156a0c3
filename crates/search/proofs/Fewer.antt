-- Of numbers below n, at most n are all apart. Assumes nothing.
use Rattle.std.proofs.Common.{◌≡◌, ℕ, ◌<◌, ◌≤◌, Bool, true, false, List, [], ◌∷◌, ◌++◌, length, sym, refl, subst, inl, inr, ⊎_elim, arith}
use Rattle.std.specs.List.{ContainsAt as Has, AllByRecursion}
use Rattle.std.proofs.ByRecursion.{has_append_left, has_append_right, has_push, has_push_cases}
use Rattle.search.specs.Apart.{Apart}
use Rattle.walks.proofs.Choosing.{Whether, has?, has_none}
use Rattle.walks.proofs.Counting.{count, count_lt, count_few}

has_first : (x : ℕ) (xs : List ℕ) → Has (x ∷ xs) x
has_first x xs = has_append_left (x ∷ []) xs x (has_push [] x)

has_later : (x : ℕ) (xs : List ℕ) (v : ℕ) → Has xs v → Has (x ∷ xs) v
has_later x xs v h = has_append_right (x ∷ []) xs v h

-- one number more, that does not stand there
pub apart_push : (xs : List ℕ) (u : ℕ) → Apart xs → ¬ Has xs u → Apart (xs ++ (u ∷ []))
apart_push [] u a new = (has_none, tt)
apart_push (x ∷ xs) u a new = (
  (λ h. ⊎_elim a.0 (λ e. new (subst (Has (x ∷ xs)) (sym e) (has_first x xs))) (has_push_cases xs u x h)),
  apart_push xs u a.1 (λ h. new (has_later x xs u h)),
)

-- whether a number stands in the list, as a test
says : {A : Type 0} → Whether A → Bool
says (inl a) = true
says (inr n) = false

stands : List ℕ → ℕ → Bool
stands xs v = says (has? xs v)

says_true : {A : Type 0} (w : Whether A) → A → says w ≡ true
unfolding says
says_true (inl a) h = refl
says_true (inr n) h = absurd (n h)

says_false : {A : Type 0} (w : Whether A) → ¬ A → says w ≡ false
unfolding says
says_false (inl a) n = absurd (n a)
says_false (inr m) n = refl

says_so : {A : Type 0} (w : Whether A) → says w ≡ true → A
unfolding says
says_so (inl a) e = a
says_so (inr n) e = let z : ◌≡◌ {A = ℕ} 0 1 = cc in absurd (let v : ⊥ = omega arith in v)

at_most_counted : (xs : List ℕ) (n : ℕ) → Apart xs → AllByRecursion (λ x. x < n) xs → length xs ≤ count (stands xs) n
unfolding stands
at_most_counted [] n a b = omega arith
at_most_counted (x ∷ xs) n a b =
    let before = at_most_counted xs n a.1 b.1 in
    let more = count_lt (stands xs) (stands (x ∷ xs))
    (λ i e. says_true (has? (x ∷ xs) i) (has_later x xs i (says_so (has? xs i) e)))
    x (says_false (has? xs x) a.0) (says_true (has? (x ∷ xs) x) (has_first x xs)) n b.0 in
    omega arith

pub few : (xs : List ℕ) (n : ℕ) → Apart xs → AllByRecursion (λ x. x < n) xs → length xs ≤ n
few xs n a b = let h = at_most_counted xs n a b in let k = count_few (stands xs) n in omega arith
