-- What can be told apart: numbers, options, members of a list, places below a bound. Assumes nothing.
use Rattle.std.proofs.Common.{◌≡◌, ℕ, zero, suc, ◌<◌, ◌≤◌, Bool, true, false, ◌≢◌, ◌⊎◌, List, [], ◌∷◌, length, get_or, Some, None, Option, sym, refl, ap, subst, inl, inr, arith}
use Rattle.std.proofs.lemmas.Bool.{both_ways, cases_eq, cases_lt}
use Rattle.std.specs.List.{ContainsAt as Has}

-- A holds, or it does not
abbrev pub Whether : Type 0 → Type 0
Whether A = A ⊎ (¬ A)

-- a test passes, or it fails
abbrev pub Test : Bool → Type 0
Test b = (b ≡ true) ⊎ (b ≡ false)

pub some_same : {A : Type 0} {o : Option A} {a b : A} → o ≡ Some a → o ≡ Some b → a ≡ b
some_same p q = cc

pub none_some : {A : Type 0} {o : Option A} {a : A} → o ≡ None → o ≡ Some a → ⊥
none_some p q = let z : ◌≡◌ {A = ℕ} 0 1 = cc in omega arith

-- whether v is the goal
pub goal? : (goal : Option ℕ) (v : ℕ) → Whether (goal ≡ Some v)
goal? None v = inr (λ e. none_some refl e)
goal? (Some w) v = go (cases_eq w v)
  where
    go : Whether (w ≡ v) → Whether (Some w ≡ Some v)
    go (inl e) = inl (ap Some e)
    go (inr n) = inr (λ e. n (some_same refl e))

pub has_none : {X : Type 0} {v : X} → Has [] v → ⊥
has_none h = let k = h.1 in omega arith

pub has? : (us : List ℕ) (v : ℕ) → Whether (Has us v)
has? [] v = inr has_none
has? (u ∷ us) v = go (cases_eq u v) (has? us v)
  where
    nowhere : u ≢ v → ¬ Has us v → (k : ℕ) → k < suc (length us) → ((d : ℕ) → get_or (u ∷ us) k d ≡ v) → ⊥
    nowhere n h zero l f = n (f v)
    nowhere n h (suc k) l f = h (k, omega arith, f)

    go : Whether (u ≡ v) → Whether (Has us v) → Whether (Has (u ∷ us) v)
    go (inl e) k = inl (0, omega arith, λ d. e)
    go (inr n) (inl h) = let l = h.1 in inl (suc h.0, omega arith, h.2)
    go (inr n) (inr h) = inr (λ j. nowhere n h j.0 j.1 j.2)

pub below_suc : (f j : ℕ) → f < suc j → (f < j) ⊎ (f ≡ j)
below_suc f j h = go (cases_lt f j)
  where
    go : ((f < j) ⊎ (j ≤ f)) → (f < j) ⊎ (f ≡ j)
    go (inl p) = inl p
    go (inr n) = inr (omega arith)

-- what holds below j and at j holds below suc j
pub below_each : (j : ℕ) (P : ℕ → Type 0) → ((f : ℕ) → f < j → P f) → P j → (f : ℕ) → f < suc j → P f
below_each j P a b f h = pick (below_suc f j h)
  where
    pick : ((f < j) ⊎ (f ≡ j)) → P f
    pick (inl k) = a f k
    pick (inr e) = subst P (sym e) b

-- a choice as a test
abbrev pub says : {A : Type 0} → Whether A → Bool
says (inl a) = true
says (inr n) = false

pub says_yes : {A : Type 0} (d : Whether A) → A → says d ≡ true
says_yes (inl a) b = refl
says_yes (inr n) b = absurd (n b)

pub says_no : {A : Type 0} (d : Whether A) → ¬ A → says d ≡ false
says_no (inl a) k = absurd (k a)
says_no (inr n) k = refl

pub said : {A : Type 0} (d : Whether A) → says d ≡ true → A
said (inl a) h = a
said (inr n) h = absurd (both_ways false refl h)

-- P holds somewhere, or nowhere below j
abbrev pub Any : (ℕ → Type 0) → ℕ → Type 0
Any P j = ((i : ℕ) × P i) ⊎ ((i : ℕ) → i < j → ¬ P i)

pub any? : (P : ℕ → Type 0) → ((i : ℕ) → Whether (P i)) → (j : ℕ) → Any P j
any? P each zero = inr (λ i h. absurd (omega arith))
any? P each (suc j) = go (any? P each j) (each j)
  where
    go : Any P j → Whether (P j) → Any P (suc j)
    go (inl p) d = inl p
    go (inr a) (inl p) = inl (j, p)
    go (inr a) (inr n) = inr (below_each j (λ i. ¬ P i) a n)
