-- The first table of several that is too short. Assumes nothing.
use Rattle.std.proofs.Common.{◌≡◌, ℕ, zero, suc, ◌+◌, ◌<◌, true, false, cond, ltb, List, [], ◌∷◌, length, get_or, Some, None, refl, sym, ap, ◌∙◌, ⊎_elim, add-zero, option_map, arith}
use Rattle.std.specs.List.{position, position_or_len}
use Rattle.std.proofs.lemmas.Bool.{lt-leb, le-leb, lt-ltb, le-ltb, ltb-true, ltb-false, cases_lt}
use Rattle.std.proofs.lemmas.List.Sums.{passes_at_first, fails_before_first}
use Rattle.layout.specs.Refused.{refuse_unless}
use Rattle.layout.specs.declared.refusal.Refusal.TheVariants.{ShortTable}
use Rattle.walks.specs.Book.{short_table}

-- a table that is too short, after others that are long enough, is the one
short_here : (n k : ℕ) (sizes : List ℕ) (i : ℕ) → i < length sizes → ltb (get_or sizes i 0) n ≡ true → ((j : ℕ) → j < i → ltb (get_or sizes j 0) n ≡ false)
    → short_table n k sizes ≡ Some (ShortTable (k + i))
short_here n k [] i less here before = absurd (omega arith)
short_here n k (s ∷ ss) zero less here before =
    ap (λ b. refuse_unless b (ShortTable k) (short_table n (suc k) ss)) (lt-leb n s (ltb-true s n here)) ∙ ap (λ j. Some (ShortTable j)) (sym (add-zero k))
short_here n k (s ∷ ss) (suc i) less here before =
    let next : suc k + i ≡ k + suc i = omega arith in
    ap (λ b. refuse_unless b (ShortTable k) (short_table n (suc k) ss)) (le-leb n s (ltb-false s n (before 0 (omega arith))))
    ∙ short_here n (suc k) ss i (omega arith) here (λ j l. before (suc j) (omega arith)) ∙ ap (λ j. Some (ShortTable j)) next

-- none is too short
none_short : (n k : ℕ) (sizes : List ℕ) → ((j : ℕ) → j < length sizes → ltb (get_or sizes j 0) n ≡ false) → short_table n k sizes ≡ None
none_short n k [] long = refl
none_short n k (s ∷ ss) long =
    ap (λ b. refuse_unless b (ShortTable k) (short_table n (suc k) ss)) (le-leb n s (ltb-false s n (long 0 (omega arith))))
    ∙ none_short n (suc k) ss (λ j l. long (suc j) (omega arith))

-- tables are refused by the place of the first that is too short
pub short_place : (n k : ℕ) (sizes : List ℕ) → short_table n k sizes ≡ option_map (λ i. ShortTable (k + i)) (position (λ s. ltb s n) sizes)
short_place n k sizes =
    let i = position_or_len (λ s. ltb s n) sizes in
    ⊎_elim
    (λ less. short_here n k sizes i less (passes_at_first (λ s. ltb s n) sizes 0 less) (λ j l. fails_before_first (λ s. ltb s n) sizes j 0 l)
    ∙ ap (λ b. option_map (λ i. ShortTable (k + i)) (cond b (Some i) None)) (sym (lt-ltb i (length sizes) less)))
    (λ past. none_short n k sizes (λ j l. fails_before_first (λ s. ltb s n) sizes j 0 (omega arith))
    ∙ ap (λ b. option_map (λ i. ShortTable (k + i)) (cond b (Some i) None)) (sym (le-ltb i (length sizes) past)))
    (cases_lt i (length sizes))
