-- What lowering and taking do where the first n slots of xs are in use. Assumes nothing.
use Rattle.std.proofs.Common.{◌≡◌, ℕ, ◌+◌, ◌-◌, ◌<◌, ◌≤◌, true, false, eqb, List, [], ◌∷◌, ◌++◌, length, get_or, take, set, Some, None, sym, ap, ◌∙◌, subst, arith}
use Rattle.std.specs.List.{IsFirstBest, HoldsAt}
use Rattle.std.specs.Map.{update}
use Rattle.std.proofs.lemmas.List.{take_more, get_or-take, get_or_default, length-take-le}
use Rattle.measure.specs.Scale.{Scale, Lawful}
use Rattle.search.specs.declared.slot.Slot.{Slot}
use Rattle.search.specs.Waiting.{total_of, apart, before, Lowest}
use Rattle.search.proofs.Slots.{written_at, updated, take_set_any, stands, set_total, set_apart, taken_total, taken_apart}
use Rattle.search.proofs.Ranking.{lowest_first}

module _ {M : Type 0} (xs : List (Slot M)) (n : ℕ) (fits : n ≤ length xs) (distinct : apart (take n xs) ≡ true) where
  within : (k : ℕ) → k < n → k < length (take n xs)
  within k lt = let e = length-take-le n xs fits in omega arith

  -- the slot at k has the number of s
  module _ (k : ℕ) (s : Slot M) (lt : k < n) (same : HoldsAt (λ t. t.number ≡ s.number) xs k) where
    same_in_use : (get_or (take n xs) k s).number ≡ s.number
    same_in_use = ap (λ t. t.number) (get_or-take n xs k s lt) ∙ same s

    pub found_total : (d : Slot M) → total_of (take n xs) s.number ≡ Some (get_or xs k d).total
    found_total d = stands (take n xs) k s distinct (within k lt) same_in_use ∙ ap (λ t. Some t.total) (get_or-take n xs k s lt ∙ get_or_default xs k s d (omega arith))

    pub lowered_total : (q : ℕ) → total_of (take n (set xs k s)) q ≡ written_at (total_of (take n xs)) s.number (Some s.total) q
    lowered_total q = ap (λ l. total_of l q) (take_set_any n xs k s) ∙ set_total (take n xs) k s distinct (within k lt) same_in_use q

    pub lowered_apart : apart (take n (set xs k s)) ≡ true
    lowered_apart = ap apart (take_set_any n xs k s) ∙ set_apart (take n xs) k s distinct (within k lt) same_in_use

  -- slot s stands at k, and x is the last in use
  module _ (k : ℕ) (s x : Slot M) (lt : k < n) (there : s ≡ get_or xs k s) (last : x ≡ get_or xs (n - 1) x) where
    split : take n xs ≡ take (n - 1) xs ++ (x ∷ [])
    split =
        let one : n - 1 + 1 ≡ n = omega arith in
        subst (λ m. take m xs ≡ take (n - 1) xs ++ (x ∷ [])) one (take_more xs (n - 1) x (omega arith) ∙ ap (λ t. take (n - 1) xs ++ (t ∷ [])) (sym last))

    there_in_use : s ≡ get_or (take n xs) k s
    there_in_use = there ∙ sym (get_or-take n xs k s lt)

    pub removed_total : (q : ℕ) → total_of (take (n - 1) (set xs k x)) q ≡ update eqb (total_of (take n xs)) s.number None q
    removed_total q =
        ap (λ l. total_of l q) (take_set_any (n - 1) xs k x)
        ∙ taken_total (take (n - 1) xs) x k s (subst (λ l. apart l ≡ true) split distinct) (subst (λ l. k < length l) split (within k lt)) (subst (λ l. s ≡ get_or l k s) split there_in_use) q
        ∙ ap (λ l. written_at (total_of l) s.number None q) (sym split)
        ∙ updated (total_of (take n xs)) s.number None q

    pub removed_apart : apart (take (n - 1) (set xs k x)) ≡ true
    removed_apart =
        ap apart (take_set_any (n - 1) xs k x)
        ∙ taken_apart (take (n - 1) xs) x k s (subst (λ l. apart l ≡ true) split distinct) (subst (λ l. k < length l) split (within k lt)) (subst (λ l. s ≡ get_or l k s) split there_in_use)

    pub removed_lowest : {m : Scale M} → Lawful m → IsFirstBest (before m) xs n k → Lowest m (total_of (take n xs)) s.number s.total
    removed_lowest {m = m} laws first =
        let size = length-take-le n xs fits in
        lowest_first laws (take n xs) k s distinct (within k lt) there_in_use
        (λ i li. let le : i < n = omega arith in
        subst (λ t. before m t s ≡ false) (sym (get_or-take n xs i s le)) (subst (λ t. before m (get_or xs i s) t ≡ false) (sym there) (first.1 i s le)))
