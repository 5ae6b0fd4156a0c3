-- What putting in, lowering and taking out do to slots that hold different numbers. Assumes nothing.
use Rattle.std.proofs.Common.{◌≡◌, ℕ, zero, suc, ◌+◌, ◌<◌, ◌≤◌, true, false, cond, not, eqb, List, [], ◌∷◌, ◌++◌, length, get_or, take, set, is_some, Some, None, Option, sym, refl, ap, ◌∙◌, subst, ⊎_elim, arith}
use Rattle.std.specs.List.{HoldsAt, position, position_or_len}
use Rattle.std.specs.Map.{update}
use Rattle.std.specs.Option.{MatchOption}
use Rattle.std.proofs.lemmas.List.{length-take-le, get_or-take, take_more}
use Rattle.std.specs.Prelude.{◌==◌}
use Rattle.std.proofs.lemmas.List.Sums.{passes_at_first, fails_before_first}
use Rattle.std.proofs.lemmas.Bool.{lt-ltb, le-ltb, cases_lt, and_parts, and_from, cases_Bool, eqb-true, eqb-false, eq-eqb, ne_eqb, cond-true, cond-false}
use Rattle.search.specs.declared.slot.Slot.{Slot}
use Rattle.search.specs.Waiting.{total_of, apart}

some_none : {M : Type 0} (x : M) → None ≡ Some x → ⊥
some_none x e = let z : ◌≡◌ {A = ℕ} 0 1 = cc in omega arith

none_from : {M : Type 0} (o : Option M) → not (is_some o) ≡ true → o ≡ None
none_from None e = refl
none_from (Some x) e = absurd (some_none x (let z : ◌≡◌ {A = Option _} None (Some x) = cc in z))

pub none_to : {M : Type 0} (o : Option M) → o ≡ None → not (is_some o) ≡ true
none_to o e = ap (λ p. not (is_some p)) e

eqb_swap : (a b : ℕ) → eqb a b ≡ eqb b a
eqb_swap a b =
    ⊎_elim
    (λ t. t ∙ sym (eq-eqb b a (sym (eqb-true a b t))))
    (λ f. f ∙ sym (ne_eqb b a (λ e. eqb-false a b f (sym e))))
    (cases_Bool (eqb a b))

-- f, with w at k
abbrev pub written_at : {X : Type 0} → (ℕ → Option X) → ℕ → Option X → ℕ → Option X
written_at f k w q = cond (eqb q k) w (f q)

pub updated : {X : Type 0} (f : ℕ → Option X) (k : ℕ) (w : Option X) (q : ℕ) → written_at f k w q ≡ update eqb f k w q
updated f k w q = ap (λ b. cond b w (f q)) (eqb_swap q k)

-- a write at a place, seen in a front of the list
pub take_set_any : {X : Type 0} (n : ℕ) (xs : List X) (k : ℕ) (x : X) → take n (set xs k x) ≡ set (take n xs) k x
take_set_any zero xs k x = refl
take_set_any (suc n) [] k x = refl
take_set_any (suc n) (y ∷ xs) zero x = refl
take_set_any (suc n) (y ∷ xs) (suc k) x = ap (λ l. y ∷ l) (take_set_any n xs k x)

module _ {M : Type 0} where
  -- the slots after the first: its number is not among them
  pub others_lack : (s : Slot M) (xs : List (Slot M)) → apart (s ∷ xs) ≡ true → total_of xs s.number ≡ None
  others_lack s xs a = none_from _ (and_parts _ _ a).0

  pub others_apart : (s : Slot M) (xs : List (Slot M)) → apart (s ∷ xs) ≡ true → apart xs ≡ true
  others_apart s xs a = (and_parts _ _ a).1

  -- a number that does not wait is not the first slot's, nor in the others
  not_first : (s : Slot M) (xs : List (Slot M)) (q : ℕ) → total_of (s ∷ xs) q ≡ None → eqb q s.number ≡ false
  not_first s xs q e = ⊎_elim (λ t. absurd (some_none s.total (sym e ∙ cond-true _ _ _ t))) (λ f. f) (cases_Bool (eqb q s.number))

  not_others : (s : Slot M) (xs : List (Slot M)) (q : ℕ) → total_of (s ∷ xs) q ≡ None → total_of xs q ≡ None
  not_others s xs q e = sym (cond-false _ _ _ (not_first s xs q e)) ∙ e

  -- a slot that stands at a place waits with its total
  pub stands : (xs : List (Slot M)) (k : ℕ) (s : Slot M) → apart xs ≡ true → k < length xs → (get_or xs k s).number ≡ s.number → total_of xs s.number ≡ Some (get_or xs k s).total
  stands [] k s a lt e = absurd (omega arith)
  stands (w ∷ xs) zero s a lt e = cond-true _ _ _ (eq-eqb s.number w.number (sym e))
  stands (w ∷ xs) (suc k) s a lt e =
      let later = stands xs k s (others_apart w xs a) (omega arith) e in
      let other : eqb s.number w.number ≡ false = ne_eqb _ _ (λ f. some_none _ (sym (subst (λ q. total_of xs q ≡ None) (sym f) (others_lack w xs a)) ∙ later)) in
      cond-false _ _ _ other ∙ later

  -- one place more, which holds another number
  last_lacks : (xs : List (Slot M)) (s : Slot M) (q : ℕ) → (s.number ≡ q → ⊥) → total_of xs q ≡ None → total_of (xs ++ (s ∷ [])) q ≡ None
  last_lacks [] s q other none = cond-false _ _ _ (ne_eqb q s.number (λ e. other (sym e)))
  last_lacks (w ∷ xs) s q other none = cond-false _ _ _ (not_first w xs q none) ∙ last_lacks xs s q other (not_others w xs q none)

  pub lacks_more : (xs : List (Slot M)) (i q : ℕ) (s : Slot M) → i < length xs → s ≡ get_or xs i s → (s.number ≡ q → ⊥) → total_of (take i xs) q ≡ None → total_of (take (i + 1) xs) q ≡ None
  lacks_more xs i q s lt read other none =
      ap (λ l. total_of l q) (take_more xs i s lt) ∙ last_lacks (take i xs) (get_or xs i s) q (λ e. other (ap (λ t. t.number) read ∙ e)) none

  -- one slot more at the end, with a number that does not wait
  pub put_total : (xs : List (Slot M)) (s : Slot M) → total_of xs s.number ≡ None → (q : ℕ) → total_of (xs ++ (s ∷ [])) q ≡ written_at (total_of xs) s.number (Some s.total) q
  put_total [] s fresh q = refl
  put_total (w ∷ xs) s fresh q =
      let later = put_total xs s (not_others w xs s.number fresh) q in
      let other = eqb-false _ _ (not_first w xs s.number fresh) in
      ⊎_elim
      (λ t. cond-true _ _ _ t ∙ sym (cond-false _ _ _ (ne_eqb q s.number (λ f. other (sym f ∙ eqb-true q w.number t))) ∙ cond-true _ _ _ t))
      (λ f. cond-false _ _ _ f ∙ later ∙ ap (λ o. cond (eqb q s.number) (Some s.total) o) (sym (cond-false _ _ _ f)))
      (cases_Bool (eqb q w.number))

  pub put_apart : (xs : List (Slot M)) (s : Slot M) → apart xs ≡ true → total_of xs s.number ≡ None → apart (xs ++ (s ∷ [])) ≡ true
  put_apart [] s a fresh = refl
  put_apart (w ∷ xs) s a fresh =
      let other = eqb-false _ _ (not_first w xs s.number fresh) in
      let none = not_others w xs s.number fresh in
      and_from _ _
      (none_to _ (put_total xs s none w.number ∙ cond-false _ _ _ (ne_eqb _ _ (λ f. other (sym f))) ∙ others_lack w xs a))
      (put_apart xs s (others_apart w xs a) none)

  -- of slots that are apart the last one's number is not among the others
  put_lacks : (xs : List (Slot M)) (s : Slot M) → apart (xs ++ (s ∷ [])) ≡ true → total_of xs s.number ≡ None
  put_lacks [] s a = refl
  put_lacks (w ∷ xs) s a =
      let later = put_lacks xs s (others_apart w _ a) in
      let lack = sym (put_total xs s later w.number) ∙ others_lack w _ a in
      let other : s.number ≡ w.number → ⊥ = λ f. some_none s.total (sym lack ∙ cond-true _ _ _ (eq-eqb _ _ (sym f))) in
      cond-false _ _ _ (ne_eqb _ _ other) ∙ later

  put_others : (xs : List (Slot M)) (s : Slot M) → apart (xs ++ (s ∷ [])) ≡ true → apart xs ≡ true
  put_others [] s a = refl
  put_others (w ∷ xs) s a =
      let lack = put_total xs s (put_lacks xs s (others_apart w _ a)) w.number in
      let none = sym lack ∙ others_lack w _ a in
      and_from _ _
      (none_to _ (⊎_elim (λ t. absurd (some_none s.total (sym none ∙ cond-true _ _ _ t))) (λ f. sym (cond-false _ _ _ f) ∙ none) (cases_Bool (eqb w.number s.number))))
      (put_others xs s (others_apart w _ a))

  -- slot s in the place of one with its number
  pub set_total : (xs : List (Slot M)) (k : ℕ) (s : Slot M) → apart xs ≡ true → k < length xs → (get_or xs k s).number ≡ s.number → (q : ℕ) → total_of (set xs k s) q ≡ written_at (total_of xs) s.number (Some s.total) q
  set_total [] k s a lt e q = absurd (omega arith)
  set_total (w ∷ xs) zero s a lt e q =
      ⊎_elim
      (λ t. cond-true _ _ _ t ∙ sym (cond-true _ _ _ t))
      (λ f. cond-false _ _ _ f ∙ sym (cond-false _ _ _ f ∙ cond-false _ _ _ (subst (λ n. eqb q n ≡ false) (sym e) f)))
      (cases_Bool (eqb q s.number))
  set_total (w ∷ xs) (suc k) s a lt e q =
      let later = set_total xs k s (others_apart w xs a) (omega arith) e q in
      let there = stands xs k s (others_apart w xs a) (omega arith) e in
      let other : w.number ≡ s.number → ⊥ = λ f. some_none _ (sym (subst (λ n. total_of xs n ≡ None) f (others_lack w xs a)) ∙ there) in
      ⊎_elim
      (λ t. cond-true _ _ _ t ∙ sym (cond-false _ _ _ (ne_eqb q s.number (λ f. other (sym (eqb-true q w.number t) ∙ f))) ∙ cond-true _ _ _ t))
      (λ f. cond-false _ _ _ f ∙ later ∙ ap (λ o. cond (eqb q s.number) (Some s.total) o) (sym (cond-false _ _ _ f)))
      (cases_Bool (eqb q w.number))

  pub set_apart : (xs : List (Slot M)) (k : ℕ) (s : Slot M) → apart xs ≡ true → k < length xs → (get_or xs k s).number ≡ s.number → apart (set xs k s) ≡ true
  set_apart [] k s a lt e = absurd (omega arith)
  set_apart (w ∷ xs) zero s a lt e = and_from _ _ (none_to _ (subst (λ n. total_of xs n ≡ None) e (others_lack w xs a))) (others_apart w xs a)
  set_apart (w ∷ xs) (suc k) s a lt e =
      let there = stands xs k s (others_apart w xs a) (omega arith) e in
      let other : w.number ≡ s.number → ⊥ = λ f. some_none _ (sym (subst (λ n. total_of xs n ≡ None) f (others_lack w xs a)) ∙ there) in
      and_from _ _
      (none_to _ (set_total xs k s (others_apart w xs a) (omega arith) e w.number ∙ cond-false _ _ _ (ne_eqb _ _ other) ∙ others_lack w xs a))
      (set_apart xs k s (others_apart w xs a) (omega arith) e)

  -- the slot at `at` taken out: the last slot x goes into its place, where it is not the last itself
  pub taken_total : (ws : List (Slot M)) (x : Slot M) (at : ℕ) (s : Slot M) → apart (ws ++ (x ∷ [])) ≡ true → at < length (ws ++ (x ∷ [])) → s ≡ get_or (ws ++ (x ∷ [])) at s
      → (q : ℕ) → total_of (set ws at x) q ≡ written_at (total_of (ws ++ (x ∷ []))) s.number None q
  taken_total [] x zero s a lt e q =
      let same : s.number ≡ x.number = ap (λ y. y.number) e in
      ⊎_elim (λ t. sym (cond-true _ _ _ t)) (λ f. sym (cond-false _ _ _ f ∙ cond-false _ _ _ (subst (λ n. eqb q n ≡ false) same f))) (cases_Bool (eqb q s.number))
  taken_total [] x (suc at) s a lt e q = absurd (omega arith)
  taken_total (w ∷ ws) x zero s a lt e q =
      let same : w.number ≡ s.number = ap (λ y. y.number) (sym e) in
      let lack = put_lacks ws x (others_apart w _ a) in
      let both = put_total ws x lack in
      let gone = sym (both s.number) ∙ subst (λ n. total_of (ws ++ (x ∷ [])) n ≡ None) same (others_lack w _ a) in
      ⊎_elim
      (λ t. subst (λ n. written_at (total_of ws) x.number (Some x.total) n ≡ None) (sym (eqb-true q s.number t)) gone ∙ sym (cond-true _ _ _ t))
      (λ f. sym (both q) ∙ sym (cond-false _ _ _ f ∙ cond-false _ _ _ (subst (λ n. eqb q n ≡ false) (sym same) f)))
      (cases_Bool (eqb q s.number))
  taken_total (w ∷ ws) x (suc at) s a lt e q =
      let more = others_apart w _ a in
      let later = taken_total ws x at s more (omega arith) e q in
      let there = stands (ws ++ (x ∷ [])) at s more (omega arith) (ap (λ y. y.number) (sym e)) in
      let other : w.number ≡ s.number → ⊥ = λ f. some_none _ (sym (subst (λ n. total_of (ws ++ (x ∷ [])) n ≡ None) f (others_lack w _ a)) ∙ there) in
      ⊎_elim
      (λ t. cond-true _ _ _ t ∙ sym (cond-false _ _ _ (ne_eqb q s.number (λ f. other (sym (eqb-true q w.number t) ∙ f))) ∙ cond-true _ _ _ t))
      (λ f. cond-false _ _ _ f ∙ later ∙ ap (λ o. cond (eqb q s.number) None o) (sym (cond-false _ _ _ f)))
      (cases_Bool (eqb q w.number))

  pub taken_apart : (ws : List (Slot M)) (x : Slot M) (at : ℕ) (s : Slot M) → apart (ws ++ (x ∷ [])) ≡ true → at < length (ws ++ (x ∷ [])) → s ≡ get_or (ws ++ (x ∷ [])) at s
      → apart (set ws at x) ≡ true
  taken_apart [] x at s a lt e = refl
  taken_apart (w ∷ ws) x zero s a lt e =
      and_from _ _ (none_to _ (put_lacks ws x (others_apart w _ a))) (put_others ws x (others_apart w _ a))
  taken_apart (w ∷ ws) x (suc at) s a lt e =
      let more = others_apart w _ a in
      and_from _ _
      (none_to _ (taken_total ws x at s more (omega arith) e w.number ∙ ⊎_elim (λ t. cond-true _ _ _ t) (λ f. cond-false _ _ _ f ∙ others_lack w _ a) (cases_Bool (eqb w.number s.number))))
      (taken_apart ws x at s more (omega arith) e)

  -- where no slot has the number, it does not wait
  lacks_all : (xs : List (Slot M)) (q : ℕ) → ((k : ℕ) (d : Slot M) → k < length xs → eqb (get_or xs k d).number q ≡ false) → total_of xs q ≡ None
  lacks_all [] q others = refl
  lacks_all (w ∷ xs) q others = cond-false _ _ _ (eqb_swap q w.number ∙ others 0 w (omega arith)) ∙ lacks_all xs q (λ k d less. others (suc k) d (omega arith))

  -- the first of n slots with a number, if there is one
  pub place_found : (n : ℕ) (xs : List (Slot M)) (q : ℕ) → n ≤ length xs
      → MatchOption (position (λ s. s.number == q) (take n xs)) (total_of (take n xs) q ≡ None) (λ k. (k < n) × HoldsAt (λ s. s.number ≡ q) xs k)
  place_found n xs q within =
      let first = take n xs in
      let long = length-take-le n xs within in
      let i = position_or_len (λ s. s.number == q) first in
      ⊎_elim
      (λ less.
      let inside : i < n = omega arith in
      subst (λ b. MatchOption (cond b (Some i) None) (total_of first q ≡ None) (λ k. (k < n) × HoldsAt (λ s. s.number ≡ q) xs k)) (sym (lt-ltb i (length first) less))
      (inside, λ d. ap (λ s. s.number) (sym (get_or-take n xs i d inside)) ∙ eqb-true _ q (passes_at_first (λ s. s.number == q) first d less)))
      (λ past.
      subst (λ b. MatchOption (cond b (Some i) None) (total_of first q ≡ None) (λ k. (k < n) × HoldsAt (λ s. s.number ≡ q) xs k)) (sym (le-ltb i (length first) past))
      (lacks_all first q (λ k d less. fails_before_first (λ s. s.number == q) first k d (omega arith))))
      (cases_lt i (length first))
