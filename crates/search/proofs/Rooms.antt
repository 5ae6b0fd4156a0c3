-- Numbers below n that wait take n slots at most, and fewer where one of them does not wait: so there is room for it. Assumes nothing.
use Rattle.std.proofs.Common.{◌≡◌, ℕ, zero, suc, ◌+◌, ◌<◌, ◌≤◌, Bool, true, false, eqb, List, [], ◌∷◌, length, take, is_some, Some, None, sym, refl, ap, ◌∙◌, subst, ⊎_elim, arith}
use Rattle.std.proofs.lemmas.List.{length-take-le}
use Rattle.std.proofs.lemmas.Bool.{and_from, cases_Bool, cases_eq, eqb-true, eq-eqb, ne_eqb, cond-true, cond-false}
use Rattle.search.specs.declared.slot.Slot.{Slot}
use Rattle.search.specs.declared.queue.Queue.{Queue}
use Rattle.search.specs.Waiting.{total_of, apart}
use Rattle.search.specs.Queued.{waiting}
use Rattle.search.proofs.Slots.{others_lack, others_apart, none_to}

-- 1 for a test that is passed, else 0
abbrev one : Bool → ℕ
one true = 1
one false = 0

one_few : (b : Bool) → one b ≤ 1
one_few true = omega arith
one_few false = omega arith

-- how many numbers below n pass a test
abbrev count : (ℕ → Bool) → ℕ → ℕ
count f zero = 0
count f (suc n) = one (f n) + count f n

count_few : (f : ℕ → Bool) (n : ℕ) → count f n ≤ n
count_few f zero = omega arith
count_few f (suc n) = let h = count_few f n in let k = one_few (f n) in omega arith

count_none : (n : ℕ) → count (λ q. false) n ≡ 0
count_none zero = refl
count_none (suc n) = let h = count_none n in omega arith

count_same : (f g : ℕ → Bool) (n : ℕ) → ((q : ℕ) → q < n → g q ≡ f q) → count g n ≡ count f n
count_same f g zero same = refl
count_same f g (suc n) same =
    let h = count_same f g n (λ q lt. same q (omega arith)) in
    let e : one (g n) ≡ one (f n) = ap one (same n (omega arith)) in
    omega arith

-- one number more passes
count_more : (f g : ℕ → Bool) (v n : ℕ) → v < n → f v ≡ false → g v ≡ true → ((q : ℕ) → (q ≡ v → ⊥) → g q ≡ f q) → count g n ≡ count f n + 1
count_more f g v zero lt old new same = omega arith
count_more f g v (suc n) lt old new same =
    ⊎_elim
    (λ e. let h = count_same f g n (λ q l. same q (λ z. let w : ⊥ = omega arith in w)) in
    let was : one (f n) ≡ 0 = ap one (subst (λ k. f k ≡ false) (sym e) old) in
    let is : one (g n) ≡ 1 = ap one (subst (λ k. g k ≡ true) (sym e) new) in
    omega arith)
    (λ ne. let h = count_more f g v n (omega arith) old new same in
    let e : one (g n) ≡ one (f n) = ap one (same n ne) in
    omega arith)
    (cases_eq n v)

module _ {M : Type 0} where
  -- every number that waits is below n
  abbrev Below : List (Slot M) → ℕ → Type 0
  Below us n = (q : ℕ) (x : M) → total_of us q ≡ Some x → q < n

  first_below : (s : Slot M) (us : List (Slot M)) (n : ℕ) → Below (s ∷ us) n → s.number < n
  first_below s us n b = b s.number s.total (cond-true _ _ (total_of us s.number) (eq-eqb s.number s.number refl))

  others_below : (s : Slot M) (us : List (Slot M)) (n : ℕ) → Below (s ∷ us) n → Below us n
  others_below s us n b q x e =
      ⊎_elim
      (λ t. subst (λ k. k < n) (sym (eqb-true q s.number t)) (first_below s us n b))
      (λ f. b q x (cond-false _ _ _ f ∙ e))
      (cases_Bool (eqb q s.number))

  slots_counted : (us : List (Slot M)) (n : ℕ) → apart us ≡ true → Below us n → length us ≡ count (λ q. is_some (total_of us q)) n
  slots_counted [] n a b = sym (count_none n)
  slots_counted (s ∷ us) n a b =
      let h = slots_counted us n (others_apart s us a) (others_below s us n b) in
      let more = count_more (λ q. is_some (total_of us q)) (λ q. is_some (total_of (s ∷ us) q)) s.number n (first_below s us n b)
      (ap is_some (others_lack s us a)) (ap is_some (cond-true _ (Some s.total) (total_of us s.number) (eq-eqb s.number s.number refl)))
      (λ q ne. ap is_some (cond-false _ _ _ (ne_eqb q s.number ne))) in
      omega arith

  few_slots : (us : List (Slot M)) (n : ℕ) → apart us ≡ true → Below us n → length us ≤ n
  few_slots us n a b = let h = slots_counted us n a b in let k = count_few (λ q. is_some (total_of us q)) n in omega arith

  pub few_used : (queue : Queue M) (n : ℕ) → ((q : ℕ) (x : M) → waiting queue q ≡ Some x → q < n) → queue.used ≤ n
  few_used queue n b =
      let e = length-take-le queue.used queue.slots.now queue.fits in
      let h = few_slots (take queue.used queue.slots.now) n queue.distinct b in
      omega arith

  pub room_for : (queue : Queue M) (n v : ℕ) → M → ((q : ℕ) (x : M) → waiting queue q ≡ Some x → q < n) → waiting queue v ≡ None → v < n → queue.used < n
  room_for queue n v x b fresh lt =
      let us = take queue.used queue.slots.now in
      let s : Slot M = record { total = x; number = v } in
      let e = length-take-le queue.used queue.slots.now queue.fits in
      let h = few_slots (s ∷ us) n (and_from _ _ (none_to _ fresh) queue.distinct)
      (λ q y there. ⊎_elim (λ t. subst (λ k. k < n) (sym (eqb-true q v t)) lt) (λ f. b q y (sym (cond-false _ _ _ f) ∙ there)) (cases_Bool (eqb q v))) in
      omega arith
