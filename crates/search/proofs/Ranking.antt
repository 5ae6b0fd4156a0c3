-- By lower total and then lower number the slots are ranked, and what no slot comes before is the lowest. Assumes nothing.
use Rattle.std.proofs.Common.{◌≡◌, ℕ, suc, ◌<◌, ◌≤◌, true, false, eqb, ◌⊎◌, List, [], ◌∷◌, length, get_or, Some, sym, ap, ◌∙◌, subst, inl, inr, ⊎_elim, arith}
use Rattle.std.specs.Cmp.{IsStrictWeakOrder}
use Rattle.std.proofs.lemmas.Bool.{both_ways, ltb-true, ltb-false, le-ltb, cases_Bool, and_parts, or_cases, or_parts, or_from, and_cases, and_left, and_right, not-true, not-false, not_from_true, eqb-true, cond-true, cond-false}
use Rattle.measure.specs.Scale.{Scale, Lawful}
use Rattle.measure.proofs.Order.{not_below_itself}
use Rattle.search.specs.declared.slot.Slot.{Slot}
use Rattle.search.specs.Waiting.{before, total_of, apart, Lowest}
use Rattle.search.proofs.Slots.{stands}

-- a slot with total x and number q that stands at a place of the list
pub record Standing {M : Type 0} (xs : List (Slot M)) (q : ℕ) (x : M) (d : Slot M) : Type 0 where
  pub place : ℕ
  pub within : place < length xs
  pub number : (get_or xs place d).number ≡ q
  pub total : (get_or xs place d).total ≡ x

pub standing_from_total : {M : Type 0} (xs : List (Slot M)) (q : ℕ) (x : M) (d : Slot M) → total_of xs q ≡ Some x → Standing xs q x d
standing_from_total [] q x d e = absurd (let z : ◌≡◌ {A = ℕ} 0 1 = cc in let w : ⊥ = omega arith in w)
standing_from_total (s ∷ xs) q x d e =
    ⊎_elim
    (λ t. let f = sym (cond-true _ (Some s.total) (total_of xs q) t) ∙ e in
    record { place = 0; within = omega arith; number = sym (eqb-true q s.number t); total = cc f })
    (λ f. let r = standing_from_total xs q x d (sym (cond-false _ (Some s.total) (total_of xs q) f) ∙ e) in
    record { place = suc r.place; within = omega (arith, r.within); number = r.number; total = r.total })
    (cases_Bool (eqb q s.number))

module _ {M : Type 0} {m : Scale M} (laws : Lawful m) where
  -- t does not come before s
  abbrev First : Slot M → Slot M → Type 0
  First s t = (m.below s.total t.total ≡ true) ⊎ ((s.total ≡ t.total) × (s.number ≤ t.number))

  first_from : (s t : Slot M) → before m t s ≡ false → First s t
  first_from s t f =
      let p = or_parts (m.below t.total s.total) _ f in
      ⊎_elim inl
      (λ g. inr (laws.same _ _ g p.0, ⊎_elim (λ n. absurd (both_ways _ g (not-false _ n))) (λ l. ltb-false _ _ l) (and_cases _ _ p.1)))
      (cases_Bool (m.below s.total t.total))

  first_to : (s t : Slot M) → First s t → before m t s ≡ false
  first_to s t (inl b) = or_from _ _ (laws.asym _ _ b) (and_left _ _ (not_from_true _ b))
  first_to s t (inr e) =
      let z : m.below t.total s.total ≡ false = subst (λ x. m.below t.total x ≡ false) (sym e.0) (not_below_itself laws t.total) in
      or_from _ _ z (and_right _ _ (le-ltb _ _ e.1))

  first_chain : (s t u : Slot M) → First s t → First t u → First s u
  first_chain s t u (inl p) (inl q) = inl (laws.trans _ _ _ p q)
  first_chain s t u (inl p) (inr q) = inl (subst (λ x. m.below s.total x ≡ true) q.0 p)
  first_chain s t u (inr p) (inl q) = inl (subst (λ x. m.below x u.total ≡ true) (sym p.0) q)
  first_chain s t u (inr p) (inr q) = inr (p.0 ∙ q.0, omega arith)

  pub slots_rank : IsStrictWeakOrder (before m)
  slots_rank = record {
    one_way = λ s t b. first_to s t (⊎_elim inl
        (λ e. let p = and_parts _ _ e in
        ⊎_elim inl (λ f. inr (laws.same _ _ f (not-true _ p.0), omega (arith, ltb-true _ _ p.1))) (cases_Bool (m.below s.total t.total)))
        (or_cases _ _ b));
    chain = λ s t u p q. first_to u s (first_chain u t s (first_from u t q) (first_from t s p));
  }

  -- a slot that no slot comes before is the lowest
  pub lowest_first : (xs : List (Slot M)) (k : ℕ) (s : Slot M) → apart xs ≡ true → k < length xs → s ≡ get_or xs k s
      → ((i : ℕ) → i < length xs → before m (get_or xs i s) s ≡ false) → Lowest m (total_of xs) s.number s.total
  lowest_first xs k s a lt e first =
      let other : (v : ℕ) (y : M) → total_of xs v ≡ Some y → (m.below s.total y ≡ true) ⊎ ((s.total ≡ y) × (s.number ≤ v)) = λ v y there.
      let r = standing_from_total xs v y s there in
      ⊎_elim (λ b. inl (subst (λ x. m.below s.total x ≡ true) r.total b)) (λ b. inr (b.0 ∙ r.total, omega (arith, b.1, r.number)))
      (first_from s (get_or xs r.place s) (first r.place r.within)) in
      record {
        waits_so = stands xs k s a lt (ap (λ t. t.number) (sym e)) ∙ ap (λ t. Some t.total) (sym e);
        not_above = λ v y there. ⊎_elim (laws.asym _ _) (λ b. subst (λ x. m.below x s.total ≡ false) b.0 (not_below_itself laws s.total)) (other v y there);
        ties = λ v y there same. ⊎_elim (λ b. absurd (both_ways _ (subst (λ x. m.below s.total x ≡ false) (sym same) (not_below_itself laws s.total)) b)) (λ b. b.1) (other v y there);
      }
