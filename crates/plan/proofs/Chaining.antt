-- Chains as one leg more is added, and as they are followed. Assumes nothing.
use Rattle.std.proofs.Common.{◌≡◌, ℕ, ◌+◌, ◌-◌, ◌<◌, ◌≤◌, List, [], ◌∷◌, ◌++◌, length, get_or, take, set, replicate, Some, None, Option, sym, refl, ap, ◌∙◌, subst, ⊎_elim, arith}
use Rattle.std.specs.List.{slice_get}
use Rattle.std.proofs.lemmas.List.{get_or_past, get_or-set_same, get_or-set_other, length-set, length-take-le, take_more_set, get_or-replicate, length-replicate}
use Rattle.std.proofs.lemmas.Bool.{cases_eq, cases_lt}
use Rattle.layout.specs.Plant.{Next}
use Rattle.std.proofs.lemmas.Option.{slice_get_within, none-some}
use Rattle.plan.specs.Chained.{Chained, Linked, Last, ends_of}
use Rattle.plan.specs.declared.chains.Chains.TheInside.{Inside}
use Rattle.plan.proofs.Pushed.{old_or_new, nth_old, nth_new}

-- a fact of one place of a table that was written at one place
module _ (P : Option ℕ → Type 0) (xs : List (Option ℕ)) (i n : ℕ) (v : Option ℕ) where
  pub at_same : i < length xs → n ≡ i → P v → P (get_or (set xs i v) n None)
  at_same lt same h =
      subst P (sym (ap (λ k. get_or (set xs i v) k None) same ∙ get_or-set_same xs i v None lt)) h

  pub at_other : (n ≡ i → ⊥) → P (get_or xs n None) → P (get_or (set xs i v) n None)
  at_other apart h = subst P (sym (get_or-set_other xs i n v None apart)) h

-- the list of junctions with j more
module _ (ks : List ℕ) (j : ℕ) where
  next_kept : (n from : ℕ) (o : Option ℕ) → Next ks n from o → (o ≡ None → n ≡ j → ⊥) → Next (ks ++ (j ∷ [])) n from o
  next_kept n from None h apart = λ i low e.
      ⊎_elim (λ old. h i low old.1) (λ new. apart refl (sym new.1)) (old_or_new ks j n i e)
  next_kept n from (Some m) h apart = (
    h.0,
    nth_old ks j n m h.1,
    λ i low high e.
        ⊎_elim
        (λ old. h.2 i low high old.1)
        (λ new. let w = slice_get_within ks m n h.1 in let at = new.0 in absurd (let z : ⊥ = omega arith in z))
        (old_or_new ks j n i e),
  )

  next_here : (from : ℕ) → from ≤ length ks → Next ks j from None → Next (ks ++ (j ∷ [])) j from (Some (length ks))
  next_here from le h = (
    le,
    nth_new ks j,
    λ i low high e.
        ⊎_elim (λ old. h i low old.1) (λ new. let at = new.0 in absurd (let z : ⊥ = omega arith in z)) (old_or_new ks j j i e),
  )

  next_end : (n from : ℕ) → length ks < from → Next (ks ++ (j ∷ [])) n from None
  next_end n from past i low e =
      ⊎_elim
      (λ old. let at = old.0 in absurd (let z : ⊥ = omega arith in z))
      (λ new. let at = new.0 in absurd (let z : ⊥ = omega arith in z))
      (old_or_new ks j n i e)

  last_here : Last (ks ++ (j ∷ [])) j (Some (length ks))
  last_here = (nth_new ks j, λ i high e. next_end j (length ks + 1) (omega arith) i (omega arith) e)

  last_kept : (n : ℕ) (o : Option ℕ) → (n ≡ j → ⊥) → Last ks n o → Last (ks ++ (j ∷ [])) n o
  last_kept n None apart h = λ i e. ⊎_elim (λ old. h i old.1) (λ new. apart (sym new.1)) (old_or_new ks j n i e)
  last_kept n (Some k) apart h =
      (nth_old ks j n k h.0, λ i high e. ⊎_elim (λ old. h.1 i high old.1) (λ new. apart (sym new.1)) (old_or_new ks j n i e))

module _ (ks : List ℕ) (first last next : List (Option ℕ)) (j : ℕ) (h : Linked ks first last next) (in_junctions : j < 256) (in_legs : length ks < 512) where
  lasts_pushed : (n : ℕ) → n < 256 → Last (ks ++ (j ∷ [])) n (get_or (set last j (Some (length ks))) n None)
  lasts_pushed n lt =
      let wide = h.wide_last in
      ⊎_elim
      (λ same. at_same (Last (ks ++ (j ∷ [])) n) last j n (Some (length ks)) (omega arith) same
      (subst (λ m. Last (ks ++ (j ∷ [])) m (Some (length ks))) (sym same) (last_here ks j)))
      (λ apart. at_other (Last (ks ++ (j ∷ [])) n) last j n (Some (length ks)) apart (last_kept ks j n _ apart (h.lasts n lt)))
      (cases_eq n j)

  first_none : Last ks j None → (n : ℕ) → n < 256 → Next (ks ++ (j ∷ [])) n 0 (get_or (set first j (Some (length ks))) n None)
  first_none none n lt =
      let wide = h.wide_first in
      ⊎_elim
      (λ same. at_same (Next (ks ++ (j ∷ [])) n 0) first j n (Some (length ks)) (omega arith) same
      (subst (λ m. Next (ks ++ (j ∷ [])) m 0 (Some (length ks))) (sym same) (next_here ks j 0 (omega arith) (λ i low e. none i e))))
      (λ apart. at_other (Next (ks ++ (j ∷ [])) n 0) first j n (Some (length ks)) apart (next_kept ks j n 0 _ (h.firsts n lt) (λ _. apart)))
      (cases_eq n j)

  next_none : Last ks j None → (k n : ℕ) → slice_get (ks ++ (j ∷ [])) k ≡ Some n → Next (ks ++ (j ∷ [])) n (k + 1) (get_or (set next (length ks) None) k None)
  next_none none k n e =
      let wide = h.wide_next in
      ⊎_elim
      (λ old. let lt = old.0 in
      at_other (Next (ks ++ (j ∷ [])) n (k + 1)) next (length ks) k None (λ q. let z : ⊥ = omega arith in z)
      (next_kept ks j n (k + 1) _ (h.nexts k n old.1) (λ _ same. none k (old.1 ∙ ap Some same))))
      (λ new. let at = new.0 in
      at_same (Next (ks ++ (j ∷ [])) n (k + 1)) next (length ks) k None (omega arith) at (next_end ks j n (k + 1) (omega arith)))
      (old_or_new ks j n k e)

  first_some : (b : ℕ) → slice_get ks b ≡ Some j → (n : ℕ) → n < 256 → Next (ks ++ (j ∷ [])) n 0 (get_or first n None)
  first_some b there n lt =
      next_kept ks j n 0 _ (h.firsts n lt)
      (λ none same. subst (Next ks n 0) none (h.firsts n lt) b (omega arith) (there ∙ ap Some (sym same)))

  -- after a leg k that stood there before
  next_old : (b : ℕ) → Last ks j (Some b) → (k n : ℕ) → slice_get ks k ≡ Some n → Next (ks ++ (j ∷ [])) n (k + 1) (get_or (set next b (Some (length ks))) k None)
  next_old b end k n e =
      let wide = h.wide_next in
      let within = slice_get_within ks b j end.0 in
      ⊎_elim
      (λ same.
      let mine : n ≡ j = (let q : slice_get ks b ≡ Some n = subst (λ i. slice_get ks i ≡ Some n) same e in let p = end.0 in cc) in
      at_same (Next (ks ++ (j ∷ [])) n (k + 1)) next b k (Some (length ks)) (omega arith) same
      (subst (λ m. Next (ks ++ (j ∷ [])) m (k + 1) (Some (length ks))) (sym mine)
      (next_here ks j (k + 1) (omega arith) (λ i low f. end.1 i (omega arith) f))))
      (λ apart.
      at_other (Next (ks ++ (j ∷ [])) n (k + 1)) next b k (Some (length ks)) apart
      (next_kept ks j n (k + 1) _ (h.nexts k n e)
      (λ none same.
      ⊎_elim
      (λ before. subst (Next ks n (k + 1)) none (h.nexts k n e) b (omega arith) (end.0 ∙ ap Some (sym same)))
      (λ after. end.1 k (omega arith) (e ∙ ap Some same))
      (cases_lt k b))))
      (cases_eq k b)

  next_some : (b : ℕ) → Last ks j (Some b) → (k n : ℕ) → slice_get (ks ++ (j ∷ [])) k ≡ Some n → Next (ks ++ (j ∷ [])) n (k + 1) (get_or (set (set next b (Some (length ks))) (length ks) None) k None)
  next_some b end k n e =
      let wide = length-set next b (Some (length ks)) ∙ h.wide_next in
      ⊎_elim
      (λ old. let lt = old.0 in
      at_other (Next (ks ++ (j ∷ [])) n (k + 1)) (set next b (Some (length ks))) (length ks) k None (λ q. let z : ⊥ = omega arith in z)
      (next_old b end k n old.1))
      (λ new. let at = new.0 in
      at_same (Next (ks ++ (j ∷ [])) n (k + 1)) (set next b (Some (length ks))) (length ks) k None (omega arith) at (next_end ks j n (k + 1) (omega arith)))
      (old_or_new ks j n k e)

  -- the leg is the first of its junction, or comes after leg b
  pub linked_first : Last ks j None → Linked (ks ++ (j ∷ [])) (set first j (Some (length ks))) (set last j (Some (length ks))) (set next (length ks) None)
  linked_first none = record {
    firsts = first_none none;
    lasts = lasts_pushed;
    nexts = next_none none;
    wide_first = length-set first j _ ∙ h.wide_first;
    wide_last = length-set last j _ ∙ h.wide_last;
    wide_next = length-set next (length ks) _ ∙ h.wide_next;
  }

  pub linked_after : (b : ℕ) → Last ks j (Some b) → Linked (ks ++ (j ∷ [])) first (set last j (Some (length ks))) (set (set next b (Some (length ks))) (length ks) None)
  linked_after b end = record {
    firsts = first_some b end.0;
    lasts = lasts_pushed;
    nexts = next_some b end;
    wide_first = h.wide_first;
    wide_last = length-set last j _ ∙ h.wide_last;
    wide_next = length-set (set next b _) (length ks) _ ∙ length-set next b _ ∙ h.wide_next;
  }

-- the chains with leg c.count more, at junction j; `first` and `next` stand as they were where the leg came before
abbrev pub pushed : Inside → ℕ → List (Option ℕ) → List (Option ℕ) → Inside
pushed c j first next = record {
  count = c.count + 1;
  links = record {
    ends = set c.links.ends c.count j;
    first = first;
    last = set c.links.last j (Some c.count);
    next = set next c.count None;
  };
}

-- there are as many junctions as legs
pub count_is : (c : Inside) → Chained c → length (ends_of c) ≡ c.count
count_is c h = let few = h.few in let wide = h.wide_ends in length-take-le c.count c.links.ends (omega arith)

module _ (c : Inside) (j : ℕ) (h : Chained c) (in_junctions : j < 256) (in_legs : c.count < 512) where
  pub pushed_ends : take (c.count + 1) (set c.links.ends c.count j) ≡ ends_of c ++ (j ∷ [])
  pushed_ends = let wide = h.wide_ends in take_more_set c.links.ends c.count j (omega arith)

  low_pushed : (k n : ℕ) → slice_get (ends_of c ++ (j ∷ [])) k ≡ Some n → n < 256
  low_pushed k n e = ⊎_elim (λ old. h.low k n old.1) (λ new. let same = new.1 in omega arith) (old_or_new (ends_of c) j n k e)

  chained_by : (first next : List (Option ℕ)) → Linked (ends_of c ++ (j ∷ [])) first (set c.links.last j (Some c.count)) (set next c.count None) → Chained (pushed c j first next)
  chained_by first next linked = record {
    few = omega arith;
    wide_ends = length-set c.links.ends c.count j ∙ h.wide_ends;
    low = λ k n e. low_pushed k n (subst (λ ks. slice_get ks k ≡ Some n) pushed_ends e);
    linked = subst (λ ks. Linked ks first (set c.links.last j (Some c.count)) (set next c.count None)) (sym pushed_ends) linked;
  }

  pub chained_first : Last (ends_of c) j None → Chained (pushed c j (set c.links.first j (Some c.count)) c.links.next)
  chained_first none = chained_by _ _
      (subst (λ k. Linked (ends_of c ++ (j ∷ [])) (set c.links.first j (Some k)) (set c.links.last j (Some k)) (set c.links.next k None)) (count_is c h)
      (linked_first (ends_of c) c.links.first c.links.last c.links.next j h.linked in_junctions (let few = count_is c h in omega arith) none))

  pub chained_after : (b : ℕ) → Last (ends_of c) j (Some b) → Chained (pushed c j c.links.first (set c.links.next b (Some c.count)))
  chained_after b end = chained_by _ _
      (subst (λ k. Linked (ends_of c ++ (j ∷ [])) c.links.first (set c.links.last j (Some k)) (set (set c.links.next b (Some k)) k None)) (count_is c h)
      (linked_after (ends_of c) c.links.first c.links.last c.links.next j h.linked in_junctions (let few = count_is c h in omega arith) b end))

-- the tables of no legs
abbrev none : Option ℕ
none = None

pub none_linked : Linked [] (replicate 256 none) (replicate 256 none) (replicate 512 none)
none_linked = record {
  firsts = λ n lt. subst (Next [] n 0) (sym (get_or-replicate 256 n none None lt)) (λ i low e. none-some n e);
  lasts = λ n lt. subst (Last [] n) (sym (get_or-replicate 256 n none None lt)) (λ i e. none-some n e);
  nexts = λ k n e. absurd (none-some n e);
  wide_first = length-replicate 256 none;
  wide_last = length-replicate 256 none;
  wide_next = length-replicate 512 none;
}

-- a place of a chain from which the search goes on, or where the chain ends
abbrev pub Sought : List ℕ → ℕ → ℕ → Option ℕ → Type 0
Sought ks n from None = Next ks n from None
Sought ks n from (Some k) = (slice_get ks k ≡ Some n) × ((i : ℕ) → from ≤ i → i < k → slice_get ks i ≡ Some n → ⊥)

pub sought_from : (ks : List ℕ) (n low from : ℕ) (o : Option ℕ) → low ≤ from → Next ks n low o → Sought ks n from o
sought_from ks n low from None le h = λ i from_i e. h i (omega arith) e
sought_from ks n low from (Some k) le h = (h.1, λ i from_i high e. h.2 i (omega arith) high e)

-- a junction's chain is followed from its first leg
pub sought_first : (c : Inside) (h : Chained c) (n from : ℕ) → Sought (ends_of c) n from (get_or c.links.first n None)
sought_first c h n from =
    ⊎_elim
    (λ lt. sought_from (ends_of c) n 0 from (get_or c.links.first n None) (omega arith) (h.linked.firsts n lt))
    (λ past. subst (Sought (ends_of c) n from) (sym (get_or_past c.links.first n None (let wide = h.linked.wide_first in omega arith)))
    (λ i low e. let lt = h.low i n e in let z : ⊥ = omega arith in z))
    (cases_lt n 256)

-- a chain's places stand within the tables, and rise
pub sought_within : (c : Inside) → Chained c → (n from k : ℕ) → Sought (ends_of c) n from (Some k) → k < 512
sought_within c h n from k here =
    let within = slice_get_within (ends_of c) k n here.0 in let many = count_is c h in let few = h.few in omega arith

-- so do those of any list of no more numbers than the tables have places
pub sought_below : (ks : List ℕ) (n from k : ℕ) → length ks ≤ 512 → Sought ks n from (Some k) → k < 512
sought_below ks n from k few h = let w = slice_get_within ks k n h.0 in omega arith

-- how far a place of a chain is from the end of the table
abbrev pub left : Option ℕ → ℕ
left None = 0
left (Some k) = 513 - k

-- in any list, a place is followed by a higher one
pub rises : (ks : List ℕ) (n k : ℕ) (o : Option ℕ) → k < 512 → Next ks n (k + 1) o → left o < left (Some k)
rises ks n k None lt h = omega arith
rises ks n k (Some m) lt h = let low = h.0 in omega arith

pub left_falls : (c : Inside) (h : Chained c) (n from k : ℕ) → Sought (ends_of c) n from (Some k) → left (get_or c.links.next k None) < left (Some k)
left_falls c h n from k here = rises (ends_of c) n k (get_or c.links.next k None) (sought_within c h n from k here) (h.linked.nexts k n here.0)
