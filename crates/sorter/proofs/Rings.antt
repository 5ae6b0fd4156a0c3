-- Junctions and legs of a ring. Assumes nothing.
use Rattle.std.proofs.Common.{◌≡◌, ℕ, ◌+◌, ◌-◌, ◌<◌, ◌≤◌, Bool, true, false, leb, ltb, cond, map, List, Some, None, sym, refl, ap, ◌∙◌, ⊎_elim, arith}
use Rattle.std.specs.Bool.{then_some}
use Rattle.std.specs.List.{range_with_len, slice_get}
use Rattle.std.proofs.lemmas.Bool.{cases_lt, lt-ltb, le-ltb, leb-true, leb-false}
use Rattle.std.proofs.lemmas.Option.{slice_get-map, none-some, same_Some}
use Rattle.std.specs.Option.{option_map}
use Rattle.layout.specs.Plant.{Leg, Next}
use Rattle.sorter.specs.Ring.{after, ring_leg, ring}
use Rattle.sorter.specs.Limited.{nth_counted, nth_uncounted}
use Rattle.sorter.specs.declared.ring.SorterLoop.{SorterLoop}

-- what a list made from a function of the place has at i
pub counted_at : {X : Type 0} (f : ℕ → X) (n i : ℕ) → slice_get (map f (range_with_len 0 n)) i ≡ then_some (ltb i n) (f i)
counted_at f n i =
    ⊎_elim
    (λ lt. nth_counted f n i lt ∙ sym (ap (λ b. then_some b (f i)) (lt-ltb i n lt)))
    (λ le. nth_uncounted f n i le ∙ sym (ap (λ b. then_some b (f i)) (le-ltb i n le)))
    (cases_lt i n)

-- an end of a leg, or that there is none
module _ (l : SorterLoop) (end : Leg → ℕ) (i : ℕ) where
  pub end_at : i < l.junctions → slice_get (map end (ring l).legs) i ≡ Some (end (ring_leg l i))
  end_at lt = slice_get-map end (ring l).legs i ∙ ap (option_map end) (nth_counted (ring_leg l) l.junctions i lt)

  end_past : l.junctions ≤ i → slice_get (map end (ring l).legs) i ≡ None
  end_past le = slice_get-map end (ring l).legs i ∙ ap (option_map end) (nth_uncounted (ring_leg l) l.junctions i le)

  pub from_end : (j : ℕ) → slice_get (map end (ring l).legs) i ≡ Some j → (i < l.junctions) × (end (ring_leg l i) ≡ j)
  from_end j e =
      ⊎_elim
      (λ lt. (lt, same_Some _ _ (sym (end_at lt) ∙ e)))
      (λ ge. absurd (none-some j (sym (end_past ge) ∙ e)))
      (cases_lt i l.junctions)

-- the next place of a number that stands at k alone
pub next_alone : (ks : List ℕ) (n from k : ℕ) → slice_get ks k ≡ Some n → ((i : ℕ) → slice_get ks i ≡ Some n → i ≡ k) → Next ks n from (then_some (leb from k) k)
next_alone ks n from k there alone = by (leb from k) refl
  where
    by : (b : Bool) → leb from k ≡ b → Next ks n from (then_some b k)
    by true e = (leb-true from k e, there, λ i low before f. let same = alone i f in omega arith)
    by false e = λ i low f. let same = alone i f in let late = leb-false from k e in omega arith

pub after_next : (n i : ℕ) → i + 1 < n → after n i ≡ i + 1
after_next n i lt = ap (λ b. cond b (i + 1) 0) (lt-ltb (i + 1) n lt)

pub after_last : (n i : ℕ) → i + 1 ≡ n → after n i ≡ 0
after_last n i e = ap (λ b. cond b (i + 1) 0) (le-ltb (i + 1) n (omega arith))

-- only the last junction leads to 0, and only j - 1 to another
pub to_first : (n i : ℕ) → i < n → after n i ≡ 0 → i ≡ n - 1
to_first n i lt e =
    ⊎_elim (λ more. let q = after_next n i more in omega arith) (λ last. omega arith) (cases_lt (i + 1) n)

pub to_other : (n i j : ℕ) → i < n → 0 < j → after n i ≡ j → i ≡ j - 1
to_other n i j lt some e =
    ⊎_elim (λ more. let q = after_next n i more in omega arith) (λ last. let q = after_last n i (omega arith) in omega arith) (cases_lt (i + 1) n)

pub after_within : (n i : ℕ) → i < n → after n i < n
after_within n i lt =
    ⊎_elim (λ more. let q = after_next n i more in omega arith) (λ last. let q = after_last n i (omega arith) in omega arith) (cases_lt (i + 1) n)
