-- The limits hold of every sorter loop. Assumes nothing.
use Rattle.std.specs.Prelude.{◌≡◌, ℕ, ◌+◌, ◌/◌, ◌<◌, ◌≤◌, Bool, true, false, cond, map, length, Some, None, nat_le, nat_lt, refl}
use Rattle.std.proofs.Common.{ap, subst, ◌∙◌, ⊎_elim, arith}
use Rattle.std.specs.List.{range_with_len, slice_get}
use Rattle.std.proofs.lemmas.List.FromFn.{length-map-range_with_len, get_or-map-range_with_len}
use Rattle.std.proofs.lemmas.Option.{slice_get-get_or, slice_get_past}
use Rattle.std.proofs.lemmas.Bool.{cases_lt, ltb-true, leb-true, and_parts}
use Rattle.layout.specs.Plant.{Sound, SoundLeg}
use Rattle.sorter.specs.Ring.{ring_leg, ring}
use Rattle.sorter.specs.declared.ring.SorterLoop.{SorterLoop}

-- what a list made from a function of the place has at i
module _ {X : Type 0} (f : ℕ → X) (n i : ℕ) where
  pub nth_counted : i < n → slice_get (map f (range_with_len 0 n)) i ≡ Some (f i)
  nth_counted h =
      slice_get-get_or (map f (range_with_len 0 n)) i (f i) (simp length-map-range_with_len (omega arith))
      ∙ ap Some (get_or-map-range_with_len f 0 n i i (f i) h (omega arith))

  pub nth_uncounted : n ≤ i → slice_get (map f (range_with_len 0 n)) i ≡ None
  nth_uncounted h = slice_get_past (map f (range_with_len 0 n)) i (simp length-map-range_with_len (omega arith))

-- what there is was made at a place below n
pub from_counted : {X : Type 0} (f : ℕ → X) (P : X → Type 0) (n i : ℕ) (x : X) → slice_get (map f (range_with_len 0 n)) i ≡ Some x → (i < n → P (f i)) → P x
from_counted f P n i x e h =
    ⊎_elim
    (λ l. let q = nth_counted f n i l in let same : f i ≡ x = cc in subst P same (h l))
    (λ g. let q = nth_uncounted f n i g in let z : ◌≡◌ {A = ℕ} 0 1 = cc in absurd (let w : ⊥ = omega arith in w))
    (cases_lt i n)

after_exists : (n i : ℕ) (b : Bool) → nat_lt (i + 1) n ≡ b → i < n → cond b (i + 1) 0 < n
after_exists n i true e h = ltb-true (i + 1) n e
after_exists n i false e h = omega arith

pub junctions_within : (l : SorterLoop) → (2 ≤ l.junctions) × (l.junctions ≤ 256)
junctions_within l =
    let both = and_parts (nat_le 2 l.junctions) (nat_le l.junctions 256) l.size in
    (leb-true 2 l.junctions both.0, leb-true l.junctions 256 both.1)

pub ring_sound : (l : SorterLoop) → Sound (ring l)
ring_sound l =
    let n = l.junctions in
    let low = (junctions_within l).0 in
    let high = (junctions_within l).1 in
    record {
      some_halls = omega arith;
      few_halls = omega arith;
      few_junctions = simp length-map-range_with_len (omega arith);
      few_legs = simp length-map-range_with_len (omega arith);
      hall_exists = λ k x e. from_counted (λ i. i / 8) (λ y. y < (n + 7) / 8) n k x e (λ lt. omega arith);
      each_leg = λ k leg e. from_counted (ring_leg l) (SoundLeg (length (map (λ i. i / 8) (range_with_len 0 n)))) n k leg e
          (λ lt. record {
            tail_exists = simp length-map-range_with_len (omega arith);
            head_exists = simp length-map-range_with_len (after_exists n k (nat_lt (k + 1) n) refl lt);
            metres_in_range = l.span;
            class_in_range = l.drive;
            clearance_in_range = l.height;
            turn_in_range = refl;
          });
    }
