-- Proofs, and no definitions: the limits hold of what a layer means, as every layout has to show. Assumes nothing.
use Rattle.std.specs.Prelude.{◌≡◌, ℕ, zero, suc, ◌+◌, true, List, [], ◌∷◌, length, Some, None, Option, refl}
use Rattle.std.proofs.Common.{ap, sym, ◌∙◌, arith}
use Rattle.std.specs.Option.{option_map, unwrap_or}
use Rattle.std.specs.List.{slice_get}
use Rattle.layout.specs.Plant.{Leg, Plant, Sound, SoundLeg}
use Rattle.std.proofs.lemmas.Bool.{and_parts}
use Rattle.layout.proofs.Listed.{from_mapped}
use Rattle.layout.specs.Limits.{class_fits, clearance_fits}
use Rattle.layers.specs.Day.{Fit, in_range, entered, entered_leg, replacing}
use Rattle.layers.specs.declared.sheet.Replaced.{Replaced}
use Rattle.layers.specs.declared.sheet.Sheet.{Sheet}
use Rattle.layers.specs.Relegged.{changed_from, relegged}
use Rattle.layers.specs.Turn.{turned, turned_leg}

pub length_changed : {X Y : Type 0} (k : ℕ) (f : ℕ → X → Y) (xs : List X) → length (changed_from k f xs) ≡ length xs
length_changed k f [] = refl
length_changed k f (x ∷ xs) = ap suc (length_changed (suc k) f xs)

nth_changed_from : {X Y : Type 0} (f : ℕ → X → Y) (k : ℕ) (xs : List X) (i j : ℕ) → k + i ≡ j → slice_get (changed_from k f xs) i ≡ option_map (f j) (slice_get xs i)
nth_changed_from f k [] i j e = refl
nth_changed_from f k (x ∷ xs) zero j e = let q : k ≡ j = omega arith in ap (λ n. Some (f n x)) q
nth_changed_from f k (x ∷ xs) (suc i) j e = nth_changed_from f (suc k) xs i j (omega arith)

pub nth_changed : {X Y : Type 0} (f : ℕ → X → Y) (xs : List X) (i : ℕ) → slice_get (changed_from 0 f xs) i ≡ option_map (f i) (slice_get xs i)
nth_changed f xs i = nth_changed_from f 0 xs i i (omega arith)

-- it is enough that each changed leg keeps its ends and ranges
pub relegged_sound : (f : ℕ → Leg → Leg) (p : Plant) → ((n k : ℕ) (l : Leg) → SoundLeg n l → SoundLeg n (f k l)) → Sound p → Sound (relegged f p)
relegged_sound f p keeps s = record {
  some_halls = s.some_halls;
  few_halls = s.few_halls;
  few_junctions = s.few_junctions;
  few_legs = simp length_changed s.few_legs;
  hall_exists = s.hall_exists;
  each_leg = λ k leg e.
      from_mapped (f k) (SoundLeg (length p.hall_of)) (slice_get p.legs k) leg (sym (nth_changed f p.legs k) ∙ e)
      (λ x h. keeps (length p.hall_of) k x (s.each_leg k x h));
}

pub turned_sound : (p : Plant) → Sound p → Sound (turned p)
turned_sound p = relegged_sound turned_leg p (λ n k l h. record {
  tail_exists = h.head_exists;
  head_exists = h.tail_exists;
  metres_in_range = h.metres_in_range;
  class_in_range = h.class_in_range;
  clearance_in_range = h.clearance_in_range;
  turn_in_range = h.turn_in_range;
})

-- a figure of a leg, or the one that replaces it, is in its range
class_kept : (o : Option Replaced) (own : ℕ) → in_range o ≡ true → class_fits own ≡ true → class_fits (unwrap_or (option_map (λ r. r.class) o) own) ≡ true
class_kept None own fit mine = mine
class_kept (Some r) own fit mine = (and_parts _ _ fit).0

clearance_kept : (o : Option Replaced) (own : ℕ) → in_range o ≡ true → clearance_fits own ≡ true → clearance_fits (unwrap_or (option_map (λ r. r.clearance) o) own) ≡ true
clearance_kept None own fit mine = mine
clearance_kept (Some r) own fit mine = (and_parts _ _ fit).1

pub entered_sound : (s : Sheet) (p : Plant) → Fit s → Sound p → Sound (entered s p)
entered_sound s p fit = relegged_sound (entered_leg s) p (λ n k l h. record {
  tail_exists = h.tail_exists;
  head_exists = h.head_exists;
  metres_in_range = h.metres_in_range;
  turn_in_range = h.turn_in_range;
  class_in_range = class_kept (replacing s k) l.class (fit k) h.class_in_range;
  clearance_in_range = clearance_kept (replacing s k) l.clearance (fit k) h.clearance_in_range;
})
