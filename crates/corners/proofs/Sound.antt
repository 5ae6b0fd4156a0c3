-- The small plant keeps every limit. Assumes nothing.
use Rattle.std.proofs.Common.{◌≡◌, ℕ, ◌<◌, true, Some, refl, subst, arith}
use Rattle.std.specs.List.{slice_get}
use Rattle.layout.specs.Limits.{metres_fit, class_fits, clearance_fits, turn_fits}
use Rattle.layout.specs.Plant.{Leg, Sound, SoundLeg}
use Rattle.walks.proofs.Choosing.{some_same, none_some}
use Rattle.corners.specs.Small.{small}
use Rattle.corners.proofs.Legs.{each}

hall_exists : (k h : ℕ) → slice_get small.hall_of k ≡ Some h → h < 2
hall_exists k h =
    each (λ k. slice_get small.hall_of k ≡ Some h → h < 2) in_0 in_0 in_0 in_1 in_1 (λ q. absurd (none_some refl q))
    (λ l q. absurd (none_some refl q)) k
  where
    in_0 : Some 0 ≡ Some h → h < 2
    in_0 q = let e : 0 ≡ h = some_same refl q in omega arith

    in_1 : Some 1 ≡ Some h → h < 2
    in_1 q = let e : 1 ≡ h = some_same refl q in omega arith

each_leg : (k : ℕ) (leg : Leg) → slice_get small.legs k ≡ Some leg → SoundLeg 5 leg
each_leg k leg =
    each (λ k. slice_get small.legs k ≡ Some leg → SoundLeg 5 leg)
    (keeps (omega arith) (omega arith) refl refl refl refl)
    (keeps (omega arith) (omega arith) refl refl refl refl)
    (keeps (omega arith) (omega arith) refl refl refl refl)
    (keeps (omega arith) (omega arith) refl refl refl refl)
    (keeps (omega arith) (omega arith) refl refl refl refl)
    (keeps (omega arith) (omega arith) refl refl refl refl)
    (λ l q. absurd (none_some refl q)) k
  where
    keeps :
        {l : Leg} → l.tail < 5 → l.head < 5 → metres_fit l.metres ≡ true → class_fits l.class ≡ true →
        clearance_fits l.clearance ≡ true → turn_fits l.turn ≡ true → Some l ≡ Some leg → SoundLeg 5 leg
    keeps t h m c cl tu q =
        subst (SoundLeg 5) (some_same refl q)
        (record {
          tail_exists = t;
          head_exists = h;
          metres_in_range = m;
          class_in_range = c;
          clearance_in_range = cl;
          turn_in_range = tu;
        })

pub sound : Sound small
sound = record {
  some_halls = omega arith;
  few_halls = omega arith;
  few_junctions = omega arith;
  few_legs = omega arith;
  hall_exists = hall_exists;
  each_leg = each_leg;
}
