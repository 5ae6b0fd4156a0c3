-- What a layout means: halls, junctions and legs, and the limits that hold of them. Assumes nothing.
use Rattle.std.specs.Prelude.{◌≡◌, ℕ, ◌<◌, ◌≤◌, Bool, true, List, map, length, Some, None, Option, ◌≢◌}
use Rattle.std.specs.List.{slice_get}
use Rattle.layout.specs.declared.belt.Belt.{Belt}
use Rattle.layout.specs.Limits.{most_halls, most_junctions, most_legs, metres_fit, class_fits, clearance_fits, turn_fits}

-- a one-way belt from its tail junction to its head junction
pub record Leg : Type 0 where
  pub tail : ℕ
  pub head : ℕ
  pub metres : ℕ
  pub class : ℕ
  pub clearance : ℕ
  pub turn : ℕ
  pub is_open : Bool

-- an open leg of these ends and figures
abbrev pub leg_of : Belt → Leg
leg_of b = record {
  tail = b.tail;
  head = b.head;
  metres = b.metres;
  class = b.class;
  clearance = b.clearance;
  turn = b.turn;
  is_open = true;
}

-- the number of halls, the hall of each junction, and the legs, each list in the order of its numbers
pub record Plant : Type 0 where
  pub halls : ℕ
  pub hall_of : List ℕ
  pub legs : List Leg

-- the leg's ends exist, and its figures are in their ranges
pub record SoundLeg (junctions : ℕ) (leg : Leg) : Type 0 where
  pub tail_exists : leg.tail < junctions
  pub head_exists : leg.head < junctions
  pub metres_in_range : metres_fit leg.metres ≡ true
  pub class_in_range : class_fits leg.class ≡ true
  pub clearance_in_range : clearance_fits leg.clearance ≡ true
  pub turn_in_range : turn_fits leg.turn ≡ true
  deriving IsProp as SoundLegProp

-- every limit and range of a plant
pub record Sound (p : Plant) : Type 0 where
  pub some_halls : 1 ≤ p.halls
  pub few_halls : p.halls ≤ most_halls
  pub few_junctions : length p.hall_of ≤ most_junctions
  pub few_legs : length p.legs ≤ most_legs
  pub hall_exists : (k h : ℕ) → slice_get p.hall_of k ≡ Some h → h < p.halls
  pub each_leg : (k : ℕ) (leg : Leg) → slice_get p.legs k ≡ Some leg → SoundLeg (length p.hall_of) leg
  deriving IsProp as SoundProp

-- the junctions that the legs leave, and those that they reach, in leg order
abbrev pub tails : Plant → List ℕ
tails p = map (λ l. l.tail) p.legs

abbrev pub heads : Plant → List ℕ
heads p = map (λ l. l.head) p.legs

-- the least place at or after `from` where the list has the number, or that there is none
abbrev pub Next : List ℕ → ℕ → ℕ → Option ℕ → Type 0
Next ks n from None = (i : ℕ) → from ≤ i → slice_get ks i ≢ Some n
Next ks n from (Some k) = (from ≤ k) × (slice_get ks k ≡ Some n) × ((i : ℕ) → from ≤ i → i < k → slice_get ks i ≢ Some n)
