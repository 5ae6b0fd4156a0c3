-- Eight corners of the definitions, worked on the small plant. Assumes nothing.
use Rattle.std.specs.Prelude.{◌≡◌, ℕ, Bool, false, ◌||◌, List, [], ◌∷◌, ◌==◌}
use Rattle.measure.specs.Scale.{Scale}
use Rattle.measure.specs.Kinds.{time_scale, clearance_scale, turns_scale, clearance_of, pair_of}
use Rattle.walks.specs.Net.{net, hall_at}
use Rattle.walks.specs.Marks.{Entry, Exactly}
use Rattle.walks.specs.Book.{Call, set, renew, route, blank}
use Rattle.walks.specs.Orders.{Marks, all_lapsed}
use Rattle.walks.specs.Answers.{Answer, halls, legs, found, Told}
use Rattle.corners.specs.Small.{small}

-- the number stands in the list
abbrev pub among : List ℕ → ℕ → Bool
among [] e = false
among (d ∷ ds) e = e == d || among ds e

-- the legs flagged for the hall are those of the list, and no others
abbrev pub Flags : {T : Type 0} → Scale T → ℕ → List ℕ → Type 0
Flags m hall list = Exactly m (net m small) (hall_at small) hall (among list)

-- the calls, the first since commissioning, get these answers, one for each, and no others
pub record Replies {T : Type 0} (m : Scale T) (calls : List Call) (answers : List (Answer T)) : Type 0 where
  pub left : Marks
  pub told : Told m small blank all_lapsed calls answers left
  pub only : (others : List (Answer T)) (k : Marks) → Told m small blank all_lapsed calls others k → others ≡ answers

-- to renew a hall and to route, with tables that have a place for each of the five junctions
abbrev pub renew_hall : ℕ → Call
renew_hall hall = renew hall 5 5 5 5

abbrev pub route_from : ℕ → ℕ → Call
route_from start goal = route start goal 5 5 5 5 5

pub record Corners : Type 0 where
  -- 1. by time, the legs flagged for hall 1 are 0, 1, 4 and 5
  pub by_time : Flags time_scale 1 (0 ∷ 1 ∷ 4 ∷ 5 ∷ [])
  -- 2. by clearance, they are 1, 2, 3 and 4
  pub by_clearance : Flags clearance_scale 1 (1 ∷ 2 ∷ 3 ∷ 4 ∷ [])
  -- 3. by clearance, with no call before it, a route from 0 to 4 answers 70 centimetres, five junctions settled, and the way 2, 3, 4
  pub high_way : Replies clearance_scale (route_from 0 4 ∷ []) (found (clearance_of 70) 5 (2 ∷ 3 ∷ 4 ∷ []) ∷ [])
  -- 4. by time, then turns, it answers 300 tenths with no turn, five junctions settled, and the way 0, 1, 4
  pub fast_way : Replies turns_scale (route_from 0 4 ∷ []) (found (pair_of 300 0) 5 (0 ∷ 1 ∷ 4 ∷ []) ∷ [])
  -- 5. by time, renewing hall 1 marks four legs, and then setting leg 3 to class 0 makes no hall lapse: it is worse now, but not marked
  pub slower : Replies time_scale (renew_hall 1 ∷ set 3 0 80 ∷ []) (legs 4 ∷ halls 0 ∷ [])
  -- 6. setting it to class 7 there makes one hall lapse: it is better now
  pub faster : Replies time_scale (renew_hall 1 ∷ set 3 7 80 ∷ []) (legs 4 ∷ halls 1 ∷ [])
  -- 7. by time, hall 0 has no entry, and the legs flagged for it are 0, 2 and 5, which lie inside
  pub no_entry : ((b : ℕ) → ¬ Entry (net time_scale small) (hall_at small) 0 b) × Flags time_scale 0 (0 ∷ 2 ∷ 5 ∷ [])
  -- 8. a time one short of the stop with 5 turns, joined with a time of 1 and no turn, stops in both numbers
  pub both_stop : turns_scale.joined (pair_of 4294967294 5) (pair_of 1 0) ≡ pair_of 4294967295 4294967295
