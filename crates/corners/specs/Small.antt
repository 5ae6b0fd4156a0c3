-- The small plant that the corners are worked on. Assumes nothing.
use Rattle.std.specs.Prelude.{ℕ, true, [], ◌∷◌}
use Rattle.layout.specs.Plant.{Leg, Plant}

-- an open leg
abbrev pub leg : ℕ → ℕ → ℕ → ℕ → ℕ → ℕ → Leg
leg tail head metres class clearance turn = record {
  tail = tail;
  head = head;
  metres = metres;
  class = class;
  clearance = clearance;
  turn = turn;
  is_open = true;
}

-- two halls; junctions 0, 1 and 2 lie in hall 0, and junctions 3 and 4 in hall 1; six legs, by tail, head, metres, class, clearance and turn
abbrev pub small : Plant
small = record {
  halls = 2;
  hall_of = 0 ∷ 0 ∷ 0 ∷ 1 ∷ 1 ∷ [];
  legs =
      leg 0 1 10 4 60 0
      ∷ leg 1 3 10 4 40 0
      ∷ leg 0 2 10 4 80 1
      ∷ leg 2 3 20 4 80 0
      ∷ leg 3 4 10 4 70 0
      ∷ leg 2 1 5 7 90 1
      ∷ [];
}
