-- The turned layer: tail and head of every leg exchanged. Assumes nothing.
use Rattle.std.specs.Prelude.{ℕ}
use Rattle.layout.specs.Plant.{Leg, Plant}
use Rattle.layers.specs.Relegged.{relegged}

abbrev pub turned_leg : ℕ → Leg → Leg
turned_leg k l = record {
  tail = l.head;
  head = l.tail;
  metres = l.metres;
  class = l.class;
  clearance = l.clearance;
  turn = l.turn;
  is_open = l.is_open;
}

abbrev pub turned : Plant → Plant
turned p = relegged turned_leg p
