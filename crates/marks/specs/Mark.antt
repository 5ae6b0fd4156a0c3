-- The marks, and what those of one hall leave open. Assumes nothing.
use Rattle.std.specs.Prelude.{ℕ, ◌/◌, ◌%◌, ◌^◌, Bool, not, ◌&&◌, ◌||◌, ◌==◌, bit_xor, nat_lt, slice_index, slice_set}
use Rattle.layout.specs.Limits.{most_halls, most_legs}
use Rattle.layout.specs.Plant.{Leg, Plant}
use Rattle.layers.specs.Relegged.{relegged}
use Rattle.marks.specs.declared.words.MarkWords.{MarkWords}
use Rattle.marks.specs.declared.words.Marks.{Marks}

-- a layout can have the hall and the leg
abbrev pub possible : ℕ → ℕ → Bool
possible hall leg = nat_lt hall most_halls && nat_lt leg most_legs

-- the hall's bit in the leg's word
abbrev pub bit_set : MarkWords → ℕ → ℕ → Bool
bit_set w hall leg = slice_index w.bits leg / 2 ^ hall % 2 == 1

-- the words with the hall's bit turned in the leg's word
abbrev pub flipped : MarkWords → ℕ → ℕ → MarkWords
flipped w hall leg = record { bits = slice_set w.bits leg (bit_xor (slice_index w.bits leg) (2 ^ hall)) }

-- the leg is marked for the hall
abbrev pub is_marked : Marks → ℕ → ℕ → Bool
is_marked m hall leg = possible hall leg && bit_set m.words hall leg

-- leg k of a plant with so many halls: open where it is open and marked for the hall, if there is such a hall
abbrev pub shown_leg : Marks → ℕ → ℕ → ℕ → Leg → Leg
shown_leg m halls hall k l = record {
  tail = l.tail;
  head = l.head;
  metres = l.metres;
  class = l.class;
  clearance = l.clearance;
  turn = l.turn;
  is_open = l.is_open && (not (nat_lt hall halls) || is_marked m hall k);
}

-- a plant as the marks of one hall show it
abbrev pub shown : Marks → ℕ → Plant → Plant
shown m hall p = relegged (shown_leg m p.halls hall) p
