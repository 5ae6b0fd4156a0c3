-- A proof, and no definitions: the limits hold of what the marked layer means, as every layout has to show. Assumes nothing.
use Rattle.std.specs.Prelude.{ℕ}
use Rattle.layout.specs.Plant.{Plant, Sound}
use Rattle.layers.specs.Soundness.{relegged_sound}
use Rattle.marks.specs.Mark.{shown, shown_leg}
use Rattle.marks.specs.declared.words.Marks.{Marks}

pub shown_sound : (m : Marks) (hall : ℕ) (p : Plant) → Sound p → Sound (shown m hall p)
shown_sound m hall p = relegged_sound (shown_leg m p.halls hall) p (λ n k l h. record {
  tail_exists = h.tail_exists;
  head_exists = h.head_exists;
  metres_in_range = h.metres_in_range;
  class_in_range = h.class_in_range;
  clearance_in_range = h.clearance_in_range;
  turn_in_range = h.turn_in_range;
})
