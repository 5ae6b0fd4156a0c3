-- Which halls are in force, which legs are marked for each, and who lapses. Assumes nothing.
use Rattle.std.specs.Prelude.{◌≡◌, ℕ, Bool, true, false, not, ◌&&◌, ◌||◌, nat_lt, slice_index_or}
use Rattle.layout.specs.Limits.{most_halls}
use Rattle.marks.specs.Mark.{is_marked, possible}
use Rattle.halls.specs.declared.force.Force.{Force}
use Rattle.halls.specs.declared.force.HallMarks.{HallMarks}
use Rattle.halls.specs.declared.force.Strikes.{Strikes}
use Rattle.halls.specs.declared.force.Strikes.TheVariants as order

-- a hall is in force
abbrev pub in_force : Force → ℕ → Bool
in_force f hall = nat_lt hall most_halls && slice_index_or f.on hall false

-- an order strikes a hall with these marks
abbrev pub struck : Strikes → (ℕ → Bool) → Bool
struck order.None marks = false
struck (order.Marking leg) marks = marks leg
struck order.Every marks = true

-- a hall lapses by an order: it is in force, and struck
abbrev pub lapsing : HallMarks → Strikes → ℕ → Bool
lapsing m strikes hall = in_force m.force hall && struck strikes (is_marked m.marks hall)

-- the halls that pass the test have lapsed: they are in force no more, and every leg is marked for them; all else stands
pub record Lapsed (out : ℕ → Bool) (old new : HallMarks) : Type 0 where
  pub force : (h : ℕ) → in_force new.force h ≡ (in_force old.force h && not (out h))
  pub marks : (h e : ℕ) → is_marked new.marks h e ≡ (is_marked old.marks h e || (out h && possible h e))
