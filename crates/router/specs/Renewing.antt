-- What renewing a hall does to a router. Assumes nothing.
use Rattle.std.specs.Prelude.{◌≡◌, ℕ, true, cond, length, Ok, Err, Result, ◌==◌}
use Rattle.measure.specs.Scale.{Scale}
use Rattle.layers.specs.Day.{entered}
use Rattle.layers.specs.declared.sheet.Sheet.{Sheet}
use Rattle.layout.specs.Plant.{Plant}
use Rattle.layout.specs.declared.refusal.Refusal.{Refusal}
use Rattle.halls.specs.Force.{in_force}
use Rattle.halls.specs.declared.force.Force.{Force}
use Rattle.halls.specs.declared.force.HallMarks.{HallMarks}
use Rattle.walks.specs.Book.{Call}
use Rattle.walks.specs.Book.{renew as renew_call}
use Rattle.search.specs.Desk.{Desk}
use Rattle.renew.specs.Renewed.{Renewed}
use Rattle.router.specs.Ordered.{marked_answer}
use Rattle.router.specs.Worked.{GoesOn}

-- the hall is in force, and every other is as it was; where renewing is refused all are
abbrev pub Enforced : ℕ → Force → Force → Result ℕ Refusal → Type 0
Enforced hall old new (Ok n) = (h : ℕ) → in_force new h ≡ cond (h == hall) true (in_force old h)
Enforced hall old new (Err r) = new ≡ old

-- the call, with the lengths of its tables
abbrev pub renewing : {T : Type 0} → ℕ → Desk T → Call
renewing hall d = renew_call hall (length d.totals) (length d.came) (length d.waiting) (length d.settled)

-- the marks of the hall are renewed over the layout under the sheet, and it is in force; and the crew's book has it so
pub record RenewsHall {T : Type 0} (m : Scale T) (p : Plant) (hall : ℕ) (s : Sheet) (old new : HallMarks) (d d' : Desk T) (r : Result ℕ Refusal) : Type 0 where
  pub marks : Renewed m (entered s p) hall old.marks new.marks d d' r
  pub force : Enforced hall old.force new.force r
  pub book : GoesOn m p (renewing hall d) (marked_answer r) s old s new
