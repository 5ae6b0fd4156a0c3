-- What an order that is written on the day sheet does to the marks, and what it answers. Assumes nothing.
use Rattle.std.specs.Prelude.{◌≡◌, ℕ, ◌&&◌, Some, None, Ok, Err, Option, Result, nat_lt}
use Rattle.measure.specs.Scale.{Scale}
use Rattle.layers.specs.declared.sheet.Sheet.{Sheet}
use Rattle.layout.specs.Plant.{Plant}
use Rattle.layout.specs.Refused.{unless}
use Rattle.layout.specs.declared.refusal.Refusal.{Refusal}
use Rattle.halls.specs.Force.{lapsing, Lapsed}
use Rattle.halls.specs.declared.force.HallMarks.{HallMarks}
use Rattle.halls.specs.declared.force.Strikes.{Strikes}
use Rattle.walks.specs.Book.{Call}
use Rattle.walks.specs.Answers.{Answer, halls, legs, refused, count_below}
use Rattle.router.specs.Worked.{GoesOn}

-- the halls of the plant that are in force and struck lapse, so many, and no others
pub record Lapses (p : Plant) (strikes : Strikes) (old new : HallMarks) (n : ℕ) : Type 0 where
  pub counted : n ≡ count_below p.halls (lapsing old strikes)
  pub lapsed : Lapsed (λ h. nat_lt h p.halls && lapsing old strikes h) old new

-- the order is refused, and no mark changes, or halls lapse as it strikes them
abbrev pub Ordered : Plant → Option Refusal → Strikes → HallMarks → HallMarks → Result ℕ Refusal → Type 0
Ordered p due strikes old new (Ok n) = (due ≡ None) × Lapses p strikes old new n
Ordered p due strikes old new (Err r) = (due ≡ Some r) × (new ≡ old)

-- the answer to an order: how many halls lapsed, or its refusal
abbrev pub lapsed_answer : {T : Type 0} → Result ℕ Refusal → Answer T
lapsed_answer (Ok n) = halls n
lapsed_answer (Err r) = refused r

-- what an order on the day sheet does, whatever the router: why it is refused, whom it strikes, what it writes; and that the crew's book has it so
pub record Carries {T : Type 0} (m : Scale T) (p : Plant) (call : Call) (due : Option Refusal) (strikes : Strikes) (written : Sheet)
    (s s' : Sheet) (old new : HallMarks) (r : Result ℕ Refusal) : Type 0 where
  pub sheet : s' ≡ unless due s written
  pub marks : Ordered p due strikes old new r
  pub book : GoesOn m p call (lapsed_answer r) s old s' new

-- the answer to renewing: how many legs are marked, or its refusal
abbrev pub marked_answer : {T : Type 0} → Result ℕ Refusal → Answer T
marked_answer (Ok n) = legs n
marked_answer (Err r) = refused r
