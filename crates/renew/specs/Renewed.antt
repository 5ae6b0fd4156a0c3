-- What renewing a hall answers, and what it leaves. Assumes nothing.
use Rattle.std.specs.Prelude.{◌≡◌, ℕ, length, drop, Some, None, Ok, Err, Option, Result}
use Rattle.measure.specs.Scale.{Scale}
use Rattle.layout.specs.Plant.{Plant}
use Rattle.layout.specs.declared.refusal.Refusal.{Refusal}
use Rattle.marks.specs.Mark.{is_marked}
use Rattle.marks.specs.declared.words.Marks.{Marks}
use Rattle.walks.specs.Answers.{count_below}
use Rattle.walks.specs.Book.{renew, blank, refusal_of}
use Rattle.walks.specs.Marks.{Flagged}
use Rattle.walks.specs.Net.{net, junctions, hall_at}
use Rattle.search.specs.Desk.{Desk}
use Rattle.renew.specs.Flags.{Written}

-- why renewing is refused, as the crew's book has it: no such hall, then the first table that is too short
abbrev pub renew_due : {T : Type 0} → Plant → ℕ → Desk T → Option Refusal
renew_due p hall d = refusal_of p blank (renew hall (length d.totals) (length d.came) (length d.waiting) (length d.settled))

-- what stood in the tables past the first n places still stands; below they are free
pub record Past {T : Type 0} (n : ℕ) (d d' : Desk T) : Type 0 where
  pub totals : drop n d'.totals ≡ drop n d.totals
  pub came : drop n d'.came ≡ drop n d.came
  pub waiting : drop n d'.waiting ≡ drop n d.waiting
  pub settled : drop n d'.settled ≡ drop n d.settled

-- the legs marked for the hall are exactly the flagged ones, so many, and all other marks are as they were
pub record Renews {T : Type 0} (m : Scale T) (p : Plant) (hall : ℕ) (old new : Marks) (d d' : Desk T) (count : ℕ) : Type 0 where
  pub marks : Written hall (length p.legs) (Flagged m (net m p) (hall_at p) hall) old new
  pub counted : count ≡ count_below (length p.legs) (is_marked new hall)
  pub past : Past (junctions p) d d'

-- what renewing answers; where it is refused, marks and tables are as they were
abbrev pub Renewed : {T : Type 0} → Scale T → Plant → ℕ → Marks → Marks → Desk T → Desk T → Result ℕ Refusal → Type 0
Renewed m p hall old new d d' (Ok count) = (renew_due p hall d ≡ None) × Renews m p hall old new d d' count
Renewed m p hall old new d d' (Err r) = (renew_due p hall d ≡ Some r) × (new ≡ old) × (d' ≡ d)
