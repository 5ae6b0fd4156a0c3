-- The history that made a router: what was commissioned, and the calls since. Assumes nothing.
use Rattle.std.specs.Prelude.{◌≡◌, ℕ, ◌<◌, List, [], ◌∷◌, ◌++◌, length}
use Rattle.std.specs.Option.{option_map}
use Rattle.measure.specs.Scale.{Scale}
use Rattle.layout.specs.Plant.{Plant}
use Rattle.layers.specs.Day.{is_shut, replacing}
use Rattle.layers.specs.declared.sheet.Replaced.{Replaced}
use Rattle.layers.specs.declared.sheet.Sheet.{Sheet}
use Rattle.marks.specs.Mark.{is_marked}
use Rattle.halls.specs.Force.{in_force}
use Rattle.halls.specs.declared.force.HallMarks.{HallMarks}
use Rattle.walks.specs.Answers.{Answer, Answered}
use Rattle.walks.specs.Book.{Call, Book, book}
use Rattle.walks.specs.Book.{Replaced as Noted}
use Rattle.walks.specs.Orders.{Marks, Left}

-- replaced figures, as the book notes them
abbrev pub noted : Replaced → Noted
noted r = record { class = r.class; clearance = r.clearance }

-- the sheet has what the book has of every leg
pub record SheetOf (plant : Plant) (b : Book) (s : Sheet) : Type 0 where
  pub signs : (e : ℕ) → e < length plant.legs → is_shut s e ≡ b.sign e
  pub figures : (e : ℕ) → e < length plant.legs → option_map noted (replacing s e) ≡ b.replaced e

-- the router has the marks k, for every hall and leg
pub record MarksOf (plant : Plant) (k : Marks) (halls : HallMarks) : Type 0 where
  pub force : (h : ℕ) → h < plant.halls → in_force halls.force h ≡ k.force h
  pub marked : (h e : ℕ) → h < plant.halls → e < length plant.legs → is_marked halls.marks h e ≡ k.marked h e

-- commissioning the plant for the measure, and then the calls, left this sheet and these marks
pub record Worked {T : Type 0} (m : Scale T) (plant : Plant) (calls : List Call) (s : Sheet) (halls : HallMarks) : Type 0 where
  pub sheet : SheetOf plant (book plant calls) s
  pub now_marks : Marks
  pub left : Left m plant calls now_marks
  pub marks : MarksOf plant now_marks halls

-- whatever the calls were that left the router so, one call more, carried out or refused, is answered by the crew's book and leaves it as that list leaves it
pub record GoesOn {T : Type 0} (m : Scale T) (plant : Plant) (call : Call) (a : Answer T) (s : Sheet) (halls : HallMarks) (s' : Sheet) (halls' : HallMarks) : Type 0 where
  pub worked : (calls : List Call) → Worked m plant calls s halls → Worked m plant (calls ++ (call ∷ [])) s' halls'
  pub answered :
      (calls : List Call) → Worked m plant calls s halls → (k k' : Marks) → Left m plant calls k → Left m plant (calls ++ (call ∷ [])) k' →
      Answered m plant (book plant calls) k k' call a
