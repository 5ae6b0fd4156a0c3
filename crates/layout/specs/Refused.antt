-- Refusals: their numbers and figures, and the order of a call's checks. Assumes nothing.
use Rattle.std.specs.Prelude.{ℕ, Bool, cond, List, ◌∷◌, ◌++◌, Some, None, Ok, Err, Option, Result, codes, decimal}
use Rattle.layout.specs.declared.refusal.Refusal.{Refusal}
use Rattle.layout.specs.declared.refusal.Refusal.TheVariants.{NotDue, WrongForm, OutOfRange, Full, NotEntered, NoLeg, NoHall, NoJunction, NoWay, ShortTable, Already, NoEnd, TooLong}

-- the number and the figure that the board shows
pub record Shown : Type 0 where
  pub number : ℕ
  pub figure : ℕ

abbrev shows : ℕ → ℕ → Shown
shows n f = record { number = n; figure = f }

-- the one table of them
abbrev pub shown : Refusal → Shown
shown (NotDue line) = shows 1 line
shown (WrongForm line) = shows 2 line
shown (OutOfRange place) = shows 3 place
shown (Full places) = shows 4 places
shown (NotEntered end) = shows 5 end
shown (NoLeg leg) = shows 6 leg
shown (NoHall hall) = shows 7 hall
shown (NoJunction which) = shows 8 which
shown (NoWay settled) = shows 9 settled
shown (ShortTable table) = shows 10 table
shown (Already leg) = shows 11 leg
shown (NoEnd line) = shows 12 line
shown (TooLong limit) = shows 13 limit

abbrev pub number_of : Refusal → ℕ
number_of r = (shown r).number

abbrev pub figure_of : Refusal → ℕ
figure_of r = (shown r).figure

-- how a refusal is written: its number on a line, and its figure on the next, whose end is not written
abbrev pub refusal_written : Refusal → List ℕ
refusal_written r = codes "refused=" ++ (decimal (number_of r) ++ (10 ∷ (codes "figure=" ++ decimal (figure_of r))))

-- the refusal of a call that a line of text made: the line stands where a position stood
abbrev pub in_line : ℕ → Refusal → Refusal
in_line n (NotDue line) = NotDue line
in_line n (WrongForm line) = WrongForm line
in_line n (OutOfRange place) = OutOfRange n
in_line n (Full places) = Full places
in_line n (NotEntered end) = NotEntered n
in_line n (NoLeg leg) = NoLeg leg
in_line n (NoHall hall) = NoHall hall
in_line n (NoJunction which) = NoJunction which
in_line n (NoWay settled) = NoWay settled
in_line n (ShortTable table) = ShortTable table
in_line n (Already leg) = Already leg
in_line n (NoEnd line) = NoEnd line
in_line n (TooLong limit) = TooLong limit

-- a call's checks in their order: the refusal where a test fails, and else what the later checks say
abbrev pub refuse_unless : Bool → Refusal → Option Refusal → Option Refusal
refuse_unless ok r later = cond ok later (Some r)

-- the answer of a call: the refusal where there is one, and else x
abbrev pub answered : {X : Type 0} → Option Refusal → X → Result X Refusal
answered None x = Ok x
answered (Some r) x = Err r

-- what stands after a call: the old where it was refused, and else the new
abbrev pub unless : {X : Type 0} → Option Refusal → X → X → X
unless None old new = new
unless (Some r) old new = old
