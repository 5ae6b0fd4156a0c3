-- The day sheet: what it makes of a plant, how it is written, and when an entry is refused. Assumes nothing.
use Rattle.std.specs.Prelude.{◌≡◌, ℕ, Bool, true, false, cond, not, ◌&&◌, length, replicate, Some, None, Option, Result, nat_lt, slice_index_or, slice_set}
use Rattle.std.specs.Option.{option_map, unwrap_or}
use Rattle.std.specs.List.{slice_get}
use Rattle.layout.specs.declared.refusal.Refusal.{Refusal}
use Rattle.layout.specs.declared.refusal.Refusal.TheVariants.{OutOfRange, NoLeg, Already}
use Rattle.layout.specs.Limits.{most_legs, class_fits, clearance_fits}
use Rattle.layout.specs.Plant.{Leg, Plant}
use Rattle.layout.specs.Refused.{refuse_unless, answered, unless}
use Rattle.layers.specs.Relegged.{relegged, with_leg}
use Rattle.layers.specs.declared.sheet.Replaced.{Replaced}
use Rattle.layers.specs.declared.sheet.Sheet.{Sheet}

-- whether the sheet has leg k as shut
abbrev pub is_shut : Sheet → ℕ → Bool
is_shut s k = slice_index_or s.shut k false

-- the figures that replace those of leg k, if any do
abbrev pub replacing : Sheet → ℕ → Option Replaced
replacing s k = slice_index_or s.replaced k None

-- leg k with what the sheet has of it: open when open below and not shut on the sheet
abbrev pub entered_leg : Sheet → ℕ → Leg → Leg
entered_leg s k l = record {
  tail = l.tail;
  head = l.head;
  metres = l.metres;
  turn = l.turn;
  class = unwrap_or (option_map (λ r. r.class) (replacing s k)) l.class;
  clearance = unwrap_or (option_map (λ r. r.clearance) (replacing s k)) l.clearance;
  is_open = l.is_open && not (is_shut s k);
}

-- a plant with the sheet entered
abbrev pub entered : Sheet → Plant → Plant
entered s p = relegged (entered_leg s) p

-- the sheet has a place for every leg
abbrev pub Wide : Sheet → Type 0
Wide s = (length s.shut ≡ most_legs) × (length s.replaced ≡ most_legs)

-- figures that replace a leg's own are in their ranges: of one leg, and of all on the sheet
abbrev pub in_range : Option Replaced → Bool
in_range None = true
in_range (Some r) = class_fits r.class && clearance_fits r.clearance

abbrev pub Fit : Sheet → Type 0
Fit s = (k : ℕ) → in_range (replacing s k) ≡ true

-- nothing shut and nothing replaced
abbrev pub blank : Sheet
blank = record { shut = replicate most_legs false; replaced = replicate most_legs None }

-- the sheet with the sign of leg k put on (true) or taken off
abbrev pub signed : Sheet → ℕ → Bool → Sheet
signed s k shut = record { shut = slice_set s.shut k shut; replaced = s.replaced }

-- the sheet with the figures of leg k replaced
abbrev pub figured : Sheet → ℕ → ℕ → ℕ → Sheet
figured s k class clearance = record {
  shut = s.shut;
  replaced = slice_set s.replaced k (Some (record { class = class; clearance = clearance }));
}

-- the sign is another than the sheet has of the leg
abbrev pub another_sign : Sheet → ℕ → Bool → Bool
another_sign s leg shut = cond shut (not (is_shut s leg)) (is_shut s leg)

-- why shutting (true) or opening a leg of the plant is refused: there is no such leg, or the sheet has it so already
abbrev pub refuses_sign : Plant → Sheet → ℕ → Bool → Option Refusal
refuses_sign p s leg shut =
    refuse_unless (nat_lt leg (length p.legs)) (NoLeg leg) (
    refuse_unless (another_sign s leg shut) (Already leg) None)

-- why new figures of a leg are refused: there is no such leg, or a figure is out of its range
abbrev pub refuses_set : Plant → ℕ → ℕ → ℕ → Option Refusal
refuses_set p leg class clearance =
    refuse_unless (nat_lt leg (length p.legs)) (NoLeg leg) (
    refuse_unless (class_fits class) (OutOfRange 2) (
    refuse_unless (clearance_fits clearance) (OutOfRange 3) None))

-- whether leg k of a plant is open
abbrev pub open_in : Plant → ℕ → Bool
open_in p k = unwrap_or (option_map (λ l. l.is_open) (slice_get p.legs k)) false

-- a leg made open or shut
abbrev pub standing : Bool → Leg → Leg
standing open_now l = record {
  tail = l.tail;
  head = l.head;
  metres = l.metres;
  class = l.class;
  clearance = l.clearance;
  turn = l.turn;
  is_open = open_now;
}

-- a leg with another class and clearance
abbrev pub refigured : ℕ → ℕ → Leg → Leg
refigured class clearance l = record {
  tail = l.tail;
  head = l.head;
  metres = l.metres;
  class = class;
  clearance = clearance;
  turn = l.turn;
  is_open = l.is_open;
}

-- shutting (true) or opening a leg over the plant p: the answer, the sheet after it, and what the layout then means,
-- which is the same but for that leg: shut, or opened and so as it is below
pub record Signs (p : Plant) (before : Sheet) (leg : ℕ) (shut : Bool) (answer : Result (Unit {0}) Refusal) (after : Sheet) : Type 0 where
  pub answers : answer ≡ answered (refuses_sign p before leg shut) tt
  pub writes : after ≡ unless (refuses_sign p before leg shut) before (signed before leg shut)
  pub means : entered after p ≡ unless (refuses_sign p before leg shut) (entered before p) (with_leg leg (standing (not shut && open_in p leg)) (entered before p))

-- replacing a leg's class and clearance over the plant p, likewise
pub record Sets (p : Plant) (before : Sheet) (leg class clearance : ℕ) (answer : Result (Unit {0}) Refusal) (after : Sheet) : Type 0 where
  pub answers : answer ≡ answered (refuses_set p leg class clearance) tt
  pub writes : after ≡ unless (refuses_set p leg class clearance) before (figured before leg class clearance)
  pub means : entered after p ≡ unless (refuses_set p leg class clearance) (entered before p) (with_leg leg (refigured class clearance) (entered before p))
