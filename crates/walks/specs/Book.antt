-- The crew's book: why a call is refused, and what it enters otherwise. Assumes nothing.
use Rattle.std.specs.Prelude.{ℕ, suc, Bool, true, false, cond, not, ◌&&◌, List, [], ◌∷◌, length, Some, None, Option, ◌==◌, nat_le, nat_lt}
use Rattle.std.specs.Option.{option_map, unwrap_or}
use Rattle.layout.specs.Limits.{class_fits, clearance_fits}
use Rattle.layout.specs.Plant.{Leg, Plant}
use Rattle.layout.specs.Refused.{refuse_unless, unless}
use Rattle.layout.specs.declared.refusal.Refusal.{Refusal}
use Rattle.layout.specs.declared.refusal.Refusal.TheVariants.{OutOfRange, NoLeg, NoHall, NoJunction, ShortTable, Already}
use Rattle.walks.specs.Net.{junctions}

-- a call with its arguments; of each table that is handed in, its length
pub data Call : Type 0 where
  shut : (leg : ℕ) → Call
  reopen : (leg : ℕ) → Call
  set : (leg class clearance : ℕ) → Call
  renew : (hall totals came waiting settled : ℕ) → Call
  route : (start goal totals came waiting settled way : ℕ) → Call

-- the class and clearance that a set order gave a leg
pub record Replaced : Type 0 where
  pub class : ℕ
  pub clearance : ℕ

-- what the book has of each leg: a shut sign, and a class and clearance that replace the leg's own
pub record Book : Type 0 where
  pub sign : ℕ → Bool
  pub replaced : ℕ → Option Replaced

-- the book at commissioning
abbrev pub blank : Book
blank = record { sign = λ e. false; replaced = λ e. None }

-- a leg with a shut sign or without, and with what replaces its figures
abbrev pub amended : Bool → Option Replaced → Leg → Leg
amended sign replaced l = record {
  tail = l.tail;
  head = l.head;
  metres = l.metres;
  class = unwrap_or (option_map (λ r. r.class) replaced) l.class;
  clearance = unwrap_or (option_map (λ r. r.clearance) replaced) l.clearance;
  turn = l.turn;
  is_open = l.is_open && not sign;
}

-- the legs with what the book has of each, the first of them numbered e
abbrev pub amended_from : Book → ℕ → List Leg → List Leg
amended_from b e [] = []
amended_from b e (l ∷ ls) = amended (b.sign e) (b.replaced e) l ∷ amended_from b (suc e) ls

-- the commissioned plant with the book entered
abbrev pub with_book : Plant → Book → Plant
with_book plant b = record { halls = plant.halls; hall_of = plant.hall_of; legs = amended_from b 0 plant.legs }

-- the first table with no place for each of the junctions, by its position
abbrev pub short_table : ℕ → ℕ → List ℕ → Option Refusal
short_table n place [] = None
short_table n place (size ∷ sizes) = refuse_unless (nat_le n size) (ShortTable place) (short_table n (suc place) sizes)

-- why a call is refused, the checks in their order; a route that finds no way is refused after these
abbrev pub refusal_of : Plant → Book → Call → Option Refusal
refusal_of plant b (shut e) =
    refuse_unless (nat_lt e (length plant.legs)) (NoLeg e) (
    refuse_unless (not (b.sign e)) (Already e) None)
refusal_of plant b (reopen e) =
    refuse_unless (nat_lt e (length plant.legs)) (NoLeg e) (
    refuse_unless (b.sign e) (Already e) None)
refusal_of plant b (set e class clearance) =
    refuse_unless (nat_lt e (length plant.legs)) (NoLeg e) (
    refuse_unless (class_fits class) (OutOfRange 2) (
    refuse_unless (clearance_fits clearance) (OutOfRange 3) None))
refusal_of plant b (renew hall totals came waiting settled) =
    refuse_unless (nat_lt hall plant.halls) (NoHall hall) (
    short_table (junctions plant) 1 (totals ∷ came ∷ waiting ∷ settled ∷ []))
refusal_of plant b (route start goal totals came waiting settled way) =
    refuse_unless (nat_lt start (junctions plant)) (NoJunction 1) (
    refuse_unless (nat_lt goal (junctions plant)) (NoJunction 2) (
    short_table (junctions plant) 1 (totals ∷ came ∷ waiting ∷ settled ∷ way ∷ [])))

-- f with x at e
abbrev pub put : {A : Type 0} → ℕ → A → (ℕ → A) → ℕ → A
put e x f i = cond (i == e) x (f i)

-- the book after a call that is carried out: renew and route enter nothing
abbrev pub entered : Book → Call → Book
entered b (shut e) = record { sign = put e true b.sign; replaced = b.replaced }
entered b (reopen e) = record { sign = put e false b.sign; replaced = b.replaced }
entered b (set e class clearance) = record {
  sign = b.sign;
  replaced = put e (Some (record { class = class; clearance = clearance })) b.replaced;
}
entered b (renew hall totals came waiting settled) = b
entered b (route start goal totals came waiting settled way) = b

-- the book after a call
abbrev pub after : Plant → Book → Call → Book
after plant b call = unless (refusal_of plant b call) b (entered b call)

-- the book after a list of calls
abbrev pub kept : Plant → Book → List Call → Book
kept plant b [] = b
kept plant b (call ∷ calls) = kept plant (after plant b call) calls

-- the book that a list of calls leaves since commissioning
abbrev pub book : Plant → List Call → Book
book plant calls = kept plant blank calls
