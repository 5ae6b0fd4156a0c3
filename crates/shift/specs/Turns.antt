-- The turns of a shift as the crew's book has them. Assumes nothing.
use Rattle.std.specs.Prelude.{◌≡◌, ℕ, min, List, [], ◌∷◌, map, length, take, Some, Ok, Err, Result}
use Rattle.measure.specs.Scale.{Scale}
use Rattle.layers.specs.declared.sheet.Sheet.{Sheet}
use Rattle.layout.specs.Plant.{Plant}
use Rattle.layout.specs.declared.refusal.Refusal.{Refusal}
use Rattle.search.specs.Desk.{Desk}
use Rattle.search.specs.declared.found.Found.{Found as FoundWay}
use Rattle.halls.specs.declared.force.HallMarks.{HallMarks}
use Rattle.order_text.specs.declared.order.Order.{Order}
use Rattle.order_text.specs.declared.order.Order.TheVariants as order
use Rattle.router.specs.Worked.{GoesOn}
use Rattle.walks.specs.Answers.{Answer, halls, legs, found, refused, Told}
use Rattle.walks.specs.Book.{Call, shut, reopen, set, renew, route, blank}
use Rattle.walks.specs.Orders.{Marks, all_lapsed}
use Rattle.shift.specs.declared.turn.Places.{Places}
use Rattle.shift.specs.declared.turn.Reply.{Reply}
use Rattle.shift.specs.declared.turn.Reply.TheVariants.{Lapsed, Marked, Found, Refused}
use Rattle.shift.specs.declared.turn.Turn.{Turn}

-- how many places there are of each table
abbrev pub places_of : {T : Type 0} → Desk T → List ℕ → Places
places_of d way = record {
  totals = length d.totals;
  came = length d.came;
  waiting = length d.waiting;
  settled = length d.settled;
  way = length way;
}

-- the places that an order is lent of tables with so many
abbrev pub lent : Places → Places → Places
lent wanted there = record {
  totals = min wanted.totals there.totals;
  came = min wanted.came there.came;
  waiting = min wanted.waiting there.waiting;
  settled = min wanted.settled there.settled;
  way = min wanted.way there.way;
}

-- an order as a call, with the lengths of its tables
abbrev pub call_of : Order → Places → Call
call_of (order.Shut leg) n = shut leg
call_of (order.Open leg) n = reopen leg
call_of (order.Set leg class clearance) n = set leg class clearance
call_of (order.Renew hall) n = renew hall n.totals n.came n.waiting n.settled
call_of (order.Route start goal) n = route start goal n.totals n.came n.waiting n.settled n.way

-- the calls of a shift, with tables that have so many places
abbrev pub calls_of : {T : Type 0} → Places → List (Turn T) → List Call
calls_of there turns = map (λ t. call_of t.order (lent t.places there)) turns

-- a reply says an answer; of a way it says how many legs it has
abbrev pub Says : {T : Type 0} → Reply T → Answer T → Type 0
Says (Lapsed n) a = a ≡ halls n
Says (Marked n) a = a ≡ legs n
Says (Found f) a = (way : List ℕ) × (length way ≡ f.legs) × (a ≡ found f.total f.settled way)
Says (Refused r) a = a ≡ refused r

-- the way begins with the legs that were found, all of them
abbrev pub WholeWay : {T : Type 0} → Result (FoundWay T) Refusal → List ℕ → Type 0
WholeWay (Ok f) way = length (take f.legs way) ≡ f.legs
WholeWay (Err r) way = Unit {0}

-- every turn got a reply that says its answer, and is otherwise as it was
abbrev pub Replied : {T : Type 0} → List (Turn T) → List (Turn T) → List (Answer T) → Type 0
Replied [] [] [] = Unit {0}
Replied {T = T} (t ∷ ts) (u ∷ us) (a ∷ rest) = (u.order ≡ t.order) × (u.places ≡ t.places) × ((r : Reply T) × (u.reply ≡ Some r) × Says r a) × Replied ts us rest
Replied [] [] (a ∷ rest) = ⊥
Replied [] (u ∷ us) answers = ⊥
Replied (t ∷ ts) [] answers = ⊥
Replied (t ∷ ts) (u ∷ us) [] = ⊥

-- the reply to a call, and what it leaves: as the crew's book has it
abbrev pub AnswersCall : {T : Type 0} → Scale T → Plant → Call → Sheet → HallMarks → Sheet → HallMarks → Reply T → Type 0
AnswersCall {T = T} m p call s old s' new reply = (a : Answer T) × Says reply a × GoesOn m p call a s old s' new

-- the replies to the turns of a shift are the answers of the crew's book to its calls, in their order
pub record AnswersShift {T : Type 0} (m : Scale T) (p : Plant) (there : Places) (turns turns' : List (Turn T)) : Type 0 where
  pub answers : List (Answer T)
  pub marks_left : Marks
  pub told : Told m p blank all_lapsed (calls_of there turns) answers marks_left
  pub replied : Replied turns turns' answers
