-- What carrying out one order writes and does. Assumes nothing.
use Rattle.std.specs.Prelude.{◌≡◌, ℕ, ◌⊎◌, List, ◌++◌, length, Ok, Err, Result}
use Rattle.measure.specs.Scale.{Scale}
use Rattle.layout.specs.Plant.{Plant}
use Rattle.layout.specs.Refused.{in_line}
use Rattle.layout.specs.declared.refusal.Refusal.{Refusal}
use Rattle.layers.specs.declared.sheet.Sheet.{Sheet}
use Rattle.halls.specs.declared.force.HallMarks.{HallMarks}
use Rattle.walks.specs.Answers.{Answer}
use Rattle.router.specs.Worked.{GoesOn}
use Rattle.order_text.specs.Orders.{ReadsOrder}
use Rattle.order_text.specs.declared.order.Order.{Order}
use Rattle.replies.specs.Written.{written, written_answer}
use Rattle.replies.specs.Replied.{call_of}
use Rattle.replies.specs.declared.board.Board.{Board}
use Rattle.replies.specs.declared.reply.Reply.{Reply}
use Rattle.replies.specs.declared.reply.Reply.TheVariants.{Lapsed, Marked, Refused}

-- each table has the places that the calls are made with
pub record Roomy {T : Type 0} (b : Board T) : Type 0 where
  pub totals : length b.tables.totals.now ≡ 256
  pub came : length b.tables.came.now ≡ 256
  pub waiting : length b.tables.waiting.now ≡ 256
  pub settled : length b.tables.settled.now ≡ 256
  pub way : length b.way.now ≡ 256

-- what is said of an order on the day sheet, from the line of that number
abbrev pub lapsed_reply : ℕ → Result ℕ Refusal → Reply
lapsed_reply line (Ok n) = Lapsed n
lapsed_reply line (Err r) = Refused (in_line line r)

-- and of renewing
abbrev pub marked_reply : ℕ → Result ℕ Refusal → Reply
marked_reply line (Ok n) = Marked n
marked_reply line (Err r) = Refused (in_line line r)

-- the order was carried out on a router over the plant, from this sheet and these marks to those, and what the crew's book answers to it was written
pub record Carried {T : Type 0} (m : Scale T) (shows : T → List ℕ) (p : Plant) (line : ℕ) (o : Order)
    (s s' : Sheet) (halls halls' : HallMarks) (old new : List ℕ) : Type 0 where
  pub answer : Answer T
  pub wrote : new ≡ old ++ written_answer shows line answer
  pub book : GoesOn m p (call_of o) answer s halls s' halls'

-- the line writes no order: its refusal was written, and sheet and marks are as they were
pub record PassedOver (bytes : List ℕ) (line : ℕ) (s s' : Sheet) (halls halls' : HallMarks) (old new : List ℕ) : Type 0 where
  pub why : Refusal
  pub reads : ReadsOrder bytes line (Err why)
  pub wrote : new ≡ old ++ written (Refused why)
  pub same_sheet : s' ≡ s
  pub same_halls : halls' ≡ halls

-- what became of a line
abbrev pub LineAnswered : {T : Type 0} → Scale T → (T → List ℕ) → Plant → List ℕ → ℕ → Sheet → Sheet → HallMarks → HallMarks → List ℕ → List ℕ → Type 0
LineAnswered m shows p bytes line s s' halls halls' old new =
    ((o : Order) × ReadsOrder bytes line (Ok o) × Carried m shows p line o s s' halls halls' old new)
    ⊎ PassedOver bytes line s s' halls halls' old new
