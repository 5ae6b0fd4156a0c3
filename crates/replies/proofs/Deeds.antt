-- What one order wrote and did. Assumes nothing.
use Rattle.std.proofs.Common.{◌≡◌, ℕ, ◌≤◌, List, ◌++◌, length, take, Ok, Err, Result, sym, refl, ap, ◌∙◌, subst, arith}
use Rattle.std.proofs.lemmas.List.{length-take}
use Rattle.measure.specs.Scale.{Scale}
use Rattle.layout.specs.Plant.{Plant}
use Rattle.layout.specs.declared.refusal.Refusal.{Refusal}
use Rattle.layers.specs.declared.sheet.Sheet.{Sheet}
use Rattle.halls.specs.declared.force.HallMarks.{HallMarks}
use Rattle.walks.specs.Answers.{Answer}
use Rattle.walks.specs.Book.{Call, renew, route}
use Rattle.router.specs.Ordered.{lapsed_answer, marked_answer}
use Rattle.router.specs.Worked.{GoesOn}
use Rattle.order_text.specs.declared.order.Order.{Order}
use Rattle.replies.specs.Carried.{lapsed_reply, marked_reply, Roomy, Carried}
use Rattle.replies.specs.Replied.{call_of}
use Rattle.replies.specs.Written.{written, written_answer}
use Rattle.replies.specs.declared.board.Board.{Board}
use Rattle.replies.specs.declared.reply.Reply.{Reply}

-- the first n of a list are n, so it has as many
pub enough : (n : ℕ) (l : List ℕ) → length (take n l) ≡ n → n ≤ length l
enough n l e = omega (arith, length-take n l)

-- calls with room for all junctions
pub renew_roomy : {T : Type 0} (hall : ℕ) (b : Board T) → Roomy b
    → renew hall (length b.tables.totals.now) (length b.tables.came.now) (length b.tables.waiting.now) (length b.tables.settled.now) ≡ renew hall 256 256 256 256
renew_roomy hall b room = let h = room.totals in let i = room.came in let j = room.waiting in let k = room.settled in cc

pub route_roomy : {T : Type 0} (start goal : ℕ) (b : Board T) → Roomy b
    → route start goal (length b.tables.totals.now) (length b.tables.came.now) (length b.tables.waiting.now) (length b.tables.settled.now) (length b.way.now) ≡ route start goal 256 256 256 256 256
route_roomy start goal b room =
    let h = room.totals in let i = room.came in let j = room.waiting in let k = room.settled in let l = room.way in cc

module _ {T : Type 0} (m : Scale T) (shows : T → List ℕ) (p : Plant) (line : ℕ) (o : Order) (s s' : Sheet) (halls halls' : HallMarks) (old new : List ℕ) where
  lapsed_told : (r : Result ℕ Refusal) → written (lapsed_reply line r) ≡ written_answer shows line (lapsed_answer r)
  lapsed_told (Ok n) = refl
  lapsed_told (Err e) = refl

  marked_told : (r : Result ℕ Refusal) → written (marked_reply line r) ≡ written_answer shows line (marked_answer r)
  marked_told (Ok n) = refl
  marked_told (Err e) = refl

  pub carried_by :
      (call : Call) (a : Answer T) → call ≡ call_of o → new ≡ old ++ written_answer shows line a → GoesOn m p call a s halls s' halls'
      → Carried m shows p line o s s' halls halls' old new
  carried_by call a is wrote goes = record { answer = a; wrote = wrote; book = subst (λ x. GoesOn m p x a s halls s' halls') is goes }

  -- an order on the day sheet
  pub carried_lapsed :
      (call : Call) (reply : Reply) (r : Result ℕ Refusal) → call ≡ call_of o → reply ≡ lapsed_reply line r → new ≡ old ++ written reply
      → GoesOn m p call (lapsed_answer r) s halls s' halls' → Carried m shows p line o s s' halls halls' old new
  carried_lapsed call reply r is e wrote goes = carried_by call (lapsed_answer r) is (wrote ∙ ap (λ x. old ++ written x) e ∙ ap (λ l. old ++ l) (lapsed_told r)) goes

  -- renewing, which leaves the sheet
  pub carried_marked :
      (call : Call) (reply : Reply) (r : Result ℕ Refusal) → call ≡ call_of o → reply ≡ marked_reply line r → new ≡ old ++ written reply
      → s' ≡ s → GoesOn m p call (marked_answer r) s halls s halls' → Carried m shows p line o s s' halls halls' old new
  carried_marked call reply r is e wrote same goes =
      carried_by call (marked_answer r) is (wrote ∙ ap (λ x. old ++ written x) e ∙ ap (λ l. old ++ l) (marked_told r))
      (subst (λ x. GoesOn m p call (marked_answer r) s halls x halls') (sym same) goes)
