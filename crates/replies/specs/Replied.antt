-- Which replies a text gets, each with its bytes. Assumes nothing.
use Rattle.std.specs.Prelude.{◌≡◌, ℕ, ◌+◌, List, [], ◌∷◌, ◌++◌, length, drop, Some, None, Ok, Err, Option, ◌≢◌}
use Rattle.std.specs.Option.{option_map}
use Rattle.measure.specs.Kinds.{time_scale, clearance_scale, turns_scale}
use Rattle.measure.specs.Scale.{Scale}
use Rattle.measure.specs.Written.{time_written, clearance_written, turns_written}
use Rattle.layout.specs.Plant.{Plant}
use Rattle.layout.specs.declared.refusal.Refusal.{Refusal}
use Rattle.layout.specs.declared.refusal.Refusal.TheVariants.{NoEnd}
use Rattle.plan.specs.Meant.{sketched}
use Rattle.walks.specs.Answers.{Answer, Answered}
use Rattle.walks.specs.Book.{Call, shut, reopen, set, renew, route, book}
use Rattle.walks.specs.Orders.{Marks, Left}
use Rattle.tokens.specs.Cuts.{Endless, FirstLine}
use Rattle.plan_text.specs.Reads.{Reads}
use Rattle.plan_text.specs.declared.kind.Kind.{Kind}
use Rattle.plan_text.specs.declared.kind.Kind.TheVariants.{Time, Clearance, TimeThenTurns}
use Rattle.plan_text.specs.declared.reading.Reading.{Reading}
use Rattle.order_text.specs.Orders.{ReadsOrder}
use Rattle.order_text.specs.declared.order.Order.{Order}
use Rattle.order_text.specs.declared.order.Order.TheVariants.{Shut, Open, Set, Renew, Route}
use Rattle.replies.specs.Written.{written, written_answer, written_all}
use Rattle.replies.specs.declared.reply.Reply.{Reply}
use Rattle.replies.specs.declared.reply.Reply.TheVariants.{Plan, Refused}

-- what is said of a plan
abbrev pub plan_reply : Plant → Reply
plan_reply p = Plan (length p.hall_of) (length p.legs) p.halls

-- the call that an order is; every table has a place for each of the 256 junctions that a plan may have
abbrev pub call_of : Order → Call
call_of (Shut leg) = shut leg
call_of (Open leg) = reopen leg
call_of (Set leg class clearance) = set leg class clearance
call_of (Renew hall) = renew hall 256 256 256 256
call_of (Route start goal) = route start goal 256 256 256 256 256

-- the calls so far, and one more
abbrev pub and_then : List Call → Call → List Call
and_then calls call = calls ++ (call ∷ [])

-- The replies to the text that comes after so many lines, where the plant was commissioned for the measure and these calls were made since:
-- a line that writes an order is one call more and gets what the crew's book answers to it; any other line gets its refusal;
-- one without its end is the last that is read.
pub data OrderReplies {T : Type 0} (m : Scale T) (shows : T → List ℕ) (p : Plant) : List Call → ℕ → List ℕ → List (List ℕ) → Type 0 where
  none_left : {calls : List Call} {lines : ℕ} → OrderReplies m shows p calls lines [] []
  no_end :
      {calls : List Call} {lines : ℕ} {text : List ℕ} → (text ≢ []) → Endless text →
      OrderReplies m shows p calls lines text (written (Refused (NoEnd (lines + 1))) ∷ [])
  no_order :
      {calls : List Call} {lines : ℕ} {text line rest : List ℕ} {why : Refusal} {replies : List (List ℕ)} →
      FirstLine text line rest → ReadsOrder line (lines + 1) (Err why) →
      OrderReplies m shows p calls (lines + 1) rest replies →
      OrderReplies m shows p calls lines text (written (Refused why) ∷ replies)
  an_order :
      {calls : List Call} {lines : ℕ} {text line rest : List ℕ} {replies : List (List ℕ)} (o : Order) (k k' : Marks) (a : Answer T) →
      FirstLine text line rest → ReadsOrder line (lines + 1) (Ok o) →
      Left m p calls k → Left m p (and_then calls (call_of o)) k' → Answered m p (book p calls) k k' (call_of o) a →
      OrderReplies m shows p (and_then calls (call_of o)) (lines + 1) rest replies →
      OrderReplies m shows p calls lines text (written_answer shows (lines + 1) a ∷ replies)

-- the same by the measure that the plan names, from commissioning on
abbrev pub RepliesBy : Kind → Plant → ℕ → List ℕ → List (List ℕ) → Type 0
RepliesBy Time p = OrderReplies time_scale time_written p []
RepliesBy Clearance p = OrderReplies clearance_scale clearance_written p []
RepliesBy TimeThenTurns p = OrderReplies turns_scale turns_written p []

-- the replies after a plan was read: its refusal alone, or what it holds and then the replies to its orders
abbrev pub AfterPlan : List ℕ → Reading → Option Refusal → List (List ℕ) → Type 0
AfterPlan text r (Some why) replies = replies ≡ written (Refused why) ∷ []
AfterPlan text r None replies =
    (kind : Kind) × (r.kind ≡ Some kind) × (p : Plant) × (option_map sketched r.draft ≡ Some p)
    × (orders : List (List ℕ)) × RepliesBy kind p r.lines (drop r.rest text) orders × (replies ≡ written (plan_reply p) ∷ orders)

-- the replies to a text, whatever its bytes
abbrev pub Replies : List ℕ → List (List ℕ) → Type 0
Replies text replies = (r : Reading) × Reads text r × AfterPlan text r r.refusal replies

-- such replies, and no other bytes, were written at the end of what stood there
abbrev pub Said : (List (List ℕ) → Type 0) → List ℕ → List ℕ → Type 0
Said P old new = (replies : List (List ℕ)) × P replies × (new ≡ old ++ written_all replies)

-- whatever its bytes, a text has one list of replies
abbrev pub RepliesAgree : Type 0
RepliesAgree = (text : List ℕ) (rs qs : List (List ℕ)) → Replies text rs → Replies text qs → rs ≡ qs
