-- A text has one answer. Assumes nothing.
use Rattle.std.proofs.Common.{◌≡◌, ℕ, ◌+◌, List, [], ◌∷◌, drop, Some, None, Ok, Err, Option, Result, sym, refl, ap, ◌∙◌, subst, ap₂, arith}
use Rattle.std.specs.Option.{option_map}
use Rattle.measure.specs.Scale.{Scale, Lawful}
use Rattle.measure.specs.Lawfulness.{time_lawful, clearance_lawful, turns_lawful}
use Rattle.layout.specs.Plant.{Plant, Sound}
use Rattle.layout.specs.declared.refusal.Refusal.{Refusal}
use Rattle.plan.specs.Limited.{sketch_sound}
use Rattle.plan.specs.Meant.{sketched}
use Rattle.plan.specs.declared.draft.Draft.{Draft}
use Rattle.walks.specs.Answers.{Answer, Answered}
use Rattle.walks.specs.Book.{Call, book}
use Rattle.walks.specs.Orders.{Marks, Left}
use Rattle.walks.proofs.Answering.{answered_once}
use Rattle.walks.proofs.Left.{marks_left}
use Rattle.tokens.specs.Cuts.{FirstLine}
use Rattle.tokens.proofs.Cutting.{one_line, line_shorter, line_not_endless}
use Rattle.plan_text.specs.Agreed.{Alike}
use Rattle.plan_text.specs.declared.kind.Kind.{Kind}
use Rattle.plan_text.specs.declared.kind.Kind.TheVariants.{Time, Clearance, TimeThenTurns}
use Rattle.plan_text.specs.declared.reading.Reading.{Reading}
use Rattle.plan_text.proofs.OneReading.{readings_agree}
use Rattle.order_text.specs.Orders.{ReadsOrder}
use Rattle.order_text.specs.declared.order.Order.{Order}
use Rattle.order_text.proofs.OneOrder.{answers_agree}
use Rattle.replies.specs.Written.{written, written_answer}
use Rattle.replies.specs.Replied.{plan_reply, call_of, and_then, OrderReplies, none_left, no_end, no_order, an_order, RepliesBy, AfterPlan, RepliesAgree}
use Rattle.replies.specs.declared.reply.Reply.TheVariants.{Refused}

no_line_left : (line rest : List ℕ) → FirstLine [] line rest → ⊥
no_line_left line rest first =
    let shorter = line_shorter [] line rest first in
    omega arith

-- a line has one reading
same_reading :
    (text line rest line' rest' : List ℕ) (at : ℕ) (r q : Result Order Refusal) → FirstLine text line rest → FirstLine text line' rest'
    → ReadsOrder line at r → ReadsOrder line' at q → r ≡ q
same_reading text line rest line' rest' at r q first again reads too =
    answers_agree line at r q reads (subst (λ l. ReadsOrder l at q) (sym (one_line _ _ _ _ _ first again).0) too)

order_not_refused : (o : Order) (e : Refusal) → Ok o ≡ Err e → ⊥
order_not_refused o e is = grind arith

module _ {T : Type 0} {m : Scale T} (laws : Lawful m) (shows : T → List ℕ) (p : Plant) (sound : Sound p) where
  -- the calls leave one set of marks
  same_marks : (calls : List Call) (k other : Marks) → Left m p calls k → Left m p calls other → other ≡ k
  same_marks calls k other here there =
      let only = (marks_left laws p sound calls).2 in
      only other there ∙ sym (only k here)

  -- so one call more has one answer
  same_answer :
      (calls : List Call) (call : Call) (k k' l l' : Marks) (a b : Answer T)
      → Left m p calls k → Left m p (and_then calls call) k' → Answered m p (book p calls) k k' call a
      → Left m p calls l → Left m p (and_then calls call) l' → Answered m p (book p calls) l l' call b
      → b ≡ a
  same_answer calls call k k' l l' a b here then told here' then' told' =
      let moved = subst (λ x. Answered m p (book p calls) x k' call b) (same_marks calls k l here here')
      (subst (λ x. Answered m p (book p calls) l x call b) (same_marks (and_then calls call) k' l' then then') told') in
      let only = (answered_once laws p sound (book p calls) k k' call).2 in
      only b moved ∙ sym (only a told)

  -- the same lines get the same replies
  one_list :
      {calls : List Call} {lines : ℕ} {text : List ℕ} {rs qs : List (List ℕ)}
      → OrderReplies m shows p calls lines text rs → OrderReplies m shows p calls lines text qs → rs ≡ qs
  one_list none_left none_left = refl
  one_list none_left (no_end some endless) = absurd (some refl)
  one_list none_left (no_order first reads more) = absurd (no_line_left _ _ first)
  one_list none_left (an_order o k k' a first reads left then told more) = absurd (no_line_left _ _ first)
  one_list (no_end some endless) none_left = absurd (some refl)
  one_list (no_end some endless) (no_end too also) = refl
  one_list (no_end some endless) (no_order first reads more) = absurd (line_not_endless _ _ _ first endless)
  one_list (no_end some endless) (an_order o k k' a first reads left then told more) = absurd (line_not_endless _ _ _ first endless)
  one_list (no_order first reads more) none_left = absurd (no_line_left _ _ first)
  one_list (no_order first reads more) (no_end some endless) = absurd (line_not_endless _ _ _ first endless)
  one_list {calls = calls} {lines = n} (no_order {why = e} {replies = rs} first reads more) (no_order {why = f} {replies = qs} again too others) =
      let rest = (one_line _ _ _ _ _ first again).1 in
      let both = same_reading _ _ _ _ _ (n + 1) (Err e) (Err f) first again reads too in
      let why : e ≡ f = cc in
      ap₂ (λ x l. written (Refused x) ∷ l) why (one_list more (subst (λ t. OrderReplies m shows p calls (n + 1) t qs) (sym rest) others))
  one_list {lines = n} (no_order {why = e} first reads more) (an_order o k k' a again too left then told others) =
      absurd (order_not_refused o e (sym (same_reading _ _ _ _ _ (n + 1) (Err e) (Ok o) first again reads too)))
  one_list (an_order o k k' a first reads left then told more) none_left = absurd (no_line_left _ _ first)
  one_list (an_order o k k' a first reads left then told more) (no_end some endless) = absurd (line_not_endless _ _ _ first endless)
  one_list {lines = n} (an_order o k k' a first reads left then told more) (no_order {why = e} again too others) =
      absurd (order_not_refused o e (same_reading _ _ _ _ _ (n + 1) (Ok o) (Err e) first again reads too))
  one_list {calls = calls} {lines = n} (an_order {rest = rest} o k k' a first reads left then told more) (an_order {rest = rest'} {replies = qs} o' l l' b again too left' then' told' others) =
      let same = (one_line _ _ _ _ _ first again).1 in
      let both = same_reading _ _ _ _ _ (n + 1) (Ok o) (Ok o') first again reads too in
      let order : o ≡ o' = cc in
      let answer = same_answer calls (call_of o) k k' l l' a b left then told left'
      (subst (λ x. Left m p (and_then calls (call_of x)) l') (sym order) then')
      (subst (λ x. Answered m p (book p calls) l l' (call_of x) b) (sym order) told') in
      let turned = subst (λ t. OrderReplies m shows p (and_then calls (call_of o)) (n + 1) t qs) (sym same)
      (subst (λ x. OrderReplies m shows p (and_then calls (call_of x)) (n + 1) rest' qs) (sym order) others) in
      ap₂ (λ x l. written_answer shows (n + 1) x ∷ l) (sym answer) (one_list more turned)

-- by each measure
one_by :
    (kind : Kind) (p : Plant) → Sound p → (lines : ℕ) (text : List ℕ) (rs qs : List (List ℕ))
    → RepliesBy kind p lines text rs → RepliesBy kind p lines text qs → rs ≡ qs
one_by Time p sound lines text rs qs here there = one_list time_lawful _ p sound here there
one_by Clearance p sound lines text rs qs here there = one_list clearance_lawful _ p sound here there
one_by TimeThenTurns p sound lines text rs qs here there = one_list turns_lawful _ p sound here there

-- the limits hold of what was entered into a draft
draft_sound : (o : Option Draft) (p : Plant) → option_map sketched o ≡ Some p → Sound p
draft_sound None p e = absurd (grind arith)
draft_sound (Some d) p e =
    let is : sketched d ≡ p = cc in
    subst Sound is (sketch_sound d)

-- the same reading gets the same replies
one_after :
    (text : List ℕ) (r q : Reading) → Alike r q → (o : Option Refusal) (rs qs : List (List ℕ))
    → AfterPlan text r o rs → AfterPlan text q o qs → rs ≡ qs
one_after text r q alike (Some why) rs qs here there = here ∙ sym there
one_after text r q alike None rs qs (kind, named, p, is, orders, replies, e) (kind', named', p', is', orders', replies', e') =
    let kinds : Some kind ≡ Some kind' = sym named ∙ alike.kind ∙ named' in
    let measure : kind ≡ kind' = cc in
    let plants : Some p ≡ Some p' = sym is ∙ alike.draft ∙ is' in
    let plan : p ≡ p' = cc in
    let turned : RepliesBy kind p r.lines (drop r.rest text) orders' =
    subst (λ k. RepliesBy k p r.lines (drop r.rest text) orders') (sym measure)
    (subst (λ x. RepliesBy kind' x r.lines (drop r.rest text) orders') (sym plan)
    (subst (λ n. RepliesBy kind' p' n (drop r.rest text) orders') (sym alike.lines)
    (subst (λ n. RepliesBy kind' p' q.lines (drop n text) orders') (sym alike.rest) replies'))) in
    let same = one_by kind p (draft_sound r.draft p is) r.lines (drop r.rest text) orders orders' replies turned in
    e ∙ ap (λ x. written (plan_reply x) ∷ orders) plan ∙ ap (λ l. written (plan_reply p') ∷ l) same ∙ sym e'

pub replies_agree : RepliesAgree
replies_agree text rs qs (r, reads, here) (q, too, there) =
    let alike = readings_agree text r q reads too in
    one_after text r q alike r.refusal rs qs here (subst (λ o. AfterPlan text q o qs) (sym alike.refusal) there)
