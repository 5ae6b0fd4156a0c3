use Rattle.std.proofs.Common.{◌≡◌, ℕ, ◌+◌, ◌-◌, ◌≤◌, List, length, take, drop, None, sym, subst}
use Rattle.std.proofs.lemmas.List.{take_rest}
use Rattle.std.proofs.lemmas.Result.{IfOk-weaker, IfOk-at_ok}
use Rattle.plan_text.specs.Reads.{Reads, most_bytes}
use Rattle.plan_text.specs.declared.reading.Reading.{Reading}
use Rattle.replies.proofs.Planning.{few_left, said_refused, said_whole}
use Rattle.replies.proofs.answering.answer.Goals as goal

pub returns-in-Some : goal.returns-in-Some
returns-in-Some g c =
    let r = c.read_plan-reading.result in
    IfOk-weaker c.say.result _ _ (λ x wrote. said_refused c.args.text.now r c.in-Some.refusal _ _ c.read_plan-reading.ensures c.in-Some.is wrote) c.say.ensures

-- the orders are short
short_rest : (text : List ℕ) (r : Reading) → Reads text r → r.refusal ≡ None → r.lines + length (take (length text - r.rest) (drop r.rest text)) ≤ most_bytes
short_rest text r reads e = subst (λ (l : List ℕ). r.lines + length l ≤ most_bytes) (sym (take_rest text r.rest)) (few_left text r reads e)

pub invariant_of-orders : goal.invariant_of-orders
invariant_of-orders g c = record { short = short_rest c.args.text.now c.read_plan-reading.result c.read_plan-reading.ensures c.in_default.is }

pub returns : goal.returns
returns g c =
    let r = c.read_plan-reading.result in
    let wrote = IfOk-at_ok _ c.in_ok-say.was c.say-2.ensures in
    IfOk-weaker c.answer_by_kind.result _ _
    (λ x said.
    said_whole c.args.text.now r _ _ _ c.describe.result _ _ _
    c.read_plan-reading.ensures c.in_default.is c.in-Some-Some.is-0 c.in-Some-Some.is-1 c.finish-plan.ensures c.describe.ensures wrote said)
    c.answer_by_kind.ensures
