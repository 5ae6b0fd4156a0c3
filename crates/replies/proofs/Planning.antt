-- From the reading of a plan to the answer to its text. Assumes nothing.
use Rattle.std.proofs.Common.{◌≡◌, ℕ, zero, suc, ◌+◌, ◌-◌, ◌≤◌, List, [], ◌∷◌, ◌++◌, length, take, drop, Some, None, sym, refl, ap, ◌∙◌, subst, inl, inr, append_assoc, append-nil, arith}
use Rattle.std.specs.Option.{option_map}
use Rattle.std.proofs.lemmas.List.{take_rest}
use Rattle.layout.specs.Plant.{Plant}
use Rattle.layout.specs.declared.refusal.Refusal.{Refusal}
use Rattle.plan.specs.Meant.{sketched}
use Rattle.plan.specs.declared.draft.Draft.{Draft}
use Rattle.tokens.proofs.Cutting.{line_shorter}
use Rattle.plan_text.specs.Heard.{Heard}
use Rattle.plan_text.specs.Reads.{Reads, Lines, most_bytes}
use Rattle.plan_text.specs.declared.kind.Kind.{Kind}
use Rattle.plan_text.specs.declared.reading.Reading.{Reading}
use Rattle.replies.specs.Written.{written, written_all}
use Rattle.replies.specs.Replied.{plan_reply, RepliesBy, AfterPlan, Replies, Said}
use Rattle.replies.specs.declared.reply.Reply.{Reply}
use Rattle.replies.specs.declared.reply.Reply.TheVariants.{Refused}

some_not_none : {X : Type 0} {x : X} → Some x ≡ None → ⊥
some_not_none e = grind arith

-- each accepted line takes one byte at least
lines_short : (k : ℕ) (h : Heard) (line : ℕ) (text : List ℕ) (after : Heard) (rest : List ℕ) → Lines k h line text after rest → k + length rest ≤ length text
lines_short zero h line text after rest (same, e) =
    let long = ap length e in
    omega arith
lines_short (suc k) h line text after rest (mid, left, first, others) =
    let less = lines_short k mid (line + 1) left after rest others in
    let shorter = line_shorter text first.bytes left first.cut in
    omega arith

-- a whole plan leaves a rest that is short
pub few_left : (text : List ℕ) (r : Reading) → Reads text r → r.refusal ≡ None → r.lines + length (drop r.rest text) ≤ most_bytes
few_left text r (inl (h, rest, taken)) e =
    let lines = lines_short r.lines _ 1 text h rest taken.lines in
    let short = taken.short in
    let begins = ap length taken.begins in
    omega arith
few_left text r (inr untaken) e = absurd (some_not_none (sym untaken.refusal ∙ e))

-- the answer to a plan that is refused
pub said_refused : (text : List ℕ) (r : Reading) (why : Refusal) (old new : List ℕ) → Reads text r → r.refusal ≡ Some why → new ≡ old ++ written (Refused why) → Said (Replies text) old new
said_refused text r why old new reads e wrote =
    let reply = written (Refused why) in
    let after : AfterPlan text r r.refusal (reply ∷ []) = subst (λ o. AfterPlan text r o (reply ∷ [])) (sym e) refl in
    (reply ∷ [], (r, reads, after), wrote ∙ ap (λ l. old ++ l) (sym (append-nil reply)))

-- the answer to a plan that is whole, and to its orders by the measure that it names
pub said_whole :
    (text : List ℕ) (r : Reading) (kind : Kind) (draft : Draft) (p : Plant) (reply : Reply) (old mid new : List ℕ)
    → Reads text r → r.refusal ≡ None → r.kind ≡ Some kind → r.draft ≡ Some draft → p ≡ sketched draft → reply ≡ plan_reply p
    → mid ≡ old ++ written reply
    → Said (RepliesBy kind p r.lines (take (length text - r.rest) (drop r.rest text))) mid new
    → Said (Replies text) old new
said_whole text r kind draft p reply old mid new reads e named d same told wrote (orders, replies, more) =
    let said = written reply in
    let drafted : option_map sketched r.draft ≡ Some p = ap (option_map sketched) d ∙ ap (λ x. Some x) (sym same) in
    let whole = subst (λ l. RepliesBy kind p r.lines l orders) (take_rest text r.rest) replies in
    let after : AfterPlan text r r.refusal (said ∷ orders) =
    subst (λ o. AfterPlan text r o (said ∷ orders)) (sym e) (kind, named, p, drafted, orders, whole, ap (λ x. written x ∷ orders) told) in
    (said ∷ orders, (r, reads, after), more ∙ ap (λ l. l ++ written_all orders) wrote ∙ append_assoc old said (written_all orders))
