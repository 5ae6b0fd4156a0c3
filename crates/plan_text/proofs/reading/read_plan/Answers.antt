use Rattle.std.proofs.Common.{◌≡◌, ℕ, ◌+◌, ◌≤◌, List, [], length, Option, sym, refl, subst, inl, arith}
use Rattle.layout.specs.declared.refusal.Refusal.{Refusal}
use Rattle.plan_text.specs.Heard.{Heard, silence}
use Rattle.plan_text.specs.Parts.{head_heard, entries_heard}
use Rattle.plan_text.specs.Reads.{Lines, Stops}
use Rattle.plan_text.proofs.Running.{lines_then, lines_end, rest_begins, ends_within}
use Rattle.plan_text.proofs.reading.read_plan.Goals as goal

-- what is left of a text is no longer than it
left_within : (k : ℕ) (h : Heard) (line : ℕ) (text : List ℕ) (after : Heard) (rest : List ℕ) → Lines k h line text after rest → length rest ≤ length text
left_within k h line text after rest lines = ends_within text rest (lines_end k h line text after rest text lines ([], refl))

pub overflow_sub-rest : goal.overflow_sub-rest
overflow_sub-rest c = let (k, count, lines) = c.listen.ensures.lines in left_within k _ _ _ _ _ lines

pub returns-in-Err : goal.returns-in-Err
returns-in-Err c =
    let text = c.args.text.now in
    let place = c.listen.new.self in
    let heard = head_heard c.listen.new.listener in
    let (k, count, lines) = c.listen.ensures.lines in
    let number : k ≡ place.lines = omega arith in
    let all = subst (λ (n : ℕ). Lines n silence 1 text heard place.rest.now) number (subst (λ (h : Heard). Lines k h 1 text heard place.rest.now) c.begin-head.ensures lines) in
    inl (
      heard,
      place.rest.now,
      record {
        short = omega arith;
        lines = all;
        stops = c.in-Err.ensures.stops;
        kind = refl;
        draft = refl;
        begins = rest_begins text place.rest.now (lines_end place.lines silence 1 text heard place.rest.now text all ([], refl));
        within = omega arith;
      },
    )

pub overflow_sub-result : goal.overflow_sub-result
overflow_sub-result c =
    let (k, count, lines) = c.listen.ensures.lines in
    let (j, more, others) = c.listen-2.ensures.lines in
    let first = left_within k _ _ _ _ _ lines in
    let then = left_within j _ _ _ _ _ others in
    omega arith

pub returns : goal.returns
returns c =
    let text = c.args.text.now in
    let mid = c.listen.new.self in
    let place = c.listen-2.new.self in
    let half = head_heard c.listen.new.listener in
    let heard = entries_heard c.listen-2.new.listener in
    let (k, count, lines) = c.listen.ensures.lines in
    let (j, more, others) = c.listen-2.ensures.lines in
    let first = subst (λ (h : Heard). Lines k h 1 text half mid.rest.now) c.begin-head.ensures lines in
    let number : mid.lines + 1 ≡ 1 + k = omega arith in
    let sum : k + j ≡ place.lines = omega arith in
    let then = subst (λ (n : ℕ). Lines j half n mid.rest.now heard place.rest.now) number
    (subst (λ (h : Heard). Lines j h (mid.lines + 1) mid.rest.now heard place.rest.now) c.entries-entries.ensures others) in
    let all = subst (λ (n : ℕ). Lines n silence 1 text heard place.rest.now) sum (lines_then k j silence 1 text half mid.rest.now heard place.rest.now first then) in
    inl (
      heard,
      place.rest.now,
      record {
        short = omega arith;
        lines = all;
        stops = subst (λ (o : Option Refusal). Stops heard (place.lines + 1) place.rest.now o) (sym c.err-refusal.ensures.value) c.listen-2.ensures.stops;
        kind = refl;
        draft = refl;
        begins = rest_begins text place.rest.now (lines_end place.lines silence 1 text heard place.rest.now text all ([], refl));
        within = omega arith;
      },
    )
