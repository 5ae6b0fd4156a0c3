-- A text has one reading. Assumes nothing.
use Rattle.std.proofs.Common.{◌≡◌, ℕ, zero, suc, ◌+◌, List, length, Option, sym, refl, ap, ◌∙◌, subst, inl, inr, arith}
use Rattle.std.proofs.lemmas.List.{length-drop}
use Rattle.layout.specs.declared.refusal.Refusal.{Refusal}
use Rattle.plan_text.specs.Agreed.{Alike, ReadingsAgree}
use Rattle.plan_text.specs.Heard.{Heard, silence}
use Rattle.plan_text.specs.Reads.{Lines, Stops, Taken}
use Rattle.plan_text.specs.declared.reading.Reading.{Reading}
use Rattle.plan_text.proofs.OneTurn.{one_accepted, accepted_not_stopped, one_stop, stops_here}

-- two runs of accepted lines end alike: after as many lines, with the same heard and the same left, for the same reason
record SameEnd (k j : ℕ) (after other : Heard) (rest more : List ℕ) (r q : Option Refusal) : Type 0 where
  pub count : k ≡ j
  pub heard : after ≡ other
  pub left : rest ≡ more
  pub reason : r ≡ q

-- lines that are accepted until reading stops end in one way
one_end :
    (k j : ℕ) (h : Heard) (line : ℕ) (text : List ℕ) (after other : Heard) (rest more : List ℕ) (r q : Option Refusal)
    → Lines k h line text after rest → Stops after (line + k) rest r
    → Lines j h line text other more → Stops other (line + j) more q
    → SameEnd k j after other rest more r q
one_end zero zero h line text after other rest more r q here stops there halts =
    record {
      count = refl;
      heard = sym here.0 ∙ there.0;
      left = sym here.1 ∙ there.1;
      reason = one_stop h line text r q (stops_here h line text after rest r here stops) (stops_here h line text other more q there halts);
    }
one_end zero (suc j) h line text after other rest more r q here stops (mid, left, first, others) halts =
    absurd (accepted_not_stopped h line text mid left r first (stops_here h line text after rest r here stops))
one_end (suc k) zero h line text after other rest more r q (mid, left, first, others) stops there halts =
    absurd (accepted_not_stopped h line text mid left q first (stops_here h line text other more q there halts))
one_end (suc k) (suc j) h line text after other rest more r q (mid, left, first, lines) stops (next, last, again, others) halts =
    let same = one_accepted h line text mid next left last first again in
    let n : line + suc k ≡ line + 1 + k = omega arith in
    let m : line + suc j ≡ line + 1 + j = omega arith in
    let too = subst (λ x. Lines j x (line + 1) left other more) (sym same.0) (subst (λ x. Lines j next (line + 1) x other more) (sym same.1) others) in
    let end = one_end k j mid (line + 1) left after other rest more r q lines (subst (λ x. Stops after x rest r) n stops) too (subst (λ x. Stops other x more q) m halts) in
    record { count = ap suc end.count; heard = end.heard; left = end.left; reason = end.reason }

-- two readings of a text that is not too long
taken_alike : (text : List ℕ) (r q : Reading) (h g : Heard) (rest more : List ℕ) → Taken text r h rest → Taken text q g more → Alike r q
taken_alike text r q h g rest more t u =
    let n : r.lines + 1 ≡ 1 + r.lines = omega arith in
    let m : q.lines + 1 ≡ 1 + q.lines = omega arith in
    let stops = subst (λ x. Stops h x rest r.refusal) n t.stops in
    let halts = subst (λ x. Stops g x more q.refusal) m u.stops in
    let end = one_end r.lines q.lines silence 1 text h g rest more r.refusal q.refusal t.lines stops u.lines halts in
    let here = ap length (t.begins ∙ end.left ∙ sym u.begins) in
    record {
      kind = t.kind ∙ ap (λ (x : Heard). x.kind) end.heard ∙ sym u.kind;
      draft = t.draft ∙ ap (λ (x : Heard). x.plant) end.heard ∙ sym u.draft;
      refusal = end.reason;
      lines = end.count;
      rest = omega (arith, length-drop r.rest text, length-drop q.rest text);
    }

pub readings_agree : ReadingsAgree
readings_agree text r q (inl (h, rest, t)) (inl (g, more, u)) = taken_alike text r q h g rest more t u
readings_agree text r q (inl (h, rest, t)) (inr u) = absurd (let w : ⊥ = omega (arith, t.short, u.long) in w)
readings_agree text r q (inr t) (inl (h, rest, u)) = absurd (let w : ⊥ = omega (arith, u.short, t.long) in w)
readings_agree text r q (inr t) (inr u) = record {
  kind = t.kind ∙ sym u.kind;
  draft = t.draft ∙ sym u.draft;
  refusal = t.refusal ∙ sym u.refusal;
  lines = t.lines ∙ sym u.lines;
  rest = t.rest ∙ sym u.rest;
}
