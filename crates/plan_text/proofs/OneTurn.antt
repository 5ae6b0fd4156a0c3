-- One turn of reading: the line that is due is accepted or refused, in one way. Assumes nothing.
use Rattle.std.proofs.Common.{◌≡◌, ℕ, ◌+◌, List, [], length, Some, None, Ok, Err, Option, sym, refl, ap, ◌∙◌, subst, inl, inr, arith}
use Rattle.layout.specs.declared.refusal.Refusal.{Refusal}
use Rattle.tokens.specs.Cuts.{FirstLine}
use Rattle.tokens.proofs.Cutting.{one_line, line_not_endless, line_shorter}
use Rattle.plan_text.specs.Heard.{Heard, due}
use Rattle.plan_text.specs.Reads.{Accepts, Refuses, Stops}
use Rattle.plan_text.specs.Told.{Outcome, Says}
use Rattle.plan_text.specs.declared.due.Due.{Due}
use Rattle.plan_text.proofs.OneOutcome.{one_outcome}

-- an empty text has no line
empty_no_line : (text bytes rest : List ℕ) → text ≡ [] → FirstLine text bytes rest → ⊥
empty_no_line text bytes rest none cut = omega (arith, ap length none, line_shorter text bytes rest cut)

-- one line's turn: what was heard, the number of the line, and the text from it on
module _ (h : Heard) (line : ℕ) (text : List ℕ) where
  -- the line that is due has one outcome
  one_said :
      (d e : Due) (bytes others rest more : List ℕ) (o p : Outcome) → due h ≡ Some d → due h ≡ Some e → FirstLine text bytes rest → FirstLine text others more
      → Says h line d bytes o → Says h line e others p → o ≡ p
  one_said d e bytes others rest more o p is too cut also says tells =
      let same : d ≡ e = cc in
      let here = subst (λ l. Says h line d l o) (one_line text bytes others rest more cut also).0 says in
      one_outcome h line e others o p (subst (λ x. Says h line x others o) same here) tells

  -- it is accepted in one way
  pub one_accepted : (after other : Heard) (rest more : List ℕ) → Accepts h line text after rest → Accepts h line text other more → (after ≡ other) × (rest ≡ more)
  one_accepted after other rest more a b =
      let same = one_said a.which b.which a.bytes b.bytes rest more (Ok after) (Ok other) a.is_due b.is_due a.cut b.cut a.says b.says in
      (cc, (one_line text a.bytes b.bytes rest more a.cut b.cut).1)

  -- it is not both accepted and refused
  accepted_not_refused : (after : Heard) (rest : List ℕ) (r : Refusal) → Accepts h line text after rest → Refuses h line text r → ⊥
  accepted_not_refused after rest r a (d, is, inl (none, e)) = empty_no_line text a.bytes rest none a.cut
  accepted_not_refused after rest r a (d, is, inr (inl (some, endless, e))) = line_not_endless text a.bytes rest a.cut endless
  accepted_not_refused after rest r a (d, is, inr (inr (bytes, more, cut, says))) =
      let same = one_said a.which d a.bytes bytes rest more (Ok after) (Err r) a.is_due is a.cut cut a.says says in
      grind arith

  -- it is refused in one way
  one_refused : (r q : Refusal) → Refuses h line text r → Refuses h line text q → r ≡ q
  one_refused r q (d, is, inl (none, e)) (c, too, inl (_, f)) = e ∙ sym f
  one_refused r q (d, is, inl (none, e)) (c, too, inr (inl (some, _, f))) = absurd (some none)
  one_refused r q (d, is, inl (none, e)) (c, too, inr (inr (bytes, rest, cut, says))) = absurd (empty_no_line text bytes rest none cut)
  one_refused r q (d, is, inr (inl (some, _, e))) (c, too, inl (none, f)) = absurd (some none)
  one_refused r q (d, is, inr (inl (_, _, e))) (c, too, inr (inl (_, _, f))) = e ∙ sym f
  one_refused r q (d, is, inr (inl (_, endless, e))) (c, too, inr (inr (bytes, rest, cut, says))) = absurd (line_not_endless text bytes rest cut endless)
  one_refused r q (d, is, inr (inr (bytes, rest, cut, says))) (c, too, inl (none, f)) = absurd (empty_no_line text bytes rest none cut)
  one_refused r q (d, is, inr (inr (bytes, rest, cut, says))) (c, too, inr (inl (_, endless, f))) = absurd (line_not_endless text bytes rest cut endless)
  one_refused r q (d, is, inr (inr (bytes, rest, cut, says))) (c, too, inr (inr (others, more, also, tells))) =
      let same = one_said d c bytes others rest more (Err r) (Err q) is too cut also says tells in
      cc

  -- reading does not both stop and accept another line
  pub accepted_not_stopped : (after : Heard) (rest : List ℕ) (r : Option Refusal) → Accepts h line text after rest → Stops h line text r → ⊥
  accepted_not_stopped after rest None a whole = let is = a.is_due in grind arith
  accepted_not_stopped after rest (Some r) a refused = accepted_not_refused after rest r a refused

  -- reading stops in one way
  pub one_stop : (r q : Option Refusal) → Stops h line text r → Stops h line text q → r ≡ q
  one_stop None None whole too = refl
  one_stop None (Some q) whole (d, is, _) = absurd (let w : ⊥ = grind arith in w)
  one_stop (Some r) None (d, is, _) whole = absurd (let w : ⊥ = grind arith in w)
  one_stop (Some r) (Some q) refused too = ap Some (one_refused r q refused too)

  -- reading stops after no line: it stops here
  pub stops_here : (after : Heard) (rest : List ℕ) (r : Option Refusal) → (h ≡ after) × (text ≡ rest) → Stops after (line + 0) rest r → Stops h line text r
  stops_here after rest r (same, all) stops =
      let n : line + 0 ≡ line = omega arith in
      subst (λ x. Stops x line text r) (sym same) (subst (λ x. Stops after line x r) (sym all) (subst (λ x. Stops after x rest r) n stops))
