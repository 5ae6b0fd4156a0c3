use Rattle.std.proofs.Common.{◌≡◌, ℕ, List, Bool, true, false, Decides, refl, subst, MatchOption}
use Rattle.std.specs.Bool.{then_some}
use Rattle.std.proofs.lemmas.Slice.Eq.{slice_eq-Decides}
use Rattle.std.proofs.lemmas.Bool.{both_ways}
use Rattle.std.proofs.lemmas.Bool.Decides.{Decides-eqb}
use Rattle.tokens.specs.Cuts.{Keyed}
use Rattle.tokens.specs.Taken.{left}
use Rattle.tokens.specs.declared.values.Values.{Values}
use Rattle.tokens.proofs.Cutting.{one_cut, lacks_not_cut}
use Rattle.plan_text.proofs.listening.values_under.Goals as goal

-- the values after a key that was found are those of the line where it is the one wanted
wanted :
    (line found key : List ℕ) (values : Values) (same : Bool) → Keyed line found (left values.line) → Decides same (found ≡ key)
    → MatchOption (then_some same values) ((value : List ℕ) → Keyed line key value → ⊥) (λ v. Keyed line key (left v.line))
wanted line found key values true keyed is = subst (λ k. Keyed line k (left values.line)) (is.0 refl) keyed
wanted line found key values false keyed is = λ value other. both_ways false refl (is.1 (one_cut 61 line found key (left values.line) value keyed other).0)

pub returns-in_err-found : goal.returns-in_err-found
returns-in_err-found c =
    let keyless = c.in_err-found.ensures in
    rw c.from_residual.ensures (λ value keyed. lacks_not_cut 61 c.args.line.now c.args.key.now value keyless keyed)

pub returns : goal.returns
returns c =
    let found = c.in_ok-found.found.now in
    rw c.then_some.ensures (wanted c.args.line.now found c.args.key.now c.in_ok-found.values c.eq.result c.in_ok-found.ensures (slice_eq-Decides Decides-eqb _ _ _ c.eq.ensures))
