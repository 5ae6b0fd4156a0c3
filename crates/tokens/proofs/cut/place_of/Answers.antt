use Rattle.std.proofs.Common.{◌≡◌, ◌≢◌, rules, tests}
use Rattle.std.proofs.lemmas.Iterator.{IsFirst-from_position, YieldsList-from_slice}
use Rattle.tokens.proofs.Cutting.{first_found}
use Rattle.tokens.proofs.cut.place_of.Goals as goal

pub returns : goal.returns
returns c =
    let wanted = c.args.wanted in
    first_found wanted c.args.bytes.now c.position.result
    (IsFirst-from_position _ _ c.position.result (λ b. b ≡ wanted) (λ b. b ≢ wanted) c.position.ensures.ran (YieldsList-from_slice c.args.bytes.now cc) (λ x q k. search (rules, tests)) (λ x q k. search (rules, tests)))
