use Rattle.std.proofs.Common.{◌≡◌, Some, sym, ◌∙◌, arith, rules}
use Rattle.search.proofs.Tails.{asked_exists}
use Rattle.search.proofs.tracing.tail_of.Goals as goal

-- a junction's number fits
pub overflow_cast-result : goal.overflow_cast-result
overflow_cast-result g c =
    let sound = g.L.Layout.sound c.args.layout.now in
    let there : c.tail.result ≡ Some c.unwrap.result = search rules in
    let exists = asked_exists (g.L.Layout.meaning c.args.layout.now) c.args.leg c.unwrap.result (sym there ∙ c.tail.ensures) sound in
    let few = sound.few_junctions in
    omega arith
