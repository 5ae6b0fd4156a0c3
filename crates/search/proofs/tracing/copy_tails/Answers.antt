use Rattle.std.proofs.Common.{◌≡◌, ℕ, ◌+◌, ◌<◌, length, get_or, set, sym, ap, ◌∙◌, ⊎_elim, arith}
use Rattle.std.proofs.lemmas.Bool.{cases_eq}
use Rattle.std.proofs.lemmas.List.{get_or-set_same, get_or-set_other, length-set}
use Rattle.walks.specs.Net.{leg_at}
use Rattle.search.proofs.tracing.copy_tails.Goals as goal

-- one tail more is written
pub loop-leg-preserved : goal.loop-leg-preserved
loop-leg-preserved g c =
    let p = g.L.Layout.meaning c.args.layout.now in
    let i = c.loop-leg.leg in
    let tails = c.loop-leg.tails in
    let x = c.tail_of.result in
    let inv = c.loop-leg.invariant in
    let wide = inv.0 in
    let inside : i < length tails = let legs = (g.L.Layout.sound c.args.layout.now).few_legs in let end = c.legs-leg-end.ensures in let before = c.loop-leg-test.true in omega arith in
    let each : (e : ℕ) → e < i + 1 → get_or (set tails i x) e 0 ≡ (leg_at p e).tail
    = λ e below.
    ⊎_elim
    (λ same. ap (λ k. get_or (set tails i x) k 0) same ∙ get_or-set_same tails i x 0 inside ∙ c.tail_of.ensures ∙ ap (λ k. (leg_at p k).tail) (sym same))
    (λ apart. get_or-set_other tails i e x 0 apart ∙ inv.1 e (omega (arith, below, apart)))
    (cases_eq e i) in
    (length-set tails i x ∙ wide, each)
