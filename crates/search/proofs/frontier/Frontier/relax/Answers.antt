use Rattle.std.proofs.Common.{ℕ, suc, length, sym, subst, add-one, arith, rules}
use Rattle.walks.specs.InTurn.{TakesTo}
use Rattle.walks.specs.Net.{net}
use Rattle.search.specs.Frontier.{state}
use Rattle.search.proofs.Leaving.{leg_there, offer_tail}
use Rattle.search.proofs.Relaxed.{passed_over}
use Rattle.search.proofs.frontier.Frontier.relax.Goals as goal

pub loop-leg-preserved : goal.loop-leg-preserved
loop-leg-preserved g c =
    let m = g.M.Measure.scale in
    let p = g.L.Layout.meaning c.args.layout.now in
    let u = c.args.junction in
    let leg = c.in-Some.leg in
    let next = c.in-Some.ensures in
    let inv = c.loop-leg.invariant in
    let within = leg_there m p leg u next.1 in
    let took = c.take_leg.ensures in (
      omega arith,
      took.sized,
      search rules,
      search rules,
      λ st stands.
          let before = inv.4 st stands in
          let here = took.took st before.stands in
          let s = state m c.args.self.now st in
          let now-at = state m c.loop-leg.self st in
          let after = state m c.take_leg.new.self st in
          let passed = passed_over m (net m p) st u c.args.at s now-at c.loop-leg.from leg next.0
          (λ i low high v offer. next.2 i low high (offer_tail m p u v i offer)) before.taken in
          let more : TakesTo m (net m p) st u c.args.at s (suc leg) after = (now-at, passed, here.takes) in
          record { taken = subst (λ (j : ℕ). TakesTo m (net m p) st u c.args.at s j after) (sym (add-one leg)) more; stands = here.stands },
    )

pub returns-clause-relaxed : goal.returns-clause-relaxed
returns-clause-relaxed g c st stands =
    let m = g.M.Measure.scale in
    let p = g.L.Layout.meaning c.args.layout.now in
    let inv = c.loop-leg.invariant in
    let before = inv.4 st stands in
    record {
      taken = passed_over m (net m p) st c.args.junction c.args.at _ _ c.loop-leg.from (length p.legs) inv.0
          (λ i low high v offer. c.in_default.ensures i low (offer_tail m p c.args.junction v i offer)) before.taken;
      stands = before.stands;
    }
