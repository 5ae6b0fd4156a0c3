use Rattle.std.proofs.Common.{◌≡◌, ℕ, ◌<◌, length, sym, ap, ◌∙◌, subst, arith}
use Rattle.std.proofs.lemmas.Bool.{both_ways}
use Rattle.walks.specs.Net.{net, junctions}
use Rattle.walks.specs.Search.{Offer, offered}
use Rattle.walks.specs.Tables.{no_came_by, tabled}
use Rattle.walks.proofs.Nets.{net_finite}
use Rattle.search.specs.Queued.{waiting}
use Rattle.search.specs.Frontier.{state}
use Rattle.search.specs.Standing.{TablesOf, Offered, Took}
use Rattle.search.proofs.Leaving.{tail_there, leg_there}
use Rattle.search.proofs.Relaxed.{nothing_moves, agrees_totalled, offer_taken, offer_tables}
use Rattle.search.proofs.frontier.Frontier.take_leg.Goals as goal

-- a leg that is shut moves nothing
pub returns-in_default-clause-took : goal.returns-in_default-clause-took
returns-in_default-clause-took g c st stands =
    let m = g.M.Measure.scale in
    let p = g.L.Layout.meaning c.args.layout.now in
    record {
      takes = nothing_moves m (net m p) st c.args.junction c.args.at c.args.leg _
          (λ v moves. both_ways ((net m p).usable c.args.leg) c.in_default.ensures moves.offer.usable);
      stands = stands;
    }

pub reach-requires : goal.reach-requires
reach-requires g c =
    let m = g.M.Measure.scale in
    let p = g.L.Layout.meaning c.args.layout.now in
    let f = c.args.self.now in
    let sound = g.L.Layout.sound c.args.layout.now in
    let standing = c.requires.standing in
    let told = c.in-Some.ensures in
    let all = c.requires.sized.tables.all_came in
    let few = sound.few_junctions in
    let legs = sound.few_legs in
    let leg = leg_there m p c.args.leg c.args.junction c.requires.leaves in
    let there = (net_finite m p sound).head_exists c.args.leg told.0 in
    let head = told.1 in
    record {
      sized = rw all c.requires.sized;
      waiters = agrees_totalled m f.start f.totals.now f.came.now standing.0 (waiting c.args.queue.now) standing.1.agrees;
      few = omega arith;
      there = omega arith;
      small = omega arith;
    }

pub returns-clause-sized : goal.returns-clause-sized
returns-clause-sized g c =
    let m = g.M.Measure.scale in
    let p = g.L.Layout.meaning c.args.layout.now in
    let f = c.args.self.now in
    let after = c.reach.new.self in
    let told = c.in-Some.ensures in
    let all = c.requires.sized.tables.all_came in
    let legs = (g.L.Layout.sound c.args.layout.now).few_legs in
    let leg = leg_there m p c.args.leg c.args.junction c.requires.leaves in
    let there = (net_finite m p (g.L.Layout.sound c.args.layout.now)).head_exists c.args.leg told.0 in
    let same_head = told.1 in
    let in_range : c.in-Some.offer.head < junctions p = omega arith in
    let not_none : c.args.leg ≡ no_came_by → ⊥ = λ e. omega arith in
    let same = c.reach.ensures.same in
    record {
      tables = subst (λ k. TablesOf m (junctions p) k after.totals.now after.came.now) (sym same.same.start)
          (offer_tables m (junctions p) f.start f.totals.now f.came.now (waiting c.args.queue.now) c.args.leg c.in-Some.offer.head _ in_range not_none c.requires.sized.tables _ _ _ c.reach.ensures.offered);
      slots = c.reach.ensures.slots ∙ c.requires.sized.slots;
      places = ap length same.list ∙ c.requires.sized.places;
    }

pub returns-clause-took : goal.returns-clause-took
returns-clause-took g c st stands =
    let m = g.M.Measure.scale in
    let laws = g.met.M.Measure.lawful in
    let p = g.L.Layout.meaning c.args.layout.now in
    let f = c.args.self.now in
    let after = c.reach.new.self in
    let told = c.in-Some.ensures in
    let all = c.requires.sized.tables.all_came in
    let legs = (g.L.Layout.sound c.args.layout.now).few_legs in
    let leg = leg_there m p c.args.leg c.args.junction c.requires.leaves in
    let there = (net_finite m p (g.L.Layout.sound c.args.layout.now)).head_exists c.args.leg told.0 in
    let head = c.in-Some.offer.head in
    let same_head = told.1 in
    let in_range : head < junctions p = omega arith in
    let not_none : c.args.leg ≡ no_came_by → ⊥ = λ e. omega arith in
    let offer : Offer (net m p) c.args.junction head c.args.leg = record {
      usable = told.0;
      leaves = tail_there m p c.args.leg c.args.junction c.requires.leaves;
      leads = sym told.1;
    } in
    let total : c.join-total.result ≡ offered m (net m p) c.args.at c.args.leg = c.join-total.ensures ∙ ap (m.joined c.args.at) told.2 in
    let done = subst (λ (y : g.row.M.Denot). Offered m f.start head c.args.leg y f.totals.now f.came.now (waiting c.args.queue.now)
    after.totals.now after.came.now (waiting c.reach.new.queue)) total c.reach.ensures.offered in
    subst (λ (k : ℕ). Took m (net m p) st c.args.junction c.args.at c.args.leg (state m f st) (tabled m k after.totals.now after.came.now st) (waiting c.reach.new.queue))
    (sym c.reach.ensures.same.same.start)
    (offer_taken laws (net m p) st c.args.junction c.args.at (junctions p) f.start f.totals.now f.came.now
    (waiting c.args.queue.now) c.args.leg head offer in_range not_none c.requires.sized.tables stands.firm stands.agrees _ _ _ done)
