use Rattle.std.proofs.Common.{◌≡◌, ℕ, eqb, List, [], replicate, Some, sym, ap, ◌∙◌, subst, rules}
use Rattle.std.specs.Map.{update}
use Rattle.walks.specs.Net.{net, junctions}
use Rattle.walks.specs.Tables.{no_came_by}
use Rattle.search.specs.Queued.{waiting}
use Rattle.search.specs.Running.{Running}
use Rattle.search.proofs.Beginning.{begins_running}
use Rattle.search.proofs.running.run.Goals as goal

-- only the start has a total, and only it waits
pub until_done-requires-clause-underway : goal.until_done-requires-clause-underway
until_done-requires-clause-underway g c =
    let m = g.M.Measure.scale in
    let p = g.L.Layout.meaning c.args.layout.now in
    let n = junctions p in
    let totals : c.fill.new.table ≡ replicate n m.unit = c.fill.ensures ∙ ap (λ (k : ℕ). replicate k c.unit.result) c.requires.totals ∙ ap (replicate n) c.unit.ensures in
    let came : c.fill-2.new.self ≡ replicate n no_came_by = search rules in
    let waits : (q : ℕ) → waiting c.insert.new.self q ≡ update eqb (waiting c.over-queue.result) c.args.start (Some m.unit) q =
    λ q. c.insert.ensures.waiting q ∙ ap (λ (x : g.row.M.Denot). update eqb (waiting c.over-queue.result) c.args.start (Some x) q) c.unit-2.ensures in
    let begins = begins_running g.met.M.Measure.lawful (net m p) n c.args.start c.args.goal c.requires.start (waiting c.over-queue.result) (waiting c.insert.new.self)
    c.over-queue.ensures.empty waits in
    subst (λ (ts : List g.row.M.Denot). Running m (net m p) c.args.start c.args.goal n ts c.fill-2.new.self [] (waiting c.insert.new.self)) (sym totals)
    (subst (λ (cs : List ℕ). Running m (net m p) c.args.start c.args.goal n (replicate n m.unit) cs [] (waiting c.insert.new.self)) (sym came) begins)
