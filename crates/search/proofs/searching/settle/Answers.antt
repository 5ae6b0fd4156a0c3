use Rattle.std.proofs.Common.{◌≡◌, ◌-◌, ◌≤◌, length, rules}
use Rattle.walks.specs.Net.{junctions}
use Rattle.search.proofs.Ending.{search_left}
use Rattle.search.proofs.searching.settle.Goals as goal

-- what a search left in the fronts of the tables holds of the tables
pub returns-clause-left : goal.returns-clause-left
returns-clause-left g c =
    let m = g.M.Measure.scale in
    let p = g.L.Layout.meaning c.args.layout.now in
    let n = junctions p in
    let run = c.run.ensures in
    let last = c.run.new in
    let tables = c.args.tables.now in
    let k = c.junctions-n.result - 0 in
    let whole : k ≡ n = search rules in
    let all_waiting : length last.waiting ≡ n = search rules in
    let all_settled : length last.settled ≡ n = search rules in
    let few : c.run.result ≤ n = search rules in
    search_left m p c.args.start c.args.goal k whole tables.totals.now last.totals tables.came.now last.came tables.waiting.now last.waiting
    tables.settled.now last.settled all_waiting all_settled c.requires.room.settled c.run.result few run.tables run.searched run.past
