use Rattle.std.proofs.Common.{rules}
use Rattle.search.specs.Desk.{held}
use Rattle.search.proofs.Telling.{settled_all}
use Rattle.search.proofs.searching.explore.Goals as goal

-- all that walks lead to is settled
pub returns-clause-all : goal.returns-clause-all
returns-clause-all g c =
    let p = g.L.Layout.meaning c.args.layout.now in
    let after = c.settle-count.ensures in
    settled_all g.met.M.Measure.lawful p (g.L.Layout.sound c.args.layout.now) c.args.start (held c.args.tables.now) (held c.settle-count.new.tables)
    c.settle-count.result (search rules) after.room.came after.left
