use Rattle.std.proofs.Common.{◌≤◌, length, None, ap, subst, arith}
use Rattle.layout.specs.Plant.{Plant}
use Rattle.layers.specs.Turn.{turned}
use Rattle.walks.specs.Net.{junctions}
use Rattle.search.specs.Counted.{Counted}
use Rattle.search.specs.Desk.{held}
use Rattle.search.specs.Explored.{Left}
use Rattle.renew.proofs.Backwards.{distances, past_left}
use Rattle.renew.proofs.asking.Hall.mark_for_entry.Goals as goal

pub mark_best-requires : goal.mark_best-requires
mark_best-requires g c =
    let layout = c.args.self.now.layout.now in
    let p = g.L.Layout.meaning layout in
    let new = c.explore.new.tables in
    let many = c.in-Ok.ensures.lent.as_many in
    let room = c.requires.room in
    let all_totals : junctions p ≤ length new.totals.now = let same = many.totals in let long = room.totals in omega arith in
    let all_came : junctions p ≤ length new.came.now = let same = many.came in let long = room.came in omega arith in
    let left = subst (λ (q : Plant). Left g.M.Measure.scale (turned q) c.args.entry None (held c.args.tables.now) (held new) c.in-Ok.field-0) (ap (λ r. g.L.Layout.meaning r.now) c.over-turned.ensures.below) c.in-Ok.ensures.explored.1 in
    distances g.met.M.Measure.lawful p (g.L.Layout.sound layout) c.args.entry new.totals.now new.came.now _ left.searched all_totals all_came

pub returns-clause-past : goal.returns-clause-past
returns-clause-past g c =
    let m = g.M.Measure.scale in
    let p = g.L.Layout.meaning c.args.self.now.layout.now in
    let d = held c.args.tables.now in
    let d' = held c.explore.new.tables in
    let same = ap (λ r. g.L.Layout.meaning r.now) c.over-turned.ensures.below in
    let left = subst (λ (q : Plant). Left m (turned q) c.args.entry None d d' c.in-Ok.field-0) same c.in-Ok.ensures.explored.1 in
    let counted = subst (λ (q : Plant). Counted (turned q) d'.settled c.in-Ok.field-0) same c.in-Ok.ensures.counted in
    past_left m (turned p) c.args.entry d d' c.in-Ok.field-0 left counted
