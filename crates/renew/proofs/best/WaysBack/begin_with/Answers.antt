use Rattle.std.proofs.Common.{◌≡◌, ℕ, [], Some, None, Decides, sym, ap, ◌∙◌, subst, arith}
use Rattle.walks.specs.Tables.{tabled}
use Rattle.renew.proofs.OnBest.{tail_exists, head_exists, compared, no_head, no_tail, weight_there}
use Rattle.renew.proofs.best.WaysBack.begin_with.Goals as goal

pub returns-in_err-from_head : goal.returns-in_err-from_head
returns-in_err-from_head g c =
    let p = g.L.Layout.meaning c.args.layout.now in
    let ways = c.args.self.now in
    let ends = c.in_ok-ends.ensures in
    let none = subst (λ v. (tabled g.M.Measure.scale ways.entry ways.tables.now.totals.now ways.tables.now.came.now []).total v ≡ None) ends.2 (sym c.total_of.ensures ∙ c.in_err-from_head.was) in
    rw c.from_residual-in_err-from_head.ensures (no_head g.met.M.Measure.lawful p (g.L.Layout.sound c.args.layout.now) ways.entry ways.tables.now.totals.now ways.tables.now.came.now c.requires c.args.leg ends.0 none)

pub returns-in_err-from_tail : goal.returns-in_err-from_tail
returns-in_err-from_tail g c =
    let p = g.L.Layout.meaning c.args.layout.now in
    let ways = c.args.self.now in
    let ends = c.in_ok-ends.ensures in
    let none = subst (λ v. (tabled g.M.Measure.scale ways.entry ways.tables.now.totals.now ways.tables.now.came.now []).total v ≡ None) ends.1 (sym c.total_of-2.ensures ∙ c.in_err-from_tail.was) in
    rw c.from_residual-in_err-from_tail.ensures (no_tail g.met.M.Measure.lawful p (g.L.Layout.sound c.args.layout.now) ways.entry ways.tables.now.totals.now ways.tables.now.came.now c.requires c.args.leg ends.0 none)

pub returns : goal.returns
returns g c =
    let m = g.M.Measure.scale in
    let p = g.L.Layout.meaning c.args.layout.now in
    let ways = c.args.self.now in
    let ends = c.in_ok-ends.ensures in
    let at = λ (v : ℕ). (tabled m ways.entry ways.tables.now.totals.now ways.tables.now.came.now []).total v in
    let x = c.in_ok-from_head.from_head in
    let y = c.in_ok-from_tail.from_tail in
    let head = subst (λ v. at v ≡ Some x) ends.2 (sym c.total_of.ensures ∙ c.in_ok-from_head.was) in
    let tail = subst (λ v. at v ≡ Some y) ends.1 (sym c.total_of-2.ensures ∙ c.in_ok-from_tail.was) in
    let weight = weight_there m p c.args.leg c.in_ok-weight.weight ends.0 (sym c.in_ok-weight.was ∙ c.weigh.ensures) in
    let joined = c.join.ensures ∙ ap (λ w. m.joined w x) weight in
    compared g.met.M.Measure.lawful p (g.L.Layout.sound c.args.layout.now) ways.entry ways.tables.now.totals.now ways.tables.now.came.now c.requires c.args.leg ends.0 x y c.is_same.result head tail
    (subst (λ z. Decides c.is_same.result (z ≡ y)) joined c.is_same.ensures)
