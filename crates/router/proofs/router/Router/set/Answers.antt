use Rattle.std.proofs.Common.{◌≡◌, None, Ok, ap, ◌∙◌, subst, ap₂, rules}
use Rattle.layers.specs.Day.{entered, figured, refuses_set}
use Rattle.walks.specs.Net.{weight_if_any}
use Rattle.router.specs.Ordered.{Lapses}
use Rattle.router.specs.Struck.{changed, set_strikes}
use Rattle.router.proofs.Strikings.{set_carries}
use Rattle.router.proofs.router.Router.set.Goals as goal

pub returns-in_err-set-clause-order : goal.returns-in_err-set-clause-order
returns-in_err-set-clause-order g c =
    let old = c.args.self.now in
    set_carries g.met.M.Measure.lawful (g.L.Layout.meaning old.sheet.below) (g.L.Layout.sound old.sheet.below) old.sheet.sheet old.sheet.wide old.halls old.halls c.args.leg c.args.class c.args.clearance c.set.new.self.sheet _ (search rules) (search rules)

pub returns-clause-order : goal.returns-clause-order
returns-clause-order g c =
    let m = g.M.Measure.scale in
    let old = c.args.self.now in
    let new = c.lapse.new.self in
    let p = g.L.Layout.meaning old.sheet.below in
    let s = old.sheet.sheet in
    let leg = c.args.leg in
    let class = c.args.class in
    let clearance = c.args.clearance in
    let none : refuses_set p leg class clearance ≡ None = search rules in
    let written : c.set.new.self.sheet ≡ figured s leg class clearance = search rules in
    let after = ap₂ entered written (ap g.L.Layout.meaning c.set.ensures.below) in
    let strikes : c.struck_by.result ≡ set_strikes m p s leg class clearance
    = c.struck_by.ensures ∙ ap₂ (changed m leg) c.weigh_open-old.ensures (c.weigh-new.ensures ∙ ap (λ q. weight_if_any m q leg) after) in
    let lapses : Lapses p c.struck_by.result old.halls new.halls c.lapse.result = search rules in
    set_carries g.met.M.Measure.lawful p (g.L.Layout.sound old.sheet.below) s old.sheet.wide old.halls new.halls leg class clearance new.sheet.sheet (Ok c.lapse.result) (search rules)
    (none, subst (λ x. Lapses p x old.halls new.halls c.lapse.result) strikes lapses)
