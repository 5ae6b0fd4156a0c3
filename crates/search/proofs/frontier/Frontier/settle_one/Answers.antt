use Rattle.std.proofs.Common.{◌≡◌, ℕ, ◌+◌, ◌<◌, ◌≤◌, ◌≢◌, List, [], ◌∷◌, ◌++◌, length, take, Some, sym, ap, ◌∙◌, subst, arith, rules}
use Rattle.std.proofs.lemmas.List.{length-take-le, take_more_set}
use Rattle.walks.specs.InTurn.{TakesTo}
use Rattle.walks.specs.Net.{net, junctions}
use Rattle.walks.specs.Search.{Searched}
use Rattle.walks.specs.Tables.{tabled}
use Rattle.walks.proofs.Nets.{net_finite}
use Rattle.search.specs.Queued.{waiting}
use Rattle.search.specs.Running.{Running}
use Rattle.search.specs.Standing.{TablesOf, Stands}
use Rattle.search.proofs.OneStep.{stuck_ends, place_left, longer_stands, arrived_ends, still_running}
use Rattle.search.proofs.frontier.Frontier.settle_one.Goals as goal

-- where one of n junctions is not settled, the table has a place for it
place_in_table : (n count : ℕ) (settled : List ℕ) → length (take count settled) < n → count ≤ n → length settled ≡ n → count < length settled
place_in_table n count settled few within all = let long = length-take-le count settled (omega arith) in omega arith

pub returns-in_default-clause-stepped : goal.returns-in_default-clause-stepped
returns-in_default-clause-stepped g c = stuck_ends g.met.M.Measure.lawful _ _ _ _ _ _ _ _ c.requires.underway c.in_default.ensures.taken.0

pub bounds-self-self : goal.bounds-self-self
bounds-self-self g c =
    let left = place_left g.met.M.Measure.lawful _ _ _ _ _ _ _ _ c.requires.underway c.in-Some.lowest.number c.in-Some.lowest.total c.in-Some.ensures.taken.0 in
    place_in_table _ _ _ left c.requires.within c.requires.sized.places

pub returns-then-eq-clause-stepped : goal.returns-then-eq-clause-stepped
returns-then-eq-clause-stepped g c =
    let m = g.M.Measure.scale in
    let p = g.L.Layout.meaning c.args.layout.now in
    let f = c.args.self.now in
    let u = c.in-Some.lowest.number in
    let x = c.in-Some.lowest.total in
    let taken = c.in-Some.ensures.taken in
    let left = place_left g.met.M.Measure.lawful _ _ _ _ _ _ _ _ c.requires.underway u x taken.0 in
    let inside : f.count < length f.settled.now = place_in_table _ _ _ left c.requires.within c.requires.sized.places in
    let is : c.args.goal ≡ Some u = search rules in
    let ends = arrived_ends g.met.M.Measure.lawful _ _ _ _ _ _ _ _ c.requires.underway u x taken.0 is in
    subst (λ (l : List ℕ). Searched m (net m p) f.start c.args.goal (tabled m f.start f.totals.now f.came.now l))
    (sym (take_more_set f.settled.now f.count u inside)) ends

pub returns-then-eq-clause-within : goal.returns-then-eq-clause-within
returns-then-eq-clause-within g c =
    let left = place_left g.met.M.Measure.lawful _ _ _ _ _ _ _ _ c.requires.underway c.in-Some.lowest.number c.in-Some.lowest.total c.in-Some.ensures.taken.0 in
    let inside = place_in_table _ _ _ left c.requires.within c.requires.sized.places in
    let places = c.requires.sized.places in
    omega arith

pub relax-requires-clause-standing : goal.relax-requires-clause-standing
relax-requires-clause-standing g c =
    let u = c.in-Some.lowest.number in
    let taken = c.in-Some.ensures.taken in (
      take c.args.self.now.count c.args.self.now.settled.now ++ (u ∷ []),
      longer_stands g.met.M.Measure.lawful _ _ _ _ _ _ _ _ c.requires.underway u c.in-Some.lowest.total taken.0 (waiting c.take_lowest.new.self) taken.1,
    )

pub returns-clause-stepped : goal.returns-clause-stepped
returns-clause-stepped g c =
    let m = g.M.Measure.scale in
    let laws = g.met.M.Measure.lawful in
    let p = g.L.Layout.meaning c.args.layout.now in
    let n = junctions p in
    let f = c.args.self.now in
    let after = c.relax.new.self in
    let u = c.in-Some.lowest.number in
    let x = c.in-Some.lowest.total in
    let taken = c.in-Some.ensures.taken in
    let st = take f.count f.settled.now in
    let left = place_left laws _ _ _ _ _ _ _ _ c.requires.underway u x taken.0 in
    let inside : f.count < length f.settled.now = place_in_table _ _ _ left c.requires.within c.requires.sized.places in
    let not_goal : c.args.goal ≢ Some u = search rules in
    let stands = longer_stands laws _ _ _ _ _ _ _ _ c.requires.underway u x taken.0 (waiting c.take_lowest.new.self) taken.1 in
    let longer = st ++ (u ∷ []) in
    let told = c.relax.ensures in
    let start = told.same.same.start in
    let relaxed = told.relaxed longer stands in
    let taken_from : TakesTo m (net m p) longer u x (tabled m f.start f.totals.now f.came.now longer) (length p.legs) (tabled m f.start after.totals.now after.came.now longer) =
    subst (λ (k : ℕ). TakesTo m (net m p) longer u x (tabled m f.start f.totals.now f.came.now longer) (length p.legs) (tabled m k after.totals.now after.came.now longer)) start
    (subst (λ (j : ℕ). TakesTo m (net m p) longer j x (tabled m f.start f.totals.now f.came.now longer) (length p.legs) (tabled m after.start after.totals.now after.came.now longer))
    c.from-junction.ensures relaxed.taken) in
    let stands_after = subst (λ (k : ℕ). Stands m x (tabled m k after.totals.now after.came.now longer) (waiting c.relax.new.queue)) start relaxed.stands in
    let tables = subst (λ (k : ℕ). TablesOf m n k after.totals.now after.came.now) start told.sized.tables in
    let runs = still_running laws (net m p) f.start c.args.goal n f.totals.now f.came.now st (waiting c.args.queue.now)
    c.requires.underway u x taken.0 (length p.legs) (net_finite m p (g.L.Layout.sound c.args.layout.now)).leg_exists not_goal
    after.totals.now after.came.now (waiting c.relax.new.queue) tables taken_from stands_after in
    let list : longer ≡ take after.count after.settled.now =
    sym (ap (λ (k : ℕ). take k after.settled.now) told.same.count ∙ ap (take (f.count + 1)) told.same.list ∙ take_more_set f.settled.now f.count u inside) in
    subst (λ (l : List ℕ). Running m (net m p) after.start c.args.goal n after.totals.now after.came.now l (waiting c.relax.new.queue)) list
    (subst (λ (k : ℕ). Running m (net m p) k c.args.goal n after.totals.now after.came.now longer (waiting c.relax.new.queue)) (sym start) runs)

pub returns-clause-within : goal.returns-clause-within
returns-clause-within g c =
    let left = place_left g.met.M.Measure.lawful _ _ _ _ _ _ _ _ c.requires.underway c.in-Some.lowest.number c.in-Some.lowest.total c.in-Some.ensures.taken.0 in
    let inside = place_in_table _ _ _ left c.requires.within c.requires.sized.places in
    let places = c.requires.sized.places in
    let same = c.relax.ensures.same.count in
    omega arith
