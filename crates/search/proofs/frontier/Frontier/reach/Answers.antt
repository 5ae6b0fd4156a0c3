use Rattle.std.proofs.Common.{◌≡◌, ℕ, Bool, cond, ◌&&◌, eqb, [], length, get_or, Some, sym, refl, ap, ◌∙◌, subst, inl, inr, arith}
use Rattle.std.proofs.lemmas.List.{get_or_default}
use Rattle.walks.specs.Tables.{no_came_by}
use Rattle.search.specs.Frontier.{state}
use Rattle.search.specs.Queued.{waiting}
use Rattle.search.specs.declared.queue.Queue.{Queue}
use Rattle.search.proofs.Relaxed.{none_waits}
use Rattle.search.proofs.Rooms.{room_for}
use Rattle.search.proofs.Tabled.{by_none, has_place, by_a_leg, at_start}
use Rattle.search.proofs.frontier.Frontier.reach.Goals as goal

pub insert-requires : goal.insert-requires
insert-requires g c =
    let m = g.M.Measure.scale in
    let f = c.args.self.now in
    let head = c.args.head in
    let came-none : get_or f.came.now head no_came_by ≡ no_came_by = get_or_default f.came.now head no_came_by 0 c.requires.there ∙ c.if-self-place.true in
    let none = by_none m f.start f.totals.now f.came.now [] head c.if-head-self.true came-none in
    let fresh = none_waits (state m f []) (waiting c.args.queue.now) c.requires.waiters head none in
    let room = room_for c.args.queue.now (length f.came.now) head c.args.total
    (λ q x waits. has_place m f.start f.totals.now f.came.now [] q x c.requires.sized.tables.start_exists (c.requires.waiters q x waits)) fresh c.requires.there in
    let slots = c.requires.sized.slots in
    record { fresh = fresh; room = omega arith }

pub returns-clause-offered : goal.returns-clause-offered
returns-clause-offered g c =
    let m = g.M.Measure.scale in
    let head = c.args.head in
    let f = c.args.self.now in
    let totals = f.totals.now in
    let came = f.came.now in
    let s = state m f [] in
    elim c.if-head-self.branch [
      | goal.then-head-self+then-self-place w ↦
          let came-none : get_or came head no_came_by ≡ no_came_by = get_or_default came head no_came_by 0 c.requires.there ∙ w.if-self-place.true in
          inl (
            by_none m f.start totals came [] head w.if-head-self.true came-none,
            refl,
            refl,
            λ q. ap (λ (k : Queue g.row.M.Denot). waiting k q) w.queue-is ∙ w.insert.ensures.waiting q,
          )
      | goal.else-head-self+else-not-is_below w ↦
          let z = get_or totals head w.index-self-place.result in
          let place = c.requires.there in
          let all_totals = c.requires.sized.tables.all_totals in
          let all_came = c.requires.sized.tables.all_came in
          let held : get_or totals head m.unit ≡ z = get_or_default totals head m.unit w.index-self-place.result (omega arith) in
          let has : s.total head ≡ Some (get_or totals head m.unit) = elim w.else-head-self.branch [
            | goal.else-head-self-via-then-head-self+else-self-place v ↦
                by_a_leg m f.start totals came [] head (λ none. v.if-self-place.false (sym (get_or_default came head no_came_by 0 place) ∙ none))
            | goal.else-head-self-via-else-head-self v ↦
                subst (λ (k : ℕ). s.total k ≡ Some (get_or totals k m.unit)) (sym v.if-head-self.false) (at_start m f.start totals came [])
          ] in
          let after = w.lower.ensures in
          inr (inl (
            z,
            has ∙ ap Some held,
            sym w.if-not-is_below.ensures,
            refl,
            refl,
            λ q. ap (λ (k : Queue g.row.M.Denot). waiting k q) w.queue-is ∙ after.waiting q ∙ ap (λ (b : Bool). cond (b && eqb q head) (Some c.args.total) (waiting c.args.queue.now q)) after.lowered,
          ))
    ]
