use Rattle.std.proofs.Common.{take, Some, refl, ap, ◌∙◌, arith}
use Rattle.std.proofs.lemmas.List.{length-set, drop-set-lt, take_more_set}
use Rattle.search.specs.declared.slot.Slot.{Slot}
use Rattle.search.specs.Waiting.{apart, total_of}
use Rattle.search.proofs.Slots.{updated, put_total, put_apart}
use Rattle.search.proofs.queue.Queue.insert.Goals as goal

pub invariant_of-self : goal.invariant_of-self
invariant_of-self g c =
    let queue = c.args.self.now in
    let xs = queue.slots.now in
    let n = queue.used in
    let s : Slot g.row.M.Denot = record { total = c.args.total; number = c.args.number } in
    let room = c.requires.room in
    record {
      fits = simp length-set (omega arith);
      distinct = ap apart (take_more_set xs n s room) ∙ put_apart (take n xs) s queue.distinct c.requires.fresh;
    }

pub returns : goal.returns
returns g c =
    let queue = c.args.self.now in
    let xs = queue.slots.now in
    let n = queue.used in
    let s : Slot g.row.M.Denot = record { total = c.args.total; number = c.args.number } in
    record {
      waiting = λ q. ap (λ l. total_of l q) (take_more_set xs n s c.requires.room) ∙ put_total (take n xs) s c.requires.fresh q ∙ updated (total_of (take n xs)) s.number (Some s.total) q;
      used = refl;
      rest = record { size = length-set xs n s; past = λ m old new. drop-set-lt m xs n s (omega arith) };
      lent = refl;
    }
