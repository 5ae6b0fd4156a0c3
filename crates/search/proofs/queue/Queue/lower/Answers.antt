use Rattle.std.proofs.Common.{sym, refl, ap, ◌∙◌, arith}
use Rattle.std.proofs.lemmas.List.{length-set, drop-set-lt}
use Rattle.search.specs.declared.slot.Slot.{Slot}
use Rattle.search.specs.Waiting.{lowers}
use Rattle.search.proofs.Calls.{found_total, lowered_total, lowered_apart}
use Rattle.search.proofs.queue.Queue.lower.Goals as goal

pub returns-then-not-is_below : goal.returns-then-not-is_below
returns-then-not-is_below g c =
    let queue = c.args.self.now in
    let s : Slot g.row.M.Denot = record { total = c.args.total; number = c.args.number } in
    let found = c.in-Some.ensures in
    let old = found_total queue.slots.now queue.used queue.fits queue.distinct c.in-Some.at s found.0 found.1 c.index-self-at.result in
    record {
      lowered = c.if-not-is_below.ensures ∙ sym (ap (lowers g.M.Measure.scale c.args.total) old);
      waiting = λ q. refl;
      used = refl;
      rest = record { size = refl; past = λ m before after. refl };
      lent = refl;
    }

pub invariant_of-self : goal.invariant_of-self
invariant_of-self g c =
    let queue = c.args.self.now in
    let s : Slot g.row.M.Denot = record { total = c.args.total; number = c.args.number } in
    let found = c.in-Some.ensures in
    record {
      fits = simp length-set queue.fits;
      distinct = lowered_apart queue.slots.now queue.used queue.fits queue.distinct c.in-Some.at s found.0 found.1;
    }

pub returns : goal.returns
returns g c =
    let queue = c.args.self.now in
    let xs = queue.slots.now in
    let at = c.in-Some.at in
    let s : Slot g.row.M.Denot = record { total = c.args.total; number = c.args.number } in
    let found = c.in-Some.ensures in
    let old = found_total xs queue.used queue.fits queue.distinct at s found.0 found.1 c.index-self-at.result in
    record {
      lowered = c.if-not-is_below.ensures ∙ sym (ap (lowers g.M.Measure.scale c.args.total) old);
      waiting = lowered_total xs queue.used queue.fits queue.distinct at s found.0 found.1;
      used = refl;
      rest = record { size = length-set xs at s; past = λ m before after. drop-set-lt m xs at s (omega (arith, found.0)) };
      lent = refl;
    }
