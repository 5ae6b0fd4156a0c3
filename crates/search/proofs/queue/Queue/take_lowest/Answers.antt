use Rattle.std.proofs.Common.{◌≡◌, ◌-◌, get_or, refl, ap, arith}
use Rattle.std.proofs.lemmas.List.{length-set, drop-set-lt}
use Rattle.search.proofs.Calls.{removed_total, removed_apart, removed_lowest}
use Rattle.search.proofs.queue.Queue.take_lowest.Goals as goal

pub invariant_of-self : goal.invariant_of-self
invariant_of-self g c =
    let queue = c.args.self.now in
    let xs = queue.slots.now in
    let n = queue.used in
    let at = c.lowest-at.result in
    let first = c.lowest-at.ensures in
    let s = get_or xs at c.index-self-at.result in
    let x = get_or xs (n - 1) c.index-self-last.result in
    record {
      fits = simp length-set (omega arith);
      distinct = removed_apart xs n queue.fits queue.distinct at s x first.0 (ap (get_or xs at) c.index-self-at.is) (ap (get_or xs (n - 1)) c.index-self-last.is);
    }

pub returns : goal.returns
returns g c =
    let queue = c.args.self.now in
    let xs = queue.slots.now in
    let n = queue.used in
    let at = c.lowest-at.result in
    let first = c.lowest-at.ensures in
    let s = get_or xs at c.index-self-at.result in
    let x = get_or xs (n - 1) c.index-self-last.result in
    let here : s ≡ get_or xs at s = ap (get_or xs at) c.index-self-at.is in
    let last : x ≡ get_or xs (n - 1) x = ap (get_or xs (n - 1)) c.index-self-last.is in
    record {
      taken = (
        removed_lowest xs n queue.fits queue.distinct at s x first.0 here last g.met.M.Measure.lawful first,
        removed_total xs n queue.fits queue.distinct at s x first.0 here last,
        omega (arith, first.0),
      );
      rest = record { size = length-set xs at x; past = λ m old new. drop-set-lt m xs at x (omega (arith, first.0)) };
      lent = refl;
    }
