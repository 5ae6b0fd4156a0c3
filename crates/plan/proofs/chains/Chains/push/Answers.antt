use Rattle.std.proofs.Common.{◌≡◌, ℕ, ◌+◌, ◌<◌, Some, None, length, set, sym, subst, arith}
use Rattle.plan.specs.Chained.{Chained, Last, ends_of}
use Rattle.plan.specs.declared.chains.Chains.TheInside.{Inside}
use Rattle.plan.proofs.Chaining.{count_is, chained_first, chained_after}
use Rattle.plan.proofs.chains.Chains.push.Goals.{in-Some, in-None}
use Rattle.plan.proofs.chains.Chains.push.Goals as goal

-- the writes after the first
abbrev closed : Inside → ℕ → ℕ → Inside
closed x k j = record {
  count = k + 1;
  links = record { ends = set x.links.ends k j; first = x.links.first; last = set x.links.last j (Some k); next = set x.links.next k None };
}

pub invariant_of-self : goal.invariant_of-self
invariant_of-self c =
    let x = c.self.inside in
    let h = c.self.invariant in
    let j = c.args.junction in
    let many : length (ends_of x) < 512 = rw c.self.view_is c.requires.1 in
    let few : x.count < 512 = let same = count_is x h in omega arith in
    let last = h.linked.lasts j c.requires.0 in
    let after : (y : Inside) → c.match-self-junction.self-inside ≡ y → Chained (closed y x.count j) → Chained (closed c.match-self-junction.self-inside x.count j) =
    λ y e k. subst (λ z. Chained (closed z x.count j)) (sym e) k in
    elim c.match-self-junction.branch [
      | in-Some w ↦ after _ w.self-inside-is (chained_after x j h c.requires.0 few w.in-Some.before (subst (Last (ends_of x) j) w.in-Some.is last))
      | in-None w ↦ after _ w.self-inside-is (chained_first x j h c.requires.0 few (subst (Last (ends_of x) j) w.in-None.is last))
    ]
