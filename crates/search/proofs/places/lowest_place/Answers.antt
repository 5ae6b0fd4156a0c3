use Rattle.std.proofs.Common.{◌≡◌, ◌+◌, ◌<◌, length, get_or, sym, subst, arith}
use Rattle.std.specs.List.{IsFirstBest}
use Rattle.std.proofs.lemmas.List.MinMax.{IsFirstBest-keeps, IsFirstBest-takes}
use Rattle.search.specs.Waiting.{before}
use Rattle.search.proofs.Ranking.{slots_rank}
use Rattle.search.proofs.places.lowest_place.Goals as goal
use Rattle.search.proofs.places.lowest_place.Goals.{then-is_before, else-is_before}

pub loop-place-preserved : goal.loop-place-preserved
loop-place-preserved g c =
    let xs = c.args.slots.now in
    let i = c.loop-place.place in
    let m = g.M.Measure.scale in
    let ranks = slots_rank g.met.M.Measure.lawful in
    let inside : i < length xs = omega arith in
    elim c.if-is_before.branch [
      | then-is_before w ↦ (
        omega arith,
        subst (IsFirstBest (before m) xs (i + 1)) (sym w.best-is)
            (IsFirstBest-takes ranks xs i c.loop-place.best _ _ c.loop-place.invariant.1 inside c.index-slots-place.is c.loop-place.invariant.2 (sym w.if-is_before.ensures)),
        subst (λ b. c.if-is_before.lowest ≡ get_or xs b c.if-is_before.lowest) (sym w.best-is) (subst (λ s. s ≡ get_or xs i s) (sym w.lowest-is) c.index-slots-place.is),
      )
      | else-is_before w ↦ (
        omega arith,
        subst (IsFirstBest (before m) xs (i + 1)) (sym w.best-is)
            (IsFirstBest-keeps ranks xs i c.loop-place.best _ _ c.loop-place.invariant.1 inside c.index-slots-place.is c.loop-place.invariant.2 (sym w.if-is_before.ensures)),
        subst (λ b. c.if-is_before.lowest ≡ get_or xs b c.if-is_before.lowest) (sym w.best-is) (subst (λ s. s ≡ get_or xs c.loop-place.best s) (sym w.lowest-is) c.loop-place.invariant.2),
      )
    ]
