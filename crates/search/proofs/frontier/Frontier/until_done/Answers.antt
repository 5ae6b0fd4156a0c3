use Rattle.std.proofs.Common.{◌≡◌, ℕ, ◌-◌, ◌+◌, ◌≤◌, List, drop, sym, ap, ◌∙◌, subst, arith}
use Rattle.std.proofs.lemmas.List.{drop-drop}
use Rattle.search.proofs.frontier.Frontier.until_done.Goals as goal

-- what is the same from one place on is the same from a later one on
same_later : {X : Type 0} (n k : ℕ) (xs ys : List X) → n ≤ k → drop n xs ≡ drop n ys → drop k xs ≡ drop k ys
same_later n k xs ys far same =
    let on : k - n + n ≡ k = omega arith in
    subst (λ j. drop j xs ≡ drop j ys) on (subst (λ j. drop j xs ≡ drop j ys) (omega arith) (sym (drop-drop (k - n) n xs) ∙ ap (drop (k - n)) same ∙ drop-drop (k - n) n ys))

pub returns-clause-past : goal.returns-clause-past
returns-clause-past g c =
    let told = c.settle_one.ensures in
    told.past ∙ same_later _ _ _ _ told.more c.loop-goal.invariant.3
