-- What chains keep is a proposition, so it can be taken out of a struct's ghost field. Assumes nothing.
use mathlib.Core.HLevel.{Π_prop, →_prop}
use Rattle.std.proofs.Common.{ℕ, List, Some, None, Option}
use native.Mathlib.Bridge.{le_prop}
use native.Mathlib.Nat.{ℕ_set}
use Rattle.std.specs.List.{slice_get}
use Rattle.layout.proofs.Props.{option_set, no_prop, next_prop}
use Rattle.plan.specs.Chained.{Chained, ChainedProp, Linked, LinkedProp, Last}
use Rattle.plan.specs.declared.chains.Chains.TheInside.{Inside}

×_prop : {A B : Type 0} → IsProp A → IsProp B → IsProp (A × B)
×_prop pa pb = λ x y i. (pa x.0 y.0 i, pb x.1 y.1 i)

last_prop : (ks : List ℕ) (n : ℕ) (o : Option ℕ) → IsProp (Last ks n o)
last_prop ks n None = Π_prop (λ i. →_prop no_prop)
last_prop ks n (Some k) = ×_prop (option_set (slice_get ks k) (Some n)) (Π_prop (λ i. →_prop (→_prop no_prop)))

pub linked_prop : (ks : List ℕ) (first last next : List (Option ℕ)) → IsProp (Linked ks first last next)
linked_prop ks first last next = LinkedProp {ks = ks} {first = first} {last = last} {next = next}
    (Π_prop (λ n. Π_prop (λ lt. next_prop ks n 0 _)))
    (Π_prop (λ n. Π_prop (λ lt. last_prop ks n _)))
    (Π_prop (λ k. Π_prop (λ n. Π_prop (λ e. next_prop ks n _ _))))
    (ℕ_set _ _) (ℕ_set _ _) (ℕ_set _ _)

pub chained_prop : (c : Inside) → IsProp (Chained c)
chained_prop c = ChainedProp {c = c} le_prop (ℕ_set _ _) (Π_prop (λ k. Π_prop (λ n. Π_prop (λ e. le_prop)))) (linked_prop _ _ _ _)
