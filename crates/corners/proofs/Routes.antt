-- The routes from junction 0 to junction 4 by clearance, and by time then turns. Assumes nothing.
use Rattle.std.proofs.Common.{◌≡◌, ℕ, ◌<◌, true, false, ◌⊎◌, List, [], ◌∷◌, Some, sym, refl, ap, ◌∙◌, subst, inl, inr, arith}
use mathlib.Core.Path.{subst₃}
use Rattle.measure.specs.Scale.{Scale, Lawful}
use Rattle.measure.specs.Kinds.{clearance_scale, turns_scale, clearance_of, pair_of}
use Rattle.measure.specs.Lawfulness.{clearance_lawful, turns_lawful}
use Rattle.measure.specs.Same.{same_headroom, same_pair}
use Rattle.walks.specs.Net.{Finite, net}
use Rattle.walks.specs.Walk.{Walk, total}
use Rattle.walks.specs.Search.{State, Settled, Searched}
use Rattle.walks.specs.Book.{blank, with_book}
use Rattle.walks.specs.Orders.{all_lapsed}
use Rattle.walks.specs.Answers.{found, Tells, there}
use Rattle.walks.proofs.Order.{Lt, no_both}
use Rattle.walks.proofs.Nets.{only_finite}
use Rattle.walks.proofs.Entries.{finite}
use Rattle.walks.proofs.Ends.{search_ends}
use Rattle.walks.proofs.Results.{settled_best, traced_walk, found_exactly, settles_below}
use Rattle.corners.specs.Small.{small}
use Rattle.corners.specs.Corners.{Replies, route_from}
use Rattle.corners.proofs.Legs.{each}
use Rattle.corners.proofs.Sound.{sound}
use Rattle.corners.proofs.Counted.{settles_every}
use Rattle.corners.proofs.Ways.{lapsed_net, from_0}
use Rattle.corners.proofs.Replying.{replies}

-- the walk is the way, or has a total above x
abbrev Only : {T : Type 0} → Scale T → T → List ℕ → List ℕ → Type 0
Only m x way es = (es ≡ way) ⊎ Lt m x (total m (lapsed_net m) es)

-- some walk from 0 leads to v with a total below x
abbrev Nearer : {T : Type 0} → Scale T → T → ℕ → Type 0
Nearer m x v = (es : List ℕ) × Walk (lapsed_net m) 0 es v × Lt m (total m (lapsed_net m) es) x

-- a way from 0 to 4 with total x is answered where every other walk there has a total above, and every other junction one below
module _ {T : Type 0} {m : Scale T} (laws : Lawful m) (x : T) (way : List ℕ) (walk : Walk (lapsed_net m) 0 way 4)
    (reached : total m (lapsed_net m) way ≡ x) (only : (es : List ℕ) → Walk (lapsed_net m) 0 es 4 → Only m x way es)
    (n0 : Nearer m x 0) (n1 : Nearer m x 1) (n2 : Nearer m x 2) (n3 : Nearer m x 3) where
  fin : Finite (lapsed_net m) 5 6
  fin = only_finite (λ e. true) (net m (with_book small blank)) 5 6 (finite small m sound blank)

  module _ (s : State T) (r : Searched m (lapsed_net m) 0 (Some 4) s) where
    arrived : Settled s 4
    arrived = (found_exactly laws (lapsed_net m) 0 4 s r).1 (way, walk)

    settled : s.total 4 ≡ Some x → (v : ℕ) → v < 5 → Settled s v
    settled q =
        each (λ v. v < 5 → Settled s v) (λ h. near n0) (λ h. near n1) (λ h. near n2) (λ h. near n3) (λ h. arrived)
        (λ h. absurd (omega arith)) (λ l h. absurd (omega arith))
      where
        near : {v : ℕ} → Nearer m x v → Settled s v
        near {v} n = settles_below laws (lapsed_net m) 0 4 s r x arrived q v n.0 n.1 n.2

    tells : Tells (lapsed_net m) 4 s (found x 5 way)
    tells =
        let b = settled_best laws (lapsed_net m) 0 (Some 4) s r 4 arrived in
        let t = traced_walk laws (lapsed_net m) 0 (Some 4) s r 4 b.0 b.1 in
        let low = subst (λ z. m.below z b.0 ≡ false) reached (b.2.lowest way walk) in
        let same = pick b.0 t.0 t.3 low (only t.0 t.2) in
        let every = settles_every laws (lapsed_net m) 5 6 fin 0 (omega arith) (Some 4) s r (settled (b.1 ∙ ap Some same.0)) in
        subst₃ (λ z n es. Tells (lapsed_net m) 4 s (found z n es)) same.0 every same.1 (there arrived b.1 t.1)
      where
        pick : (y : T) (es : List ℕ) → total m (lapsed_net m) es ≡ y → m.below x y ≡ false → Only m x way es → (y ≡ x) × (es ≡ way)
        pick y es q k (inl h) = (sym q ∙ ap (total m (lapsed_net m)) h ∙ reached, h)
        pick y es q k (inr h) = absurd (no_both (subst (Lt m x) q h) k)

  routed : Replies m (route_from 0 4 ∷ []) (found x 5 way ∷ [])
  routed =
      let e = search_ends laws (lapsed_net m) 5 6 fin 0 (Some 4) in
      replies laws (route_from 0 4 ∷ []) (found x 5 way ∷ []) all_lapsed
      (all_lapsed, refl, (e.0, e.1, tells e.0 e.1), refl)

pub high_way : Replies clearance_scale (route_from 0 4 ∷ []) (found (clearance_of 70) 5 (2 ∷ 3 ∷ 4 ∷ []) ∷ [])
high_way =
    routed clearance_lawful (clearance_of 70) (2 ∷ 3 ∷ 4 ∷ []) (refl, refl, (refl, refl, (refl, refl, refl))) (same_headroom _ _ refl)
    (from_0 clearance_scale (Only clearance_scale (clearance_of 70) (2 ∷ 3 ∷ 4 ∷ [])) (inr refl) (inl refl) (inr refl))
    ([], refl, refl)
    (2 ∷ 5 ∷ [], (refl, refl, (refl, refl, refl)), refl)
    (2 ∷ [], (refl, refl, refl), refl)
    (2 ∷ 3 ∷ [], (refl, refl, (refl, refl, refl)), refl)

pub fast_way : Replies turns_scale (route_from 0 4 ∷ []) (found (pair_of 300 0) 5 (0 ∷ 1 ∷ 4 ∷ []) ∷ [])
fast_way =
    routed turns_lawful (pair_of 300 0) (0 ∷ 1 ∷ 4 ∷ []) (refl, refl, (refl, refl, (refl, refl, refl))) (same_pair _ _ refl refl)
    (from_0 turns_scale (Only turns_scale (pair_of 300 0) (0 ∷ 1 ∷ 4 ∷ [])) (inl refl) (inr refl) (inr refl))
    ([], refl, refl)
    (0 ∷ [], (refl, refl, refl), refl)
    (2 ∷ [], (refl, refl, refl), refl)
    (0 ∷ 1 ∷ [], (refl, refl, (refl, refl, refl)), refl)
