-- Walks put together, and their totals. Assumes nothing.
use Rattle.std.proofs.Common.{◌≡◌, ℕ, Bool, List, [], ◌∷◌, ◌++◌, sym, refl, ap, ◌∙◌, subst}
use Rattle.std.proofs.lemmas.Bool.{and_parts}
use Rattle.measure.specs.Scale.{Scale, Lawful}
use Rattle.walks.specs.Net.{Net, only}
use Rattle.walks.specs.Walk.{Walk, total, Best}
use Rattle.walks.proofs.Order.{Le, le_antisym, join_unit_left}

pub walk_append : {T : Type 0} (g : Net T) (u : ℕ) (es fs : List ℕ) (v w : ℕ) → Walk g u es v → Walk g v fs w → Walk g u (es ++ fs) w
walk_append g u [] fs v w p q = subst (λ x. Walk g x fs w) (sym p) q
walk_append g u (e ∷ es) fs v w p q = (p.0, p.1, walk_append g (g.head e) es fs v w p.2 q)

module _ {T : Type 0} {m : Scale T} (laws : Lawful m) (g : Net T) where
  pub total_append : (es fs : List ℕ) → total m g (es ++ fs) ≡ m.joined (total m g es) (total m g fs)
  total_append [] fs = sym (join_unit_left laws (total m g fs))
  total_append (e ∷ es) fs =
      ap (m.joined (g.weight e)) (total_append es fs) ∙ sym (laws.assoc (g.weight e) (total m g es) (total m g fs))

  pub total_one : (e : ℕ) → total m g (e ∷ []) ≡ g.weight e
  total_one e = laws.neutral (g.weight e)

  pub best_unique : {u v : ℕ} {x y : T} → Best m g u v x → Best m g u v y → x ≡ y
  best_unique {u} {v} {x} {y} b c =
      le_antisym laws
      (subst (λ z. Le m x z) c.reached (b.lowest c.way c.walk))
      (subst (λ z. Le m y z) b.reached (c.lowest b.way b.walk))

module _ {T : Type 0} (g : Net T) (marked : ℕ → Bool) where
  -- a walk of marked legs is a walk
  pub only_walk : (u : ℕ) (es : List ℕ) (v : ℕ) → Walk (only marked g) u es v → Walk g u es v
  only_walk u [] v w = w
  only_walk u (e ∷ es) v w = ((and_parts (g.usable e) (marked e) w.0).0, w.1, only_walk (g.head e) es v w.2)

  pub only_total : (m : Scale T) (es : List ℕ) → total m (only marked g) es ≡ total m g es
  only_total m [] = refl
  only_total m (e ∷ es) = ap (m.joined (g.weight e)) (only_total m es)
