-- A bound from below on the totals of walks: numbers for the junctions that no leg undercuts. Assumes nothing.
use Rattle.std.proofs.Common.{◌≡◌, ℕ, true, List, [], ◌∷◌, sym, subst}
use Rattle.measure.specs.Scale.{Scale, Lawful}
use Rattle.walks.specs.Net.{Net}
use Rattle.walks.specs.Walk.{Walk, total, Best}
use Rattle.walks.proofs.Order.{Le, le_eq, le_trans, mono_right}

-- d gives the goal no more than the unit, and no leg's tail more than the leg's weight joined with what its head has
pub record Potential {T : Type 0} (m : Scale T) (g : Net T) (goal : ℕ) (d : ℕ → T) : Type 0 where
  pub at_goal : d goal ≡ m.unit
  pub along : (e : ℕ) → g.usable e ≡ true → Le m (d (g.tail e)) (m.joined (g.weight e) (d (g.head e)))

module _ {T : Type 0} {m : Scale T} (laws : Lawful m) (g : Net T) (goal : ℕ) (d : ℕ → T) (p : Potential m g goal d) where
  bounded : (es : List ℕ) (u : ℕ) → Walk g u es goal → Le m (d u) (total m g es)
  bounded [] u w = le_eq laws (subst (λ v. d v ≡ m.unit) (sym w) p.at_goal)
  bounded (e ∷ es) u w =
      subst (λ v. Le m (d v) (m.joined (g.weight e) (total m g es))) w.1
      (le_trans laws (p.along e w.0) (mono_right laws (g.weight e) (bounded es (g.head e) w.2)))

  -- so a walk that comes to it is a best one
  pub best_by : (u : ℕ) (es : List ℕ) → Walk g u es goal → total m g es ≡ d u → Best m g u goal (d u)
  best_by u es w e = record { way = es; walk = w; reached = e; lowest = λ fs k. bounded fs u k }
