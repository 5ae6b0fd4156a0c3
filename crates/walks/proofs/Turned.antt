-- Walks taken the other way over the turned layer. Assumes nothing.
use Rattle.std.proofs.Common.{◌≡◌, ℕ, List, [], ◌∷◌, ◌++◌, sym, refl, ◌∙◌, subst, ap₂}
use Rattle.measure.specs.Scale.{Scale, Lawful}
use Rattle.walks.specs.Net.{Net, turned}
use Rattle.walks.specs.Walk.{Walk, total, Best}
use Rattle.walks.specs.Searches.{TurnedBest}
use Rattle.walks.proofs.Order.{Le}
use Rattle.walks.proofs.Walks.{walk_append, total_append, total_one}

-- the legs from the last to the first
abbrev rev : List ℕ → List ℕ
rev [] = []
rev (e ∷ es) = rev es ++ (e ∷ [])

module _ {T : Type 0} {m : Scale T} (laws : Lawful m) where
  turn_walk : (g : Net T) (u : ℕ) (es : List ℕ) (v : ℕ) → Walk g u es v → Walk (turned g) v (rev es) u
  turn_walk g u [] v w = sym w
  turn_walk g u (e ∷ es) v w =
      walk_append (turned g) v (rev es) (e ∷ []) (g.head e) u (turn_walk g (g.head e) es v w.2) (w.0, refl, w.1)

  turn_total : (g : Net T) (es : List ℕ) → total m (turned g) (rev es) ≡ total m g es
  turn_total g [] = refl
  turn_total g (e ∷ es) =
      total_append laws (turned g) (rev es) (e ∷ [])
      ∙ ap₂ m.joined (turn_total g es) (total_one laws (turned g) e)
      ∙ laws.comm (total m g es) (g.weight e)

  turn_best : (g : Net T) (u v : ℕ) (x : T) → Best m g u v x → Best m (turned g) v u x
  turn_best g u v x b =
      record {
        way = rev b.way;
        walk = turn_walk g u b.way v b.walk;
        reached = turn_total g b.way ∙ b.reached;
        lowest = λ fs w. subst (λ z. Le m x z) (turn_total (turned g) fs) (b.lowest (rev fs) (turn_walk (turned g) v fs u w));
      }

  pub turned_best : TurnedBest m
  turned_best g u v x = (turn_best g u v x, turn_best (turned g) v u x)
