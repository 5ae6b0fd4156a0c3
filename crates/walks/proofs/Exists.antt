-- Where a walk leads, there is a best one: a search without a goal finds it. Assumes nothing.
use Rattle.std.proofs.Common.{ℕ, ◌⊎◌, None, inl, inr}
use Rattle.measure.specs.Scale.{Scale, Lawful}
use Rattle.walks.specs.Net.{Net, Finite}
use Rattle.walks.specs.Walk.{Leads, Best}
use Rattle.walks.specs.Search.{State, Settled, Searched}
use Rattle.walks.specs.Searches.{BestExists}
use Rattle.walks.proofs.Choosing.{Whether, has?}
use Rattle.walks.proofs.Results.{settled_best, found_all}
use Rattle.walks.proofs.Ends.{search_ends}

-- there is a best walk from u to v, or none at all
abbrev pub BestOrNone : {T : Type 0} → Scale T → Net T → ℕ → ℕ → Type 0
BestOrNone {T = T} m g u v = ((x : T) × Best m g u v x) ⊎ (¬ Leads g u v)

module _ {T : Type 0} {m : Scale T} (laws : Lawful m) where
  -- as a search from u has found it
  searched : (g : Net T) (u v : ℕ) (s : State T) → Searched m g u None s → BestOrNone m g u v
  searched g u v s r = go (has? s.settled v)
    where
      go : Whether (Settled s v) → BestOrNone m g u v
      go (inl i) = let h = settled_best laws g u None s r v i in inl (h.0, h.2)
      go (inr n) = inr (λ w. n ((found_all laws g u s r v).1 w))

  pub best_or_none : (g : Net T) (n l : ℕ) → Finite g n l → (u v : ℕ) → BestOrNone m g u v
  best_or_none g n l fin u v = let s = search_ends laws g n l fin u None in searched g u v s.0 s.1

  pub best_exists : BestExists m
  best_exists g n l fin u v w = go (best_or_none g n l fin u v)
    where
      go : BestOrNone m g u v → (x : T) × Best m g u v x
      go (inl b) = b
      go (inr k) = absurd (k w)
