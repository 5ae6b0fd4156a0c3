-- The rule can always go on: which offers move a junction can be told, and there is a next state. Assumes nothing.
use Rattle.std.proofs.Common.{◌≡◌, ℕ, ◌<◌, true, ◌≢◌, ◌⊎◌, List, [], ◌∷◌, ◌++◌, Some, None, Option, sym, refl, subst, inl, inr}
use Rattle.std.proofs.lemmas.Bool.{cases_Bool, cases_eq}
use Rattle.std.specs.List.{ContainsAt as Has}
use Rattle.measure.specs.Scale.{Scale, Lawful}
use Rattle.walks.specs.Net.{Net}
use Rattle.walks.specs.Search.{State, Arrived, Lowest, Offer, offered, Unmoved, Above, Lowers, Settles}
use Rattle.walks.proofs.Order.{Le, Lt, no_both, le_trans, lt_or_ge}
use Rattle.walks.proofs.Choosing.{Test, Whether, goal?, has?}
use Rattle.walks.proofs.Firsts.{First, FirstOrNone, first?}

pub offer? : {T : Type 0} (g : Net T) (u v e : ℕ) → Whether (Offer g u v e)
offer? g u v e = go (cases_Bool (g.usable e)) (cases_eq (g.tail e) u) (cases_eq (g.head e) v)
  where
    go : Test (g.usable e) → Whether (g.tail e ≡ u) → Whether (g.head e ≡ v) → Whether (Offer g u v e)
    go (inl a) (inl b) (inl c) = inl (record { usable = a; leaves = b; leads = c })
    go (inl a) (inl b) (inr c) = inr (λ o. c o.leads)
    go (inl a) (inr b) c = inr (λ o. b o.leaves)
    go (inr a) b c = inr (λ o. no_both o.usable a)

-- the first of the lowest offers, where v's total is above it
pub lowers :
    {T : Type 0} {m : Scale T} (g : Net T) (l : ℕ) → ((e : ℕ) → g.usable e ≡ true → e < l) →
    (s : State T) (u : ℕ) (x : T) (v : ℕ) (p : First m (Offer g u v) (offered m g x) l) → Above m (s.total v) (offered m g x p.number) →
    Lowers m g s u x v p.number
lowers g l few s u x v p above =
    record { offer = p.picked; lower = above; lowest = λ f o. p.lowest f (few f o.usable) o; first = λ f o q. p.first f (few f o.usable) o q }

module _ {T : Type 0} {m : Scale T} (laws : Lawful m) (g : Net T) (l : ℕ) (few : (e : ℕ) → g.usable e ≡ true → e < l) (s : State T) (u : ℕ)
    (x : T) where
  -- whether an offer moves v
  moved? : (v : ℕ) → Unmoved m g s u x v ⊎ ((e : ℕ) × Lowers m g s u x v e)
  moved? v = go (first? laws (Offer g u v) (offered m g x) (offer? g u v) l)
    where
      against :
          (p : First m (Offer g u v) (offered m g x) l) (o : Option T) → s.total v ≡ o →
          Unmoved m g s u x v ⊎ ((e : ℕ) × Lowers m g s u x v e)
      against p None e = inr (p.number, lowers g l few s u x v p (subst (λ a. Above m a (offered m g x p.number)) (sym e) tt))
      against p (Some z) e = pick (lt_or_ge laws (offered m g x p.number) z)
        where
          pick :
              (Lt m (offered m g x p.number) z ⊎ Le m z (offered m g x p.number)) →
              Unmoved m g s u x v ⊎ ((e : ℕ) × Lowers m g s u x v e)
          pick (inl h) = inr (p.number, lowers g l few s u x v p (subst (λ a. Above m a (offered m g x p.number)) (sym e) h))
          pick (inr h) = inl (λ f o. (z, e, le_trans laws h (p.lowest f (few f o.usable) o)))

      go : FirstOrNone m (Offer g u v) (offered m g x) l → Unmoved m g s u x v ⊎ ((e : ℕ) × Lowers m g s u x v e)
      go (inl p) = against p (s.total v) refl
      go (inr n) = inl (λ f o. absurd (n f (few f o.usable) o))

  module _ (goal : Option ℕ) where
    abbrev listed : List ℕ
    listed = s.settled ++ (u ∷ [])

    -- a total and a came-by as v has them
    abbrev Kept : ℕ → Option T × Option ℕ → Type 0
    Kept v p = (p.0 ≡ s.total v) × (p.1 ≡ s.came v)

    -- a total and a came-by as the rule wants them of v
    record Fits (v : ℕ) (p : Option T × Option ℕ) : Type 0 where
      at_goal : goal ≡ Some u → Kept v p
      among : Has listed v → Kept v p
      free :
          goal ≢ Some u → ¬ Has listed v →
          (Unmoved m g s u x v × Kept v p) ⊎ ((e : ℕ) × Lowers m g s u x v e × ((p.0 ≡ Some (offered m g x e)) × (p.1 ≡ Some e)))

    fit : (v : ℕ) → (p : Option T × Option ℕ) × Fits v p
    fit v = go (has? listed v) (goal? goal u) (moved? v)
      where
        old : Option T × Option ℕ
        old = (s.total v, s.came v)

        go :
            Whether (Has listed v) → Whether (goal ≡ Some u) → (Unmoved m g s u x v ⊎ ((e : ℕ) × Lowers m g s u x v e)) →
            (p : Option T × Option ℕ) × Fits v p
        go (inl i) c r = (old, record { at_goal = λ _. (refl, refl); among = λ _. (refl, refl); free = λ _ n. absurd (n i) })
        go (inr n) (inl e) r = (old, record { at_goal = λ _. (refl, refl); among = λ _. (refl, refl); free = λ k _. absurd (k e) })
        go (inr n) (inr k) (inl still) =
            (old, record { at_goal = λ _. (refl, refl); among = λ _. (refl, refl); free = λ _ _. inl (still, (refl, refl)) })
        go (inr n) (inr k) (inr p) = (
          (Some (offered m g x p.0), Some p.0),
          record { at_goal = λ e. absurd (k e); among = λ i. absurd (n i); free = λ _ _. inr (p.0, p.1, (refl, refl)) },
        )

    next : State T
    next = record { total = λ v. (fit v).0.0; came = λ v. (fit v).0.1; settled = listed }

    pub settles : ¬ Arrived goal s → Lowest m s u x → (t : State T) × Settles m g goal s t
    unfolding next
    settles away low = (
      next,
      record {
        not_arrived = away;
        next = u;
        at = x;
        lowest = low;
        listed = refl;
        done = λ e v. let k = (fit v).1.at_goal e in record { same_total = k.0; same_came = k.1 };
        settled_keep = λ v i. let k = (fit v).1.among i in record { same_total = k.0; same_came = k.1 };
        relaxed = λ n v away. elim ((fit v).1.free n away) [
          | inl p ↦ inl (p.0, record { same_total = p.1.0; same_came = p.1.1 })
          | inr p ↦ inr (p.0, p.1, record { new_total = p.2.0; new_came = p.2.1 })
        ];
      },
    )
