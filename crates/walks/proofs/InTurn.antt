-- Legs taken in number order do what the rule says. Assumes nothing.
use Rattle.std.proofs.Common.{◌≡◌, ℕ, zero, suc, ◌<◌, ◌⊎◌, List, Some, None, Option, sym, refl, ◌∙◌, subst, inl, inr, arith}
use Rattle.std.specs.List.{ContainsAt as Has}
use Rattle.measure.specs.Scale.{Scale, Lawful}
use Rattle.walks.specs.Net.{Net}
use Rattle.walks.specs.Search.{State, Offer, offered, Above, Keeps, Gets, Relaxes}
use Rattle.walks.specs.InTurn.{Moves, Takes, TakesTo, InTurn}
use Rattle.walks.proofs.Order.{Le, Lt, no_both, lt_le, lt_or_ge, lt_le_trans}
use Rattle.walks.proofs.Choosing.{Whether, some_same, below_each}
use Rattle.walks.proofs.Firsts.{First, newer, older}
use Rattle.walks.proofs.Settling.{lower_than}
use Rattle.walks.proofs.Relaxing.{offer?, lowers}

module _ {T : Type 0} {m : Scale T} (laws : Lawful m) (g : Net T) (settled : List ℕ) (u : ℕ) (x : T) (s : State T) where
  above? : (o : Option T) (z : T) → Above m o z ⊎ ((y : T) × (o ≡ Some y) × Le m y z)
  above? None z = inl tt
  above? (Some y) z = go (lt_or_ge laws z y)
    where
      go : (Lt m z y ⊎ Le m y z) → (Lt m z y) ⊎ ((w : T) × (Some y ≡ Some w) × Le m w z)
      go (inl h) = inl h
      go (inr h) = inr (y, refl, h)

  above_down : (o : Option T) (z w : T) → Lt m w z → Above m o z → Above m o w
  above_down None z w h a = tt
  above_down (Some y) z w h a = lt_le_trans laws h (lt_le laws a)

  -- no offer of the legs below j is below v's total
  abbrev Still : ℕ → ℕ → Type 0
  Still v j = (f : ℕ) → f < j → Offer g u v f → (y : T) × (s.total v ≡ Some y) × Le m y (offered m g x f)

  -- the first of the lowest offers of the legs below j
  abbrev FirstOffer : ℕ → ℕ → Type 0
  FirstOffer v j = First m (Offer g u v) (offered m g x) j

  -- what the legs below j did to v
  abbrev Partly : ℕ → ℕ → State T → Type 0
  Partly v j c =
      (Still v j × Keeps s c v)
      ⊎ ((p : FirstOffer v j) × Above m (s.total v) (offered m g x p.number) × Gets c v (offered m g x p.number) p.number)

  keeps_on : (b c : State T) (v : ℕ) → Keeps s b v → Keeps b c v → Keeps s c v
  keeps_on b c v p q = record { same_total = q.same_total ∙ p.same_total; same_came = q.same_came ∙ p.same_came }

  gets_on : (b c : State T) (v : ℕ) (y : T) (e : ℕ) → Gets b v y e → Keeps b c v → Gets c v y e
  gets_on b c v y e p q = record { new_total = q.same_total ∙ p.new_total; new_came = q.same_came ∙ p.new_came }

  turn : (v j : ℕ) (b c : State T) → ¬ Has settled v → Takes m g settled u x j b c → Partly v j b → Partly v (suc j) c
  turn v j b c n t p = go p (offer? g u v j) (above? (b.total v) (offered m g x j))
    where
      stays : ¬ Moves m g settled u x b j v → Keeps b c v
      stays k = t.others v k

      gets : Offer g u v j → Above m (b.total v) (offered m g x j) → Gets c v (offered m g x j) j
      gets o a = t.moved v (record { offer = o; unsettled = n; lower = a })

      fresh : Offer g u v j → ((f : ℕ) → f < j → Offer g u v f → Lt m (offered m g x j) (offered m g x f)) → FirstOffer v (suc j)
      fresh o low = newer laws (Offer g u v) (offered m g x) j o low

      more : (p : FirstOffer v j) → (Offer g u v j → Le m (offered m g x p.number) (offered m g x j)) → FirstOffer v (suc j)
      more p high = older laws (Offer g u v) (offered m g x) j p high

      still : Still v j → (Offer g u v j → (y : T) × (s.total v ≡ Some y) × Le m y (offered m g x j)) → Still v (suc j)
      still q last = below_each j (λ f. Offer g u v f → (y : T) × (s.total v ≡ Some y) × Le m y (offered m g x f)) q last

      -- leg j does not move v, which has a total not above what it offers
      stays_at : (y : T) → b.total v ≡ Some y → Le m y (offered m g x j) → Keeps b c v
      stays_at y e le = stays (λ h. no_both (lower_than m (b.total v) y (offered m g x j) e h.lower) le)

      go :
          Partly v j b → Whether (Offer g u v j) →
          (Above m (b.total v) (offered m g x j) ⊎ ((y : T) × (b.total v ≡ Some y) × Le m y (offered m g x j))) → Partly v (suc j) c
      go (inl q) (inr k) a = inl (still q.0 (λ o. absurd (k o)), keeps_on b c v q.1 (stays (λ h. k h.offer)))
      go (inl q) (inl o) (inl a) =
          let above : Above m (s.total v) (offered m g x j) = subst (λ z. Above m z (offered m g x j)) q.1.same_total a in
          inr (
            fresh o
                (λ f k d. let r = q.0 f k d in lt_le_trans laws (lower_than m (s.total v) r.0 (offered m g x j) r.1 above) r.2),
            above,
            gets o a,
          )
      go (inl q) (inl o) (inr a) =
          inl (still q.0 (λ d. (a.0, sym q.1.same_total ∙ a.1, a.2)), keeps_on b c v q.1 (stays_at a.0 a.1 a.2))
      go (inr q) (inr k) a = inr (more q.0 (λ o. absurd (k o)), q.1, gets_on b c v _ _ q.2 (stays (λ h. k h.offer)))
      go (inr q) (inl o) (inl a) =
          let lt = lower_than m (b.total v) (offered m g x q.0.number) (offered m g x j) q.2.new_total a in
          inr (
            fresh o (λ f k d. lt_le_trans laws lt (q.0.lowest f k d)),
            above_down (s.total v) (offered m g x q.0.number) (offered m g x j) lt q.1,
            gets o a,
          )
      go (inr q) (inl o) (inr a) =
          let same = some_same a.1 q.2.new_total in
          inr (
            more q.0 (λ d. subst (λ z. Le m z (offered m g x j)) same a.2),
            q.1,
            gets_on b c v _ _ q.2 (stays_at a.0 a.1 a.2),
          )

  partly : (v : ℕ) → ¬ Has settled v → (j : ℕ) (c : State T) → TakesTo m g settled u x s j c → Partly v j c
  partly v n zero c t = inl (λ f h. absurd (omega arith), t v)
  partly v n (suc j) c t = turn v j t.0 c n t.2 (partly v n j t.0 t.1)

  settled_stay : (v : ℕ) → Has settled v → (j : ℕ) (c : State T) → TakesTo m g settled u x s j c → Keeps s c v
  settled_stay v i zero c t = t v
  settled_stay v i (suc j) c t = keeps_on t.0 c v (settled_stay v i j t.0 t.1) (t.2.others v (λ h. h.unsettled i))

pub in_turn : {T : Type 0} {m : Scale T} (laws : Lawful m) → InTurn m
in_turn {T = T} {m} laws g l few settled u x s c t v =
    (λ i. settled_stay laws g settled u x s v i l c t, λ n. go (partly laws g settled u x s v n l c t))
  where
    go : Partly laws g settled u x s v l c → Relaxes m g s u x c v
    go (inl q) = inl (λ e o. q.0 e (few e o.usable) o, q.1)
    go (inr q) = inr (q.0.number, lowers g l few s u x v q.0 q.1, q.2)
