-- Which legs of the small plant are flagged for a hall, and which are not. Assumes nothing.
use Rattle.std.proofs.Common.{◌≡◌, ℕ, true, ◌≢◌, ◌⊎◌, sym, refl, ap, ◌∙◌, subst, inl, inr, arith}
use Rattle.measure.specs.Scale.{Scale, Lawful}
use Rattle.walks.specs.Net.{Net, net, hall_at}
use Rattle.walks.specs.Walk.{Best}
use Rattle.walks.specs.Marks.{Entry, OnBest, BothEnds, Flagged}
use Rattle.walks.proofs.Order.{no_both}
use Rattle.walks.proofs.Walks.{best_unique}
use Rattle.corners.specs.Small.{small}
use Rattle.corners.proofs.Legs.{past_legs, each}

abbrev pub small_net : {T : Type 0} → Scale T → Net T
small_net m = net m small

abbrev pub Flag : {T : Type 0} → Scale T → ℕ → ℕ → Type 0
Flag m hall e = Flagged m (small_net m) (hall_at small) hall e

module _ {T : Type 0} (m : Scale T) where
  -- why a leg is flagged
  abbrev Because : ℕ → ℕ → Type 0
  Because hall e =
      BothEnds (small_net m) (hall_at small) hall e
      ⊎ ((b : ℕ) × Entry (small_net m) (hall_at small) hall b × OnBest m (small_net m) e b)

  -- hall 0 has no entry
  pub none_0 : (b : ℕ) → ¬ Entry (small_net m) (hall_at small) 0 b
  none_0 b n = go n.leg n.usable n.leads n.outside
    where
      Not : ℕ → Type 0
      Not l = (small_net m).usable l ≡ true → (small_net m).head l ≡ b → hall_at small ((small_net m).tail l) ≢ 0 → ⊥

      past_0 : 4 ≡ b → ⊥
      past_0 h = let k : ◌≡◌ {A = ℕ} 1 0 = ap (hall_at small) h ∙ n.inside in omega arith

      go : (l : ℕ) → Not l
      go =
          each Not (λ u h o. o refl) (λ u h o. o refl) (λ u h o. o refl) (λ u h o. o refl) (λ u h o. past_0 h) (λ u h o. o refl)
          (λ l u h o. no_both u refl)

  -- hall 1 has the entry 3, and no other
  entry_3 : Entry (small_net m) (hall_at small) 1 3
  entry_3 = record { inside = refl; leg = 1; usable = refl; leads = refl; outside = λ k. omega arith }

  only_3 : (b : ℕ) → Entry (small_net m) (hall_at small) 1 b → b ≡ 3
  only_3 b n = go n.leg n.usable n.leads n.outside
    where
      Is3 : ℕ → Type 0
      Is3 l = (small_net m).usable l ≡ true → (small_net m).head l ≡ b → hall_at small ((small_net m).tail l) ≢ 1 → b ≡ 3

      in_0 : (v : ℕ) → hall_at small v ≡ 0 → v ≡ b → b ≡ 3
      in_0 v q h = let k : hall_at small v ≡ 1 = ap (hall_at small) h ∙ n.inside in omega arith

      go : (l : ℕ) → Is3 l
      go =
          each Is3 (λ u h o. in_0 1 refl h) (λ u h o. sym h) (λ u h o. in_0 2 refl h) (λ u h o. sym h) (λ u h o. absurd (o refl))
          (λ u h o. in_0 1 refl h) (λ l u h o. absurd (no_both u refl))

  -- a leg with both ends in the hall is flagged for it
  pub inside :
      (hall e : ℕ) → (small_net m).usable e ≡ true → hall_at small ((small_net m).tail e) ≡ hall → hall_at small ((small_net m).head e) ≡ hall →
      Flag m hall e
  inside hall e u t h = record { usable = u; because = inl (record { tail_inside = t; head_inside = h }) }

  -- a leg whose head lies outside is not flagged for hall 0
  pub outside : (e : ℕ) → hall_at small ((small_net m).head e) ≢ 0 → ¬ Flag m 0 e
  outside e o f = go f.because
    where
      go : Because 0 e → ⊥
      go (inl k) = o k.head_inside
      go (inr k) = none_0 k.0 k.1

  -- what is no leg is flagged for no hall
  pub no_leg : (hall l : ℕ) → ¬ Flag m hall (past_legs l)
  no_leg hall l f = no_both f.usable refl

  module _ (laws : Lawful m) (e : ℕ) {x y : T} (tail : Best m (small_net m) ((small_net m).tail e) 3 x)
      (head : Best m (small_net m) ((small_net m).head e) 3 y) where
    -- a leg that begins a best walk to 3 is flagged for hall 1
    pub on : (small_net m).usable e ≡ true → m.joined ((small_net m).weight e) y ≡ x → Flag m 1 e
    on u q =
        record {
          usable = u;
          because = inr (3, entry_3, record { from_head = y; from_tail = x; best_head = head; best_tail = tail; equal = q });
        }

    -- a leg from outside that begins none is not
    pub off : hall_at small ((small_net m).tail e) ≢ 1 → m.joined ((small_net m).weight e) y ≢ x → ¬ Flag m 1 e
    off o n f = go f.because
      where
        to_3 : OnBest m (small_net m) e 3 → ⊥
        to_3 k =
            n (subst (λ z. m.joined ((small_net m).weight e) z ≡ x) (best_unique laws (small_net m) k.best_head head)
            (k.equal ∙ best_unique laws (small_net m) k.best_tail tail))

        go : Because 1 e → ⊥
        go (inl k) = o k.tail_inside
        go (inr k) = to_3 (subst (OnBest m (small_net m) e) (only_3 k.0 k.1) k.2)
