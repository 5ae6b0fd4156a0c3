-- Nets of plants have finitely many legs and junctions. Assumes nothing.
use Rattle.std.proofs.Common.{◌≡◌, ℕ, ◌<◌, Bool, true, length, Some, None, Option, unwrap_or, sym, refl, ap, subst}
use Rattle.std.proofs.lemmas.Bool.{and_parts}
use Rattle.std.specs.List.{slice_get}
use Rattle.measure.specs.Scale.{Scale}
use Rattle.layout.specs.Plant.{Leg, Plant, Sound}
use Rattle.layout.proofs.Listed.{nth_within}
use Rattle.walks.specs.Net.{Net, net, only, Finite, no_leg, leg_at, junctions}
use Rattle.walks.proofs.Order.{no_both}

-- a leg that is open is one of the plant's
open_leg : (plant : Plant) (e : ℕ) → (leg_at plant e).is_open ≡ true → (l : Leg) × (slice_get plant.legs e ≡ Some l) × (leg_at plant e ≡ l)
open_leg plant e h = go (slice_get plant.legs e) refl
  where
    go : (o : Option Leg) → slice_get plant.legs e ≡ o → (l : Leg) × (slice_get plant.legs e ≡ Some l) × (leg_at plant e ≡ l)
    go None q = absurd (no_both h (ap (λ o. (unwrap_or o no_leg).is_open) q))
    go (Some l) q = (l, q, ap (λ o. unwrap_or o no_leg) q)

pub net_finite : {T : Type 0} (m : Scale T) (plant : Plant) → Sound plant → Finite (net m plant) (junctions plant) (length plant.legs)
net_finite m plant sound =
    record {
      leg_exists = λ e h. let o = open_leg plant e h in nth_within plant.legs e o.0 o.1;
      head_exists = λ e h.
          let o = open_leg plant e h in
          subst (λ l. l.head < junctions plant) (sym o.2) (sound.each_leg e o.0 o.1).head_exists;
    }

-- so has a net with fewer of the same legs
pub fewer_finite :
    {T : Type 0} (g h : Net T) (n l : ℕ) → ((e : ℕ) → h.usable e ≡ true → g.usable e ≡ true) → ((e : ℕ) → h.head e ≡ g.head e) →
    Finite g n l → Finite h n l
fewer_finite g h n l usable heads fin =
    record {
      leg_exists = λ e u. fin.leg_exists e (usable e u);
      head_exists = λ e u. subst (λ v. v < n) (sym (heads e)) (fin.head_exists e (usable e u));
    }

pub only_finite : {T : Type 0} (marked : ℕ → Bool) (g : Net T) (n l : ℕ) → Finite g n l → Finite (only marked g) n l
only_finite marked g n l fin = fewer_finite g (only marked g) n l (λ e u. (and_parts (g.usable e) (marked e) u).0) (λ e. refl) fin
