-- The order of totals: p ≤ q is `Le`, p < q is `Lt`, and joining keeps it. Assumes nothing.
use Rattle.std.proofs.Common.{◌≡◌, Bool, true, false, ◌⊎◌, sym, ◌∙◌, subst, inl, inr}
use Rattle.std.proofs.lemmas.Bool.{both_ways, cases_Bool}
use Rattle.measure.specs.Scale.{Scale, Lawful}
use Rattle.measure.proofs.Order.{not_below_itself, below_not_above, not_above}
use Rattle.walks.proofs.Choosing.{Whether}

-- p is not above q
abbrev pub Le : {T : Type 0} → Scale T → T → T → Type 0
Le m p q = m.below q p ≡ false

-- p is below q
abbrev pub Lt : {T : Type 0} → Scale T → T → T → Type 0
Lt m p q = m.below p q ≡ true

pub no_both : {b : Bool} → b ≡ true → b ≡ false → ⊥
no_both {b} p q = both_ways b q p

module _ {T : Type 0} {m : Scale T} (laws : Lawful m) where
  pub lt_or_ge : (p q : T) → Lt m p q ⊎ Le m q p
  lt_or_ge p q = cases_Bool (m.below p q)

  pub lt_le : {p q : T} → Lt m p q → Le m p q
  lt_le {p} {q} h = laws.asym p q h

  pub irrefl : (p : T) → Le m p p
  irrefl p = not_below_itself laws p

  pub le_eq : {p q : T} → p ≡ q → Le m p q
  le_eq {p} {q} e = subst (λ r. Le m p r) e (irrefl p)

  pub le_trans : {p q w : T} → Le m p q → Le m q w → Le m p w
  le_trans {p} {q} {w} a b = not_above laws p q w a b

  pub le_antisym : {p q : T} → Le m p q → Le m q p → p ≡ q
  le_antisym {p} {q} a b = laws.same p q b a

  pub lt_le_trans : {p q w : T} → Lt m p q → Le m q w → Lt m p w
  lt_le_trans {p} {q} {w} a b = below_not_above laws p q w a b

  pub equal? : (p q : T) → Whether (p ≡ q)
  equal? p q = go (lt_or_ge p q) (lt_or_ge q p)
    where
      go : (Lt m p q ⊎ Le m q p) → (Lt m q p ⊎ Le m p q) → Whether (p ≡ q)
      go (inl a) b = inr (λ e. no_both a (le_eq (sym e)))
      go (inr a) (inl b) = inr (λ e. no_both b (le_eq e))
      go (inr a) (inr b) = inl (le_antisym b a)

  pub join_unit_left : (p : T) → m.joined m.unit p ≡ p
  join_unit_left p = laws.comm m.unit p ∙ laws.neutral p

  pub mono_left : {p q : T} (w : T) → Le m p q → Le m (m.joined p w) (m.joined q w)
  mono_left {p} {q} w h = laws.mono p q w h

  pub mono_right : (w : T) {p q : T} → Le m p q → Le m (m.joined w p) (m.joined w q)
  mono_right w {p} {q} h = le_trans (le_eq (laws.comm w p)) (le_trans (mono_left w h) (le_eq (laws.comm q w)))

  -- joining never lowers
  pub le_join_right : (p w : T) → Le m p (m.joined p w)
  le_join_right p w = le_trans (le_eq (sym (laws.neutral p))) (mono_right p (laws.lowest w))

  pub le_join_left : (w p : T) → Le m p (m.joined w p)
  le_join_left w p = le_trans (le_eq (sym (join_unit_left p))) (mono_left p (laws.lowest w))
