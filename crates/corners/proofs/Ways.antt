-- The walks from junction 0 to junction 4 of the small plant: there are three. Assumes nothing.
use Rattle.std.proofs.Common.{◌≡◌, ℕ, Bool, true, false, ◌&&◌, eqb, List, [], ◌∷◌, refl, arith}
use Rattle.std.proofs.lemmas.Bool.{eq-eqb, and_from}
use Rattle.measure.specs.Scale.{Scale}
use Rattle.walks.specs.Net.{Net}
use Rattle.walks.specs.Walk.{Walk}
use Rattle.walks.specs.Book.{blank}
use Rattle.walks.specs.Orders.{all_lapsed}
use Rattle.walks.specs.Answers.{route_net}
use Rattle.walks.proofs.Order.{no_both}
use Rattle.corners.specs.Small.{small}
use Rattle.corners.proofs.Legs.{each}

-- what a route to 4 may use while all halls are lapsed: every leg
abbrev pub lapsed_net : {T : Type 0} → Scale T → Net T
lapsed_net m = route_net m small blank all_lapsed 4

-- A, where the test passes
abbrev Where : Bool → Type 0 → Type 0
Where true A = A
Where false A = Unit {0}

there : (b : Bool) {A : Type 0} → b ≡ true → Where b A → A
there true h a = a
there false h a = absurd (no_both h refl)

module _ {T : Type 0} (m : Scale T) where
  -- where leg e leaves u, P holds of the walks to 4 that it begins
  abbrev Begun : ℕ → List ℕ → (List ℕ → Type 0) → ℕ → Type 0
  Begun u es P e = Where ((lapsed_net m).usable e && eqb ((lapsed_net m).tail e) u) (Walk (lapsed_net m) ((lapsed_net m).head e) es 4 → P (e ∷ es))

  begun : (u e : ℕ) (es : List ℕ) (P : List ℕ → Type 0) → Walk (lapsed_net m) u (e ∷ es) 4 → Begun u es P e → P (e ∷ es)
  begun u e es P w b = there _ (and_from _ _ w.0 (eq-eqb _ u w.1)) b w.2

  from_4 : (P : List ℕ → Type 0) → P [] → (es : List ℕ) → Walk (lapsed_net m) 4 es 4 → P es
  from_4 P a [] w = a
  from_4 P a (e ∷ es) w = begun 4 e es P w (each (Begun 4 es P) tt tt tt tt tt tt (λ l. tt) e)

  from_3 : (P : List ℕ → Type 0) → P (4 ∷ []) → (es : List ℕ) → Walk (lapsed_net m) 3 es 4 → P es
  from_3 P a [] w = absurd (omega arith)
  from_3 P a (e ∷ es) w = begun 3 e es P w (each (Begun 3 es P) tt tt tt tt (from_4 (λ fs. P (4 ∷ fs)) a es) tt (λ l. tt) e)

  from_1 : (P : List ℕ → Type 0) → P (1 ∷ 4 ∷ []) → (es : List ℕ) → Walk (lapsed_net m) 1 es 4 → P es
  from_1 P a [] w = absurd (omega arith)
  from_1 P a (e ∷ es) w = begun 1 e es P w (each (Begun 1 es P) tt (from_3 (λ fs. P (1 ∷ fs)) a es) tt tt tt tt (λ l. tt) e)

  from_2 : (P : List ℕ → Type 0) → P (3 ∷ 4 ∷ []) → P (5 ∷ 1 ∷ 4 ∷ []) → (es : List ℕ) → Walk (lapsed_net m) 2 es 4 → P es
  from_2 P a b [] w = absurd (omega arith)
  from_2 P a b (e ∷ es) w =
      begun 2 e es P w (each (Begun 2 es P) tt tt tt (from_3 (λ fs. P (3 ∷ fs)) a es) tt (from_1 (λ fs. P (5 ∷ fs)) b es) (λ l. tt) e)

  pub from_0 :
      (P : List ℕ → Type 0) → P (0 ∷ 1 ∷ 4 ∷ []) → P (2 ∷ 3 ∷ 4 ∷ []) → P (2 ∷ 5 ∷ 1 ∷ 4 ∷ []) →
      (es : List ℕ) → Walk (lapsed_net m) 0 es 4 → P es
  from_0 P a b c [] w = absurd (omega arith)
  from_0 P a b c (e ∷ es) w =
      begun 0 e es P w (each (Begun 0 es P) (from_1 (λ fs. P (0 ∷ fs)) a es) tt (from_2 (λ fs. P (2 ∷ fs)) b c es) tt tt tt (λ l. tt) e)
