-- Legs that begin best walks to a junction suffice for a best walk there. A best walk's rest can have the same total as the whole, so the
-- proof goes by how many junctions are nearer, and then by the walk. Assumes nothing.
use Rattle.std.proofs.Common.{◌≡◌, ℕ, zero, suc, ◌<◌, Bool, true, false, ◌⊎◌, List, [], ◌∷◌, sym, refl, ap, ◌∙◌, subst, inl, inr, arith}
use Rattle.std.proofs.lemmas.Bool.{and_from}
use Rattle.measure.specs.Scale.{Scale, Lawful}
use Rattle.walks.specs.Net.{Net, Finite, only}
use Rattle.walks.specs.Walk.{Walk, total, Best}
use Rattle.walks.specs.Marks.{OnBest}
use Rattle.walks.proofs.Order.{Le, Lt, no_both, le_antisym, le_trans, le_eq, lt_le, lt_or_ge, lt_le_trans, mono_right, le_join_left}
use Rattle.walks.proofs.Counting.{count, count_lt}
use Rattle.walks.proofs.Walks.{best_unique}
use Rattle.walks.proofs.Exists.{BestOrNone, best_or_none}

module _ {T : Type 0} {m : Scale T} (laws : Lawful m) (g : Net T) (n l : ℕ) (fin : Finite g n l) (b : ℕ) where
  abbrev Near : ℕ → Type 0
  Near v = BestOrNone m g v b

  near : (v : ℕ) → Near v
  near v = best_or_none laws g n l fin v b

  -- the junction is nearer to b than x
  abbrev closer_of : {v : ℕ} → Near v → T → Bool
  closer_of (inl p) x = m.below p.0 x
  closer_of (inr k) x = false

  closer_up : (v : ℕ) (o : Near v) (x y : T) → Lt m x y → closer_of {v = v} o x ≡ true → closer_of {v = v} o y ≡ true
  closer_up v (inl p) x y h c = lt_le_trans laws c (lt_le laws h)
  closer_up v (inr k) x y h c = absurd (no_both c refl)

  closer_yes : (v : ℕ) (o : Near v) (x y : T) → Best m g v b x → Lt m x y → closer_of {v = v} o y ≡ true
  closer_yes v (inl p) x y c h = subst (λ z. Lt m z y) (best_unique laws g c p.1) h
  closer_yes v (inr k) x y c h = absurd (k (c.way, c.walk))

  closer_no : (v : ℕ) (o : Near v) (x : T) → Best m g v b x → closer_of {v = v} o x ≡ false
  closer_no v (inl p) x c = le_eq laws (best_unique laws g c p.1)
  closer_no v (inr k) x c = refl

  -- how many junctions are nearer to b than x
  rank : T → ℕ
  rank x = count (λ v. closer_of {v = v} (near v) x) n

  rank_lt : (v : ℕ) (x y : T) → v < n → Best m g v b x → Lt m x y → rank x < rank y
  unfolding rank
  rank_lt v x y k c h =
      count_lt (λ i. closer_of {v = i} (near i) x) (λ i. closer_of {v = i} (near i) y) (λ i. closer_up i (near i) x y h) v
      (closer_no v (near v) x c) (closer_yes v (near v) x y c h) n k

  module _ (ok : ℕ → Bool) (fit : (e : ℕ) → g.usable e ≡ true → OnBest m g e b → ok e ≡ true) where
    -- a walk of marked legs with total x
    abbrev Good : ℕ → T → Type 0
    Good u x = (fs : List ℕ) × Walk (only ok g) u fs b × (total m g fs ≡ x)

    -- best walks of rank below r can be had of marked legs
    abbrev Goods : ℕ → Type 0
    Goods r = (es : List ℕ) (u : ℕ) (x : T) → Walk g u es b → total m g es ≡ x → Best m g u b x → rank x < r → Good u x

    -- one leg before such a walk
    extend :
        (e : ℕ) (x y : T) → g.usable e ≡ true → Best m g (g.tail e) b x → Best m g (g.head e) b y → (es : List ℕ) →
        Walk g (g.head e) es b → total m g (e ∷ es) ≡ x → Good (g.head e) y → Good (g.tail e) x
    extend e x y us bx by es w t d = (
      e ∷ d.0,
      (
        and_from (g.usable e) (ok e) us
            (fit e us (record { from_head = y; from_tail = x; best_head = by; best_tail = bx; equal = eq })),
        refl,
        d.1,
      ),
      ap (m.joined (g.weight e)) d.2 ∙ eq,
    )
      where
        le : Le m (m.joined (g.weight e) y) x
        le = le_trans laws (mono_right laws (g.weight e) (by.lowest es w)) (le_eq laws t)

        ge : Le m x (m.joined (g.weight e) y)
        ge = le_trans laws (bx.lowest (e ∷ by.way) (us, refl, by.walk)) (le_eq laws (ap (m.joined (g.weight e)) by.reached))

        eq : m.joined (g.weight e) y ≡ x
        eq = le_antisym laws le ge

    inner : (r : ℕ) → Goods r → Goods (suc r)
    inner r outer [] u x w t bx k = ([], w, t)
    inner r outer (e ∷ es) u x w t bx k =
        subst (λ a. Good a x) w.1
        (extend e x y w.0 (subst (λ a. Best m g a b x) (sym w.1) bx) by es w.2 t
        (go (lt_or_ge laws y x) (inner r outer es (g.head e) y w.2)))
      where
        near_head : Near (g.head e)
        near_head = near (g.head e)

        found : (o : Near (g.head e)) → (z : T) × Best m g (g.head e) b z
        found (inl p) = p
        found (inr q) = absurd (q (es, w.2))

        y : T
        y = (found near_head).0

        by : Best m g (g.head e) b y
        by = (found near_head).1

        y_es : Le m y (total m g es)
        y_es = by.lowest es w.2

        es_x : Le m (total m g es) x
        es_x = le_trans laws (le_join_left laws (g.weight e) (total m g es)) (le_eq laws t)

        go :
            (Lt m y x ⊎ Le m x y) → (total m g es ≡ y → Best m g (g.head e) b y → rank y < suc r → Good (g.head e) y) → Good (g.head e) y
        go (inl lt) ih =
            let q = rank_lt (g.head e) y x (fin.head_exists e w.0) by lt in
            outer by.way (g.head e) y by.walk by.reached by (omega arith)
        go (inr le) ih =
            let same : x ≡ y = le_antisym laws le (le_trans laws y_es es_x) in
            ih (le_antisym laws (le_trans laws es_x le) y_es) by (subst (λ z. rank z < suc r) same k)

    goods : (r : ℕ) → Goods r
    goods zero es u x w t bx k = absurd (omega arith)
    goods (suc r) es u x w t bx k = inner r (goods r) es u x w t bx k

    pub good : (u : ℕ) (x : T) → Best m g u b x → Good u x
    good u x bx = goods (suc (rank x)) bx.way u x bx.walk bx.reached bx (omega arith)
