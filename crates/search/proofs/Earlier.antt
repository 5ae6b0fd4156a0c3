-- The leg by which a junction came leaves a junction that was settled earlier. Assumes nothing.
use Rattle.std.proofs.Common.{◌≡◌, ℕ, zero, suc, ◌<◌, true, cond, eqb, ◌≢◌, ◌⊎◌, List, [], ◌∷◌, ◌++◌, length, Some, Option, sym, refl, ap, ◌∙◌, subst, inl, inr, ⊎_elim, arith}
use Rattle.std.specs.List.{ContainsAt as Has}
use Rattle.std.proofs.ByRecursion.{has_append_left, has_append_right, has_push, has_push_cases}
use Rattle.std.proofs.lemmas.Bool.{cases_eq, eq-eqb, ne_eqb}
use Rattle.measure.specs.Scale.{Scale}
use Rattle.walks.specs.Net.{Net}
use Rattle.walks.specs.Search.{State, Settled, Keeps, Relaxes, Settles, Runs, ended, step, Searched}
use Rattle.walks.proofs.Choosing.{Whether, some_same, none_some, has?, has_none, goal?}
use Rattle.search.specs.Way.{place_in}

has_other : (x : ℕ) (xs : List ℕ) (v : ℕ) → x ≢ v → Has (x ∷ xs) v → Has xs v
has_other x xs v apart (zero, inside, at) = absurd (apart (at v))
has_other x xs v apart (suc k, inside, at) = (k, omega arith, at)

has_later : (x : ℕ) (xs : List ℕ) (v : ℕ) → Has xs v → Has (x ∷ xs) v
has_later x xs v h = has_append_right (x ∷ []) xs v h

has_first : (x : ℕ) (xs : List ℕ) → Has (x ∷ xs) x
has_first x xs = has_append_left (x ∷ []) xs x (has_push [] x)

-- where a number stands, with one more at the end
pub place_there : (xs : List ℕ) (v : ℕ) → Has xs v → place_in xs v < length xs
place_there [] v h = absurd (has_none h)
place_there (x ∷ xs) v h =
    ⊎_elim
    (λ same. subst (λ b. cond b 0 (suc (place_in xs v)) < suc (length xs)) (sym (eq-eqb x v same)) (omega arith))
    (λ apart. let k = place_there xs v (has_other x xs v apart h) in
    subst (λ b. cond b 0 (suc (place_in xs v)) < suc (length xs)) (sym (ne_eqb x v apart)) (omega arith))
    (cases_eq x v)

place_old : (xs : List ℕ) (u v : ℕ) → Has xs v → place_in (xs ++ (u ∷ [])) v ≡ place_in xs v
place_old [] u v h = absurd (has_none h)
place_old (x ∷ xs) u v h =
    ⊎_elim
    (λ same. ap (λ b. cond b 0 (suc (place_in (xs ++ (u ∷ [])) v))) (eq-eqb x v same) ∙ sym (ap (λ b. cond b 0 (suc (place_in xs v))) (eq-eqb x v same)))
    (λ apart. ap (λ k. cond (eqb x v) 0 (suc k)) (place_old xs u v (has_other x xs v apart h)))
    (cases_eq x v)

place_new : (xs : List ℕ) (u : ℕ) → ¬ Has xs u → place_in (xs ++ (u ∷ [])) u ≡ length xs
place_new [] u new = ap (λ b. cond b 0 1) (eq-eqb u u refl)
place_new (x ∷ xs) u new =
    ap (λ b. cond b 0 (suc (place_in (xs ++ (u ∷ [])) u))) (ne_eqb x u (λ same. new (subst (Has (x ∷ xs)) same (has_first x xs))))
    ∙ ap suc (place_new xs u (λ h. new (has_later x xs u h)))

-- whoever came by a leg came by a usable one, from a settled junction, and if settled itself after that
pub record Earlier {T : Type 0} (g : Net T) (s : State T) : Type 0 where
  pub usable : (v e : ℕ) → s.came v ≡ Some e → g.usable e ≡ true
  pub settled : (v e : ℕ) → s.came v ≡ Some e → Settled s (g.tail e)
  pub before : (v e : ℕ) → s.came v ≡ Some e → Settled s v → place_in s.settled (g.tail e) < place_in s.settled v

module _ {T : Type 0} (m : Scale T) (g : Net T) (goal : Option ℕ) (s t : State T) (st : Settles m g goal s t) (was : Earlier g s) where
  abbrev u : ℕ
  u = st.next

  unsettled : ¬ Has s.settled u
  unsettled = st.lowest.waits.unsettled

  old : (v : ℕ) → Settled s v → Settled t v
  old v h = subst (λ l. Has l v) (sym st.listed) (has_append_left s.settled (u ∷ []) v h)

  new : Settled t u
  new = subst (λ l. Has l u) (sym st.listed) (has_push s.settled u)

  split : (v : ℕ) → Settled t v → Settled s v ⊎ (u ≡ v)
  split v h = has_push_cases s.settled u v (subst (λ l. Has l v) st.listed h)

  -- what became of v: it keeps its came-by, or it is unsettled and got one from u
  change : (v e : ℕ) → t.came v ≡ Some e → (s.came v ≡ Some e) ⊎ ((¬ Settled t v) × (g.usable e ≡ true) × (g.tail e ≡ u))
  change v e came = by (has? t.settled v) (goal? goal u)
    where
      kept : Keeps s t v → s.came v ≡ Some e
      kept k = sym k.same_came ∙ came

      relaxed : ¬ Settled t v → Relaxes m g s u st.at t v → (s.came v ≡ Some e) ⊎ ((¬ Settled t v) × (g.usable e ≡ true) × (g.tail e ≡ u))
      relaxed out (inl (unmoved, k)) = inl (kept k)
      relaxed out (inr (f, lowers, gets)) =
          let same : f ≡ e = some_same gets.new_came came in
          inr (out, subst (λ k. g.usable k ≡ true) same lowers.offer.usable, subst (λ k. g.tail k ≡ u) same lowers.offer.leaves)

      by : Whether (Settled t v) → Whether (goal ≡ Some u) → (s.came v ≡ Some e) ⊎ ((¬ Settled t v) × (g.usable e ≡ true) × (g.tail e ≡ u))
      by (inl h) w = inl (kept (st.settled_keep v h))
      by (inr out) (inl is) = inl (kept (st.done is v))
      by (inr out) (inr not) = relaxed out (st.relaxed not v out)

  places : (a v : ℕ) → Has s.settled a → place_in s.settled a < place_in (s.settled ++ (u ∷ [])) v → place_in t.settled a < place_in t.settled v
  places a v h less = subst (λ l. place_in l a < place_in l v) (sym st.listed) (subst (λ k. k < place_in (s.settled ++ (u ∷ [])) v) (sym (place_old s.settled u a h)) less)

  pub earlier_step : Earlier g t
  earlier_step = record {
    usable = λ v e came. ⊎_elim (λ same. was.usable v e same) (λ moved. moved.1) (change v e came);
    settled = λ v e came. ⊎_elim (λ same. old (g.tail e) (was.settled v e same)) (λ moved. subst (Settled t) (sym moved.2) new) (change v e came);
    before = λ v e came h.
        ⊎_elim
        (λ same.
        let there = was.settled v e same in
        ⊎_elim
        (λ here. places (g.tail e) v there (subst (λ k. place_in s.settled (g.tail e) < k) (sym (place_old s.settled u v here)) (was.before v e same here)))
        (λ last. places (g.tail e) v there
        (subst (λ k. place_in s.settled (g.tail e) < place_in (s.settled ++ (u ∷ [])) k) last
        (subst (λ k. place_in s.settled (g.tail e) < k) (sym (place_new s.settled u unsettled)) (place_there s.settled (g.tail e) there))))
        (split v h))
        (λ moved. absurd (moved.0 h))
        (change v e came);
  }

module _ {T : Type 0} (m : Scale T) (g : Net T) (start : ℕ) (goal : Option ℕ) where
  earlier_runs : (t s : State T) → Runs m g goal t s → Earlier g s → Earlier g t
  earlier_runs t s (ended e) was = was
  earlier_runs t s (step {r = r} st rs) was = earlier_runs t r rs (earlier_step m g goal s r st was)

  -- so it is where a search has ended
  pub searched_earlier : (t : State T) → Searched m g start goal t → Earlier g t
  searched_earlier t searched = earlier_runs t searched.first searched.runs (record {
    usable = λ v e came. absurd (none_some (searched.begins.no_came v) came);
    settled = λ v e came. absurd (none_some (searched.begins.no_came v) came);
    before = λ v e came h. absurd (none_some (searched.begins.no_came v) came);
  })
