-- The rule leaves one state only. Assumes nothing.
use Rattle.std.proofs.Common.{◌≡◌, ℕ, [], ◌∷◌, ◌++◌, Some, Option, sym, ap, ◌∙◌, subst, subst₂, inl, inr, le_antisymm}
use mathlib.Core.Path.{fun_ext}
use Rattle.std.proofs.lemmas.Bool.{cases_eq}
use Rattle.std.specs.List.{ContainsAt as Has}
use Rattle.measure.specs.Scale.{Scale, Lawful}
use Rattle.walks.specs.Net.{Net}
use Rattle.walks.specs.Search.{State, Settled, Begins, offered, Unmoved, Lowers, Keeps, Relaxes, Settles, Ends, Runs, ended, step}
use Rattle.walks.specs.Searches.{Determined}
use Rattle.walks.proofs.Order.{no_both, le_antisym}
use Rattle.walks.proofs.Choosing.{Whether, goal?, has?}
use Rattle.walks.proofs.Settling.{lower_than}

-- two states that agree at v
abbrev Agree : {T : Type 0} → State T → State T → ℕ → Type 0
Agree s t v = (s.total v ≡ t.total v) × (s.came v ≡ t.came v)

state_path : {T : Type 0} (s t : State T) → ((v : ℕ) → Agree s t v) → s.settled ≡ t.settled → s ≡ t
state_path s t h p = λ i. record { total = fun_ext (λ v. (h v).0) i; came = fun_ext (λ v. (h v).1) i; settled = p i }

module _ {T : Type 0} {m : Scale T} (laws : Lawful m) (g : Net T) where
  begins_once : (start : ℕ) (s t : State T) → Begins m start s → Begins m start t → s ≡ t
  begins_once start s t b c = state_path s t at (b.none_settled ∙ sym c.none_settled)
    where
      at : (v : ℕ) → Agree s t v
      at v = (go (cases_eq v start), b.no_came v ∙ sym (c.no_came v))
        where
          go : Whether (v ≡ start) → s.total v ≡ t.total v
          go (inl e) = ap s.total e ∙ b.start_unit ∙ sym c.start_unit ∙ ap t.total (sym e)
          go (inr n) = b.others v n ∙ sym (c.others v n)

  keep_agree : (s r t : State T) (v : ℕ) → Keeps s r v → Keeps s t v → Agree r t v
  keep_agree s r t v a b = (a.same_total ∙ sym b.same_total, a.same_came ∙ sym b.same_came)

  clash : (s : State T) (u : ℕ) (x : T) (v e : ℕ) → Unmoved m g s u x v → Lowers m g s u x v e → ⊥
  clash s u x v e n l =
      let k = n e l.offer in
      no_both (lower_than m (s.total v) k.0 (offered m g x e) k.1 l.lower) k.2

  relax_once : (s r t : State T) (u : ℕ) (x : T) (v : ℕ) → Relaxes m g s u x r v → Relaxes m g s u x t v → Agree r t v
  relax_once s r t u x v (inl a) (inl b) = keep_agree s r t v a.1 b.1
  relax_once s r t u x v (inl a) (inr b) = absurd (clash s u x v b.0 a.0 b.1)
  relax_once s r t u x v (inr a) (inl b) = absurd (clash s u x v a.0 b.0 a.1)
  relax_once s r t u x v (inr a) (inr b) =
      let y : offered m g x a.0 ≡ offered m g x b.0 =
      le_antisym laws (a.1.lowest b.0 b.1.offer) (b.1.lowest a.0 a.1.offer) in
      let e : a.0 ≡ b.0 = le_antisymm (a.1.first b.0 b.1.offer (sym y)) (b.1.first a.0 a.1.offer y) in
      (a.2.new_total ∙ ap {B = Option T} Some y ∙ sym b.2.new_total, a.2.new_came ∙ ap {B = Option ℕ} Some e ∙ sym b.2.new_came)

  settles_once : (goal : Option ℕ) (s r t : State T) → Settles m g goal s r → Settles m g goal s t → r ≡ t
  settles_once goal s r t a b = state_path r t (λ v. at v (has? r.settled v) (goal? goal a.next)) same_list
    where
      same_at : a.at ≡ b.at
      same_at =
          le_antisym laws (a.lowest.not_above b.next b.at b.lowest.waits)
          (b.lowest.not_above a.next a.at a.lowest.waits)

      same_next : a.next ≡ b.next
      same_next =
          le_antisymm (a.lowest.ties b.next b.at b.lowest.waits (sym same_at))
          (b.lowest.ties a.next a.at a.lowest.waits same_at)

      same_list : r.settled ≡ t.settled
      same_list = a.listed ∙ ap (λ u. s.settled ++ (u ∷ [])) same_next ∙ sym b.listed

      at : (v : ℕ) → Whether (Settled r v) → Whether (goal ≡ Some a.next) → Agree r t v
      at v (inl i) k = keep_agree s r t v (a.settled_keep v i) (b.settled_keep v (subst (λ l. Has l v) same_list i))
      at v (inr n) (inl e) = keep_agree s r t v (a.done e v) (b.done (e ∙ ap {B = Option ℕ} Some same_next) v)
      at v (inr n) (inr k) =
          relax_once s r t a.next a.at v (a.relaxed k v n)
          (subst₂ (λ u x. Relaxes m g s u x t v) (sym same_next) (sym same_at)
          (b.relaxed (λ e. k (e ∙ ap {B = Option ℕ} Some (sym same_next))) v (λ i. n (subst (λ l. Has l v) (sym same_list) i))))

  not_both : (goal : Option ℕ) (s r : State T) → Ends goal s → Settles m g goal s r → ⊥
  not_both goal s r (inl i) st = st.not_arrived i
  not_both goal s r (inr n) st = n st.next st.at st.lowest.waits

  runs_once : (goal : Option ℕ) (t t' s s' : State T) → s ≡ s' → Runs m g goal t s → Runs m g goal t' s' → t ≡ t'
  runs_once goal t t' s s' p (ended e) (ended e') = p
  runs_once goal t t' s s' p (ended e) (step {r = r'} st' rs') = absurd (not_both goal s' r' (subst (λ a. Ends goal a) p e) st')
  runs_once goal t t' s s' p (step {r = r} st rs) (ended e') = absurd (not_both goal s r (subst (λ a. Ends goal a) (sym p) e') st)
  runs_once goal t t' s s' p (step {r = r} st rs) (step {r = r'} st' rs') =
      runs_once goal t t' r r' (settles_once goal s' r r' (subst (λ a. Settles m g goal a r) p st) st') rs rs'

pub determined : {T : Type 0} {m : Scale T} (laws : Lawful m) → Determined m
determined laws g start goal s t a b =
    let same = begins_once laws g start a.first b.first a.begins b.begins in
    runs_once laws g goal s t a.first b.first same a.runs b.runs
