-- How many junctions a search has settled: no junction is settled twice. Assumes nothing.
use Rattle.std.proofs.Common.{◌≡◌, ℕ, ◌+◌, ◌<◌, Bool, ◌≢◌, ◌⊎◌, List, [], ◌∷◌, ◌++◌, length, Option, sym, ◌∙◌, subst, inl, inr, arith, length-append}
use Rattle.std.proofs.ByRecursion.{has_append_left, has_push, has_push_cases}
use Rattle.std.specs.List.{ContainsAt as Has}
use Rattle.measure.specs.Scale.{Scale, Lawful}
use Rattle.walks.specs.Net.{Net, Finite}
use Rattle.walks.specs.Walk.{Walk}
use Rattle.walks.specs.Search.{State, Settled, Settles, Runs, ended, step, Searched}
use Rattle.walks.proofs.Choosing.{Whether, has_none, has?, says, says_yes, says_no}
use Rattle.walks.proofs.Frontier.{Invariant, reach_walk}
use Rattle.walks.proofs.Settling.{invariant_begin, invariant_step}
use Rattle.corners.proofs.Tally.{tally, tally_none, tally_all, tally_more}

-- whether the list has the number
abbrev has : List ℕ → ℕ → Bool
has us v = says (has? us v)

has_same : (us : List ℕ) (u v : ℕ) → v ≢ u → has (us ++ (u ∷ [])) v ≡ has us v
has_same us u v n = go (has? us v)
  where
    not : ¬ Has us v → (Has us v ⊎ (u ≡ v)) → ⊥
    not k (inl i) = k i
    not k (inr q) = n (sym q)

    go : (d : Whether (Has us v)) → has (us ++ (u ∷ [])) v ≡ says d
    go (inl i) = says_yes (has? (us ++ (u ∷ [])) v) (has_append_left us (u ∷ []) v i)
    go (inr k) = says_no (has? (us ++ (u ∷ [])) v) (λ i. not k (has_push_cases us u v i))

module _ {T : Type 0} {m : Scale T} (laws : Lawful m) (g : Net T) (n l : ℕ) (fin : Finite g n l) (start : ℕ) (exists : start < n)
    (goal : Option ℕ) where
  -- a walk from a junction leads to a junction
  within : (es : List ℕ) (u v : ℕ) → u < n → Walk g u es v → v < n
  within [] u v h w = subst (λ a. a < n) w h
  within (e ∷ es) u v h w = within es (g.head e) v (fin.head_exists e w.0) w.2

  -- as many are settled as there are settled junctions
  abbrev Even : List ℕ → Type 0
  Even us = length us ≡ tally (has us) n

  even_step : (s t : State T) → Settles m g goal s t → Invariant m g start goal s → Even s.settled → Even t.settled
  even_step s t st inv h =
      let r = inv.reached st.next st.at st.lowest.waits.has in
      let here : st.next < n = within r.0 start st.next exists (reach_walk laws g start s r.1) in
      let more =
      tally_more (has s.settled) (has (s.settled ++ (st.next ∷ []))) st.next
      (says_no (has? s.settled st.next) st.lowest.waits.unsettled)
      (says_yes (has? (s.settled ++ (st.next ∷ [])) st.next) (has_push s.settled st.next))
      (λ i k. has_same s.settled st.next i k) n here in
      let long : length (s.settled ++ (st.next ∷ [])) ≡ length s.settled + 1 = length-append s.settled (st.next ∷ []) in
      subst Even (sym st.listed) (omega arith)

  even_runs : (t s : State T) → Runs m g goal t s → Invariant m g start goal s → Even s.settled → Even t.settled
  even_runs t s (ended e) inv h = h
  even_runs t s (step {r = r} st rs) inv h = even_runs t r rs (invariant_step laws g start goal s r st inv) (even_step s r st inv h)

  -- a search that settled every junction has settled as many as there are
  pub settles_every : (t : State T) → Searched m g start goal t → ((v : ℕ) → v < n → Settled t v) → length t.settled ≡ n
  settles_every t r all =
      even_runs t r.first r.runs (invariant_begin laws g start goal r.first r.begins)
      (subst Even (sym r.begins.none_settled) (sym (tally_none (has []) (λ i. says_no (has? [] i) has_none) n)))
      ∙ tally_all (has t.settled) n (λ v h. says_yes (has? t.settled v) (all v h))
