-- Whether a leg is flagged can be told, so every hall has marks that are exactly the flagged legs. Assumes nothing.
use Rattle.std.proofs.Common.{◌≡◌, ℕ, Bool, true, ◌≢◌, ◌⊎◌, sym, refl, ap, ◌∙◌, subst, inl, inr}
use Rattle.std.proofs.lemmas.Bool.{cases_Bool, cases_eq}
use Rattle.measure.specs.Scale.{Scale, Lawful}
use Rattle.walks.specs.Net.{Net, Finite}
use Rattle.walks.specs.Walk.{Best}
use Rattle.walks.specs.Marks.{Entry, OnBest, BothEnds, Flagged, Exactly}
use Rattle.walks.proofs.Order.{no_both, equal?}
use Rattle.walks.proofs.Choosing.{Test, Whether, Any, any?, says, says_yes, said}
use Rattle.walks.proofs.Walks.{best_unique}
use Rattle.walks.proofs.Exists.{BestOrNone, best_or_none}

module _ {T : Type 0} {m : Scale T} (laws : Lawful m) (g : Net T) (n l : ℕ) (fin : Finite g n l) (at : ℕ → ℕ) (hall : ℕ) where
  on_best? : (e b : ℕ) → Whether (OnBest m g e b)
  on_best? e b = go (best_or_none laws g n l fin (g.head e) b) (best_or_none laws g n l fin (g.tail e) b)
    where
      both :
          (p : (x : T) × Best m g (g.head e) b x) (q : (x : T) × Best m g (g.tail e) b x) →
          Whether (m.joined (g.weight e) p.0 ≡ q.0) → Whether (OnBest m g e b)
      both p q (inl k) = inl (record { from_head = p.0; from_tail = q.0; best_head = p.1; best_tail = q.1; equal = k })
      both p q (inr k) =
          inr
          (λ o. k
          (ap (m.joined (g.weight e)) (best_unique laws g p.1 o.best_head) ∙ o.equal ∙ best_unique laws g o.best_tail q.1))

      go : BestOrNone m g (g.head e) b → BestOrNone m g (g.tail e) b → Whether (OnBest m g e b)
      go (inl p) (inl q) = both p q (equal? laws (m.joined (g.weight e) p.0) q.0)
      go (inl p) (inr k) = inr (λ o. k (o.best_tail.way, o.best_tail.walk))
      go (inr k) q = inr (λ o. k (o.best_head.way, o.best_head.walk))

  -- leg f leads into the hall, and e is on a best way there
  abbrev Enters : ℕ → ℕ → Type 0
  Enters e f = (g.usable f ≡ true) × (at (g.head f) ≡ hall) × (at (g.tail f) ≢ hall) × OnBest m g e (g.head f)

  enters? : (e f : ℕ) → Whether (Enters e f)
  enters? e f = go (cases_Bool (g.usable f)) (cases_eq (at (g.head f)) hall) (cases_eq (at (g.tail f)) hall) (on_best? e (g.head f))
    where
      go :
          Test (g.usable f) → Whether (at (g.head f) ≡ hall) → Whether (at (g.tail f) ≡ hall) → Whether (OnBest m g e (g.head f)) →
          Whether (Enters e f)
      go (inl a) (inl b) (inr c) (inl d) = inl (a, b, c, d)
      go (inl a) (inl b) (inr c) (inr d) = inr (λ h. d h.3)
      go (inl a) (inl b) (inl c) d = inr (λ h. h.2 c)
      go (inl a) (inr b) c d = inr (λ h. b h.1)
      go (inr a) b c d = inr (λ h. no_both h.0 a)

  flagged? : (e : ℕ) → Whether (Flagged m g at hall e)
  flagged? e =
      go (cases_Bool (g.usable e)) (cases_eq (at (g.tail e)) hall) (cases_eq (at (g.head e)) hall) (any? (Enters e) (enters? e) l)
    where
      by : g.usable e ≡ true → ¬ BothEnds g at hall e → Any (Enters e) l → Whether (Flagged m g at hall e)
      by a k (inl p) =
          inl
          (record {
            usable = a;
            because =
                inr (g.head p.0, record { inside = p.1.1; leg = p.0; usable = p.1.0; leads = refl; outside = p.1.2 }, p.1.3);
          })
      by a k (inr z) = inr (λ f. no f.because)
        where
          no : (BothEnds g at hall e ⊎ ((b : ℕ) × Entry g at hall b × OnBest m g e b)) → ⊥
          no (inl h) = k h
          no (inr h) =
              let en = h.1 in
              z en.leg (fin.leg_exists en.leg en.usable)
              (en.usable, ap at en.leads ∙ en.inside, en.outside, subst (λ b. OnBest m g e b) (sym en.leads) h.2)

      go :
          Test (g.usable e) → Whether (at (g.tail e) ≡ hall) → Whether (at (g.head e) ≡ hall) → Any (Enters e) l →
          Whether (Flagged m g at hall e)
      go (inr a) b c d = inr (λ f. no_both f.usable a)
      go (inl a) (inl b) (inl c) d = inl (record { usable = a; because = inl (record { tail_inside = b; head_inside = c }) })
      go (inl a) (inl b) (inr c) d = by a (λ h. c h.head_inside) d
      go (inl a) (inr b) c d = by a (λ h. b h.tail_inside) d

  -- the marks that renewing leaves
  pub flags : ℕ → Bool
  flags e = says (flagged? e)

  pub flags_exactly : Exactly m g at hall flags
  unfolding flags
  flags_exactly e = (said (flagged? e), says_yes (flagged? e))
