-- Entries are taken one after the other. Assumes nothing.
use Rattle.std.proofs.Common.{◌≡◌, ℕ, ◌+◌, ◌<◌, true, ◌⊎◌, ◌↔◌, ◌∙◌, subst, inl, inr, ⊎_elim, arith}
use Rattle.std.proofs.lemmas.Bool.{cases_eq}
use Rattle.measure.specs.Scale.{Scale}
use Rattle.layout.specs.Plant.{Plant, Sound}
use Rattle.marks.specs.Mark.{is_marked}
use Rattle.marks.specs.declared.words.Marks.{Marks}
use Rattle.walks.specs.Marks.{Entry, OnBest, Flagged}
use Rattle.walks.specs.Net.{net, junctions, hall_at}
use Rattle.walks.proofs.Nets.{net_finite}
use Rattle.search.specs.Desk.{Desk, SameTables}
use Rattle.search.specs.declared.tables.Tables.{Tables}
use Rattle.renew.specs.Flags.{LeadsBest, FlaggedTo, Written}
use Rattle.renew.specs.Renewed.{Past}
use Rattle.renew.proofs.Writing.{written_same}

module _ {T : Type 0} (m : Scale T) (p : Plant) (hall : ℕ) where
  -- some entry below k
  abbrev SomeEntry : ℕ → ℕ → Type 0
  SomeEntry k e = (b : ℕ) × (b < k) × Entry (net m p) (hall_at p) hall b × OnBest m (net m p) e b

  -- a leg that was flagged stays so
  more : (k e : ℕ) → FlaggedTo m p hall k e → FlaggedTo m p hall (k + 1) e
  more k e f = record {
    usable = f.usable;
    because = ⊎_elim inl (λ entry. inr (entry.0, (let below = entry.1 in omega arith), entry.2, entry.3)) f.because;
  }

  -- k is an entry
  pub flag_more : (k e : ℕ) → Entry (net m p) (hall_at p) hall k → (FlaggedTo m p hall k e ⊎ LeadsBest m p k e) ↔ FlaggedTo m p hall (k + 1) e
  flag_more k e entry = (⊎_elim (more k e) to, from)
    where
      to : LeadsBest m p k e → FlaggedTo m p hall (k + 1) e
      to l = record { usable = l.usable; because = inr (k, omega arith, entry, l.on_best) }

      from : FlaggedTo m p hall (k + 1) e → FlaggedTo m p hall k e ⊎ LeadsBest m p k e
      from f =
          ⊎_elim
          (λ inside. inl (record { usable = f.usable; because = inl inside }))
          (λ found.
          ⊎_elim
          (λ same. inr (record { usable = f.usable; on_best = subst (λ b. OnBest m (net m p) e b) same found.3 }))
          (λ apart. inl (record { usable = f.usable; because = inr (found.0, (let below = found.1 in omega (arith, below, apart)), found.2, found.3) }))
          (cases_eq found.0 k))
          f.because

  -- k is none
  pub flag_skip : (k e : ℕ) → ¬ Entry (net m p) (hall_at p) hall k → FlaggedTo m p hall k e ↔ FlaggedTo m p hall (k + 1) e
  flag_skip k e none = (more k e, from)
    where
      from : FlaggedTo m p hall (k + 1) e → FlaggedTo m p hall k e
      from f = record {
        usable = f.usable;
        because =
            ⊎_elim inl
            (λ found.
            ⊎_elim
            (λ same. absurd (none (subst (λ b. Entry (net m p) (hall_at p) hall b) same found.2)))
            (λ apart. inr (found.0, (let below = found.1 in omega (arith, below, apart)), found.2, found.3))
            (cases_eq found.0 k))
            f.because;
      }

  -- every entry is one of the junctions
  pub flag_all : Sound p → (e : ℕ) → FlaggedTo m p hall (junctions p) e ↔ Flagged m (net m p) (hall_at p) hall e
  flag_all sound e = (to, from)
    where
      to : FlaggedTo m p hall (junctions p) e → Flagged m (net m p) (hall_at p) hall e
      to f = record { usable = f.usable; because = ⊎_elim inl (λ found. inr (found.0, found.2, found.3)) f.because }

      exists : (b : ℕ) → Entry (net m p) (hall_at p) hall b → b < junctions p
      exists b entry = subst (λ v. v < junctions p) entry.leads ((net_finite m p sound).head_exists entry.leg entry.usable)

      from : Flagged m (net m p) (hall_at p) hall e → FlaggedTo m p hall (junctions p) e
      from f = record { usable = f.usable; because = ⊎_elim inl (λ found. inr (found.0, exists found.0 found.1, found.1, found.2)) f.because }

-- what is written twice
written_then :
    (hall n : ℕ) (P Q : ℕ → Type 0) (old mid new : Marks) → Written hall n P old mid
    → Written hall n (λ e. (is_marked mid hall e ≡ true) ⊎ Q e) mid new → Written hall n (λ e. P e ⊎ Q e) old new
written_then hall n P Q old mid new first then = record {
  exactly = λ e below. (
    (λ h. ⊎_elim (λ was. inl ((first.exactly e below).0 was)) inr ((then.exactly e below).0 h)),
    ⊎_elim (λ x. (then.exactly e below).1 (inl ((first.exactly e below).1 x))) (λ q. (then.exactly e below).1 (inr q)),
  );
  others = λ h e out. then.others h e out ∙ first.others h e out;
}

-- the turn of an entry
pub entry_turn :
    {T : Type 0} (m : Scale T) (p : Plant) (hall k n : ℕ) (old mid new : Marks) → Entry (net m p) (hall_at p) hall k
    → Written hall n (FlaggedTo m p hall k) old mid → Written hall n (λ e. (is_marked mid hall e ≡ true) ⊎ LeadsBest m p k e) mid new
    → Written hall n (FlaggedTo m p hall (k + 1)) old new
entry_turn m p hall k n old mid new entry first then =
    written_same hall n _ _ old new (λ e. flag_more m p hall k e entry) (written_then hall n (FlaggedTo m p hall k) (LeadsBest m p k) old mid new first then)

-- the turn of a junction that is none
pub other_turn :
    {T : Type 0} (m : Scale T) (p : Plant) (hall k n : ℕ) (old mid : Marks) → ¬ Entry (net m p) (hall_at p) hall k
    → Written hall n (FlaggedTo m p hall k) old mid → Written hall n (FlaggedTo m p hall (k + 1)) old mid
other_turn m p hall k n old mid none first = written_same hall n _ _ old mid (λ e. flag_skip m p hall k e none) first

pub past_then : {T : Type 0} (n : ℕ) (d e f : Desk T) → Past n d e → Past n e f → Past n d f
past_then n d e f first then = record {
  totals = then.totals ∙ first.totals;
  came = then.came ∙ first.came;
  waiting = then.waiting ∙ first.waiting;
  settled = then.settled ∙ first.settled;
}

pub both : {A B : Type 0} → A → B → A × B
both a b = (a, b)

pub same_then : {T : Type 0} {a b c : Tables T} → SameTables a b → SameTables b c → SameTables a c
same_then first then = record {
  totals = then.totals ∙ first.totals;
  came = then.came ∙ first.came;
  waiting = then.waiting ∙ first.waiting;
  settled = then.settled ∙ first.settled;
  as_many = record {
    totals = then.as_many.totals ∙ first.as_many.totals;
    came = then.as_many.came ∙ first.as_many.came;
    waiting = then.as_many.waiting ∙ first.as_many.waiting;
    settled = then.as_many.settled ∙ first.as_many.settled;
  };
}
