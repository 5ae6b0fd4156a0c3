-- An order that strikes no hall with these marks does them no harm. Assumes nothing.
use Rattle.std.proofs.Common.{◌≡◌, ℕ, Bool, true, false, not, ◌&&◌, ◌||◌, ◌⊎◌, Some, Option, sym, refl, ap, ◌∙◌, subst, inl, inr}
use mathlib.Core.Bool.{and-false}
use Rattle.std.proofs.lemmas.Bool.{cases_eq, and_cases, or_parts}
use Rattle.measure.specs.Scale.{Scale, Lawful}
use Rattle.layout.specs.Plant.{Leg, Plant}
use Rattle.walks.specs.Net.{net, no_leg, leg_at, figures_of}
use Rattle.walks.specs.Marks.{Worsened}
use Rattle.walks.specs.Book.{Call, shut, set, Replaced, Book, amended, with_book, put, entered}
use Rattle.walks.specs.Orders.{worse, better, strikes}
use Rattle.walks.proofs.Order.{Le, no_both, irrefl, le_antisym}
use Rattle.walks.proofs.Choosing.{Whether}
use Rattle.walks.proofs.Entries.{put_other, put_same, between}

module _ {T : Type 0} {m : Scale T} (laws : Lawful m) (plant : Plant) (b : Book) (marked : ℕ → Bool) where
  abbrev weight : Leg → T
  weight l = m.weighed (figures_of l)

  -- leg i became l' from l, and the marks may stand
  record Harmless (i : ℕ) (l l' : Leg) : Type 0 where
    same_tail : l'.tail ≡ l.tail
    same_head : l'.head ≡ l.head
    still_open : l'.is_open ≡ true → l.is_open ≡ true
    no_better : l'.is_open ≡ true → Le m (weight l) (weight l')
    marked_open : l.is_open ≡ true → marked i ≡ true → l'.is_open ≡ true
    marked_weight : l.is_open ≡ true → marked i ≡ true → weight l' ≡ weight l

  unchanged : (i : ℕ) (l l' : Leg) → l' ≡ l → Harmless i l l'
  unchanged i l l' q =
      subst (Harmless i l) (sym q)
      (record {
        same_tail = refl;
        same_head = refl;
        still_open = λ h. h;
        no_better = λ h. irrefl laws (weight l);
        marked_open = λ h k. h;
        marked_weight = λ h k. refl;
      })

  -- leg i before an order and after it
  abbrev old : ℕ → Leg
  old i = leg_at (with_book plant b) i

  abbrev new : Call → ℕ → Leg
  new order i = leg_at (with_book plant (entered b order)) i

  worsened :
      (order : Call) → ((i : ℕ) → Harmless i (old i) (new order i)) →
      Worsened m marked (net m (with_book plant b)) (net m (with_book plant (entered b order)))
  worsened order h =
      record {
        same_tail = λ i. (h i).same_tail;
        same_head = λ i. (h i).same_head;
        still_usable = λ i. (h i).still_open;
        no_better = λ i. (h i).no_better;
        marked_usable = λ i. (h i).marked_open;
        marked_weight = λ i. (h i).marked_weight;
      }

  module _ (e : ℕ) (quiet : strikes m plant b marked (shut e) ≡ false) where
    -- leg e, unmarked, is now shut
    shut_leg :
        (i : ℕ) → i ≡ e → (l : Leg) →
        Harmless i (amended (b.sign i) (b.replaced i) l) (amended (put e true b.sign i) (b.replaced i) l)
    shut_leg i q l =
        record {
          same_tail = refl;
          same_head = refl;
          still_open = λ h. absurd (no_both h now_shut);
          no_better = λ h. absurd (no_both h now_shut);
          marked_open = λ h k. absurd (no_both k (ap marked q ∙ quiet));
          marked_weight = λ h k. absurd (no_both k (ap marked q ∙ quiet));
        }
      where
        now_shut : (l.is_open && not (put e true b.sign i)) ≡ false
        now_shut = ap (λ s. l.is_open && not s) (put_same e true b.sign i q) ∙ and-false l.is_open

    pub shut_quiet : Worsened m marked (net m (with_book plant b)) (net m (with_book plant (entered b (shut e))))
    shut_quiet =
        worsened (shut e) (λ i. between plant (Harmless i) b (entered b (shut e)) i (at i (cases_eq i e)) (unchanged i no_leg no_leg refl))
      where
        at :
            (i : ℕ) → Whether (i ≡ e) → (l : Leg) →
            Harmless i (amended (b.sign i) (b.replaced i) l) (amended (put e true b.sign i) (b.replaced i) l)
        at i (inl q) l = shut_leg i q l
        at i (inr n) l = unchanged i _ _ (ap (λ s. amended s (b.replaced i) l) (put_other e true b.sign i n))

  module _ (e class clearance : ℕ) (quiet : strikes m plant b marked (set e class clearance) ≡ false) where
    abbrev order : Call
    order = set e class clearance

    as_open : (i : ℕ) → (new order i).is_open ≡ (old i).is_open
    as_open i = between plant (λ l l'. l'.is_open ≡ l.is_open) b (entered b order) i (λ l. refl) refl

    -- an open leg did not get better, and if it is marked it did not get worse
    unstruck : (old e).is_open ≡ true → (better m plant b e order ≡ false) × (marked e ≡ true → worse m plant b e order ≡ false)
    unstruck h = go (and_cases (old e).is_open ((worse m plant b e order && marked e) || better m plant b e order) quiet)
      where
        not_worse : (w : Bool) → (w && marked e) ≡ false → marked e ≡ true → w ≡ false
        not_worse true q k = absurd (no_both k q)
        not_worse false q k = refl

        go :
            (((old e).is_open ≡ false) ⊎ (((worse m plant b e order && marked e) || better m plant b e order) ≡ false)) →
            (better m plant b e order ≡ false) × (marked e ≡ true → worse m plant b e order ≡ false)
        go (inl q) = absurd (no_both h q)
        go (inr q) =
            let parts = or_parts (worse m plant b e order && marked e) (better m plant b e order) q in
            (parts.1, not_worse (worse m plant b e order) parts.0)

    set_leg : Harmless e (old e) (new order e)
    set_leg =
        record {
          same_tail = between plant (λ l l'. l'.tail ≡ l.tail) b (entered b order) e (λ l. refl) refl;
          same_head = between plant (λ l l'. l'.head ≡ l.head) b (entered b order) e (λ l. refl) refl;
          still_open = λ h. sym (as_open e) ∙ h;
          no_better = λ h. (unstruck (sym (as_open e) ∙ h)).0;
          marked_open = λ h k. as_open e ∙ h;
          marked_weight = λ h k. let u = unstruck h in le_antisym laws (u.1 k) u.0;
        }

    pub set_quiet : Worsened m marked (net m (with_book plant b)) (net m (with_book plant (entered b order)))
    set_quiet = worsened order (λ i. at i (cases_eq i e))
      where
        given : Option Replaced
        given = Some (record { class = class; clearance = clearance })

        at : (i : ℕ) → Whether (i ≡ e) → Harmless i (old i) (new order i)
        at i (inl q) = subst (λ j. Harmless j (old j) (new order j)) (sym q) set_leg
        at i (inr n) =
            unchanged i (old i) (new order i)
            (between plant (λ l l'. l' ≡ l) b (entered b order) i
            (λ l. ap (λ r. amended (b.sign i) r l) (put_other e given b.replaced i n)) refl)
