-- After any list of calls the marks left feed their halls. Assumes nothing.
use Rattle.std.proofs.Common.{◌≡◌, ℕ, Bool, true, false, not, ◌&&◌, ◌||◌, ◌⊎◌, List, [], ◌∷◌, length, Some, None, Option, sym, refl, ap, ◌∙◌, subst, inl, inr, MatchOption}
use mathlib.Core.Path.{fun_ext}
use Rattle.std.proofs.lemmas.Bool.{both_ways, cases_Bool, cases_eq, and_cases, or_left, or_right, not-false}
use Rattle.measure.specs.Scale.{Scale, Lawful}
use Rattle.layout.specs.Plant.{Plant, Sound}
use Rattle.layout.specs.Refused.{unless}
use Rattle.layout.specs.declared.refusal.Refusal.{Refusal}
use Rattle.walks.specs.Net.{net, junctions, hall_at}
use Rattle.walks.specs.Marks.{Feeds, Worsened}
use Rattle.walks.specs.Book.{Call, shut, reopen, set, renew, route, Book, blank, with_book, refusal_of, entered, after, kept}
use Rattle.walks.specs.Orders.{Marks, all_lapsed, lapsed, strikes, lapsing, Acts, Turns, Leaves}
use Rattle.walks.proofs.Order.{no_both}
use Rattle.walks.proofs.Feeding.{flags_feed, lapsed_feed}
use Rattle.walks.proofs.Worsening.{still_feeds}
use Rattle.walks.proofs.Entries.{finite}
use Rattle.walks.proofs.Quiet.{shut_quiet, set_quiet}
use Rattle.walks.proofs.Choosing.{Test, Whether}

or_false : (x y : Bool) → y ≡ false → (x || y) ≡ x
or_false true y h = refl
or_false false y h = h

module _ {T : Type 0} {m : Scale T} (laws : Lawful m) (plant : Plant) (sound : Sound plant) where
  abbrev Fed : Book → ℕ → (ℕ → Bool) → Type 0
  Fed b h marked = Feeds m (net m (with_book plant b)) (hall_at plant) h marked

  -- the marks feed every hall of the book's layout, and a lapsed hall has every leg marked
  pub record Holds (b : Book) (k : Marks) : Type 0 where
    pub feeds : (h : ℕ) → Fed b h (k.marked h)
    pub out : (h : ℕ) → k.force h ≡ false → (e : ℕ) → k.marked h e ≡ true

  fed_lapsed : (b : Book) (h : ℕ) (marked : ℕ → Bool) → ((e : ℕ) → marked e ≡ true) → Fed b h marked
  fed_lapsed b h marked all =
      lapsed_feed laws (net m (with_book plant b)) (junctions plant) (length plant.legs) (finite plant m sound b) (hall_at plant) h
      marked all

  -- the order shuts or worsens no marked leg, and betters none
  abbrev Unharmed : Book → Call → (ℕ → Bool) → Type 0
  Unharmed b order marked = Worsened m marked (net m (with_book plant b)) (net m (with_book plant (entered b order)))

  -- an order lapses the halls that it strikes, and to the others it does no harm
  order_holds :
      (b : Book) (k : Marks) (order : Call) →
      ((h : ℕ) → strikes m plant b (k.marked h) order ≡ false → Unharmed b order (k.marked h)) →
      Holds b k → Holds (entered b order) (lapsed (lapsing m plant b k order) k)
  order_holds b k order worse holds = record { feeds = λ h. fed h (cases_Bool (lapsing m plant b k order h)); out = out }
    where
      new : ℕ → ℕ → Bool
      new h e = k.marked h e || lapsing m plant b k order h

      fed : (h : ℕ) → Test (lapsing m plant b k order h) → Fed (entered b order) h (new h)
      fed h (inl q) = fed_lapsed (entered b order) h (new h) (λ e. or_right (k.marked h e) (lapsing m plant b k order h) q)
      fed h (inr q) =
          subst (Fed (entered b order) h) (sym (fun_ext (λ e. or_false (k.marked h e) (lapsing m plant b k order h) q)))
          (go (and_cases (k.force h) (strikes m plant b (k.marked h) order) q))
        where
          go : ((k.force h ≡ false) ⊎ (strikes m plant b (k.marked h) order ≡ false)) → Fed (entered b order) h (k.marked h)
          go (inl f) = fed_lapsed (entered b order) h (k.marked h) (holds.out h f)
          go (inr n) =
              still_feeds laws (net m (with_book plant b)) (net m (with_book plant (entered b order))) (hall_at plant) h (k.marked h)
              (worse h n) (holds.feeds h)

      out : (h : ℕ) → (k.force h && not (lapsing m plant b k order h)) ≡ false → (e : ℕ) → new h e ≡ true
      out h f e = go (and_cases (k.force h) (not (lapsing m plant b k order h)) f)
        where
          go : ((k.force h ≡ false) ⊎ (not (lapsing m plant b k order h) ≡ false)) → new h e ≡ true
          go (inl q) = or_left (k.marked h e) (lapsing m plant b k order h) (holds.out h q e)
          go (inr q) = or_right (k.marked h e) (lapsing m plant b k order h) (not-false (lapsing m plant b k order h) q)

  acts_hold : (b : Book) (k k' : Marks) (call : Call) → Acts m plant b k call k' → Holds b k → Holds (entered b call) k'
  acts_hold b k k' (shut e) a holds =
      subst (Holds (entered b (shut e))) (sym a) (order_holds b k (shut e) (λ h n. shut_quiet laws plant b (k.marked h) e n) holds)
  acts_hold b k k' (reopen e) a holds =
      subst (Holds (entered b (reopen e))) (sym a) (order_holds b k (reopen e) (λ h n. absurd (both_ways true n refl)) holds)
  acts_hold b k k' (set e c l) a holds =
      subst (Holds (entered b (set e c l))) (sym a)
      (order_holds b k (set e c l) (λ h n. set_quiet laws plant b (k.marked h) e c l n) holds)
  acts_hold b k k' (route u v t c w s y) a holds = subst (Holds b) (sym a) holds
  acts_hold b k k' (renew hall t c w s) a holds = record { feeds = λ h. fed h (cases_eq h hall); out = λ h f. out h f (cases_eq h hall) }
    where
      fed : (h : ℕ) → Whether (h ≡ hall) → Fed b h (k'.marked h)
      fed h (inl q) =
          subst (λ i. Fed b i (k'.marked i)) (sym q)
          (flags_feed laws (net m (with_book plant b)) (junctions plant) (length plant.legs) (finite plant m sound b) (hall_at plant)
          hall (k'.marked hall) (λ e. (a.exactly e).1))
      fed h (inr n) = subst (Fed b h) (sym (fun_ext (λ e. (a.others h n).same_marks e))) (holds.feeds h)

      out : (h : ℕ) → k'.force h ≡ false → Whether (h ≡ hall) → (e : ℕ) → k'.marked h e ≡ true
      out h f (inl q) e = absurd (no_both (ap k'.force q ∙ a.in_force) f)
      out h f (inr n) e = let st = a.others h n in st.same_marks e ∙ holds.out h (sym st.same_force ∙ f) e

  turn_holds : (b : Book) (k k' : Marks) (call : Call) → Turns m plant b k call k' → Holds b k → Holds (after plant b call) k'
  turn_holds b k k' call t holds = go (refusal_of plant b call) t
    where
      go : (o : Option Refusal) → MatchOption o (Acts m plant b k call k') (λ r. k' ≡ k) → Holds (unless o b (entered b call)) k'
      go None a = acts_hold b k k' call a holds
      go (Some r) e = subst (Holds b) (sym e) holds

  pub leaves_hold : (calls : List Call) (b : Book) (k k' : Marks) → Leaves m plant b k calls k' → Holds b k → Holds (kept plant b calls) k'
  leaves_hold [] b k k' e holds = subst (Holds b) (sym e) holds
  leaves_hold (call ∷ calls) b k k' l holds =
      leaves_hold calls (after plant b call) l.0 k' l.2 (turn_holds b k l.0 call l.1 holds)

  pub begin_holds : Holds blank all_lapsed
  begin_holds = record { feeds = λ h. fed_lapsed blank h (λ e. true) (λ e. refl); out = λ h f e. refl }
