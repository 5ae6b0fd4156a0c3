-- Marks on flagged legs feed their hall, and marks that feed a hall serve it. Assumes nothing.
use Rattle.std.proofs.Common.{◌≡◌, ℕ, Bool, true, ◌⊎◌, List, [], ◌∷◌, ◌++◌, sym, refl, ap, ◌∙◌, subst, inl, inr}
use Rattle.std.proofs.lemmas.Bool.{and_from, cases_eq}
use Rattle.measure.specs.Scale.{Scale, Lawful}
use Rattle.walks.specs.Net.{Net, Finite, only}
use Rattle.walks.specs.Walk.{Walk, total, Best}
use Rattle.walks.specs.Marks.{Entry, OnBest, BothEnds, Covers, Follows, Feeds, Serves, FlagsFeed, FeedsServe}
use Rattle.walks.proofs.Order.{Le, le_antisym, le_trans, le_eq, mono_left}
use Rattle.walks.proofs.Walks.{walk_append, total_append, total_one, only_walk, only_total}
use Rattle.walks.proofs.Exists.{best_exists}
use Rattle.walks.proofs.Nearer.{good}
use Rattle.walks.proofs.Choosing.{Whether}

module _ {T : Type 0} {m : Scale T} (laws : Lawful m) (g : Net T) where
  -- a best walk that has marked legs only is a best walk of the marked legs
  pub best_only :
      (marked : ℕ → Bool) (u v : ℕ) (x : T) → Best m g u v x → (es : List ℕ) → Walk (only marked g) u es v → total m g es ≡ x →
      Best m (only marked g) u v x
  best_only marked u v x bx es w t =
      record {
        way = es;
        walk = w;
        reached = only_total g marked m es ∙ t;
        lowest = λ fs k. subst (λ z. Le m x z) (sym (only_total g marked m fs)) (bx.lowest fs (only_walk g marked u fs v k));
      }

  module _ (at : ℕ → ℕ) (hall : ℕ) where
    -- all legs of the walk lie in the hall
    abbrev Inside : List ℕ → Type 0
    Inside [] = Unit {0}
    Inside (e ∷ es) = BothEnds g at hall e × Inside es

    -- the walk's last entry into the hall
    record Enters (u v : ℕ) (z : T) : Type 0 where
      by : ℕ
      entry : Entry g at hall by
      before : List ℕ
      after : List ℕ
      to : Walk g u before by
      from : Walk g by after v
      inside : Inside after
      parts : z ≡ m.joined (total m g before) (total m g after)

    enters : (u : ℕ) (es : List ℕ) (v : ℕ) → Walk g u es v → at v ≡ hall → (Inside es × (at u ≡ hall)) ⊎ Enters u v (total m g es)
    enters u [] v w h = inl (tt, ap at w ∙ h)
    enters u (e ∷ es) v w h = go (enters (g.head e) es v w.2 h) (cases_eq (at (g.tail e)) hall)
      where
        go :
            ((Inside es × (at (g.head e) ≡ hall)) ⊎ Enters (g.head e) v (total m g es)) → Whether (at (g.tail e) ≡ hall) →
            (Inside (e ∷ es) × (at u ≡ hall)) ⊎ Enters u v (m.joined (g.weight e) (total m g es))
        go (inl i) (inl k) = inl ((record { tail_inside = k; head_inside = i.1 }, i.0), ap at (sym w.1) ∙ k)
        go (inl i) (inr k) =
            inr
            (record {
              by = g.head e;
              entry = record { inside = i.1; leg = e; usable = w.0; leads = refl; outside = k };
              before = e ∷ [];
              after = es;
              to = (w.0, w.1, refl);
              from = w.2;
              inside = i.0;
              parts = ap (λ z. m.joined z (total m g es)) (sym (total_one laws g e));
            })
        go (inr c) k =
            inr
            (record {
              by = c.by;
              entry = c.entry;
              before = e ∷ c.before;
              after = c.after;
              to = (w.0, w.1, c.to);
              from = c.from;
              inside = c.inside;
              parts =
                  ap (m.joined (g.weight e)) c.parts ∙ sym (laws.assoc (g.weight e) (total m g c.before) (total m g c.after));
            })

    module _ (marked : ℕ → Bool) (n l : ℕ) (fin : Finite g n l) where
      -- best walks to the entries have flagged legs only
      feed : Covers m g at hall marked → Feeds m g at hall marked
      feed covers = record { to_entries = to; inside = λ e us i. covers e (record { usable = us; because = inl i }) }
        where
          to_entry : (b : ℕ) → Entry g at hall b → (e : ℕ) → g.usable e ≡ true → OnBest m g e b → marked e ≡ true
          to_entry b en e us o = covers e (record { usable = us; because = inr (b, en, o) })

          to : (b : ℕ) → Entry g at hall b → (u : ℕ) → Follows m g marked u b
          to b en u w =
              let x = best_exists laws g n l fin u b w in
              let d = good laws g n l fin b marked (to_entry b en) u x.0 x.1 in
              (x.0, x.1, best_only marked u b x.0 x.1 d.0 d.1 d.2)

      module _ (feeds : Feeds m g at hall marked) where
        inside_walk : (u : ℕ) (es : List ℕ) (v : ℕ) → Walk g u es v → Inside es → Walk (only marked g) u es v
        inside_walk u [] v w i = w
        inside_walk u (e ∷ es) v w i =
            (and_from (g.usable e) (marked e) w.0 (feeds.inside e w.0 i.0), w.1, inside_walk (g.head e) es v w.2 i.1)

        -- a best walk to its last entry, and on inside the hall
        serve : Serves m g at hall marked
        serve u v h w = (best.0, best.1, go (enters u best.1.way v best.1.walk h))
          where
            best : (x : T) × Best m g u v x
            best = best_exists laws g n l fin u v w

            go : ((Inside best.1.way × (at u ≡ hall)) ⊎ Enters u v (total m g best.1.way)) → Best m (only marked g) u v best.0
            go (inl i) =
                best_only marked u v best.0 best.1 best.1.way (inside_walk u best.1.way v best.1.walk i.0)
                best.1.reached
            go (inr c) =
                best_only marked u v best.0 best.1 (way ++ c.after) joined_walk
                (le_antisym laws low (best.1.lowest (way ++ c.after) (only_walk g marked u (way ++ c.after) v joined_walk)))
              where
                d : (x : T) × Best m g u c.by x × Best m (only marked g) u c.by x
                d = feeds.to_entries c.by c.entry u (c.before, c.to)

                way : List ℕ
                way = d.2.way

                joined_walk : Walk (only marked g) u (way ++ c.after) v
                joined_walk =
                    walk_append (only marked g) u way c.after c.by v d.2.walk
                    (inside_walk c.by c.after v c.from c.inside)

                split : total m g (way ++ c.after) ≡ m.joined d.0 (total m g c.after)
                split =
                    total_append laws g way c.after
                    ∙ ap (λ z. m.joined z (total m g c.after)) (sym (only_total g marked m way) ∙ d.2.reached)

                low : Le m (total m g (way ++ c.after)) best.0
                low =
                    le_trans laws (le_eq laws split)
                    (le_trans laws (mono_left laws (total m g c.after) (d.1.lowest c.before c.to))
                    (le_eq laws (sym c.parts ∙ best.1.reached)))

pub flags_feed : {T : Type 0} {m : Scale T} (laws : Lawful m) → FlagsFeed m
flags_feed laws g n l fin at hall marked covers = feed laws g at hall marked n l fin covers

pub feeds_serve : {T : Type 0} {m : Scale T} (laws : Lawful m) → FeedsServe m
feeds_serve laws g n l fin at hall marked feeds = serve laws g at hall marked n l fin feeds

-- a lapsed hall has every leg marked
pub lapsed_feed :
    {T : Type 0} {m : Scale T} (laws : Lawful m) (g : Net T) (n l : ℕ) → Finite g n l → (at : ℕ → ℕ) (hall : ℕ) (marked : ℕ → Bool) →
    ((e : ℕ) → marked e ≡ true) → Feeds m g at hall marked
lapsed_feed laws g n l fin at hall marked all = feed laws g at hall marked n l fin (λ e f. all e)
