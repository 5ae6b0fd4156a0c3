-- Marks still feed their hall after unmarked legs were shut or made worse. Assumes nothing.
use Rattle.std.proofs.Common.{◌≡◌, ℕ, Bool, List, [], ◌∷◌, sym, refl, ap, ◌∙◌, subst}
use Rattle.std.proofs.lemmas.Bool.{and_parts, and_from}
use Rattle.measure.specs.Scale.{Scale, Lawful}
use Rattle.walks.specs.Net.{Net, only}
use Rattle.walks.specs.Walk.{Walk, total, Best}
use Rattle.walks.specs.Marks.{Follows, Worsened, StillFeeds}
use Rattle.walks.proofs.Order.{Le, le_trans, irrefl, mono_left, mono_right}
use Rattle.walks.proofs.Walks.{only_walk, only_total}
use Rattle.walks.proofs.Feeding.{best_only}

module _ {T : Type 0} {m : Scale T} (laws : Lawful m) (g h : Net T) (marked : ℕ → Bool) (worse : Worsened m marked g h) where
  back_walk : (u : ℕ) (es : List ℕ) (v : ℕ) → Walk h u es v → Walk g u es v
  back_walk u [] v w = w
  back_walk u (e ∷ es) v w = (
    worse.still_usable e w.0,
    sym (worse.same_tail e) ∙ w.1,
    subst (λ a. Walk g a es v) (worse.same_head e) (back_walk (h.head e) es v w.2),
  )

  back_total : (u : ℕ) (es : List ℕ) (v : ℕ) → Walk h u es v → Le m (total m g es) (total m h es)
  back_total u [] v w = irrefl laws m.unit
  back_total u (e ∷ es) v w =
      le_trans laws (mono_left laws (total m g es) (worse.no_better e w.0))
      (mono_right laws (h.weight e) (back_total (h.head e) es v w.2))

  on_walk : (u : ℕ) (es : List ℕ) (v : ℕ) → Walk (only marked g) u es v → Walk (only marked h) u es v × (total m h es ≡ total m g es)
  on_walk u [] v w = (w, refl)
  on_walk u (e ∷ es) v w =
      let both = and_parts (g.usable e) (marked e) w.0 in
      let ih = on_walk (g.head e) es v w.2 in (
        (
          and_from (h.usable e) (marked e) (worse.marked_usable e both.0 both.1) both.1,
          worse.same_tail e ∙ w.1,
          subst (λ a. Walk (only marked h) a es v) (sym (worse.same_head e)) ih.0,
        ),
        ap (λ z. m.joined z (total m h es)) (worse.marked_weight e both.0 both.1) ∙ ap (m.joined (g.weight e)) ih.1,
      )

  follow : (u v : ℕ) → Follows m g marked u v → Follows m h marked u v
  follow u v follows w =
      (x, best, best_only laws h marked u v x best es on.0 t)
    where
      s : (x : T) × Best m g u v x × Best m (only marked g) u v x
      s = follows (w.0, back_walk u w.0 v w.1)

      x : T
      x = s.0

      es : List ℕ
      es = s.2.way

      on : Walk (only marked h) u es v × (total m h es ≡ total m g es)
      on = on_walk u es v s.2.walk

      t : total m h es ≡ x
      t = on.1 ∙ sym (only_total g marked m es) ∙ s.2.reached

      best : Best m h u v x
      best =
          record {
            way = es;
            walk = only_walk h marked u es v on.0;
            reached = t;
            lowest = λ fs k. le_trans laws (s.1.lowest fs (back_walk u fs v k)) (back_total u fs v k);
          }

pub still_feeds : {T : Type 0} {m : Scale T} (laws : Lawful m) → StillFeeds m
still_feeds laws g h at hall marked worse feeds =
    record {
      to_entries =
          λ b en u. follow laws g h marked worse u b
          (feeds.to_entries b
          (record {
            inside = en.inside;
            leg = en.leg;
            usable = worse.still_usable en.leg en.usable;
            leads = sym (worse.same_head en.leg) ∙ en.leads;
            outside = λ q. en.outside (ap at (worse.same_tail en.leg) ∙ q);
          })
          u);
      inside =
          λ e us i. feeds.inside e (worse.still_usable e us)
          (record {
            tail_inside = ap at (sym (worse.same_tail e)) ∙ i.tail_inside;
            head_inside = ap at (sym (worse.same_head e)) ∙ i.head_inside;
          });
    }
