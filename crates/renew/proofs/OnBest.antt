-- Whether a leg begins a best walk, by the tables. Assumes nothing.
use Rattle.std.proofs.Common.{◌≡◌, ℕ, ◌<◌, Bool, true, false, List, [], Some, None, Decides, Option, refl, ap, ◌∙◌, subst, MatchOption}
use Rattle.std.specs.Option.{option_map}
use Rattle.std.proofs.lemmas.Bool.{both_ways}
use Rattle.measure.specs.Scale.{Scale, Lawful}
use Rattle.layout.specs.Plant.{Plant, Sound}
use Rattle.walks.specs.Net.{net, junctions, leg_at, weight_if_any}
use Rattle.walks.specs.Tables.{tabled}
use Rattle.walks.specs.Walk.{Leads, Best}
use Rattle.walks.proofs.Walks.{best_unique}
use Rattle.renew.specs.Flags.{Distances, LeadsBest}
use Rattle.renew.proofs.Reaching.{leg_open}

-- the ends of an open leg exist
pub tail_exists : (p : Plant) → Sound p → (e : ℕ) → (leg_at p e).is_open ≡ true → (leg_at p e).tail < junctions p
tail_exists p sound e is_open = (sound.each_leg e (leg_at p e) (leg_open p e is_open)).tail_exists

pub head_exists : (p : Plant) → Sound p → (e : ℕ) → (leg_at p e).is_open ≡ true → (leg_at p e).head < junctions p
head_exists p sound e is_open = (sound.each_leg e (leg_at p e) (leg_open p e is_open)).head_exists

module _ {T : Type 0} {m : Scale T} (laws : Lawful m) (p : Plant) (sound : Sound p) (b : ℕ) (totals : List T) (came : List ℕ) (d : Distances m p b totals came) where
  abbrev at : ℕ → Option T
  at v = (tabled m b totals came []).total v

  -- where a total stands it is the best
  told_best : (v : ℕ) (x : T) → v < junctions p → at v ≡ Some x → Best m (net m p) v b x
  told_best v x in_range e = subst (λ o. MatchOption o (¬ Leads (net m p) v b) (λ y. Best m (net m p) v b y)) e (d.told v in_range)

  -- where none stands there is no best total
  told_none : (v : ℕ) (x : T) → v < junctions p → at v ≡ None → Best m (net m p) v b x → ⊥
  told_none v x in_range e best = subst (λ o. MatchOption o (¬ Leads (net m p) v b) (λ y. Best m (net m p) v b y)) e (d.told v in_range) (best.way, best.walk)

  module _ (e : ℕ) (is_open : (leg_at p e).is_open ≡ true) where
    abbrev tail_in : (leg_at p e).tail < junctions p
    tail_in = tail_exists p sound e is_open

    abbrev head_in : (leg_at p e).head < junctions p
    head_in = head_exists p sound e is_open

    -- both ends have totals, and the weight is compared
    pub compared : (x y : T) (r : Bool) → at (leg_at p e).head ≡ Some x → at (leg_at p e).tail ≡ Some y
        → Decides r (m.joined ((net m p).weight e) x ≡ y) → Decides r (LeadsBest m p b e)
    compared x y r here there decides =
        let best_head = told_best (leg_at p e).head x head_in here in
        let best_tail = told_best (leg_at p e).tail y tail_in there in
        let to : r ≡ true → LeadsBest m p b e = λ hit. record {
          usable = is_open;
          on_best = record { from_head = x; from_tail = y; best_head = best_head; best_tail = best_tail; equal = decides.0 hit };
        } in
        let back : LeadsBest m p b e → r ≡ true = λ l. decides.1 (
        ap (m.joined ((net m p).weight e)) (best_unique laws (net m p) best_head l.on_best.best_head)
        ∙ l.on_best.equal ∙ best_unique laws (net m p) l.on_best.best_tail best_tail) in
        (to, back)

    -- no walk leads from one of the ends
    pub no_head : at (leg_at p e).head ≡ None → Decides false (LeadsBest m p b e)
    no_head none = ((λ h. absurd (both_ways false refl h)), (λ l. absurd (told_none (leg_at p e).head l.on_best.from_head head_in none l.on_best.best_head)))

    pub no_tail : at (leg_at p e).tail ≡ None → Decides false (LeadsBest m p b e)
    no_tail none = ((λ h. absurd (both_ways false refl h)), (λ l. absurd (told_none (leg_at p e).tail l.on_best.from_tail tail_in none l.on_best.best_tail)))

-- the weight of a leg that exists
pub weight_there : {T : Type 0} (m : Scale T) (p : Plant) (e : ℕ) (w : T) → (leg_at p e).is_open ≡ true → Some w ≡ weight_if_any m p e → w ≡ (net m p).weight e
weight_there m p e w is_open asked =
    let here : Some w ≡ Some ((net m p).weight e) = asked ∙ ap (option_map (λ l. (net m p).weight e)) (leg_open p e is_open) in
    let same : w ≡ (net m p).weight e = cc in
    same
