-- What a search backwards from an entry leaves in its tables. Assumes nothing.
use Rattle.std.proofs.Common.{◌≡◌, ℕ, ◌+◌, ◌-◌, ◌<◌, ◌≤◌, cond, not, ◌||◌, eqb, List, [], length, get_or, take, drop, Some, None, Option, unwrap_or, sym, refl, ap, ◌∙◌, subst, arith, MatchOption}
use Rattle.std.specs.Option.{option_map}
use Rattle.std.specs.List.{slice_get}
use Rattle.std.proofs.lemmas.List.{get_or-take, drop-drop}
use Rattle.measure.specs.Scale.{Scale, Lawful}
use Rattle.layout.specs.Plant.{Leg, Plant, Sound}
use Rattle.layers.specs.Turn.{turned_leg, turned as turned_plant}
use Rattle.layers.specs.Soundness.{nth_changed}
use Rattle.walks.specs.Net.{net, turned, no_leg, leg_at, junctions}
use Rattle.walks.specs.Search.{State, Searched}
use Rattle.walks.specs.Tables.{tabled, no_came_by}
use Rattle.walks.specs.Walk.{Leads, Best}
use Rattle.walks.proofs.Choosing.{some_same, none_some}
use Rattle.walks.proofs.Exists.{best_exists}
use Rattle.walks.proofs.Nets.{net_finite}
use Rattle.walks.proofs.Results.{settled_best, traced_walk, found_all}
use Rattle.walks.proofs.Turned.{turned_best}
use Rattle.search.specs.Desk.{Desk}
use Rattle.search.specs.Counted.{Counted}
use Rattle.search.specs.Explored.{Left}
use Rattle.renew.specs.Flags.{Distances}
use Rattle.renew.specs.Renewed.{Past}

-- the leg of a turned plant is the leg turned, also past the end
turned_at : (p : Plant) (e : ℕ) → leg_at (turned_plant p) e ≡ turned_leg e (leg_at p e)
turned_at p e = ap (λ o. unwrap_or o no_leg) (nth_changed turned_leg p.legs e) ∙ by (slice_get p.legs e)
  where
    by : (o : Option Leg) → unwrap_or (option_map (turned_leg e) o) no_leg ≡ turned_leg e (unwrap_or o no_leg)
    by None = refl
    by (Some l) = refl

-- the turned plant has the turned net
pub turned_net : {T : Type 0} (m : Scale T) (p : Plant) → net m (turned_plant p) ≡ turned (net m p)
turned_net m p i = record {
  tail = λ e. (turned_at p e i).tail;
  head = λ e. (turned_at p e i).head;
  weight = λ e. m.weighed (record { metres = (turned_at p e i).metres; class = (turned_at p e i).class; clearance = (turned_at p e i).clearance; turn = (turned_at p e i).turn });
  usable = λ e. (turned_at p e i).is_open;
}

module _ {T : Type 0} {m : Scale T} (laws : Lawful m) (p : Plant) (sound : Sound p) (b : ℕ) (totals : List T) (came settled : List ℕ)
    (searched : Searched m (net m (turned_plant p)) b None (tabled m b (take (junctions p) totals) (take (junctions p) came) settled)) where
  abbrev s : State T
  s = tabled m b (take (junctions p) totals) (take (junctions p) came) settled

  back : Searched m (turned (net m p)) b None s
  back = subst (λ g. Searched m g b None s) (turned_net m p) searched

  -- a total that stands is the best of the ways back
  best_back : (v : ℕ) (x : T) → s.total v ≡ Some x → Best m (net m p) v b x
  best_back v x has =
      let told = traced_walk laws (turned (net m p)) b None s back v x has in
      let in_List = (found_all laws (turned (net m p)) b s back v).1 (told.0, told.2) in
      let best = settled_best laws (turned (net m p)) b None s back v in_List in
      (turned_best laws (net m p) v b x).1 (subst (Best m (turned (net m p)) b v) (some_same best.1 has) best.2)

  -- where none stands no walk leads back
  none_back : (v : ℕ) → s.total v ≡ None → ¬ Leads (net m p) v b
  none_back v none leads =
      let best = best_exists laws (net m p) (junctions p) _ (net_finite m p sound) v b leads in
      let there = (turned_best laws (net m p) v b best.0).0 best.1 in
      let in_List = (found_all laws (turned (net m p)) b s back v).1 (there.way, there.walk) in
      none_some none (settled_best laws (turned (net m p)) b None s back v in_List).1

  -- the tables show the same as their fronts
  fronts : (v : ℕ) → v < junctions p → (tabled m b totals came []).total v ≡ s.total v
  fronts v below =
      ap (λ x. cond (eqb v b || not (eqb x no_came_by)) (Some (get_or totals v m.unit)) None) (sym (get_or-take (junctions p) came v no_came_by below))
      ∙ ap (λ x. cond (eqb v b || not (eqb (get_or (take (junctions p) came) v no_came_by) no_came_by)) (Some x) None) (sym (get_or-take (junctions p) totals v m.unit below))

  told : (v : ℕ) (o : Option T) → s.total v ≡ o → MatchOption o (¬ Leads (net m p) v b) (λ x. Best m (net m p) v b x)
  told v None none = none_back v none
  told v (Some x) has = best_back v x has

  pub distances : junctions p ≤ length totals → junctions p ≤ length came → Distances m p b totals came
  distances all_totals all_came = record {
    all_totals = all_totals;
    all_came = all_came;
    told = λ v below. subst (λ o. MatchOption o (¬ Leads (net m p) v b) (λ x. Best m (net m p) v b x)) (sym (fronts v below)) (told v (s.total v) refl);
  }

-- what the search leaves past the junction count
pub past_left : {T : Type 0} (m : Scale T) (p : Plant) (b : ℕ) (d d' : Desk T) (count : ℕ) → Left m p b None d d' count → Counted p d'.settled count → Past (junctions p) d d'
past_left m p b d d' count left counted = record {
  totals = left.past_totals;
  came = left.past_came;
  waiting = left.past_waiting;
  settled =
      let rest : count + (junctions p - count) ≡ junctions p = let few = counted.few in omega arith in
      ap (λ n. drop n d'.settled) (sym rest) ∙ sym (drop-drop (junctions p - count) count d'.settled) ∙ ap (drop (junctions p - count)) left.past_settled
      ∙ drop-drop (junctions p - count) count d.settled ∙ ap (λ n. drop n d.settled) rest;
}
