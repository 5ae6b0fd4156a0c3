-- What a search without a goal has settled. Assumes nothing.
use Rattle.std.proofs.Common.{◌≡◌, ℕ, ◌<◌, ◌≤◌, List, length, get_or, take, None, Ok, Err, Result, unwrap_or, sym, ap, ◌∙◌, subst}
use Rattle.std.proofs.lemmas.List.{get_or-take}
use Rattle.measure.specs.Scale.{Scale, Lawful}
use Rattle.layout.specs.Plant.{Plant, Sound}
use Rattle.layout.specs.declared.refusal.Refusal.{Refusal}
use Rattle.layout.specs.declared.refusal.Refusal.TheVariants.{NoWay}
use Rattle.walks.specs.Net.{Net, net, junctions}
use Rattle.walks.specs.Search.{State, Settled}
use Rattle.walks.specs.Walk.{Best}
use Rattle.walks.proofs.Results.{settled_best, found_all}
use Rattle.search.specs.Answered.{shown, Told}
use Rattle.search.specs.Desk.{Desk}
use Rattle.search.specs.Counted.{Counted, AllCounted, SettledAll}
use Rattle.search.specs.declared.found.Found.{Found}
use Rattle.search.specs.Explored.{Left}
use Rattle.search.proofs.Guiding.{settled_exists}

module _ {T : Type 0} {m : Scale T} (laws : Lawful m) (p : Plant) (sound : Sound p) (start : ℕ) (d d' : Desk T) (count : ℕ)
    (start_in : start < junctions p) (long : junctions p ≤ length d'.came)
    (left : Left m p start None d d' count) where
  abbrev s : State T
  s = shown m p start d' count

  inside : (v : ℕ) → Settled s v → v < junctions p
  inside = settled_exists laws p sound start None d'.totals d'.came (take count d'.settled) start_in long left.searched

  -- the totals table has the best total of a settled junction
  best_there : (v : ℕ) → Settled s v → Best m (net m p) start v (get_or d'.totals v m.unit)
  best_there v h =
      let best = settled_best laws (net m p) start None s left.searched v h in
      let stands : best.0 ≡ get_or d'.totals v m.unit =
      sym (ap (λ o. unwrap_or o m.unit) best.1) ∙ sym (left.held.totals_held v) ∙ get_or-take (junctions p) d'.totals v m.unit (inside v h) in
      subst (Best m (net m p) start v) stands best.2

  pub settled_all : SettledAll m p start d' count
  settled_all = record { exactly = found_all laws (net m p) start s left.searched; within = inside; best = best_there }

same_way_count : (n k : ℕ) → NoWay n ≡ NoWay k → n ≡ k
same_way_count n k e = cc

-- whatever a search tells, it counts what it settled
pub all_counted : {T : Type 0} (m : Scale T) (g : Net T) (p : Plant) (start goal : ℕ) (s : State T) (count : ℕ) (way way' settled : List ℕ) (r : Result (Found T) Refusal)
    → Told m g start goal s count way way' r → Counted p settled count → AllCounted p settled r
all_counted m g p start goal s count way way' settled (Ok f) told counted = subst (Counted p settled) (sym told.0) counted
all_counted m g p start goal s count way way' settled (Err r) told counted = λ n e. subst (Counted p settled) (same_way_count count n (sym told.0 ∙ e)) counted
