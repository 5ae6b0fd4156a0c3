-- From what a search left in its tables to what it answers. Assumes nothing.
use Rattle.std.proofs.Common.{◌≡◌, ℕ, suc, ◌<◌, ◌≤◌, Bool, true, false, cond, not, ◌||◌, eqb, ltb, ◌≢◌, List, [], ◌∷◌, length, get_or, take, drop, Some, None, Ok, Err, Option, Result, sym, refl, ap, ◌∙◌, subst, inr, ⊎_elim, arith}
use Rattle.std.specs.List.{ContainsAt as Has}
use Rattle.std.proofs.lemmas.List.{get_or-take, get_or_default, length-take-le}
use Rattle.std.proofs.ByRecursion.{has_append_right, has_append_left, has_push}
use Rattle.std.proofs.lemmas.Bool.{lt-ltb, ltb-true, cases_eq, ne_eqb}
use Rattle.layout.specs.declared.refusal.Refusal.{Refusal}
use Rattle.measure.specs.Scale.{Scale, Lawful}
use Rattle.layout.specs.Plant.{Plant, Sound}
use Rattle.layout.specs.Refused.{refuse_unless}
use Rattle.layout.specs.declared.refusal.Refusal.TheVariants.{NoJunction}
use Rattle.walks.specs.Book.{short_table}
use Rattle.walks.specs.Net.{net, junctions, leg_at}
use Rattle.walks.specs.Search.{State, Settled, Searched}
use Rattle.walks.specs.Search as rule
use Rattle.walks.specs.Tables.{tabled, no_came_by}
use Rattle.walks.specs.Tables as table
use Rattle.walks.proofs.Choosing.{none_some, some_same}
use Rattle.walks.proofs.Nets.{net_finite}
use Rattle.walks.proofs.Results.{settled_best, traced_walk, found_exactly}
use Rattle.walks.specs.Walk.{Walk, total, Best}
use Rattle.search.specs.Answered.{Reached, Stranded, search_due, CarriedOut, Answered}
use Rattle.search.specs.declared.found.Found.{Found}
use Rattle.search.specs.Desk.{Desk}
use Rattle.search.specs.Traces.{Tailed, Falling, TracedBack}
use Rattle.search.specs.Way.{Traced, origin, back, Falls, came_by, tail_of, place_in}
use Rattle.search.proofs.Earlier.{Earlier, searched_earlier}
use Rattle.search.proofs.Tabled.{has_place, at_start, by_a_leg, by_none}

-- whoever has a place in a list stands in it
pub there_place : (xs : List ℕ) (v : ℕ) → place_in xs v < length xs → Has xs v
there_place [] v less = absurd (omega arith)
there_place (x ∷ xs) v less =
    ⊎_elim
    (λ same. subst (Has (x ∷ xs)) same (has_append_left (x ∷ []) xs x (has_push [] x)))
    (λ apart.
    let more : suc (place_in xs v) < suc (length xs) = subst (λ b. cond b 0 (suc (place_in xs v)) < suc (length xs)) (ne_eqb x v apart) less in
    has_append_right (x ∷ []) xs v (there_place xs v (omega arith)))
    (cases_eq x v)

module _ {T : Type 0} {m : Scale T} (laws : Lawful m) (p : Plant) (sound : Sound p) (start : ℕ) (goal : Option ℕ) (totals : List T) (came settled : List ℕ)
    (start_in : start < junctions p) (long : junctions p ≤ length came)
    (searched : Searched m (net m p) start goal (tabled m start (take (junctions p) totals) (take (junctions p) came) settled)) where
  abbrev n : ℕ
  n = junctions p

  abbrev s : State T
  s = tabled m start (take n totals) (take n came) settled

  all_came : length (take n came) ≡ n
  all_came = length-take-le n came long

  -- a settled junction is one of the plant's
  pub settled_exists : (v : ℕ) → Settled s v → v < n
  settled_exists v h =
      let best = settled_best laws (net m p) start goal s searched v h in
      let inside = has_place m start (take n totals) (take n came) settled v best.0 (subst (λ k. start < k) (sym all_came) start_in) best.1 in
      subst (λ k. v < k) all_came inside

  -- the came-by table shows what the state has
  pub same_came : (v : ℕ) → v < n → s.came v ≡ came_by came v
  same_came v less = ap table.came_by (get_or-take n came v no_came_by less ∙ get_or_default came v no_came_by 0 (omega arith))

  earlier : Earlier (net m p) s
  earlier = searched_earlier m (net m p) start goal s searched

  module _ (tails : List ℕ) (tailed : Tailed p tails) where
    leg_is : (v e : ℕ) → Settled s v → came_by came v ≡ Some e → s.came v ≡ Some e
    leg_is v e h came_e = same_came v (settled_exists v h) ∙ came_e

    leg_in : (v e : ℕ) → Settled s v → came_by came v ≡ Some e → e < length p.legs
    leg_in v e h came_e = (net_finite m p sound).leg_exists e (earlier.usable v e (leg_is v e h came_e))

    tail_is : (v e : ℕ) → Settled s v → came_by came v ≡ Some e → tail_of tails e ≡ (leg_at p e).tail
    tail_is v e h came_e = tailed.tail e (leg_in v e h came_e)

    pub falls : Falls came tails settled
    falls = record {
      known = λ v less. let here = settled_exists v (there_place settled v less) in omega arith;
      leg = λ v e less came_e.
          let h = there_place settled v less in
          let e_in = leg_in v e h came_e in
          let few = sound.few_legs in
          let wide = tailed.wide in
          omega arith;
      earlier = λ v e less came_e.
          let h = there_place settled v less in
          subst (λ k. place_in settled k < place_in settled v) (sym (tail_is v e h came_e)) (earlier.before v e (leg_is v e h came_e) h);
    }

    -- a way traced in the tables is traced by the rule
    pub traced_rule : (v : ℕ) (way : List ℕ) → Settled s v → Traced (came_by came) (tail_of tails) v way → rule.Traced (net m p) s v way
    traced_rule v way h (origin none) = rule.origin (same_came v (settled_exists v h) ∙ none)
    traced_rule v way h (back {e = e} {es = es} came_e rest) =
        let is = tail_is v e h came_e in
        let there : Settled s (tail_of tails e) = subst (Settled s) (sym is) (earlier.settled v e (leg_is v e h came_e)) in
        rule.back (leg_is v e h came_e) (subst (λ k. rule.Traced (net m p) s k es) is (traced_rule (tail_of tails e) es there rest))

  pub falling : Falling p came settled
  falling tails tailed = falls tails tailed

  pub traced_back : (v : ℕ) (way : List ℕ) → Settled s v → TracedBack p came v way → rule.Traced (net m p) s v way
  traced_back v way h (tails, tailed, traced) = traced_rule tails tailed v way h traced

-- what the tables tell of the goal
module _ {T : Type 0} {m : Scale T} (laws : Lawful m) (p : Plant) (start goal : ℕ) (totals : List T) (came settled : List ℕ)
    (long : junctions p ≤ length came) (goal_in : goal < junctions p)
    (searched : Searched m (net m p) start (Some goal) (tabled m start (take (junctions p) totals) (take (junctions p) came) settled)) where
  abbrev s' : State T
  s' = tabled m start (take (junctions p) totals) (take (junctions p) came) settled

  front_came : get_or (take (junctions p) came) goal no_came_by ≡ get_or came goal 0
  front_came = get_or-take (junctions p) came goal no_came_by goal_in ∙ get_or_default came goal no_came_by 0 (omega arith)

  front_total : (d : T) → junctions p ≤ length totals → get_or (take (junctions p) totals) goal m.unit ≡ get_or totals goal d
  front_total d far = get_or-take (junctions p) totals goal m.unit goal_in ∙ get_or_default totals goal m.unit d (omega arith)

  -- the fronts of the tables show of the goal what the tables show
  pub front_shows : s'.total goal ≡ (tabled m start totals came []).total goal
  front_shows =
      ap (λ k. cond (eqb goal start || not (eqb k no_came_by)) (Some (get_or (take (junctions p) totals) goal m.unit)) None) (get_or-take (junctions p) came goal no_came_by goal_in)
      ∙ ap (λ x. cond (eqb goal start || not (eqb (get_or came goal no_came_by) no_came_by)) (Some x) None) (get_or-take (junctions p) totals goal m.unit goal_in)

  -- a goal with a total was settled
  pub with_total : (x : T) → s'.total goal ≡ Some x → Settled s' goal
  with_total x has =
      let told = traced_walk laws (net m p) start (Some goal) s' searched goal x has in
      (found_exactly laws (net m p) start goal s' searched).1 (told.0, told.2)

  pub total_at_start : (d : T) → junctions p ≤ length totals → goal ≡ start → s'.total goal ≡ Some (get_or totals goal d)
  total_at_start d far same =
      ap s'.total same ∙ at_start m start (take (junctions p) totals) (take (junctions p) came) settled
      ∙ ap (λ k. Some (get_or (take (junctions p) totals) k m.unit)) (sym same) ∙ ap Some (front_total d far)

  pub total_by_leg : (d : T) → junctions p ≤ length totals → get_or came goal 0 ≢ no_came_by → s'.total goal ≡ Some (get_or totals goal d)
  total_by_leg d far some =
      by_a_leg m start (take (junctions p) totals) (take (junctions p) came) settled goal (λ none. some (sym front_came ∙ none)) ∙ ap Some (front_total d far)

  pub stranded : s'.total goal ≡ None → (way : List ℕ) → Stranded (net m p) start goal s' way way
  stranded no_total way =
      let out : ¬ Settled s' goal = λ h. none_some no_total (settled_best laws (net m p) start (Some goal) s' searched goal h).1 in
      record { unsettled = out; no_walk = λ leads. out ((found_exactly laws (net m p) start goal s' searched).1 leads); same_way = refl }

  -- the same of another goal than the start that nothing came by
  pub stranded_by_none : goal ≢ start → get_or came goal 0 ≡ no_came_by → (way : List ℕ) → Stranded (net m p) start goal s' way way
  stranded_by_none apart none way = stranded (by_none m start (take (junctions p) totals) (take (junctions p) came) settled goal apart (front_came ∙ none)) way

  -- the way that was traced is a best walk
  pub reached : (x : T) → s'.total goal ≡ Some x → (count legs : ℕ) (way way' : List ℕ) → rule.Traced (net m p) s' goal (take legs way')
      → legs ≤ length way' → drop legs way' ≡ drop legs way
      → Reached m (net m p) start goal s' way way' (record { total = x; settled = count; legs = legs })
  reached x has count legs way way' traced room past =
      let h = with_total x has in
      let told = traced_walk laws (net m p) start (Some goal) s' searched goal x has in
      let only_way : take legs way' ≡ told.0 = told.4 (take legs way') traced in
      let best = settled_best laws (net m p) start (Some goal) s' searched goal h in
      record {
        settled = h;
        has_total = has;
        best = subst (Best m (net m p) start goal) (some_same best.1 has) best.2;
        traced = traced;
        walk = subst (λ es. Walk (net m p) start es goal) (sym only_way) told.2;
        weighs = ap (total m (net m p)) only_way ∙ told.3;
        whole_way = length-take-le legs way' room;
        past_way = past;
      }

-- what was carried out is what is answered
pub carried_answered : {T : Type 0} (m : Scale T) (p : Plant) (start goal : ℕ) (d : Desk T) (way : List ℕ) (d' : Desk T) (way' : List ℕ) (r : Result (Found T) Refusal)
    → CarriedOut m p start goal d way d' way' r → Answered m p start goal d way d' way' r
carried_answered m p start goal d way d' way' (Ok f) carried = carried
carried_answered m p start goal d way d' way' (Err e) carried = inr carried

-- nothing speaks against the search where both junctions exist and each table has its places
pub none_due : {T : Type 0} (p : Plant) (start goal : ℕ) (d : Desk T) (way : List ℕ) → start < junctions p → goal < junctions p
    → short_table (junctions p) 1 (length d.totals ∷ length d.came ∷ length d.waiting ∷ length d.settled ∷ length way ∷ []) ≡ None
    → search_due p start goal d way ≡ None
none_due p start goal d way start_in goal_in sizes =
    let sizes_of = short_table (junctions p) 1 (length d.totals ∷ length d.came ∷ length d.waiting ∷ length d.settled ∷ length way ∷ []) in
    ap (λ b. refuse_unless b (NoJunction 1) (refuse_unless (ltb goal (junctions p)) (NoJunction 2) sizes_of)) (lt-ltb start (junctions p) start_in)
    ∙ ap (λ b. refuse_unless b (NoJunction 2) sizes_of) (lt-ltb goal (junctions p) goal_in)
    ∙ sizes

-- a check that refuses nothing is passed, and so are those after it
passed : (b : Bool) (r : Refusal) (later : Option Refusal) → refuse_unless b r later ≡ None → (b ≡ true) × (later ≡ None)
passed true r later none = (refl, none)
passed false r later none = let z : ◌≡◌ {A = ℕ} 0 1 = cc in absurd (let w : ⊥ = omega arith in w)

-- a search that is not refused before it begins has a goal that exists
pub goal_there : {T : Type 0} (p : Plant) (start goal : ℕ) (d : Desk T) (way : List ℕ) → search_due p start goal d way ≡ None → goal < junctions p
goal_there p start goal d way none =
    let later = (passed (ltb start (junctions p)) (NoJunction 1) _ none).1 in
    ltb-true goal (junctions p) (passed (ltb goal (junctions p)) (NoJunction 2) _ later).0
