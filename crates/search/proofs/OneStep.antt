-- One junction is settled, by the tables and the queue. Assumes nothing.
use Rattle.std.proofs.Common.{◌≡◌, ℕ, zero, suc, ◌<◌, true, eqb, ◌≢◌, List, [], ◌∷◌, ◌++◌, length, Some, None, Option, sym, refl, ap, ◌∙◌, subst, inl, inr, ⊎_elim, arith}
use Rattle.std.specs.List.{ContainsAt as Has, AllByRecursion}
use Rattle.std.specs.Map.{update}
use Rattle.std.proofs.ByRecursion.{has_append_left, has_push, has_push_cases, All-push}
use Rattle.std.proofs.lemmas.List.{length_push}
use Rattle.std.proofs.lemmas.Map.{update_here, update_apart}
use Rattle.measure.specs.Scale.{Scale, Lawful}
use Rattle.walks.specs.Net.{Net}
use Rattle.walks.specs.Search.{State, Arrived, Lowest, Keeps, Relaxes, Settles, ended, step, Searched}
use Rattle.walks.specs.InTurn.{TakesTo}
use Rattle.walks.specs.Tables.{tabled}
use Rattle.walks.proofs.Choosing.{none_some}
use Rattle.walks.proofs.InTurn.{in_turn}
use Rattle.walks.proofs.Order.{irrefl}
use Rattle.walks.proofs.Settling.{invariant_step}
use Rattle.search.specs.Apart.{Apart}
use Rattle.search.specs.Running.{Running}
use Rattle.search.specs.Standing.{TablesOf, Stands}
use Rattle.search.specs.Waiting.{Lowest as FirstOut}
use Rattle.search.proofs.Fewer.{apart_push, few}
use Rattle.search.proofs.Tabled.{has_place}

-- legs taken from a state are taken from any that shows the same totals and came-bys
takes_from : {T : Type 0} (m : Scale T) (g : Net T) (settled : List ℕ) (u : ℕ) (x : T) (s t : State T) → ((v : ℕ) → Keeps t s v)
    → (j : ℕ) (c : State T) → TakesTo m g settled u x s j c → TakesTo m g settled u x t j c
takes_from m g settled u x s t same zero c keeps =
    λ v. record { same_total = (keeps v).same_total ∙ (same v).same_total; same_came = (keeps v).same_came ∙ (same v).same_came }
takes_from m g settled u x s t same (suc j) c (b, before, takes) = (b, takes_from m g settled u x s t same j b before, takes)

module _ {T : Type 0} {m : Scale T} (laws : Lawful m) (g : Net T) (start : ℕ) (goal : Option ℕ) (n : ℕ) (totals : List T) (came st : List ℕ) (waits : ℕ → Option T)
    (running : Running m g start goal n totals came st waits) where
  abbrev here : State T
  here = tabled m start totals came st

  -- none waits: the search ends here
  pub stuck_ends : ((q : ℕ) → waits q ≡ None) → Searched m g start goal here
  stuck_ends none =
      running.leads here (ended (inr (λ v x w. none_some (none v) (running.agrees.others_in v w.unsettled ∙ w.has))))

  -- u comes out of the queue with total x
  module _ (u : ℕ) (x : T) (first : FirstOut m waits u x) where
    abbrev longer : List ℕ
    longer = st ++ (u ∷ [])

    unsettled : ¬ Has st u
    unsettled h = none_some (running.agrees.settled_out u h) first.waits_so

    has : here.total u ≡ Some x
    has = sym (running.agrees.others_in u unsettled) ∙ first.waits_so

    pub lowest : Lowest m here u x
    lowest = record {
      waits = record { has = has; unsettled = unsettled };
      not_above = λ v y w. first.not_above v y (running.agrees.others_in v w.unsettled ∙ w.has);
      ties = λ v y w e. first.ties v y (running.agrees.others_in v w.unsettled ∙ w.has) e;
    }

    pub exists : u < n
    exists =
        let all = running.tables.all_came in
        let start_in = running.tables.start_exists in
        let place = has_place m start totals came st u x (omega arith) has in
        omega arith

    pub longer_apart : Apart longer
    longer_apart = apart_push st u running.apart unsettled

    pub longer_exist : AllByRecursion (λ v. v < n) longer
    longer_exist = All-push (λ v. v < n) st u running.exist exists

    -- there is a place for it in the settled table
    pub place_left : length st < n
    place_left = let h = few longer n longer_apart longer_exist in let k = length_push st u in omega arith

    pub longer_stands : (waits' : ℕ → Option T) → ((q : ℕ) → waits' q ≡ update eqb waits u None q) → Stands m x (tabled m start totals came longer) waits'
    longer_stands waits' out = record {
      firm = record {
        firm = λ v h.
            ⊎_elim
            (λ old. let y = running.kept.settled_has v old in (y.0, y.1, running.kept.order v y.0 u x old y.1 lowest.waits))
            (λ same. (x, subst (λ k. here.total k ≡ Some x) same has, irrefl laws x))
            (has_push_cases st u v h);
      };
      agrees = record {
        settled_out = λ v h.
            ⊎_elim
            (λ old. out v ∙ update_apart waits u None v (λ same. unsettled (subst (Has st) same old)) ∙ running.agrees.settled_out v old)
            (λ same. out v ∙ ap (update eqb waits u None) (sym same) ∙ update_here waits u None)
            (has_push_cases st u v h);
        others_in = λ v not.
            out v
            ∙ update_apart waits u None v (λ same. not (subst (Has longer) (sym same) (has_push st u)))
            ∙ running.agrees.others_in v (λ h. not (has_append_left st (u ∷ []) v h));
      };
    }

    keeps_all : (v : ℕ) → Keeps here (tabled m start totals came longer) v
    keeps_all v = record { same_total = refl; same_came = refl }

    -- u is the goal: the search ends here
    pub arrived_ends : goal ≡ Some u → Searched m g start goal (tabled m start totals came longer)
    arrived_ends is =
        running.leads (tabled m start totals came longer)
        (step (record {
          not_arrived = running.not_arrived;
          next = u;
          at = x;
          lowest = lowest;
          listed = refl;
          done = λ _. keeps_all;
          settled_keep = λ v _. keeps_all v;
          relaxed = λ not. absurd (not is);
        })
        (ended (inl (subst (λ o. Arrived o (tabled m start totals came longer)) (sym is) (has_push st u)))))

    -- u is not the goal, and its legs were taken
    module _ (legs : ℕ) (few_legs : (e : ℕ) → g.usable e ≡ true → e < legs) (not_goal : goal ≢ Some u) (totals' : List T) (came' : List ℕ) (waits' : ℕ → Option T)
        (tables' : TablesOf m n start totals' came')
        (taken : TakesTo m g longer u x (tabled m start totals came longer) legs (tabled m start totals' came' longer))
        (stands : Stands m x (tabled m start totals' came' longer) waits') where
      abbrev there : State T
      there = tabled m start totals' came' longer

      each : (v : ℕ) → (Has longer v → Keeps here there v) × (¬ Has longer v → Relaxes m g here u x there v)
      each = in_turn laws g legs few_legs longer u x here there (takes_from m g longer u x (tabled m start totals came longer) here (λ v. record { same_total = refl; same_came = refl }) legs there taken)

      settles : Settles m g goal here there
      settles = record {
        not_arrived = running.not_arrived;
        next = u;
        at = x;
        lowest = lowest;
        listed = refl;
        done = λ is. absurd (not_goal is);
        settled_keep = λ v h. (each v).0 h;
        relaxed = λ _ v out. (each v).1 out;
      }

      still_open : ¬ Arrived goal there
      still_open = by goal refl
        where
          by : (o : Option ℕ) → goal ≡ o → ¬ Arrived o there
          by None e h = h
          by (Some w) e h =
              ⊎_elim
              (λ old. running.not_arrived (subst (λ o. Arrived o here) (sym e) old))
              (λ same. not_goal (e ∙ ap Some (sym same)))
              (has_push_cases st u w h)

      pub still_running : Running m g start goal n totals' came' longer waits'
      still_running = record {
        tables = tables';
        agrees = stands.agrees;
        leads = λ t runs. running.leads t (step settles runs);
        kept = invariant_step laws g start goal here there settles running.kept;
        not_arrived = still_open;
        apart = longer_apart;
        exist = longer_exist;
      }
