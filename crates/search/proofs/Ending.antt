-- What a search leaves in tables of which it was handed the fronts. Assumes nothing.
use Rattle.std.proofs.Common.{◌≡◌, ℕ, ◌≤◌, List, ◌++◌, length, take, drop, Option, sym, ap, ◌∙◌, subst, arith}
use borrow.Rule.Slice.PartMut.{post_of}
use Rattle.measure.specs.Scale.{Scale}
use Rattle.layout.specs.Plant.{Plant}
use Rattle.walks.specs.Net.{net, junctions}
use Rattle.walks.specs.Search.{Searched}
use Rattle.walks.specs.Tables.{tabled, Held}
use Rattle.std.proofs.lemmas.List.{length-take-le}
use Rattle.search.specs.Counted.{Counted}
use Rattle.search.specs.Explored.{Left}
use Rattle.search.specs.Standing.{TablesOf}
use Rattle.search.specs.declared.slot.Slot.{Slot}
use Rattle.search.proofs.Fronts.{front_is, past_is, list_is, past_list}
use Rattle.search.proofs.Tabled.{tables_held}

module _ {T : Type 0} (m : Scale T) (p : Plant) (start : ℕ) (goal : Option ℕ) (k : ℕ) (whole : k ≡ junctions p)
    (totals ts : List T) (came cs : List ℕ) (waiting ws : List (Slot T)) (settled ss : List ℕ)
    (all_waiting : length ws ≡ junctions p) (all_settled : length ss ≡ junctions p) (long : junctions p ≤ length settled)
    (count : ℕ) (few : count ≤ junctions p) (tables : TablesOf m (junctions p) start ts cs)
    (searched : Searched m (net m p) start goal (tabled m start ts cs (take count ss)))
    (past : drop count ss ≡ drop count (take k settled)) where
  -- what is said of the fronts holds of the tables
  fronts : (P : List T → List ℕ → List ℕ → Type 0) → P ts cs (take count ss)
      → P (take (junctions p) (ts ++ post_of 0 k totals)) (take (junctions p) (cs ++ post_of 0 k came)) (take count (ss ++ post_of 0 k settled))
  fronts P h =
      subst (λ l. P (take (junctions p) (ts ++ post_of 0 k totals)) (take (junctions p) (cs ++ post_of 0 k came)) l) (sym (list_is (junctions p) k settled ss all_settled whole count few))
      (subst (λ l. P (take (junctions p) (ts ++ post_of 0 k totals)) l (take count ss)) (sym (front_is (junctions p) k came cs tables.all_came whole))
      (subst (λ l. P l cs (take count ss)) (sym (front_is (junctions p) k totals ts tables.all_totals whole)) h))

  pub search_left : Left m p start goal (record { totals = totals; came = came; waiting = waiting; settled = settled })
      (record { totals = ts ++ post_of 0 k totals; came = cs ++ post_of 0 k came; waiting = ws ++ post_of 0 k waiting; settled = ss ++ post_of 0 k settled }) count
  search_left = record {
    searched = fronts (λ t c l. Searched m (net m p) start goal (tabled m start t c l)) searched;
    held = fronts (λ t c l. Held m (tabled m start t c l) t c) (tables_held m (junctions p) start ts cs (take count ss) tables);
    past_totals = past_is (junctions p) k totals ts tables.all_totals whole;
    past_came = past_is (junctions p) k came cs tables.all_came whole;
    past_waiting = past_is (junctions p) k waiting ws all_waiting whole;
    past_settled = past_list (junctions p) k settled ss all_settled whole count few (past ∙ ap (λ j. drop count (take j settled)) whole) long;
  }

  pub search_counted : Counted p (ss ++ post_of 0 k settled) count
  search_counted = record {
    whole_list = ap length (list_is (junctions p) k settled ss all_settled whole count few) ∙ length-take-le count ss (omega arith);
    few = few;
  }
