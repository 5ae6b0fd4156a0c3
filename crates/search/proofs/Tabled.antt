-- What a write to the tables does to the state that they show. Assumes nothing.
use Rattle.std.proofs.Common.{◌≡◌, ℕ, zero, suc, ◌<◌, Bool, true, false, cond, not, ◌||◌, eqb, ◌≢◌, List, [], length, get_or, set, replicate, Some, None, unwrap_or, sym, refl, ap, ◌∙◌, subst, ⊎_elim, arith}
use Rattle.std.proofs.lemmas.List.{get_or-set_same, get_or-set_other, length-set, length-replicate, get_or_past}
use Rattle.std.proofs.lemmas.Bool.{cases_eq, cases_lt, eq-eqb, ne_eqb}
use Rattle.measure.specs.Scale.{Scale}
use Rattle.walks.specs.Search.{Begins, Keeps, Gets}
use Rattle.walks.specs.Tables.{no_came_by, came_by, tabled, Held}
use Rattle.walks.proofs.Choosing.{none_some}
use Rattle.search.specs.Standing.{TablesOf}

or_true : (b : Bool) → (b || true) ≡ true
or_true true = refl
or_true false = refl

all_same : {X : Type 0} (n k : ℕ) (x : X) → get_or (replicate n x) k x ≡ x
all_same zero k x = refl
all_same (suc n) zero x = refl
all_same (suc n) (suc k) x = all_same n k x

-- where a junction has a total by the tables, and where it has none
module _ {T : Type 0} (m : Scale T) (start : ℕ) (totals : List T) (came settled : List ℕ) where
  pub at_start : (tabled m start totals came settled).total start ≡ Some (get_or totals start m.unit)
  at_start =
      ap (λ b. cond (b || not (eqb (get_or came start no_came_by) no_came_by)) (Some (get_or totals start m.unit)) None) (eq-eqb start start refl)

  pub by_a_leg : (v : ℕ) → get_or came v no_came_by ≢ no_came_by → (tabled m start totals came settled).total v ≡ Some (get_or totals v m.unit)
  by_a_leg v some =
      ap (λ b. cond (eqb v start || not b) (Some (get_or totals v m.unit)) None) (ne_eqb (get_or came v no_came_by) no_came_by some)
      ∙ ap (λ b. cond b (Some (get_or totals v m.unit)) None) (or_true (eqb v start))

  pub by_none : (v : ℕ) → v ≢ start → get_or came v no_came_by ≡ no_came_by → (tabled m start totals came settled).total v ≡ None
  by_none v apart none =
      ap (λ b. cond (b || not (eqb (get_or came v no_came_by) no_came_by)) (Some (get_or totals v m.unit)) None) (ne_eqb v start apart)
      ∙ ap (λ b. cond (not b) (Some (get_or totals v m.unit)) None) (eq-eqb (get_or came v no_came_by) no_came_by none)

  -- a junction with a total has a place in the tables, and the total stands there
  pub has_place : (v : ℕ) (x : T) → start < length came → (tabled m start totals came settled).total v ≡ Some x → v < length came
  has_place v x in_came e =
      ⊎_elim
      (λ here. subst (λ k. k < length came) (sym here) in_came)
      (λ apart. ⊎_elim (λ lt. lt) (λ past. absurd (none_some (by_none v apart (get_or_past came v no_came_by past)) e)) (cases_lt v (length came)))
      (cases_eq v start)

-- the tables as they are at the beginning
module _ {T : Type 0} (m : Scale T) (n start : ℕ) (in_range : start < n) where
  pub blank_begins : Begins m start (tabled m start (replicate n m.unit) (replicate n no_came_by) [])
  blank_begins = record {
    start_unit = at_start m start (replicate n m.unit) (replicate n no_came_by) [] ∙ ap Some (all_same n start m.unit);
    others = λ v apart. by_none m start (replicate n m.unit) (replicate n no_came_by) [] v apart (all_same n v no_came_by);
    no_came = λ v. ap came_by (all_same n v no_came_by);
    none_settled = refl;
  }

  pub blank_tables : TablesOf m n start (replicate n m.unit) (replicate n no_came_by)
  blank_tables = record {
    all_totals = length-replicate n m.unit;
    all_came = length-replicate n no_came_by;
    start_exists = in_range;
    unit_else = λ v apart none. all_same n v m.unit;
  }

-- one junction gets a total and a came-by
module _ {T : Type 0} (m : Scale T) (n start : ℕ) (totals : List T) (came settled : List ℕ) (tables : TablesOf m n start totals came)
    (v e : ℕ) (y : T) (in_range : v < n) (leg : e ≢ no_came_by) where
  came_new : get_or (set came v e) v no_came_by ≡ e
  came_new = let all = tables.all_came in get_or-set_same came v e no_came_by (omega arith)

  total_new : get_or (set totals v y) v m.unit ≡ y
  total_new = let all = tables.all_totals in get_or-set_same totals v y m.unit (omega arith)

  pub written_gets : Gets (tabled m start (set totals v y) (set came v e) settled) v y e
  written_gets = record {
    new_total = by_a_leg m start (set totals v y) (set came v e) settled v (λ none. leg (sym came_new ∙ none)) ∙ ap Some total_new;
    new_came = ap came_by came_new ∙ ap (λ b. cond b None (Some e)) (ne_eqb e no_came_by leg);
  }

  pub written_keeps : (w : ℕ) → w ≢ v → Keeps (tabled m start totals came settled) (tabled m start (set totals v y) (set came v e) settled) w
  written_keeps w apart =
      let same_came = get_or-set_other came v w e no_came_by apart in
      let same_total = get_or-set_other totals v w y m.unit apart in
      record {
        same_total =
            ap (λ c. cond (eqb w start || not (eqb c no_came_by)) (Some (get_or (set totals v y) w m.unit)) None) same_came
            ∙ ap (λ t. cond (eqb w start || not (eqb (get_or came w no_came_by) no_came_by)) (Some t) None) same_total;
        same_came = ap came_by same_came;
      }

  pub written_tables : TablesOf m n start (set totals v y) (set came v e)
  written_tables = record {
    all_totals = length-set totals v y ∙ tables.all_totals;
    all_came = length-set came v e ∙ tables.all_came;
    start_exists = tables.start_exists;
    unit_else = λ w apart none.
        ⊎_elim
        (λ here. absurd (leg (sym came_new ∙ ap (λ k. get_or (set came v e) k no_came_by) (sym here) ∙ none)))
        (λ other.
        get_or-set_other totals v w y m.unit other
        ∙ tables.unit_else w apart (sym (get_or-set_other came v w e no_came_by other) ∙ none))
        (cases_eq w v);
  }

-- the tables hold what they show
module _ {T : Type 0} (m : Scale T) (n start : ℕ) (totals : List T) (came settled : List ℕ) (tables : TablesOf m n start totals came) where
  pub tables_held : Held m (tabled m start totals came settled) totals came
  tables_held = record {
    totals_held = λ v.
        ⊎_elim
        (λ here. sym (ap (λ k. unwrap_or ((tabled m start totals came settled).total k) m.unit) here ∙ ap (λ o. unwrap_or o m.unit) (at_start m start totals came settled)
        ∙ ap (λ k. get_or totals k m.unit) (sym here)))
        (λ apart.
        ⊎_elim
        (λ none. tables.unit_else v apart none ∙ sym (ap (λ o. unwrap_or o m.unit) (by_none m start totals came settled v apart none)))
        (λ some. sym (ap (λ o. unwrap_or o m.unit) (by_a_leg m start totals came settled v some)))
        (cases_eq (get_or came v no_came_by) no_came_by))
        (cases_eq v start);
    came_held = λ v.
        ⊎_elim
        (λ none. none ∙ sym (ap (λ o. unwrap_or o no_came_by) (ap came_by none)))
        (λ some. sym (ap (λ b. unwrap_or (cond b None (Some (get_or came v no_came_by))) no_came_by) (ne_eqb (get_or came v no_came_by) no_came_by some)))
        (cases_eq (get_or came v no_came_by) no_came_by);
  }
