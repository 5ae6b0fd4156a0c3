-- A search begins. Assumes nothing.
use Rattle.std.proofs.Common.{◌≡◌, ℕ, ◌<◌, eqb, [], replicate, Some, None, Option, sym, ◌∙◌, subst, ⊎_elim}
use Rattle.std.specs.Map.{update}
use Rattle.std.proofs.lemmas.Map.{update_here, update_apart}
use Rattle.std.proofs.lemmas.Bool.{cases_eq}
use Rattle.measure.specs.Scale.{Scale, Lawful}
use Rattle.walks.specs.Net.{Net}
use Rattle.walks.specs.Search.{Arrived}
use Rattle.walks.specs.Tables.{no_came_by, tabled}
use Rattle.walks.proofs.Choosing.{has_none}
use Rattle.walks.proofs.Settling.{invariant_begin}
use Rattle.search.specs.Running.{Running}
use Rattle.search.proofs.Tabled.{blank_begins, blank_tables}

module _ {T : Type 0} {m : Scale T} (laws : Lawful m) (g : Net T) (n start : ℕ) (goal : Option ℕ) (in_range : start < n) (old waits : ℕ → Option T)
    (empty : (q : ℕ) → old q ≡ None) (one : (q : ℕ) → waits q ≡ update eqb old start (Some m.unit) q) where
  pub begins_running : Running m g start goal n (replicate n m.unit) (replicate n no_came_by) [] waits
  begins_running =
      let begins = blank_begins m n start in_range in
      record {
        tables = blank_tables m n start in_range;
        agrees = record {
          settled_out = λ v h. absurd (has_none h);
          others_in = λ v out.
              ⊎_elim
              (λ same. subst (λ k. waits k ≡ (tabled m start (replicate n m.unit) (replicate n no_came_by) []).total k) (sym same)
              (one start ∙ update_here old start (Some m.unit) ∙ sym begins.start_unit))
              (λ apart. one v ∙ update_apart old start (Some m.unit) v apart ∙ empty v ∙ sym (begins.others v apart))
              (cases_eq v start);
        };
        leads = λ t runs. record { first = tabled m start (replicate n m.unit) (replicate n no_came_by) []; begins = begins; runs = runs };
        kept = invariant_begin laws g start goal _ begins;
        not_arrived = by goal;
        apart = tt;
        exist = tt;
      }
    where
      by : (o : Option ℕ) → ¬ Arrived o (tabled m start (replicate n m.unit) (replicate n no_came_by) [])
      by None h = h
      by (Some w) h = has_none h
