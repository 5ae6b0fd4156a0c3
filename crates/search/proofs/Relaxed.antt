-- One leg after the other is taken, by the tables. Assumes nothing.
use Rattle.std.proofs.Common.{◌≡◌, ℕ, zero, suc, ◌<◌, ◌≤◌, Bool, true, false, cond, ◌&&◌, eqb, ◌≢◌, List, [], set, Some, None, Option, sym, refl, ap, ◌∙◌, subst, inl, inr, ⊎_elim, arith}
use Rattle.std.specs.Map.{update}
use Rattle.std.proofs.lemmas.Map.{update_here, update_apart}
use Rattle.std.proofs.lemmas.Bool.{cases_eq, cases_lt, eq-eqb, ne_eqb, both_ways}
use Rattle.measure.specs.Scale.{Scale, Lawful}
use Rattle.walks.specs.Net.{Net}
use Rattle.walks.specs.Search.{State, Settled, Offer, offered, Above, Keeps, Gets}
use Rattle.walks.specs.InTurn.{Moves, Takes, TakesTo}
use Rattle.walks.specs.Tables.{no_came_by, tabled}
use Rattle.walks.proofs.Choosing.{some_same, none_some, has?}
use Rattle.walks.proofs.Order.{le_trans, le_join_right}
use Rattle.search.specs.Waiting.{lowers}
use Rattle.search.specs.Standing.{Agrees, TablesOf, Firm, Totalled, Offered, Took}
use Rattle.search.proofs.Tabled.{written_gets, written_keeps, written_tables}

module _ {T : Type 0} (m : Scale T) (g : Net T) (st : List ℕ) (u : ℕ) (x : T) where
  keeps_all : (c : State T) (v : ℕ) → Keeps c c v
  keeps_all c v = record { same_total = refl; same_came = refl }

  -- a leg that moves no junction
  pub nothing_moves : (e : ℕ) (c : State T) → ((v : ℕ) → ¬ Moves m g st u x c e v) → Takes m g st u x e c c
  nothing_moves e c none = record { moved = λ v mv. absurd (none v mv); others = λ v _. keeps_all c v }

  -- a leg that moves the junction v
  pub one_moves : (e v : ℕ) (c d : State T) → g.head e ≡ v → Moves m g st u x c e v → Gets d v (offered m g x e) e → ((w : ℕ) → w ≢ v → Keeps c d w) → Takes m g st u x e c d
  one_moves e v c d leads mv gets keeps = record {
    moved = λ w other. subst (λ k. Gets d k (offered m g x e) e) (sym leads ∙ other.offer.leads) gets;
    others = λ w not. ⊎_elim (λ same. absurd (not (subst (λ k. Moves m g st u x c e k) (sym same) mv))) (λ apart. keeps w apart) (cases_eq w v);
  }

  -- legs that do not leave u are passed over
  pub passed_over : (s c : State T) (j k : ℕ) → j ≤ k → ((i : ℕ) → j ≤ i → i < k → (v : ℕ) → ¬ Offer g u v i) → TakesTo m g st u x s j c → TakesTo m g st u x s k c
  passed_over s c j zero le none t = let same : j ≡ 0 = omega arith in subst (λ n. TakesTo m g st u x s n c) same t
  passed_over s c j (suc k) le none t =
      ⊎_elim
      (λ early. (
        c,
        passed_over s c j k (omega arith) (λ i low high. none i low (omega arith)) t,
        nothing_moves k c (λ v mv. none k (omega arith) (omega arith) v mv.offer),
      ))
      (λ there. let same : j ≡ suc k = omega arith in subst (λ n. TakesTo m g st u x s n c) same t)
      (cases_lt j (suc k))

-- what an offer by a usable leg e of u, settled at x, does
module _ {T : Type 0} {m : Scale T} (laws : Lawful m) (g : Net T) (st : List ℕ) (u : ℕ) (x : T)
    (n start : ℕ) (totals : List T) (came : List ℕ) (waits : ℕ → Option T)
    (e v : ℕ) (offer : Offer g u v e) (in_range : v < n) (leg : e ≢ no_came_by) (tables : TablesOf m n start totals came) where
  abbrev y : T
  y = offered m g x e

  abbrev old : State T
  old = tabled m start totals came st

  abbrev new : State T
  new = tabled m start (set totals v y) (set came v e) st

  -- v is unsettled where it has no total, or one above the offer
  unsettled_none : Firm m x old → old.total v ≡ None → ¬ Settled old v
  unsettled_none firm none h = none_some none (firm.firm v h).1

  unsettled_above : Firm m x old → (z : T) → old.total v ≡ Some z → m.below y z ≡ true → ¬ Settled old v
  unsettled_above firm z has low h =
      let f = firm.firm v h in
      let same = some_same f.1 has in
      let not_above : m.below x z ≡ false = subst (λ t. m.below x t ≡ false) same f.2 in
      both_ways (m.below y z) (le_trans laws not_above (le_join_right laws x (g.weight e))) low

  moves : ¬ Settled old v → Above m (old.total v) y → Moves m g st u x old e v
  moves out above = record { offer = offer; unsettled = out; lower = above }

  -- v is moved: the tables are written, and the queue has the new total
  module _ (waits' : ℕ → Option T) (out : ¬ Settled old v) (above : Above m (old.total v) y) where
    written_takes : Takes m g st u x e old new
    written_takes =
        one_moves m g st u x e v old new offer.leads (moves out above)
        (written_gets m n start totals came st tables v e y in_range leg)
        (written_keeps m n start totals came st tables v e y in_range leg)

    written_firm : Firm m x old → Firm m x new
    written_firm firm = record {
      firm = λ w h.
          ⊎_elim
          (λ same. absurd (out (subst (Settled old) same h)))
          (λ apart. let f = firm.firm w h in (f.0, (written_keeps m n start totals came st tables v e y in_range leg w apart).same_total ∙ f.1, f.2))
          (cases_eq w v);
    }

    written_agrees : Agrees old waits → waits' v ≡ Some y → ((w : ℕ) → w ≢ v → waits' w ≡ waits w) → Agrees new waits'
    written_agrees agrees here others = record {
      settled_out = λ w h.
          ⊎_elim
          (λ same. absurd (out (subst (Settled old) same h)))
          (λ apart. others w apart ∙ agrees.settled_out w h)
          (cases_eq w v);
      others_in = λ w not.
          ⊎_elim
          (λ same. subst (λ k. waits' k ≡ new.total k) (sym same) (here ∙ sym (written_gets m n start totals came st tables v e y in_range leg).new_total))
          (λ apart. others w apart ∙ agrees.others_in w not ∙ sym (written_keeps m n start totals came st tables v e y in_range leg w apart).same_total)
          (cases_eq w v);
    }

and_false : (b : Bool) → (b && false) ≡ false
and_false true = refl
and_false false = refl

module _ {T : Type 0} {m : Scale T} (laws : Lawful m) (g : Net T) (st : List ℕ) (u : ℕ) (x : T)
    (n start : ℕ) (totals : List T) (came : List ℕ) (waits : ℕ → Option T)
    (e v : ℕ) (offer : Offer g u v e) (in_range : v < n) (leg : e ≢ no_came_by) (tables : TablesOf m n start totals came)
    (firm : Firm m x (tabled m start totals came st)) (agrees : Agrees (tabled m start totals came st) waits) where
  abbrev was : State T
  was = tabled m start totals came st

  -- no total yet
  fresh_taken : (waits' : ℕ → Option T) → was.total v ≡ None → ((w : ℕ) → waits' w ≡ update eqb waits v (Some (offered m g x e)) w)
      → Took m g st u x e was (tabled m start (set totals v (offered m g x e)) (set came v e) st) waits'
  fresh_taken waits' none q =
      let out = unsettled_none laws g st u x n start totals came waits e v offer in_range leg tables firm none in
      let above : Above m (was.total v) (offered m g x e) = subst (λ o. Above m o (offered m g x e)) (sym none) tt in
      record {
        takes = written_takes laws g st u x n start totals came waits e v offer in_range leg tables waits' out above;
        stands = record {
          firm = written_firm laws g st u x n start totals came waits e v offer in_range leg tables waits' out above firm;
          agrees = written_agrees laws g st u x n start totals came waits e v offer in_range leg tables waits' out above agrees
              (q v ∙ update_here waits v (Some (offered m g x e)))
              (λ w apart. q w ∙ update_apart waits v (Some (offered m g x e)) w apart);
        };
      }

  -- a total above the offer
  lower_taken : (waits' : ℕ → Option T) (z : T) → was.total v ≡ Some z → m.below (offered m g x e) z ≡ true
      → ((w : ℕ) → waits' w ≡ cond (lowers m (offered m g x e) (waits v) && eqb w v) (Some (offered m g x e)) (waits w))
      → Took m g st u x e was (tabled m start (set totals v (offered m g x e)) (set came v e) st) waits'
  lower_taken waits' z has low q =
      let out = unsettled_above laws g st u x n start totals came waits e v offer in_range leg tables firm z has low in
      let above : Above m (was.total v) (offered m g x e) = subst (λ o. Above m o (offered m g x e)) (sym has) low in
      let waited : waits v ≡ Some z = agrees.others_in v out ∙ has in
      let lowered : lowers m (offered m g x e) (waits v) ≡ true = ap (lowers m (offered m g x e)) waited ∙ low in
      record {
        takes = written_takes laws g st u x n start totals came waits e v offer in_range leg tables waits' out above;
        stands = record {
          firm = written_firm laws g st u x n start totals came waits e v offer in_range leg tables waits' out above firm;
          agrees = written_agrees laws g st u x n start totals came waits e v offer in_range leg tables waits' out above agrees
              (q v ∙ ap (λ b. cond (b && eqb v v) (Some (offered m g x e)) (waits v)) lowered ∙ ap (λ b. cond b (Some (offered m g x e)) (waits v)) (eq-eqb v v refl))
              (λ w apart. q w ∙ ap (λ b. cond (lowers m (offered m g x e) (waits v) && b) (Some (offered m g x e)) (waits w)) (ne_eqb w v apart)
              ∙ ap (λ b. cond b (Some (offered m g x e)) (waits w)) (and_false (lowers m (offered m g x e) (waits v))));
        };
      }

  -- a total that is not above the offer
  kept_taken : (waits' : ℕ → Option T) (z : T) → was.total v ≡ Some z → m.below (offered m g x e) z ≡ false → ((w : ℕ) → waits' w ≡ waits w)
      → Took m g st u x e was was waits'
  kept_taken waits' z has not q = record {
    takes = nothing_moves m g st u x e was (λ w mv.
        let same : w ≡ v = sym mv.offer.leads ∙ offer.leads in
        let above : Above m (was.total v) (offered m g x e) = subst (λ k. Above m (was.total k) (offered m g x e)) same mv.lower in
        both_ways (m.below (offered m g x e) z) not (subst (λ o. Above m o (offered m g x e)) has above));
    stands = record { firm = firm; agrees = record { settled_out = λ w h. q w ∙ agrees.settled_out w h; others_in = λ w h. q w ∙ agrees.others_in w h } };
  }

  pub offer_taken : (totals' : List T) (came' : List ℕ) (waits' : ℕ → Option T) → Offered m start v e (offered m g x e) totals came waits totals' came' waits'
      → Took m g st u x e was (tabled m start totals' came' st) waits'
  offer_taken totals' came' waits' (inl (none, et, ec, q)) =
      subst (λ ts. Took m g st u x e was (tabled m start ts came' st) waits') (sym et)
      (subst (λ cs. Took m g st u x e was (tabled m start (set totals v (offered m g x e)) cs st) waits') (sym ec) (fresh_taken waits' none q))
  offer_taken totals' came' waits' (inr (inl (z, has, low, et, ec, q))) =
      subst (λ ts. Took m g st u x e was (tabled m start ts came' st) waits') (sym et)
      (subst (λ cs. Took m g st u x e was (tabled m start (set totals v (offered m g x e)) cs st) waits') (sym ec) (lower_taken waits' z has low q))
  offer_taken totals' came' waits' (inr (inr (z, has, not, et, ec, q))) =
      subst (λ ts. Took m g st u x e was (tabled m start ts came' st) waits') (sym et)
      (subst (λ cs. Took m g st u x e was (tabled m start totals cs st) waits') (sym ec) (kept_taken waits' z has not q))

-- the tables and the queue's totals after an offer, whatever is settled
module _ {T : Type 0} (m : Scale T) (n start : ℕ) (totals : List T) (came : List ℕ) (waits : ℕ → Option T)
    (e v : ℕ) (y : T) (in_range : v < n) (leg : e ≢ no_came_by) (tables : TablesOf m n start totals came)
    (totals' : List T) (came' : List ℕ) (waits' : ℕ → Option T) where
  pub offer_tables : Offered m start v e y totals came waits totals' came' waits' → TablesOf m n start totals' came'
  offer_tables (inl (none, et, ec, q)) =
      subst (λ ts. TablesOf m n start ts came') (sym et) (subst (λ cs. TablesOf m n start (set totals v y) cs) (sym ec) (written_tables m n start totals came [] tables v e y in_range leg))
  offer_tables (inr (inl (z, has, low, et, ec, q))) =
      subst (λ ts. TablesOf m n start ts came') (sym et) (subst (λ cs. TablesOf m n start (set totals v y) cs) (sym ec) (written_tables m n start totals came [] tables v e y in_range leg))
  offer_tables (inr (inr (z, has, not, et, ec, q))) =
      subst (λ ts. TablesOf m n start ts came') (sym et) (subst (λ cs. TablesOf m n start totals cs) (sym ec) tables)

-- who has no total does not wait
module _ {T : Type 0} (s : State T) (waits : ℕ → Option T) (told : Totalled s waits) (v : ℕ) where
  pub none_waits : s.total v ≡ None → waits v ≡ None
  none_waits none = by (waits v) refl
    where
      by : (o : Option T) → waits v ≡ o → o ≡ None
      by None e = refl
      by (Some x) e = absurd (none_some none (told v x e))

-- what agrees with the queue is totalled
pub agrees_totalled : {T : Type 0} (m : Scale T) (start : ℕ) (totals : List T) (came st : List ℕ) (waits : ℕ → Option T)
    → Agrees (tabled m start totals came st) waits → Totalled (tabled m start totals came []) waits
agrees_totalled m start totals came st waits agrees v x e =
    ⊎_elim (λ h. absurd (none_some (agrees.settled_out v h) e)) (λ out. sym (agrees.others_in v out) ∙ e) (has? st v)
