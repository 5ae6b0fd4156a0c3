-- A line writes one order at most, and has one answer. Assumes nothing.
use Rattle.std.proofs.Common.{◌≡◌, ℕ, cond, eqb, List, get_or, Ok, Err, sym, refl, ap, ◌∙◌, subst, inl, inr}
use Rattle.tokens.specs.Values.{Numbers}
use Rattle.tokens.proofs.Cutting.{one_cut}
use Rattle.tokens.proofs.Reading.{one_list}
use Rattle.order_text.specs.Orders.{spelt, key_of, order_values, OrdersAgree, AnswersAgree}
use Rattle.order_text.specs.declared.key.OrderKey.{OrderKey}
use Rattle.order_text.specs.declared.order.Order.{Order}
use Rattle.order_text.specs.declared.order.Order.TheVariants.{Shut, Open, Set, Renew, Route}

-- an order from its key and its numbers
abbrev made : OrderKey → List ℕ → Order
made OrderKey.Shut ns = Shut (get_or ns 0 0)
made OrderKey.Open ns = Open (get_or ns 0 0)
made OrderKey.Set ns = Set (get_or ns 0 0) (get_or ns 1 0) (get_or ns 2 0)
made OrderKey.Renew ns = Renew (get_or ns 0 0)
made OrderKey.Route ns = Route (get_or ns 0 0) (get_or ns 1 0)

made_again : (o : Order) → made (key_of o) (order_values o) ≡ o
made_again (Shut leg) = refl
made_again (Open leg) = refl
made_again (Set leg class clearance) = refl
made_again (Renew hall) = refl
made_again (Route start goal) = refl

-- the key that has those bytes, as the third of them tells
abbrev key_from : List ℕ → OrderKey
key_from bytes =
    cond (eqb (get_or bytes 2 0) 117) (cond (eqb (get_or bytes 0 0) 115) OrderKey.Shut OrderKey.Route) (
    cond (eqb (get_or bytes 2 0) 101) OrderKey.Open (
    cond (eqb (get_or bytes 2 0) 116) OrderKey.Set OrderKey.Renew))

key_again : (k : OrderKey) → key_from (spelt k) ≡ k
key_again OrderKey.Shut = refl
key_again OrderKey.Open = refl
key_again OrderKey.Set = refl
key_again OrderKey.Renew = refl
key_again OrderKey.Route = refl

one_key : (k l : OrderKey) → spelt k ≡ spelt l → k ≡ l
one_key k l e = sym (key_again k) ∙ ap key_from e ∙ key_again l

pub orders_agree : OrdersAgree
orders_agree line o p (value, keyed, says) (other, too, tells) =
    let cut = one_cut 61 line _ _ value other keyed too in
    let key = one_key (key_of o) (key_of p) cut.0 in
    let numbers = one_list other (order_values o) (order_values p) (subst (λ v. Numbers v (order_values o)) cut.1 says) tells in
    sym (made_again o) ∙ (λ i. made (key i) (numbers i)) ∙ made_again p

pub answers_agree : AnswersAgree
answers_agree line at (Ok o) (Ok p) one other = ap (λ x. Ok x) (orders_agree line o p one other)
answers_agree line at (Ok o) (Err e) one (none, why) = absurd (none o one)
answers_agree line at (Err e) (Ok p) (none, why) other = absurd (none p other)
answers_agree line at (Err e) (Err f) (none, inl (key, is)) (_, inl (_, too)) = ap (λ x. Err x) (is ∙ sym too)
answers_agree line at (Err e) (Err f) (none, inl (key, is)) (_, inr (no_key, too)) = absurd (no_key key)
answers_agree line at (Err e) (Err f) (none, inr (no_key, is)) (_, inl (key, too)) = absurd (no_key key)
answers_agree line at (Err e) (Err f) (none, inr (no_key, is)) (_, inr (_, too)) = ap (λ x. Err x) (is ∙ sym too)
