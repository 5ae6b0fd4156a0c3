-- What an order line writes, and its answer. Assumes nothing.
use Rattle.std.specs.Prelude.{◌≡◌, ℕ, ◌⊎◌, List, [], ◌∷◌, Ok, Err, codes, Result}
use Rattle.layout.specs.declared.refusal.Refusal.{Refusal}
use Rattle.layout.specs.declared.refusal.Refusal.TheVariants.{NotDue, WrongForm}
use Rattle.tokens.specs.Cuts.{Keyed}
use Rattle.tokens.specs.Values.{Numbers}
use Rattle.order_text.specs.declared.key.OrderKey.{OrderKey}
use Rattle.order_text.specs.declared.order.Order.{Order}
use Rattle.order_text.specs.declared.order.Order.TheVariants.{Shut, Open, Set, Renew, Route}

-- the bytes of each key
abbrev pub spelt : OrderKey → List ℕ
spelt OrderKey.Shut = codes "shut"
spelt OrderKey.Open = codes "open"
spelt OrderKey.Set = codes "set"
spelt OrderKey.Renew = codes "renew"
spelt OrderKey.Route = codes "route"

-- the key of an order
abbrev pub key_of : Order → OrderKey
key_of (Shut leg) = OrderKey.Shut
key_of (Open leg) = OrderKey.Open
key_of (Set leg class clearance) = OrderKey.Set
key_of (Renew hall) = OrderKey.Renew
key_of (Route start goal) = OrderKey.Route

-- its numbers, as they follow one another in its line
abbrev pub order_values : Order → List ℕ
order_values (Shut leg) = leg ∷ []
order_values (Open leg) = leg ∷ []
order_values (Set leg class clearance) = leg ∷ class ∷ clearance ∷ []
order_values (Renew hall) = hall ∷ []
order_values (Route start goal) = start ∷ goal ∷ []

-- after that key, value writes the order
abbrev pub Says : OrderKey → List ℕ → Order → Type 0
Says key value o = (key_of o ≡ key) × Numbers value (order_values o)

-- line writes the order: its key stands before the first `=`, and its numbers after it
abbrev pub Writes : List ℕ → Order → Type 0
Writes line o = (value : List ℕ) × Keyed line (spelt (key_of o)) value × Numbers value (order_values o)

-- line has the key of an order, whatever its value
abbrev pub KeyedAsOrder : List ℕ → Type 0
KeyedAsOrder line = (key : OrderKey) × (value : List ℕ) × Keyed line (spelt key) value

-- a line that writes no order is of the wrong form where it has the key of one, and else not due
abbrev pub RefusesOrder : List ℕ → ℕ → Refusal → Type 0
RefusesOrder line at e = (KeyedAsOrder line × (e ≡ WrongForm at)) ⊎ ((KeyedAsOrder line → ⊥) × (e ≡ NotDue at))

-- the answer to line, whose number is at
abbrev pub ReadsOrder : List ℕ → ℕ → Result Order Refusal → Type 0
ReadsOrder line at (Ok o) = Writes line o
ReadsOrder line at (Err e) = ((o : Order) → Writes line o → ⊥) × RefusesOrder line at e

-- whatever its bytes, a line writes one order at most
abbrev pub OrdersAgree : Type 0
OrdersAgree = (line : List ℕ) (o p : Order) → Writes line o → Writes line p → o ≡ p

-- and it has one answer
abbrev pub AnswersAgree : Type 0
AnswersAgree = (line : List ℕ) (at : ℕ) (r q : Result Order Refusal) → ReadsOrder line at r → ReadsOrder line at q → r ≡ q
