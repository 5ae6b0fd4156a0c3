-- What the came-by table says of a junction, by the number that stands there. Assumes nothing.
use Rattle.std.proofs.Common.{◌≡◌, ℕ, List, get_or, Some, None}
use Rattle.std.proofs.lemmas.Bool.{cond-true, cond-false, eq-eqb, ne_eqb}
use Rattle.search.specs.Way.{no_leg, came_by}

pub came_by_none : (came : List ℕ) (v : ℕ) → get_or came v 0 ≡ no_leg → came_by came v ≡ None
came_by_none came v e = cond-true _ _ _ (eq-eqb (get_or came v 0) no_leg e)

pub came_by_leg : (came : List ℕ) (v : ℕ) → (get_or came v 0 ≡ no_leg → ⊥) → came_by came v ≡ Some (get_or came v 0)
came_by_leg came v ne = cond-false _ _ _ (ne_eqb (get_or came v 0) no_leg ne)
