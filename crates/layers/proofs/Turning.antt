-- What turning a plant does to its ends, and turning it twice. Assumes nothing.
use Rattle.std.proofs.Common.{◌≡◌, refl, ◌∙◌}
use Rattle.layout.specs.Plant.{Plant, tails, heads}
use Rattle.layers.specs.Turn.{turned, turned_leg}
use Rattle.layers.proofs.Relegging.{relegged_twice, relegged_same, figures_changed}

pub turned_twice : (p : Plant) → turned (turned p) ≡ p
turned_twice p = relegged_twice turned_leg turned_leg p ∙ relegged_same (λ k l. l) p (λ i l e. refl)

pub turned_tails : (p : Plant) → tails (turned p) ≡ heads p
turned_tails p = figures_changed turned_leg (λ l. l.tail) (λ l. l.head) (λ k l. refl) 0 p.legs

pub turned_heads : (p : Plant) → heads (turned p) ≡ tails p
turned_heads p = figures_changed turned_leg (λ l. l.head) (λ l. l.tail) (λ k l. refl) 0 p.legs
