use Rattle.std.proofs.Common.{rules, arith}
use Rattle.std.proofs.lemmas.Iterator.{first_from_Range}
use Rattle.layout.proofs.Nexts.{EndsAt, next_from_first}
use Rattle.layout.proofs.asking.Layout.reaching.Goals as goal

pub returns : goal.returns
returns g c =
    let legs = (g.Self.Layout.meaning c.args.self.now).legs in
    let j = c.args.junction in
    next_from_first (λ l. l.head) legs j c.args.from c.legs.result c.find.result (omega arith)
    (first_from_Range _ _ _ c.find.result (EndsAt (λ l. l.head) legs j) (λ i. EndsAt (λ l. l.head) legs j i → ⊥) c.find.ensures.ran (λ x q called. search rules) (λ x q called. search rules))
