use Rattle.std.proofs.Common.{[], ◌∷◌, refl}
use Rattle.std.proofs.lemmas.Result.{err_from_is_err_and}
use Rattle.plan_text.specs.Formed.{value_of}
use Rattle.plan_text.proofs.Telling.{not_formed}
use Rattle.plan_text.proofs.values.LineValues.number.Goals as goal

pub returns-in_err-number : goal.returns-in_err-number
returns-in_err-number c =
    let p = err_from_is_err_and c.from_residual.result c.from_residual.ensures.1 in
    rw (p.1, p.2) (not_formed (λ n. n ∷ []) 1 (value_of c.args.self) c.args.self.at c.numbers.result _ (λ n. refl) c.numbers.ensures c.in_err-number.ensures.value)
