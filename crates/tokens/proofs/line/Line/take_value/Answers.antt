use Rattle.std.proofs.Common.{◌+◌, take, sym, refl, ap, ◌∙◌, subst, inl, inr}
use Rattle.std.proofs.lemmas.List.{take_rest, take_all}
use Rattle.tokens.specs.Cuts.{Cut}
use Rattle.tokens.specs.Taken.{left}
use Rattle.tokens.proofs.Cutting.{cut_at}
use Rattle.tokens.proofs.Taking.{stray_stuck, comma_first}
use Rattle.tokens.proofs.line.Line.take_value.Goals as goal
use Rattle.tokens.proofs.line.Line.take_value.Goals.{then-length-values, else-length-values}

pub returns-in_err-length : goal.returns-in_err-length
returns-in_err-length c = rw c.from_residual.ensures (stray_stuck c.args.self.now c.requires c.in_err-length.ensures, refl)

pub returns : goal.returns
returns c =
    let values = c.args.self.now.rest.now in
    let n = c.in_ok-length.length in
    let upto = c.in_ok-length.ensures in (
      c.requires,
      upto.plain,
      elim c.if-length-values.branch [
        | then-length-values w ↦
            let cut = cut_at 44 values n (comma_first values n upto w.if-length-values.true) in
            inl (subst (Cut 44 values (take n values)) (sym (ap left w.self-is ∙ take_rest values (n + 1))) cut, ap (λ line. line.due) w.self-is ∙ c.requires)
        | else-length-values w ↦ inr (sym (take_all n values w.if-length-values.false), ap (λ line. line.due) w.self-is)
      ],
    )
