use Rattle.std.proofs.Common.{◌+◌, take, sym, subst}
use Rattle.std.proofs.lemmas.List.{take_rest}
use Rattle.tokens.specs.Cuts.{FirstLine}
use Rattle.tokens.proofs.Cutting.{line_at, endless_at}
use Rattle.tokens.proofs.cut.next_line.Goals as goal

pub returns-in_err-end : goal.returns-in_err-end
returns-in_err-end c = rw c.from_residual.ensures (endless_at c.args.text.now _ c.min-window.ensures c.in_err-end.ensures)

pub returns : goal.returns
returns c =
    let text = c.args.text.now in
    let end = c.in_ok-end.end in
    subst (FirstLine text (take end text)) (sym (take_rest text (end + 1))) (line_at text _ end c.min-window.ensures c.in_ok-end.ensures)
