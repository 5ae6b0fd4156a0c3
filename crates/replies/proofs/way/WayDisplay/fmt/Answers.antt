use Rattle.std.proofs.Common.{[], ◌∷◌, is_ok, Some, codes, decimal, ap}
use Rattle.std.specs.Fmt.{option_append}
use Rattle.std.proofs.Output.{has_written_append, has_written_of_eq}
use Rattle.std.proofs.lemmas.Option.{MatchOption-at_some}
use Rattle.replies.proofs.Spelling.{way_told}
use Rattle.replies.proofs.way.WayDisplay.fmt.Goals as goal

pub returns-clause-writes : goal.returns-clause-writes
returns-clause-writes g c plain ok =
    let took = g.W.Write.write_str_gives in
    let way = c.args.self.now in
    let spelt =
    ap (λ o. option_append (Some (codes "total=")) (option_append o (option_append (Some (10 ∷ codes "settled=")) (option_append (Some (decimal way.settled)) (Some (10 ∷ []))))))
    (g.met.M.Printing.shows way.total) in
    let first = MatchOption-at_some _ _ _ spelt c.writeln.ensures.writes plain (ap is_ok c.in_ok-writeln.was) in
    let legs = c.write_legs.ensures first.plain ok in
    has_written_of_eq took _ _ _ _ (way_told g.M.Printing.written way.total way.settled way.legs.now) (has_written_append took _ _ _ _ _ first legs)
