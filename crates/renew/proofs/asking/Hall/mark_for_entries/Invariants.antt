use Rattle.std.proofs.Common.{length}
use Rattle.marks.specs.declared.words.Marks.{Marks}
use Rattle.search.specs.Desk.{held, Roomy, SameTables}
use Rattle.walks.specs.Net.{junctions}
use Rattle.renew.specs.Flags.{FlaggedTo, Written}
use Rattle.renew.specs.Renewed.{Past}
use Rattle.renew.proofs.asking.Hall.mark_for_entries.Given as goal

abbrev pub invariant-loop-junction : goal.invariant-loop-junction
invariant-loop-junction g l =
    let m = g.M.Measure.scale in
    let p = g.L.Layout.meaning l.self.layout.now in
    let hall = l.self.number in
    record {
      marks : (old : Marks) → Written hall (length p.legs) (FlaggedTo m p hall 0) old l.initial.marks → Written hall (length p.legs) (FlaggedTo m p hall l.junction) old l.marks;
      past : Past (junctions p) (held l.initial.tables) (held l.tables);
      room : Roomy (junctions p) (held l.tables);
      lent : SameTables l.initial.tables l.tables;
    }
