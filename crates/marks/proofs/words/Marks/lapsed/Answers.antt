use Rattle.std.proofs.Common.{ℕ, replicate, refl}
use Rattle.std.proofs.lemmas.List.{length-replicate}
use Rattle.marks.specs.declared.words.Marks.{Marks}
use Rattle.marks.proofs.Lapsing.{full_marks, full_shown}
use Rattle.marks.proofs.words.Marks.lapsed.Goals as goal

pub returns : goal.returns
returns c =
    let made : Marks = record { words = record { bits = replicate 512 4294967295 }; full = length-replicate {A = ℕ} 512 4294967295 } in
    let all = full_marks made.words refl in
    record { marks = all; shows = full_shown made all }
