-- That a text has one reading. Assumes nothing.
use Rattle.std.specs.Prelude.{◌≡◌, ℕ, List}
use Rattle.std.specs.Option.{option_map}
use Rattle.plan.specs.Meant.{sketched}
use Rattle.plan_text.specs.Reads.{Reads}
use Rattle.plan_text.specs.declared.reading.Reading.{Reading}

-- two readings tell the same; of their drafts, that the same was entered
pub record Alike (r q : Reading) : Type 0 where
  pub kind : r.kind ≡ q.kind
  pub draft : option_map sketched r.draft ≡ option_map sketched q.draft
  pub refusal : r.refusal ≡ q.refusal
  pub lines : r.lines ≡ q.lines
  pub rest : r.rest ≡ q.rest

-- whatever its bytes, all readings of a text are alike
abbrev pub ReadingsAgree : Type 0
ReadingsAgree = (text : List ℕ) (r q : Reading) → Reads text r → Reads text q → Alike r q
