-- What the two parts of the reader have heard, and which line each waits for. Assumes nothing.
use Rattle.std.specs.Prelude.{◌≡◌, ℕ, Bool, true, false, Some, None, Option}
use Rattle.std.specs.Option.{option_map}
use Rattle.plan.specs.Meant.{sketched}
use Rattle.plan_text.specs.Heard.{Heard, entries_due, due_after, due}
use Rattle.plan_text.specs.declared.kind.Kind.{Kind}
use Rattle.plan.specs.declared.draft.Draft.{Draft}
use Rattle.plan_text.specs.declared.due.Due.{Due}
use Rattle.plan_text.specs.declared.due.Due.TheVariants.{Version, Measure, Halls, Points, Legs}
use Rattle.plan_text.specs.declared.entries.Entries.{Entries}
use Rattle.plan_text.specs.declared.head.Head.{Head}

-- the head listens to the first five lines
abbrev pub head_heard : Head → Heard
head_heard p = record { version = p.version; kind = p.kind; plant = option_map sketched p.draft; points = p.points; legs = p.legs }

abbrev head_due : {K D : Type 0} → Bool → Option K → Option D → Option ℕ → Option ℕ → Option Due
head_due false kind draft points legs = Some Version
head_due true None draft points legs = Some Measure
head_due true (Some k) None points legs = Some Halls
head_due true (Some k) (Some d) None legs = Some Points
head_due true (Some k) (Some d) (Some n) None = Some Legs
head_due true (Some k) (Some d) (Some n) (Some m) = None

abbrev pub head_waits : Head → Option Due
head_waits p = head_due p.version p.kind p.draft p.points p.legs

-- the entries listen to the lines after the head
abbrev pub entries_heard : Entries → Heard
entries_heard e = record { version = true; kind = Some e.kind; plant = Some (sketched e.draft); points = Some e.points; legs = Some e.legs }

abbrev pub entries_waits : Entries → Option Due
entries_waits e = entries_due (sketched e.draft) e.points e.legs

-- the line that each part waits for is the line that is due; the parts' ghost members cite this
asked : (version : Bool) (kind : Option Kind) (draft : Option Draft) (points legs : Option ℕ) (line : Due)
    → head_due version kind draft points legs ≡ Some line → due_after version kind (option_map sketched draft) points legs ≡ Some line
asked false kind draft points legs line waits = waits
asked true None draft points legs line waits = waits
asked true (Some k) None points legs line waits = waits
asked true (Some k) (Some d) None legs line waits = waits
asked true (Some k) (Some d) (Some n) None line waits = waits
asked true (Some k) (Some d) (Some n) (Some m) line waits = cc

pub head_asks : (head : Head) (line : Due) → head_waits head ≡ Some line → due (head_heard head) ≡ Some line
head_asks head line waits = asked head.version head.kind head.draft head.points head.legs line waits

pub entries_asks : (entries : Entries) (line : Due) → entries_waits entries ≡ Some line → due (entries_heard entries) ≡ Some line
entries_asks entries line waits = waits
