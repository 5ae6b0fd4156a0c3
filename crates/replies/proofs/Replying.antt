-- How an answer grows, reply by reply. Assumes nothing.
use Rattle.std.proofs.Common.{◌≡◌, ℕ, ◌+◌, List, [], ◌∷◌, ◌++◌, sym, ap, ◌∙◌, subst, inl, inr, append_assoc, append-nil}
use Rattle.measure.specs.Scale.{Scale}
use Rattle.layout.specs.Plant.{Plant}
use Rattle.layout.specs.declared.refusal.Refusal.TheVariants.{NoEnd}
use Rattle.layers.specs.declared.sheet.Sheet.{Sheet}
use Rattle.halls.specs.declared.force.HallMarks.{HallMarks}
use Rattle.walks.specs.Book.{Call}
use Rattle.router.specs.Worked.{Worked}
use Rattle.tokens.specs.Cuts.{Endless, FirstLine}
use Rattle.replies.specs.Carried.{LineAnswered}
use Rattle.replies.specs.Written.{written, written_all}
use Rattle.replies.specs.Replied.{call_of, and_then, OrderReplies, none_left, no_end, no_order, an_order, Said}
use Rattle.replies.specs.declared.reply.Reply.TheVariants.{Refused}

module _ {T : Type 0} (m : Scale T) (shows : T → List ℕ) (p : Plant) (lines : ℕ) (orders old : List ℕ) where
  -- whatever the lines still to come get after these calls, it makes a whole answer with what was written
  abbrev pub Leads : List Call → ℕ → List ℕ → List ℕ → Type 0
  Leads calls line rest new =
      (rs : List (List ℕ)) → OrderReplies m shows p calls line rest rs → Said (OrderReplies m shows p [] lines orders) old (new ++ written_all rs)

  -- some calls left the router so, and what was written leads on from them
  abbrev pub UnderWay : Sheet → HallMarks → ℕ → List ℕ → List ℕ → Type 0
  UnderWay s halls line rest new = (calls : List Call) × Worked m p calls s halls × Leads calls line rest new

  -- one reply more was written
  leads_by :
      (calls more : List Call) (line : ℕ) (text rest new next reply : List ℕ)
      → Leads calls line text new → next ≡ new ++ reply
      → ((rs : List (List ℕ)) → OrderReplies m shows p more (line + 1) rest rs → OrderReplies m shows p calls line text (reply ∷ rs))
      → Leads more (line + 1) rest next
  leads_by calls more line text rest new next reply leads e gets rs h =
      subst
      (Said (OrderReplies m shows p [] lines orders) old)
      (sym (append_assoc new reply (written_all rs)) ∙ ap (λ l. l ++ written_all rs) (sym e))
      (leads (reply ∷ rs) (gets rs h))

  -- one line more was answered
  pub goes_on :
      (s s' : Sheet) (halls halls' : HallMarks) (line : ℕ) (text bytes rest new next : List ℕ)
      → UnderWay s halls line text new → FirstLine text bytes rest → LineAnswered m shows p bytes (line + 1) s s' halls halls' new next
      → UnderWay s' halls' (line + 1) rest next
  goes_on s s' halls halls' line text bytes rest new next (calls, worked, leads) first (inl (o, reads, done)) =
      let more = and_then calls (call_of o) in
      let after = done.book.worked calls worked in
      let told = done.book.answered calls worked worked.now_marks after.now_marks worked.left after.left in (
        more,
        after,
        leads_by calls more line text rest new next _ leads done.wrote
            (λ rs h. an_order o worked.now_marks after.now_marks done.answer first reads worked.left after.left told h),
      )
  goes_on s s' halls halls' line text bytes rest new next (calls, worked, leads) first (inr over) =
      let same = subst (λ x. Worked m p calls x halls') (sym over.same_sheet) (subst (λ x. Worked m p calls s x) (sym over.same_halls) worked) in
      (calls, same, leads_by calls calls line text rest new next _ leads over.wrote (λ rs h. no_order first over.reads h))

  -- the same, where the router is known to stand over the plant
  pub goes_on_over :
      (q : Plant) → q ≡ p → (s s' : Sheet) (halls halls' : HallMarks) (line : ℕ) (text bytes rest new next : List ℕ)
      → UnderWay s halls line text new → FirstLine text bytes rest → LineAnswered m shows q bytes (line + 1) s s' halls halls' new next
      → UnderWay s' halls' (line + 1) rest next
  goes_on_over q e s s' halls halls' line text bytes rest new next under first told =
      goes_on s s' halls halls' line text bytes rest new next under first (subst (λ x. LineAnswered m shows x bytes (line + 1) s s' halls halls' new next) e told)

  -- no line is left
  pub goes_out :
      (s : Sheet) (halls : HallMarks) (line : ℕ) (rest new : List ℕ)
      → UnderWay s halls line rest new → rest ≡ [] → Said (OrderReplies m shows p [] lines orders) old new
  goes_out s halls line rest new (calls, worked, leads) e =
      subst (Said (OrderReplies m shows p [] lines orders) old) (append-nil new) (leads [] (subst (λ t. OrderReplies m shows p calls line t []) (sym e) none_left))

  -- the last reply is to bytes without a line
  pub goes_last :
      (s : Sheet) (halls : HallMarks) (line : ℕ) (rest new next : List ℕ)
      → UnderWay s halls line rest new → (rest ≡ [] → ⊥) → Endless rest → next ≡ new ++ written (Refused (NoEnd (line + 1)))
      → Said (OrderReplies m shows p [] lines orders) old next
  goes_last s halls line rest new next (calls, worked, leads) some endless e =
      let r = written (Refused (NoEnd (line + 1))) in
      subst
      (Said (OrderReplies m shows p [] lines orders) old)
      (ap (λ l. new ++ l) (append-nil r) ∙ sym e)
      (leads (r ∷ []) (no_end some endless))
