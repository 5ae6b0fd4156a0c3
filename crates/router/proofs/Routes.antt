-- A route goes on as the crew's book has it, and keeps its promise. Assumes nothing.
use Rattle.std.proofs.Common.{◌≡◌, ℕ, ◌<◌, not, ◌&&◌, ◌||◌, ltb, List, length, get_or, take, Some, None, Ok, Err, Option, Result, unwrap_or, sym, refl, ap, ◌∙◌, subst, inl, inr, MatchOption}
use Rattle.std.specs.Option.{option_map}
use Rattle.std.specs.List.{slice_get}
use Rattle.std.proofs.lemmas.Option.{slice_get-get_or}
use Rattle.std.proofs.lemmas.Bool.{lt-ltb}
use Rattle.measure.specs.Scale.{Scale, Lawful}
use Rattle.layers.specs.Day.{standing}
use Rattle.layers.specs.Soundness.{nth_changed}
use Rattle.layers.specs.declared.sheet.Sheet.{Sheet}
use Rattle.layout.specs.Plant.{Leg, Plant, Sound}
use Rattle.layout.specs.Refused.{figure_of}
use Rattle.layout.specs.declared.refusal.Refusal.{Refusal}
use Rattle.layout.specs.declared.refusal.Refusal.TheVariants.{NoWay}
use Rattle.layout.proofs.Listed.{nth_within}
use Rattle.marks.specs.Mark.{is_marked, shown, shown_leg}
use Rattle.halls.specs.declared.force.HallMarks.{HallMarks}
use Rattle.walks.specs.Answers.{Answer, found, refused, route_net, Tells, there, nowhere, CarriedOut}
use Rattle.walks.specs.Book.{Book, with_book, book, refusal_of}
use Rattle.walks.specs.Net.{net, only, no_leg, leg_at, junctions, hall_at}
use Rattle.walks.specs.Orders.{Marks, Acts}
use Rattle.walks.specs.Search.{State, Searched}
use Rattle.walks.proofs.Choosing.{none_some, some_same}
use Rattle.walks.proofs.Left.{marks_left}
use Rattle.walks.proofs.Promise.{crew_promise}
use Rattle.search.specs.Desk.{Desk}
use Rattle.search.specs.Answered.{shown as shown_state}
use Rattle.search.proofs.Guiding.{goal_there}
use Rattle.search.specs.Counted.{AllCounted}
use Rattle.search.specs.Answered.{search_due}
use Rattle.search.specs.Answered.{Answered as SearchAnswered}
use Rattle.search.specs.declared.found.Found.{Found}
use Rattle.router.specs.Routing.{seen, routing, route_answer, settled_in, KeepsPromise}
use Rattle.router.specs.Worked.{SheetOf, MarksOf, GoesOn}
use Rattle.router.proofs.Histories.{goes_on_by}
use Rattle.router.proofs.Renewals.{nothing_entered}
use Rattle.router.proofs.Sheets.{sheet_meaning}
use Rattle.router.proofs.Strikings.{amended_length}

-- a leg as the marks of a hall that exists show it
shown_at :
    (p : Plant) (b : Book) (k : Marks) (halls : HallMarks) (hall : ℕ) → hall < p.halls → MarksOf p k halls → (e : ℕ)
    → leg_at (shown halls.marks hall (with_book p b)) e ≡ standing ((leg_at (with_book p b) e).is_open && k.marked hall e) (leg_at (with_book p b) e)
shown_at p b k halls hall below marks e =
    ap (λ o. unwrap_or o no_leg) (nth_changed (shown_leg halls.marks p.halls hall) (with_book p b).legs e) ∙ by (slice_get (with_book p b).legs e) refl
  where
    by : (o : Option Leg) → slice_get (with_book p b).legs e ≡ o
        → unwrap_or (option_map (shown_leg halls.marks p.halls hall e) o) no_leg ≡ standing ((unwrap_or o no_leg).is_open && k.marked hall e) (unwrap_or o no_leg)
    by None none = refl
    by (Some l) some =
        let inside : e < length p.legs = subst (λ n. e < n) (amended_length b 0 p.legs) (nth_within (with_book p b).legs e l some) in
        let test : (not (ltb hall p.halls) || is_marked halls.marks hall e) ≡ k.marked hall e
        = ap (λ x. not x || is_marked halls.marks hall e) (lt-ltb hall p.halls below) ∙ marks.marked hall e below inside in
        ap (λ x. standing (l.is_open && x) l) test

-- what a route sees is what the book lets it use
pub seen_net :
    {T : Type 0} (m : Scale T) (p : Plant) → Sound p → (b : Book) (k : Marks) (s : Sheet) (halls : HallMarks) (goal : ℕ) → goal < junctions p → SheetOf p b s → MarksOf p k halls
    → net m (seen p s halls goal) ≡ route_net m p b k goal
seen_net m p sound b k s halls goal goal_in sheet marks =
    ap (λ q. net m (shown halls.marks (hall_at p goal) q)) (sheet_meaning p b s sheet) ∙ same
  where
    hall_in : hall_at p goal < p.halls
    hall_in =
        let here = slice_get-get_or p.hall_of goal 0 goal_in in
        subst (λ o. unwrap_or o p.halls < p.halls) (sym here) (sound.hall_exists goal (get_or p.hall_of goal 0) here)

    same : net m (shown halls.marks (hall_at p goal) (with_book p b)) ≡ only (k.marked (hall_at p goal)) (net m (with_book p b))
    same i =
        let leg = λ (e : ℕ). shown_at p b k halls (hall_at p goal) hall_in marks e i in
        record {
          tail = λ e. (leg e).tail;
          head = λ e. (leg e).head;
          weight = λ e. m.weighed (record { metres = (leg e).metres; class = (leg e).class; clearance = (leg e).clearance; turn = (leg e).turn });
          usable = λ e. (leg e).is_open;
        }

module _ {T : Type 0} (m : Scale T) (q : Plant) (start goal : ℕ) (d d' : Desk T) (way way' : List ℕ) where
  abbrev ended : Result (Found T) Refusal → State T
  ended r = shown_state m q start d' (settled_in r)

  -- the search ended, and its answer is what its end tells
  pub route_told : (r : Result (Found T) Refusal) → SearchAnswered m q start goal d way d' way' r → AllCounted q d'.settled r → search_due q start goal d way ≡ None
      → Searched m (net m q) start (Some goal) (ended r) × Tells (net m q) goal (ended r) (route_answer r way')
  route_told (Ok f) (none, (count, left, (settled, reached))) counts free =
      let at : State T = shown_state m q start d' f.settled in
      let searched = subst (λ n. Searched m (net m q) start (Some goal) (shown_state m q start d' n)) (sym settled) left.searched in
      let counted : length at.settled ≡ f.settled = counts.whole_list in
      let tells : Tells (net m q) goal at (found f.total (length at.settled) (take f.legs way'))
      = subst (λ n. Tells (net m q) goal (shown_state m q start d' n) (found f.total (length (shown_state m q start d' n).settled) (take f.legs way'))) (sym settled) (there reached.settled reached.has_total reached.traced) in
      (searched, subst (λ n. Tells (net m q) goal at (found f.total n (take f.legs way'))) counted tells)
  route_told (Err r) (inl (some, same, rest)) counts free = absurd (none_some free some)
  route_told (Err r) (inr (none, (count, left, (no_way, stranded)))) counts free =
      let figure : count ≡ figure_of r = ap figure_of (sym no_way) in
      let at : State T = shown_state m q start d' (figure_of r) in
      let searched = subst (λ n. Searched m (net m q) start (Some goal) (shown_state m q start d' n)) figure left.searched in
      let counted : length (shown_state m q start d' count).settled ≡ count = (counts count no_way).whole_list in
      let tells : Tells (net m q) goal (shown_state m q start d' count) (refused r)
      = subst (λ x. Tells (net m q) goal (shown_state m q start d' count) (refused x)) (ap NoWay counted ∙ sym no_way) (nowhere stranded.unsettled) in
      (searched, subst (λ n. Tells (net m q) goal (shown_state m q start d' n) (refused r)) figure tells)

module _ {T : Type 0} {m : Scale T} (laws : Lawful m) (p : Plant) (sound : Sound p) (s : Sheet) (halls : HallMarks) (start goal : ℕ) (d d' : Desk T) (way way' : List ℕ) (r : Result (Found T) Refusal)
    (answered : SearchAnswered m (seen p s halls goal) start goal d way d' way' r) (counts : AllCounted (seen p s halls goal) d'.settled r) where
  abbrev end : State T
  end = shown_state m (seen p s halls goal) start d' (settled_in r)

  -- the route over what the book lets it use
  told : (b : Book) (k : Marks) → SheetOf p b s → MarksOf p k halls → refusal_of p b (routing start goal d way) ≡ None
      → Searched m (route_net m p b k goal) start (Some goal) end × Tells (route_net m p b k goal) goal end (route_answer r way')
  told b k sheet marks free =
      let goal_in : goal < junctions p = goal_there p start goal d way free in
      let by = route_told m (seen p s halls goal) start goal d d' way way' r answered counts free in
      let same = seen_net m p sound b k s halls goal goal_in sheet marks in
      (subst (λ g. Searched m g start (Some goal) end) same by.0, subst (λ g. Tells g goal end (route_answer r way')) same by.1)

  -- a route that was refused before it began
  held_back : (b : Book) (x : Refusal) → refusal_of p b (routing start goal d way) ≡ Some x → route_answer r way' ≡ refused x
  held_back b x some = by r answered
    where
      by : (r : Result (Found T) Refusal) → SearchAnswered m (seen p s halls goal) start goal d way d' way' r → ◌≡◌ {A = Answer T} (route_answer r way') (refused x)
      by (Ok f) (none, rest) = absurd (none_some none some)
      by (Err e) (inl (held, same, rest)) = ap refused (some_same held some)
      by (Err e) (inr (none, rest)) = absurd (none_some none some)

  answers : (b : Book) (k : Marks) → SheetOf p b s → MarksOf p k halls → (o : Option Refusal) → refusal_of p b (routing start goal d way) ≡ o
      → MatchOption o (CarriedOut m p b k k (routing start goal d way) (route_answer r way')) (λ x. route_answer r way' ≡ refused x)
  answers b k sheet marks None free = let by = told b k sheet marks free in (end, by.0, by.1)
  answers b k sheet marks (Some x) some = held_back b x some

  pub route_goes_on : GoesOn m p (routing start goal d way) (route_answer r way') s halls s halls
  route_goes_on =
      goes_on_by laws p sound (routing start goal d way) (route_answer r way') s s halls halls
      (λ b sheet. nothing_entered p b s (refusal_of p b (routing start goal d way)) sheet)
      (λ b k sheet marks. (k, stays b k (refusal_of p b (routing start goal d way)), marks, answers b k sheet marks (refusal_of p b (routing start goal d way)) refl))
    where
      stays : (b : Book) (k : Marks) (o : Option Refusal) → MatchOption o (Acts m p b k (routing start goal d way) k) (λ x. k ≡ k)
      stays b k None = refl
      stays b k (Some x) = refl

  pub route_promised : KeepsPromise m p s halls start goal d way d' way' r
  route_promised calls w free =
      let by = told (book p calls) w.now_marks w.sheet w.marks free in
      let promise = crew_promise laws p sound calls w.now_marks w.left start goal end by.0 (route_answer r way') by.1 in
      let only = (marks_left laws p sound calls).2 in
      record {
        by_the_rule = λ k left. subst (λ x. Searched m (route_net m p (book p calls) x goal) start (Some goal) end) (only w.now_marks w.left ∙ sym (only k left)) by.0;
        full = promise.0;
        full_search = promise.1;
        kept = promise.2;
      }
