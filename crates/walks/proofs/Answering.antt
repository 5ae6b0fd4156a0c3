-- Every call has an answer, and only one. Assumes nothing.
use Rattle.std.proofs.Common.{◌≡◌, ℕ, List, [], ◌∷◌, length, Some, None, Option, sym, refl, ◌∙◌, subst, ap₂, inl, inr, MatchOption}
use Rattle.measure.specs.Scale.{Scale, Lawful}
use Rattle.layout.specs.Plant.{Plant, Sound}
use Rattle.layout.specs.declared.refusal.Refusal.{Refusal}
use Rattle.walks.specs.Net.{Net, net, junctions, hall_at, Finite}
use Rattle.walks.specs.Search.{State, Settled, Searched}
use Rattle.walks.specs.Book.{Call, shut, reopen, set, renew, route, Book, blank, with_book, refusal_of, after}
use Rattle.walks.specs.Orders.{Marks, all_lapsed, Leaves}
use Rattle.walks.specs.Answers.{Answer, halls, legs, found, refused, halls_lapsed, legs_marked, route_net, Tells, there, nowhere, CarriedOut, Answered, Told}
use Rattle.walks.specs.Promise.{AnsweredOnce, ToldOnce}
use Rattle.walks.proofs.Choosing.{Whether, some_same, has?}
use Rattle.walks.proofs.Results.{settled_best, traced_walk, traced_once}
use Rattle.walks.proofs.Once.{determined}
use Rattle.walks.proofs.Ends.{search_ends}
use Rattle.walks.proofs.Nets.{only_finite}
use Rattle.walks.proofs.Entries.{finite}
use Rattle.walks.proofs.Left.{turns_once}

-- a state tells one thing only
tells_once : {T : Type 0} (g : Net T) (goal : ℕ) (s : State T) (a c : Answer T) → Tells g goal s a → Tells g goal s c → a ≡ c
tells_once g goal s a c (there {x = x} {way = es} i e t) (there {x = y} {way = fs} j h r) =
    ap₂ (λ z w. found z (length s.settled) w) (some_same e h) (traced_once g s goal es fs t r)
tells_once g goal s a c (there i e t) (nowhere n) = absurd (n i)
tells_once g goal s a c (nowhere n) (there i e t) = absurd (n i)
tells_once g goal s a c (nowhere n) (nowhere k) = refl

module _ {T : Type 0} {m : Scale T} (laws : Lawful m) where
  -- a finished search tells something
  tells_some : (g : Net T) (start goal : ℕ) (s : State T) → Searched m g start (Some goal) s → (a : Answer T) × Tells g goal s a
  tells_some g start goal s r = go (has? s.settled goal)
    where
      go : Whether (Settled s goal) → (a : Answer T) × Tells g goal s a
      go (inl i) =
          let h = settled_best laws g start (Some goal) s r goal i in
          let w = traced_walk laws g start (Some goal) s r goal h.0 h.1 in
          (found h.0 (length s.settled) w.0, there i h.1 w.1)
      go (inr n) = (_, nowhere n)

  -- so a route answers one thing, and nothing else
  module _ (plant : Plant) (sound : Sound plant) (b : Book) (k : Marks) (start goal : ℕ) where
    abbrev Route : Answer T → Type 0
    Route a = (s : State T) × Searched m (route_net m plant b k goal) start (Some goal) s × Tells (route_net m plant b k goal) goal s a

    route_once : (a : Answer T) × Route a × ((a' : Answer T) → Route a' → a' ≡ a)
    route_once = (told.0, (s, r, told.1), once)
      where
        g : Net T
        g = route_net m plant b k goal

        fin : Finite g (junctions plant) (length plant.legs)
        fin =
            only_finite (k.marked (hall_at plant goal)) (net m (with_book plant b)) (junctions plant) (length plant.legs)
            (finite plant m sound b)

        ended : (s : State T) × Searched m g start (Some goal) s
        ended = search_ends laws g (junctions plant) (length plant.legs) fin start (Some goal)

        s : State T
        s = ended.0

        r : Searched m g start (Some goal) s
        r = ended.1

        told : (a : Answer T) × Tells g goal s a
        told = tells_some g start goal s r

        once : (a : Answer T) → Route a → a ≡ told.0
        once a p =
            let same : p.0 ≡ s = determined laws g start (Some goal) p.0 s p.1 r in
            tells_once g goal s a told.0 (subst (λ t. Tells g goal t a) same p.2) told.1

  pub answered_once : AnsweredOnce m
  answered_once plant sound b k k' call = go call (refusal_of plant b call)
    where
      Once : Call → Option Refusal → Type 0
      Once c o =
          (a : Answer T) × MatchOption o (CarriedOut m plant b k k' c a) (λ r. a ≡ refused r) ×
          ((a' : Answer T) → MatchOption o (CarriedOut m plant b k k' c a') (λ r. a' ≡ refused r) → a' ≡ a)

      go : (c : Call) (o : Option Refusal) → Once c o
      go (shut e) None = (halls (halls_lapsed m plant b k (shut e)), refl, λ a p. p)
      go (shut e) (Some r) = (refused r, refl, λ a p. p)
      go (reopen e) None = (halls (halls_lapsed m plant b k (reopen e)), refl, λ a p. p)
      go (reopen e) (Some r) = (refused r, refl, λ a p. p)
      go (set e c l) None = (halls (halls_lapsed m plant b k (set e c l)), refl, λ a p. p)
      go (set e c l) (Some r) = (refused r, refl, λ a p. p)
      go (renew hall t c w s) None = (legs (legs_marked plant k' hall), refl, λ a p. p)
      go (renew hall t c w s) (Some r) = (refused r, refl, λ a p. p)
      go (route start goal t c w s y) None = route_once plant sound b k start goal
      go (route start goal t c w s y) (Some r) = (refused r, refl, λ a p. p)

  -- the answers of a list of calls, one after the other
  answers_some :
      (plant : Plant) → Sound plant → (calls : List Call) (b : Book) (k k' : Marks) → Leaves m plant b k calls k' →
      (answers : List (Answer T)) × Told m plant b k calls answers k'
  answers_some plant sound [] b k k' e = ([], e)
  answers_some plant sound (call ∷ calls) b k k' l =
      let a = answered_once plant sound b k l.0 call in
      let r = answers_some plant sound calls (after plant b call) l.0 k' l.2 in
      (a.0 ∷ r.0, (l.0, l.1, a.1, r.1))

  told_same :
      (plant : Plant) → Sound plant → (calls : List Call) (b : Book) (k k' : Marks) (heard told : List (Answer T)) →
      Told m plant b k calls heard k' → Told m plant b k calls told k' → heard ≡ told
  told_same plant sound [] b k k' [] [] p q = refl
  told_same plant sound [] b k k' [] (c ∷ told) p q = absurd q
  told_same plant sound [] b k k' (a ∷ heard) told p q = absurd p
  told_same plant sound (call ∷ calls) b k k' [] told p q = absurd p
  told_same plant sound (call ∷ calls) b k k' (a ∷ heard) [] p q = absurd q
  told_same plant sound (call ∷ calls) b k k' (a ∷ heard) (c ∷ told) p q =
      let same : p.0 ≡ q.0 = turns_once laws plant b k p.0 q.0 call p.1 q.1 in
      let once = answered_once plant sound b k q.0 call in
      let here : a ≡ c = once.2 a (subst (λ z. Answered m plant b k z call a) same p.2) ∙ sym (once.2 c q.2) in
      ap₂ (λ x xs. x ∷ xs) here
      (told_same plant sound calls (after plant b call) q.0 k' heard told
      (subst (λ z. Told m plant (after plant b call) z calls heard k') same p.3) q.3)

  pub told_once : ToldOnce m
  told_once plant sound calls k l =
      let r = answers_some plant sound calls blank all_lapsed k l in
      (r.0, r.1, λ others t. told_same plant sound calls blank all_lapsed k others r.0 t r.1)
