-- Every list of calls leaves marks, and only one set of them. Assumes nothing.
use Rattle.std.proofs.Common.{◌≡◌, ℕ, Bool, true, false, List, [], ◌∷◌, ◌++◌, length, Some, None, Option, sym, refl, ap, ◌∙◌, subst, inl, inr, MatchOption}
use mathlib.Core.Path.{fun_ext}
use Rattle.std.proofs.lemmas.Bool.{cases_eq}
use Rattle.measure.specs.Scale.{Scale, Lawful}
use Rattle.layout.specs.Plant.{Plant, Sound}
use Rattle.layout.specs.declared.refusal.Refusal.{Refusal}
use Rattle.walks.specs.Net.{net, junctions, hall_at}
use Rattle.walks.specs.Marks.{Exactly}
use Rattle.walks.specs.Book.{Call, shut, reopen, set, renew, route, Book, blank, with_book, refusal_of, put, after, kept}
use Rattle.walks.specs.Orders.{Marks, all_lapsed, lapsed, lapsing, Stays, Renewed, Acts, Turns, Leaves}
use Rattle.walks.specs.Promise.{MarksLeft, CarriesOn}
use Rattle.walks.proofs.Order.{no_both}
use Rattle.walks.proofs.Entries.{put_same, put_other, finite}
use Rattle.walks.proofs.Flagging.{flags, flags_exactly}
use Rattle.walks.proofs.Choosing.{Whether}

-- tests that pass for the same
bool_same : (a b : Bool) → (a ≡ true → b ≡ true) → (b ≡ true → a ≡ true) → a ≡ b
bool_same true true p q = refl
bool_same true false p q = absurd (no_both (p refl) refl)
bool_same false true p q = absurd (no_both (q refl) refl)
bool_same false false p q = refl

marks_same : (a c : Marks) → ((h : ℕ) → Stays c a h) → a ≡ c
marks_same a c st =
    λ i. record { force = fun_ext (λ h. (st h).same_force) i; marked = fun_ext (λ h. fun_ext (λ e. (st h).same_marks e)) i }

module _ {T : Type 0} {m : Scale T} (laws : Lawful m) (plant : Plant) where
  renewed_once :
      (b : Book) (hall : ℕ) (k a c : Marks) → Renewed m (with_book plant b) hall k a → Renewed m (with_book plant b) hall k c → a ≡ c
  renewed_once b hall k a c p q = marks_same a c (λ h. go h (cases_eq h hall))
    where
      same_mark : (e : ℕ) → a.marked hall e ≡ c.marked hall e
      same_mark e =
          bool_same (a.marked hall e) (c.marked hall e) (λ i. (q.exactly e).1 ((p.exactly e).0 i))
          (λ i. (p.exactly e).1 ((q.exactly e).0 i))

      go : (h : ℕ) → Whether (h ≡ hall) → Stays c a h
      go h (inl r) = subst (Stays c a) (sym r) (record { same_force = p.in_force ∙ sym q.in_force; same_marks = same_mark })
      go h (inr n) =
          let x = p.others h n in
          let y = q.others h n in
          record { same_force = x.same_force ∙ sym y.same_force; same_marks = λ e. x.same_marks e ∙ sym (y.same_marks e) }

  acts_once : (b : Book) (k a c : Marks) (call : Call) → Acts m plant b k call a → Acts m plant b k call c → a ≡ c
  acts_once b k a c (shut e) p q = p ∙ sym q
  acts_once b k a c (reopen e) p q = p ∙ sym q
  acts_once b k a c (set e x y) p q = p ∙ sym q
  acts_once b k a c (renew hall t z w s) p q = renewed_once b hall k a c p q
  acts_once b k a c (route u v t z w s y) p q = p ∙ sym q

  pub turns_once : (b : Book) (k a c : Marks) (call : Call) → Turns m plant b k call a → Turns m plant b k call c → a ≡ c
  turns_once b k a c call p q = go (refusal_of plant b call) p q
    where
      go : (o : Option Refusal) → MatchOption o (Acts m plant b k call a) (λ r. a ≡ k) → MatchOption o (Acts m plant b k call c) (λ r. c ≡ k) → a ≡ c
      go None x y = acts_once b k a c call x y
      go (Some r) x y = x ∙ sym y

  leaves_once : (calls : List Call) (b : Book) (k a c : Marks) → Leaves m plant b k calls a → Leaves m plant b k calls c → a ≡ c
  leaves_once [] b k a c p q = p ∙ sym q
  leaves_once (call ∷ calls) b k a c p q =
      leaves_once calls (after plant b call) q.0 a c
      (subst (λ z. Leaves m plant (after plant b call) z calls a) (turns_once b k p.0 q.0 call p.1 q.1) p.2) q.2

  leaves_more :
      (calls : List Call) (b : Book) (k mid k' : Marks) (call : Call) → Leaves m plant b k calls mid →
      Turns m plant (kept plant b calls) mid call k' → Leaves m plant b k (calls ++ (call ∷ [])) k'
  leaves_more [] b k mid k' call e t = (k', subst (λ z. Turns m plant b z call k') e t, refl)
  leaves_more (c ∷ calls) b k mid k' call l t = (l.0, l.1, leaves_more calls (after plant b c) l.0 mid k' call l.2 t)

  module _ (sound : Sound plant) where
    renewed_some : (b : Book) (hall : ℕ) (k : Marks) → (k' : Marks) × Renewed m (with_book plant b) hall k k'
    renewed_some b hall k = (
      record { force = put hall true k.force; marked = put hall new k.marked },
      record {
        in_force = put_same hall true k.force hall refl;
        exactly =
            subst (λ f. Exactly m (net m (with_book plant b)) (hall_at plant) hall f) (sym (put_same hall new k.marked hall refl))
            (flags_exactly laws (net m (with_book plant b)) (junctions plant) (length plant.legs) (finite plant m sound b)
            (hall_at plant) hall);
        others =
            λ h n.
            record { same_force = put_other hall true k.force h n; same_marks = λ e. ap (λ f. f e) (put_other hall new k.marked h n) };
      },
    )
      where
        new : ℕ → Bool
        new = flags laws (net m (with_book plant b)) (junctions plant) (length plant.legs) (finite plant m sound b) (hall_at plant) hall

    acts_some : (b : Book) (k : Marks) (call : Call) → (k' : Marks) × Acts m plant b k call k'
    acts_some b k (shut e) = (lapsed (lapsing m plant b k (shut e)) k, refl)
    acts_some b k (reopen e) = (lapsed (lapsing m plant b k (reopen e)) k, refl)
    acts_some b k (set e c l) = (lapsed (lapsing m plant b k (set e c l)) k, refl)
    acts_some b k (renew hall t c w s) = renewed_some b hall k
    acts_some b k (route u v t c w s y) = (k, refl)

    turns_some : (b : Book) (k : Marks) (call : Call) → (k' : Marks) × Turns m plant b k call k'
    turns_some b k call = go (refusal_of plant b call)
      where
        go : (o : Option Refusal) → (k' : Marks) × MatchOption o (Acts m plant b k call k') (λ r. k' ≡ k)
        go None = acts_some b k call
        go (Some r) = (k, refl)

    leaves_some : (calls : List Call) (b : Book) (k : Marks) → (k' : Marks) × Leaves m plant b k calls k'
    leaves_some [] b k = (k, refl)
    leaves_some (call ∷ calls) b k =
        let t = turns_some b k call in
        let r = leaves_some calls (after plant b call) t.0 in
        (r.0, (t.0, t.1, r.1))

pub marks_left : {T : Type 0} {m : Scale T} (laws : Lawful m) → MarksLeft m
marks_left laws plant sound calls =
    let r = leaves_some laws plant sound calls blank all_lapsed in
    (r.0, r.1, λ k' l. leaves_once laws plant calls blank all_lapsed k' r.0 l r.1)

pub carries_on : {T : Type 0} {m : Scale T} (laws : Lawful m) → CarriesOn m
carries_on laws plant calls k l call k' t = leaves_more laws plant calls blank all_lapsed k k' call l t
