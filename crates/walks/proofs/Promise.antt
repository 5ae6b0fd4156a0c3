-- The promise to the crews. Assumes nothing.
use Rattle.std.proofs.Common.{◌≡◌, ℕ, Bool, ◌↔◌, List, length, Some, Option, sym, refl, ap, ◌∙◌, subst, subst₂, arith}
use Rattle.measure.specs.Scale.{Scale, Lawful}
use Rattle.layout.specs.declared.refusal.Refusal.TheVariants.{NoWay}
use Rattle.walks.specs.Net.{Net, net, only, junctions, hall_at}
use Rattle.walks.specs.Walk.{Walk, Leads, total, Best}
use Rattle.walks.specs.Search.{State, Settled, Searched, Traced}
use Rattle.walks.specs.Marks.{Serves}
use Rattle.walks.specs.Book.{with_book, blank, book}
use Rattle.walks.specs.Orders.{all_lapsed}
use Rattle.walks.specs.Answers.{Answer, found, refused, Tells, there, nowhere}
use Rattle.walks.specs.Promise.{KeptPromise, CrewPromise}
use Rattle.walks.proofs.Order.{Le, Lt}
use Rattle.walks.proofs.Choosing.{some_same}
use Rattle.walks.proofs.Walks.{best_unique, only_walk, only_total}
use Rattle.walks.proofs.Results.{settled_best, traced_walk, found_exactly, settles_all, settles_below}
use Rattle.walks.proofs.Ends.{search_ends}
use Rattle.walks.proofs.Feeding.{feeds_serve}
use Rattle.walks.proofs.Entries.{finite}
use Rattle.walks.proofs.Holding.{leaves_hold, begin_holds}

module _ {T : Type 0} {m : Scale T} (laws : Lawful m) (g : Net T) (at : ℕ → ℕ) (marked : ℕ → Bool) (start goal : ℕ) (s full : State T)
    (serves : Serves m g at (at goal) marked) (r : Searched m (only marked g) start (Some goal) s) (f : Searched m g start (Some goal) full)
  where
    reached : Settled s goal ↔ Leads (only marked g) start goal
    reached = found_exactly laws (only marked g) start goal s r

    inward : Leads g start goal → Leads (only marked g) start goal
    inward w = let b = serves start goal refl w in (b.2.way, b.2.walk)

    outward : (v : ℕ) → Leads (only marked g) start v → Leads g start v
    outward v w = (w.0, only_walk g marked start w.0 v w.1)

    best_in : Settled s goal → (x : T) × (s.total goal ≡ Some x) × Best m g start goal x
    best_in i =
        let h = settled_best laws (only marked g) start (Some goal) s r goal i in
        let b = serves start goal refl (outward goal (reached.0 i)) in
        (h.0, h.1, subst (λ z. Best m g start goal z) (best_unique laws (only marked g) b.2 h.2) b.1)

    -- the way that was traced is a walk with the goal's total
    way : (x : T) → s.total goal ≡ Some x → (es : List ℕ) → Traced (only marked g) s goal es → Walk g start es goal × (total m g es ≡ x)
    way x e es tr =
        let h = traced_walk laws (only marked g) start (Some goal) s r goal x e in
        let q : h.0 ≡ es = sym (h.4 es tr) in (
          only_walk g marked start es goal (subst (λ a. Walk (only marked g) start a goal) q h.2),
          sym (only_total g marked m es) ∙ subst (λ a. total m (only marked g) a ≡ x) q h.3,
        )

    spared :
        (x : T) → Settled s goal → s.total goal ≡ Some x → (v : ℕ) (y : T) → Settled s v → s.total v ≡ Some y → Lt m y x → Settled full v
    spared x i e v y j q lt =
        let b = best_in i in
        let k : Settled full goal = (found_exactly laws g start goal full f).1 (outward goal (reached.0 i)) in
        let h = settled_best laws g start (Some goal) full f goal k in
        let same : h.0 ≡ x = best_unique laws g h.2 b.2 ∙ some_same b.1 e in
        let c = settled_best laws (only marked g) start (Some goal) s r v j in
        let low : total m g c.2.way ≡ y = sym (only_total g marked m c.2.way) ∙ c.2.reached ∙ some_same c.1 q in
        settles_below laws g start goal full f x k (h.1 ∙ ap {B = Option T} Some same) v c.2.way
        (only_walk g marked start c.2.way v c.2.walk) (subst (λ z. Lt m z x) (sym low) lt)

    spared_when_refused : ¬ Settled s goal → (v : ℕ) → Settled s v → Settled full v
    spared_when_refused n v j =
        let c = settled_best laws (only marked g) start (Some goal) s r v j in
        settles_all laws g start (Some goal) full f away v (outward v (c.2.way, c.2.walk))
      where
        away : ¬ Settled full goal
        away i = n (reached.1 (inward ((found_exactly laws g start goal full f).0 i)))

    -- none undercuts it
    lowest : (x : T) → Settled s goal → s.total goal ≡ Some x → (es : List ℕ) → Walk g start es goal → Le m x (total m g es)
    lowest x i e es w = let b = best_in i in subst (λ z. Le m z (total m g es)) (some_same b.1 e) (b.2.lowest es w)

    pub route_keeps : (a : Answer T) → Tells (only marked g) goal s a → KeptPromise m g start goal s full a
    route_keeps a (there {x = x} {way = es} i e tr) =
        record {
          best = λ y n fs q. subst₂ Given (same_total q) (same_way q) ((way x e es tr).0, (way x e es tr).1, lowest x i e);
          no_way = (λ p. absurd (not_refused p.1), λ n. absurd (n (outward goal (reached.0 i))));
          spared = λ y n fs q v z j h lt. spared x i e v z j h (subst (λ p. Lt m z p) (sym (same_total q)) lt);
          spared_when_refused = λ n q. absurd (not_refused q);
        }
      where
        Given : T → List ℕ → Type 0
        Given y fs = Walk g start fs goal × (total m g fs ≡ y) × ((gs : List ℕ) → Walk g start gs goal → Le m y (total m g gs))

        same_total : {y : T} {n : ℕ} {fs : List ℕ} → found x (length s.settled) es ≡ found y n fs → x ≡ y
        same_total q = cc

        same_way : {y : T} {n : ℕ} {fs : List ℕ} → found x (length s.settled) es ≡ found y n fs → es ≡ fs
        same_way q = cc

        not_refused : {n : ℕ} → found x (length s.settled) es ≡ refused (NoWay n) → ⊥
        not_refused q = let z : ◌≡◌ {A = ℕ} 0 1 = cc in omega arith
    route_keeps a (nowhere k) =
        record {
          best = λ y n fs q. absurd (not_found q);
          no_way = (λ p w. k (reached.1 (inward w)), λ n. (length s.settled, refl));
          spared = λ y n fs q. absurd (not_found q);
          spared_when_refused = λ n q. spared_when_refused k;
        }
      where
        not_found : {y : T} {n : ℕ} {fs : List ℕ} → refused (NoWay (length s.settled)) ≡ found y n fs → ⊥
        not_found q = let z : ◌≡◌ {A = ℕ} 0 1 = cc in omega arith

pub crew_promise : {T : Type 0} {m : Scale T} (laws : Lawful m) → CrewPromise m
crew_promise {m = m} laws plant sound calls k left start goal s r a tells =
    let g = net m (with_book plant (book plant calls)) in
    let fin = finite plant m sound (book plant calls) in
    let holds = leaves_hold laws plant sound calls blank all_lapsed k left (begin_holds laws plant sound) in
    let hall = hall_at plant goal in
    let marked = k.marked hall in
    let serves = feeds_serve laws g (junctions plant) (length plant.legs) fin (hall_at plant) hall marked (holds.feeds hall) in
    let full = search_ends laws g (junctions plant) (length plant.legs) fin start (Some goal) in
    (full.0, full.1, route_keeps laws g (hall_at plant) marked start goal s full.0 serves r full.1 a tells)
