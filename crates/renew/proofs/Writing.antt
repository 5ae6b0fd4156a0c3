-- Marks of a hall written leg by leg. Assumes nothing.
use Rattle.std.proofs.Common.{◌≡◌, ℕ, ◌+◌, ◌<◌, ◌≤◌, Bool, true, false, cond, ◌&&◌, eqb, ◌≢◌, ◌⊎◌, ◌↔◌, Decides, sym, refl, ap, ◌∙◌, subst, inl, inr, ⊎_elim, arith}
use Rattle.std.proofs.lemmas.Bool.{both_ways, cases_eq, eq-eqb, ne_eqb, lt-ltb, and_from, and_left, and_right}
use Rattle.measure.specs.Scale.{Scale}
use Rattle.layout.specs.Limits.{most_halls, most_legs}
use Rattle.layout.specs.Plant.{Plant}
use Rattle.marks.specs.Mark.{is_marked, possible}
use Rattle.marks.specs.declared.words.Marks.{Marks}
use Rattle.walks.specs.Marks.{BothEnds}
use Rattle.walks.specs.Net.{net, hall_at}
use Rattle.renew.specs.Flags.{LeadsBest, FlaggedTo, Written}

-- at first nothing is written
pub written_none : (hall : ℕ) (P : ℕ → Type 0) (old : Marks) → Written hall 0 P old old
written_none hall P old = record { exactly = λ e below. absurd (let w : ⊥ = omega (arith, below) in w); others = λ h e out. refl }

-- one leg more, and nothing else
written_more :
    (hall i : ℕ) (P : ℕ → Type 0) (old mid new : Marks) → Written hall i P old mid
    → ((h e : ℕ) → (h ≢ hall) ⊎ (e ≢ i) → is_marked new h e ≡ is_marked mid h e)
    → (is_marked new hall i ≡ true) ↔ P i
    → Written hall (i + 1) P old new
written_more hall i P old mid new w stands here =
    let each : (e : ℕ) → e < i + 1 → (is_marked new hall e ≡ true) ↔ P e
    = λ e below.
    ⊎_elim
    (λ same. subst (λ k. (is_marked new hall k ≡ true) ↔ P k) (sym same) here)
    (λ apart.
    subst (λ b. (b ≡ true) ↔ P e) (sym (stands hall e (inr apart))) (w.exactly e (omega (arith, below, apart))))
    (cases_eq e i) in
    let past : (h e : ℕ) → (h ≢ hall) ⊎ (i + 1 ≤ e) → is_marked new h e ≡ is_marked old h e
    = λ h e out.
    ⊎_elim
    (λ other. stands h e (inl other) ∙ w.others h e (inl other))
    (λ far. stands h e (inr (λ same. omega (arith, far, same))) ∙ w.others h e (inr (omega (arith, far))))
    out in
    record { exactly = each; others = past }

-- the leg is written as a test says
pub written_put :
    (hall i : ℕ) (P : ℕ → Type 0) (old mid new : Marks) (r : Bool) → hall < most_halls → i < most_legs → Written hall i P old mid
    → ((h e : ℕ) → is_marked new h e ≡ cond (eqb h hall && eqb e i) (possible hall i && r) (is_marked mid h e))
    → Decides r (P i)
    → Written hall (i + 1) P old new
written_put hall i P old mid new r hall_in leg_in w put decides =
    let there : possible hall i ≡ true = and_from _ _ (lt-ltb hall most_halls hall_in) (lt-ltb i most_legs leg_in) in
    let here : is_marked new hall i ≡ r
    = put hall i ∙ ap (λ b. cond b (possible hall i && r) (is_marked mid hall i)) (and_from _ _ (eq-eqb hall hall refl) (eq-eqb i i refl)) ∙ ap (λ b. b && r) there in
    let stands : (h e : ℕ) → (h ≢ hall) ⊎ (e ≢ i) → is_marked new h e ≡ is_marked mid h e
    = λ h e out. put h e ∙ ap (λ b. cond b (possible hall i && r) (is_marked mid h e)) (⊎_elim (λ other. and_left _ _ (ne_eqb h hall other)) (λ apart. and_right _ _ (ne_eqb e i apart)) out) in
    written_more hall i P old mid new w stands ((λ e. decides.0 (sym here ∙ e)), (λ x. here ∙ decides.1 x))

-- the leg is left as it is
pub written_skip :
    (hall i : ℕ) (P : ℕ → Type 0) (old mid : Marks) → Written hall i P old mid
    → (is_marked old hall i ≡ true) ↔ P i
    → Written hall (i + 1) P old mid
written_skip hall i P old mid w here =
    let le : i ≤ i = omega arith in
    written_more hall i P old mid mid w (λ h e out. refl) (subst (λ b. (b ≡ true) ↔ P i) (sym (w.others hall i (inr le))) here)

-- what is written goes by which legs P holds of
pub written_same : (hall n : ℕ) (P Q : ℕ → Type 0) (old new : Marks) → ((e : ℕ) → P e ↔ Q e) → Written hall n P old new → Written hall n Q old new
written_same hall n P Q old new same w = record {
  exactly = λ e below. ((λ h. (same e).0 ((w.exactly e below).0 h)), (λ q. (w.exactly e below).1 ((same e).1 q)));
  others = w.others;
}

-- before any entry the legs inside are flagged
pub inside_flagged : {T : Type 0} (m : Scale T) (p : Plant) (hall e : ℕ) (r : Bool)
    → Decides r (((net m p).usable e ≡ true) × BothEnds (net m p) (hall_at p) hall e) → Decides r (FlaggedTo m p hall 0 e)
inside_flagged m p hall e r decides =
    let to : r ≡ true → FlaggedTo m p hall 0 e = λ hit. record { usable = (decides.0 hit).0; because = inl (decides.0 hit).1 } in
    let back : FlaggedTo m p hall 0 e → r ≡ true
    = λ f. decides.1 (f.usable, ⊎_elim (λ inside. inside) (λ entry. absurd (let w : ⊥ = omega (arith, entry.1) in w)) f.because) in
    (to, back)

-- a leg that begins a best walk, or was marked
pub best_yes : {T : Type 0} (m : Scale T) (p : Plant) (b i : ℕ) (was : Bool) (r : Bool) → Decides r (LeadsBest m p b i) → r ≡ true → Decides true ((was ≡ true) ⊎ LeadsBest m p b i)
best_yes m p b i was r decides hit = ((λ _. inr (decides.0 hit)), (λ _. refl))

pub best_no : {T : Type 0} (m : Scale T) (p : Plant) (b i : ℕ) (was : Bool) (r : Bool) → Decides r (LeadsBest m p b i) → r ≡ false → (was ≡ true) ↔ ((was ≡ true) ⊎ LeadsBest m p b i)
best_no m p b i was r decides missed = (inl, ⊎_elim (λ e. e) (λ l. absurd (both_ways r missed (decides.1 l))))
