-- What entering keeps of a drawing. Assumes nothing.
use Rattle.std.proofs.Common.{◌≡◌, ℕ, ◌+◌, ◌<◌, ◌≤◌, true, leb, List, ◌∷◌, [], ◌++◌, map, length, get_or, take, set, Some, sym, ap, ◌∙◌, subst, ⊎_elim, arith}
use Rattle.std.specs.Option.{option_map}
use Rattle.std.specs.List.{slice_get}
use Rattle.std.proofs.lemmas.List.{length-map, length-take-le, length_push, take_more_set, map_push}
use Rattle.std.proofs.lemmas.Bool.{leb-true, and_parts}
use Rattle.layout.specs.Limits.{halls_fit}
use Rattle.layout.specs.Plant.{Leg, Plant, Sound, SoundLeg, tails, heads, leg_of}
use Rattle.layout.specs.declared.belt.Belt.{Belt}
use Rattle.plan.specs.Entered.{plant_of}
use Rattle.plan.specs.Drawn.{drawn, begun, with_junction, with_leg}
use Rattle.plan.specs.declared.drawing.Drawing.{Drawing}
use Rattle.layout.proofs.Listed.{nth_map, from_mapped}
use Rattle.plan.proofs.Fronts.{read_mapped}
use Rattle.plan.proofs.Pushed.{old_or_new}

-- the ends of the legs exist
pub tails_exist : (p : Plant) → Sound p → (i n : ℕ) → slice_get (tails p) i ≡ Some n → n < length p.hall_of
tails_exist p s i n e = from_mapped (λ l. l.tail) (λ m. m < length p.hall_of) (slice_get p.legs i) n (sym (nth_map (λ (l : Leg). l.tail) p.legs i) ∙ e) (λ x h. (s.each_leg i x h).tail_exists)

pub heads_exist : (p : Plant) → Sound p → (i n : ℕ) → slice_get (heads p) i ≡ Some n → n < length p.hall_of
heads_exist p s i n e = from_mapped (λ l. l.head) (λ m. m < length p.hall_of) (slice_get p.legs i) n (sym (nth_map (λ (l : Leg). l.head) p.legs i) ∙ e) (λ x h. (s.each_leg i x h).head_exists)

pub with_leg_sound : (p : Plant) (l : Leg) → Sound p → SoundLeg (length p.hall_of) l → length p.legs < 512 → Sound (with_leg p l)
with_leg_sound p l s sl h = record {
  some_halls = s.some_halls;
  few_halls = s.few_halls;
  few_junctions = s.few_junctions;
  few_legs = simp length_push (omega arith);
  hall_exists = s.hall_exists;
  each_leg = λ k leg e. ⊎_elim (λ old. s.each_leg k leg old.1) (λ new. subst (SoundLeg (length p.hall_of)) new.1 sl) (old_or_new p.legs l leg k e);
}

more_junctions : (n m : ℕ) (l : Leg) → n ≤ m → SoundLeg n l → SoundLeg m l
more_junctions n m l h s = record {
  tail_exists = omega arith;
  head_exists = omega arith;
  metres_in_range = s.metres_in_range;
  class_in_range = s.class_in_range;
  clearance_in_range = s.clearance_in_range;
  turn_in_range = s.turn_in_range;
}

pub with_junction_sound : (p : Plant) (hall : ℕ) → Sound p → hall < p.halls → length p.hall_of < 256 → Sound (with_junction p hall)
with_junction_sound p hall s in_range h = record {
  some_halls = s.some_halls;
  few_halls = s.few_halls;
  few_junctions = simp length_push (omega arith);
  few_legs = s.few_legs;
  hall_exists = λ k x e. ⊎_elim (λ old. s.hall_exists k x old.1) (λ new. subst (λ n. n < p.halls) new.1 in_range) (old_or_new p.hall_of hall x k e);
  each_leg = λ k leg e. more_junctions _ _ leg (simp length_push (omega arith)) (s.each_leg k leg e);
}

pub begun_sound : (halls : ℕ) → halls_fit halls ≡ true → Sound (begun halls)
begun_sound halls fit =
    let both = and_parts (leb 1 halls) (leb halls 32) fit in
    record {
      some_halls = leb-true 1 halls both.0;
      few_halls = leb-true halls 32 both.1;
      few_junctions = omega arith;
      few_legs = omega arith;
      hall_exists = λ k x e. let z : ◌≡◌ {A = ℕ} 0 1 = cc in absurd (let w : ⊥ = omega arith in w);
      each_leg = λ k leg e. let z : ◌≡◌ {A = ℕ} 0 1 = cc in absurd (let w : ⊥ = omega arith in w);
    }

module _ (d : Drawing) where
  -- the numbers of entries are the counts
  pub points_are : length (drawn d).hall_of ≡ d.points
  points_are = let few = d.few_points in let wide = d.wide_places in length-take-le d.points d.tables.places (omega arith)

  pub count_is : length (drawn d).legs ≡ d.count
  count_is =
      let few = d.few_belts in let wide = d.wide_belts in
      length-map (take d.count d.tables.belts) leg_of ∙ length-take-le d.count d.tables.belts (omega arith)

  pub ends_are : (end : Leg → ℕ) → length (map end (drawn d).legs) ≡ d.count
  ends_are end = length-map (drawn d).legs end ∙ count_is

  -- an end of a leg that was entered
  pub end_at : (end : Leg → ℕ) (i : ℕ) (unused : Belt) → i < d.count → slice_get (map end (drawn d).legs) i ≡ Some (end (leg_of (get_or d.tables.belts i unused)))
  end_at end i unused lt =
      let few = d.few_belts in let wide = d.wide_belts in
      nth_map end (drawn d).legs i ∙ ap (option_map end) (read_mapped d.tables.belts d.count i leg_of unused lt (omega arith))

  -- the plant after a junction, or a leg, was entered
  pub placed : (hall : ℕ) → d.points < 256 → plant_of d.halls (d.points + 1) (set d.tables.places d.points hall) d.count d.tables.belts ≡ with_junction (drawn d) hall
  placed hall h =
      let wide = d.wide_places in
      ap (λ js. record { halls = d.halls; hall_of = js; legs = (drawn d).legs }) (take_more_set d.tables.places d.points hall (omega arith))

  pub laid : (b : Belt) → d.count < 512 → plant_of d.halls d.points d.tables.places (d.count + 1) (set d.tables.belts d.count b) ≡ with_leg (drawn d) (leg_of b)
  laid b h =
      let wide = d.wide_belts in
      ap (λ ls. record { halls = d.halls; hall_of = (drawn d).hall_of; legs = ls })
      (ap (map leg_of) (take_more_set d.tables.belts d.count b (omega arith)) ∙ map_push leg_of (take d.count d.tables.belts) b)

  -- and its limits
  pub placed_sound : (hall : ℕ) → hall < d.halls → d.points < 256 → Sound (plant_of d.halls (d.points + 1) (set d.tables.places d.points hall) d.count d.tables.belts)
  placed_sound hall in_range h =
      let many = points_are in subst Sound (sym (placed hall h)) (with_junction_sound (drawn d) hall d.sound in_range (omega arith))

  pub laid_sound : (b : Belt) → SoundLeg d.points (leg_of b) → d.count < 512 → Sound (plant_of d.halls d.points d.tables.places (d.count + 1) (set d.tables.belts d.count b))
  laid_sound b fit h =
      let many = count_is in
      subst Sound (sym (laid b h)) (with_leg_sound (drawn d) (leg_of b) d.sound (subst (λ n. SoundLeg n (leg_of b)) (sym points_are) fit) (omega arith))

  -- the junctions at one end of the legs
  pub ends_laid : (end : Leg → ℕ) (b : Belt) (old new : List ℕ) → d.count < 512 → old ≡ map end (drawn d).legs → new ≡ old ++ (end (leg_of b) ∷ [])
      → new ≡ map end (plant_of d.halls d.points d.tables.places (d.count + 1) (set d.tables.belts d.count b)).legs
  ends_laid end b old new h was pushed =
      pushed ∙ ap (λ ks. ks ++ (end (leg_of b) ∷ [])) was ∙ sym (ap (λ p. map end p.legs) (laid b h) ∙ map_push end (drawn d).legs (leg_of b))
