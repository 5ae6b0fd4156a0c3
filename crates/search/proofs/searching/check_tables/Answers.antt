use Rattle.std.proofs.Common.{◌≡◌, ◌+◌, ◌<◌, ltb, length, Some, None, sym, ap, ◌∙◌, option_map, rules}
use Rattle.std.specs.List.{position}
use Rattle.std.proofs.lemmas.List.Quantifiers.{position-Some}
use Rattle.layout.specs.Refused.{answered}
use Rattle.layout.specs.declared.refusal.Refusal.TheVariants.{ShortTable}
use Rattle.search.proofs.Sizes.{short_place}
use Rattle.search.proofs.searching.check_tables.Goals as goal

pub returns-in_default : goal.returns-in_default
returns-in_default c few =
    let n = c.args.junctions in
    let sizes = c.args.sizes.now in
    let none : position (λ s. ltb s n) sizes ≡ None = sym c.first_short.ensures ∙ c.in_default.is in
    sym (ap (λ o. answered o tt) (short_place n 1 sizes ∙ ap (option_map (λ i. ShortTable (1 + i))) none))

pub returns : goal.returns
returns c few =
    let n = c.args.junctions in
    let sizes = c.args.sizes.now in
    let place = c.in-Some.place in
    let there : position (λ s. ltb s n) sizes ≡ Some place = sym c.first_short.ensures ∙ c.in-Some.is in
    let inside : place < length sizes = (position-Some (λ s. ltb s n) sizes place 0 there).0 in
    let exact : c.saturating_add.result ≡ 1 + place = search rules in
    ap (λ j. answered (Some (ShortTable j)) tt) exact
    ∙ sym (ap (λ o. answered o tt) (short_place n 1 sizes ∙ ap (option_map (λ i. ShortTable (1 + i))) there))
