-- `offer::found_in`: where `position` stops, the search does.
use Rattle.std.proofs.Common.{leb, rules, tests, sym, ◌∙◌}
use Rattle.std.proofs.lemmas.Iterator.{YieldsList-from_slice}
use Rattle.std.proofs.lemmas.Iterator.Search.{position_from_yields_List}
use Rattle.offer.specs.Elements.{blank}
use Rattle.offer.specs.Search.{find}
use Rattle.offer.specs.declared.Element.{Element}
use Rattle.table.proofs.Search.{stopped, passed, chosen}
use Rattle.offer.proofs.found_in.Goals as goal

pub returns-in_err-place : goal.returns-in_err-place
unfolding find
returns-in_err-place c =
    let e = position_from_yields_List (λ (e : Element). leb c.args.id.0 e.id.0) _ _ c.position.result c.position.ensures.ran (YieldsList-from_slice c.args.elements.now c.iter.ensures.rest) (λ x b q k. search (rules, tests)) in
    let p = passed (λ (e : Element). e.id.0) c.args.id.0 blank c.args.elements.now (sym e ∙ c.in_err-place.was) in
    rw p.1 c.from_residual.ensures

pub returns : goal.returns
unfolding find
returns c =
    let e = position_from_yields_List (λ (e : Element). leb c.args.id.0 e.id.0) _ _ c.position.result c.position.ensures.ran (YieldsList-from_slice c.args.elements.now c.iter.ensures.rest) (λ x b q k. search (rules, tests)) in
    let p = stopped (λ (e : Element). e.id.0) c.args.id.0 blank c.args.elements.now c.in_ok-place.place (sym e ∙ c.in_ok-place.was) in
    rw (p.1, p.0) (c.then_some.ensures ∙ chosen _ _)
