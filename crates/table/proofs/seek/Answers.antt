-- `table::seek`: where `position` stops, the search does; past all, it stops at their end.
use Rattle.std.proofs.Common.{leb, rules, tests, sym, ◌∙◌, length}
use Rattle.std.proofs.lemmas.Iterator.{YieldsList-from_slice}
use Rattle.std.proofs.lemmas.Iterator.Search.{position_from_yields_List}
use Rattle.std.proofs.lemmas.List.{get_or_past}
use native.Mathlib.Omega.{arith}
use Rattle.table.specs.Elements.{blank_part}
use Rattle.table.specs.Search.{sought_in}
use Rattle.table.specs.declared.Part.{Part}
use Rattle.table.proofs.Search.{stopped, passed}
use Rattle.table.proofs.seek.Goals as goal

pub returns-then-part-id : goal.returns-then-part-id
unfolding sought_in
returns-then-part-id c =
    let e = position_from_yields_List (λ (p : Part). leb c.args.id.0 p.id.0) _ _ c.position.result c.position.ensures.ran (YieldsList-from_slice c.args.parts.now c.iter.ensures.rest) (λ x b q k. search (rules, tests)) in
    let p = stopped (λ (p : Part). p.id.0) c.args.id.0 blank_part c.args.parts.now c.in-Some.place (sym e ∙ c.in-Some.is) in
    search (rules, tests, p.0, p.1)

pub returns-else-part-id : goal.returns-else-part-id
unfolding sought_in
returns-else-part-id c =
    let e = position_from_yields_List (λ (p : Part). leb c.args.id.0 p.id.0) _ _ c.position.result c.position.ensures.ran (YieldsList-from_slice c.args.parts.now c.iter.ensures.rest) (λ x b q k. search (rules, tests)) in
    let p = stopped (λ (p : Part). p.id.0) c.args.id.0 blank_part c.args.parts.now c.in-Some.place (sym e ∙ c.in-Some.is) in
    search (rules, tests, p.0, p.1)

pub returns-in-None : goal.returns-in-None
unfolding sought_in
returns-in-None c =
    let e = position_from_yields_List (λ (p : Part). leb c.args.id.0 p.id.0) _ _ c.position.result c.position.ensures.ran (YieldsList-from_slice c.args.parts.now c.iter.ensures.rest) (λ x b q k. search (rules, tests)) in
    let p = passed (λ (p : Part). p.id.0) c.args.id.0 blank_part c.args.parts.now (sym e ∙ c.in-None.is) in
    search (rules, tests, p.0, p.1, get_or_past c.args.parts.now (length c.args.parts.now) blank_part (omega arith))
