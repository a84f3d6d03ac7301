-- No second answer fits (specs/Promises): what was heard gives the answer back.
use mathlib.Core.Path.{◌≡◌, refl, sym, ap, ◌∙◌}
use Rattle.paper.specs.Told.{Told}
use Rattle.paper.specs.declared.ElementId.{ElementId}
use Rattle.std.proofs.Common.{Option, Result, Ok, Err}
use Rattle.reach.specs.Opening.{Values, bound, turn, heard}
use Rattle.reach.specs.Promises.{OneOpening, OneJudgement}
use Rattle.reach.specs.declared.Turn.{Turn}

abbrev of : Values → Result (Option ElementId) Turn
of (bound b) = Ok b
of (turn t) = Err t

abbrev answer : Told Values → Result (Option ElementId) Turn
answer u = of u.state

back : (a : Result (Option ElementId) Turn) → answer (heard a) ≡ a
back (Ok b) = refl
back (Err t) = refl

pub one_opening : OneOpening
one_opening s t q a b is_a is_b = sym (back a) ∙ ap answer (is_a ∙ sym is_b) ∙ back b

pub one_judgement : OneJudgement
one_judgement s t a b is_a is_b = sym (back a) ∙ ap answer (is_a ∙ sym is_b) ∙ back b
