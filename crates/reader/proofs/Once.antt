-- No second answer fits (specs/Promises): what was heard gives the answer back.
use mathlib.Core.Path.{◌≡◌, refl, sym, ap, ◌∙◌}
use Rattle.std.proofs.Common.{Result, Ok, Err}
use Rattle.layout.specs.declared.Header.{Header}
use Rattle.offences.specs.declared.Offence.{Offence}
use Rattle.paper.specs.Told.{Told}
use Rattle.reader.specs.Judgement.{Values, header, place, heard}
use Rattle.reader.specs.Promises.{OneJudgement}

abbrev of : Values → Result Header Offence
of (header h) = Ok h
of (place p) = Err (record { 0 = p })

abbrev answer : Told Values → Result Header Offence
answer t = of t.state

back : (a : Result Header Offence) → answer (heard a) ≡ a
back (Ok h) = refl
back (Err e) = refl

pub one_judgement : OneJudgement
one_judgement o s q a b is_a is_b = sym (back a) ∙ ap answer (is_a ∙ sym is_b) ∙ back b
