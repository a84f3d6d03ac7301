-- No second answer fits (specs/Promises): what was heard gives the answer back.
use mathlib.Core.Path.{◌≡◌, refl, sym, ap, ◌∙◌}
use Rattle.std.proofs.Common.{Result, Ok, Err}
use Rattle.offences.specs.declared.Offence.{Offence}
use Rattle.paper.specs.Told.{Told}
use Rattle.scsi.specs.Judgement.{Values, reading, place, heard}
use Rattle.scsi.specs.Promises.{OneJudgement}
use Rattle.scsi.specs.declared.Reading.{Reading}

abbrev of : Values → Result Reading Offence
of (reading h whole torn) = Ok (record { header = h; whole = whole; torn = torn })
of (place p) = Err (record { 0 = p })

abbrev answer : Told Values → Result Reading Offence
answer t = of t.state

back : (a : Result Reading Offence) → answer (heard a) ≡ a
back (Ok r) = refl
back (Err e) = refl

pub one_judgement : OneJudgement
one_judgement o s q a b is_a is_b = sym (back a) ∙ ap answer (is_a ∙ sym is_b) ∙ back b
