-- No second answer fits a lent call (specs/Promises).
use mathlib.Core.Path.{◌≡◌, sym, ap, ◌∙◌}
use lib.ListN.{length}
use Rattle.conduct.proofs.EveryCall.{one_answer}
use Rattle.device.specs.Machine.{command, told}
use Rattle.offer.proofs.Check.{verdict_injective}
use Rattle.paper.proofs.Once.{told_once}
use Rattle.paper.specs.Output.{Output, output}
use Rattle.status.proofs.EveryPage.{one_page}
use Rattle.calls.specs.Offered.{made_from}
use Rattle.calls.specs.Promises.{OneCommand, OneSending, OneFits}

one_command : OneCommand
one_command d s r buf a b x y u v p q =
    let same : (a ≡ b) × (x ≡ y) = told_once (told d (command s r (length buf))) a b x y p.0 q.0 in
    (same.0, same.1, p.1 ∙ sym q.1)

one_sending : OneSending
one_sending t a b m n x y is_a is_b =
    let both : (a ≡ b) × (output m x ≡ output n y) = told_once t a b (output m x) (output n y) is_a is_b in
    (both.0, ap (λ (o : Output). o.count) both.1, ap (λ (o : Output). o.buffer) both.1)

pub one-fits : OneFits
one-fits =
    record {
      changing = one_answer;
      command = one_command;
      showing = one_page;
      sending = one_sending;
      checking = λ es limit a b p q. verdict_injective a b (p ∙ sym q);
      finding = λ es id a b p q. p ∙ sym q;
      making = λ d es limit. told_once (made_from d es limit);
    }
