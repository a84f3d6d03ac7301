-- No second answer fits the front call's promise (specs/Promises).
use mathlib.Core.Path.{◌≡◌, ap}
use Rattle.paper.proofs.Once.{number_injective}
use Rattle.front.specs.Front.{Fronted}
use Rattle.front.specs.Promises.{OneLeft}

pub one_left : OneLeft
one_left l m e =
    let answer : l.answer ≡ m.answer = number_injective l.answer m.answer (ap (λ (f : Fronted). f.told.number) e) in
    λ i. record { device = (e i).told.state; answer = answer i; room = (e i).room; count = (e i).count }
