-- No second ruling fits: its number tells its answer (specs/Promises).
use mathlib.Core.Path.{ap}
use Rattle.paper.proofs.Once.{number_injective}
use Rattle.cells.specs.Promises.{OneRuling}
use Rattle.cells.specs.Rulings.{Ruled}

pub one_ruling : OneRuling
one_ruling a b e =
    λ i. record {
      answer = number_injective a.answer b.answer (ap (λ (r : Ruled). r.number) e) i;
      store = (e i).store;
      next = (e i).next;
    }
