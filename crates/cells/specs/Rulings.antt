-- What a call rules: a number, one store, the next position.
use Rattle.std.specs.Prelude.{ℕ}
use Rattle.paper.specs.Answers.{number_of}
use Rattle.cells.specs.declared.Position.{Position}
use Rattle.cells.specs.declared.Ruling.{Ruling}
use Rattle.cells.specs.declared.Store.TheVariants.{Nothing}
use Rattle.cells.specs.declared.Store.{Store}

pub record Ruled : Type 0 where
  pub number : ℕ
  pub store : Store
  pub next : Position

-- what the code's ruling says on paper
abbrev pub ruled : Ruling → Ruled
ruled r = record { number = number_of r.answer; store = r.store; next = r.next }

-- a number and no store, at a position
abbrev pub quiet : ℕ → Position → Ruled
quiet n p = record { number = n; store = Nothing; next = p }

-- 0 with one store, and on to a position
abbrev pub goes : Store → Position → Ruled
goes s p = record { number = 0; store = s; next = p }
