-- Laws of what a call changes on the bench: one for each way out.
use Prim.Native.Nat.{ℕ, ◌≤◌, ◌<◌}
use mathlib.Core.Bool.{Bool, false}
use mathlib.Core.List.{List}
use mathlib.Core.Path.{◌≡◌, sym}
use lib.Dec.{eqb}
use lib.ListN.{set}
use borrow.Author.Tests.{le-leb, lt-leb}
use Rattle.offer.specs.declared.Element.{Element}
use Rattle.paper.specs.Answers.{number_of}
use Rattle.paper.specs.declared.Answer.{Answer}
use Rattle.workbench.specs.Changes.{with_element, is_made}

module _ (elements : List Element) (place : ℕ) (e : Element) where
  pub no_place : 128 ≤ place → elements ≡ with_element elements place e
  no_place h = sym (rw (le-leb 128 place h))

  pub placed : place < 128 → set elements place e ≡ with_element elements place e
  placed h = sym (rw (lt-leb 128 place h))

pub none_before : (made : Bool) (answer : Answer) (n : ℕ) → made ≡ false → n ≡ number_of answer → eqb n 0 ≡ is_made made answer
none_before made answer n none is_n = rw (none, is_n)
