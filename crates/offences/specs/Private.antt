-- For the promises of private functions: no reader has to believe it. How far a list is clean.
use Rattle.std.specs.Prelude.{ℕ, ◌≤◌, List, Ok, ◌≡◌}
use Rattle.request.specs.declared.Request.{Request}
use Rattle.words.specs.declared.Order.{Order}
use Rattle.offences.specs.Checks.{base_of, last_before, offence_at}
use Rattle.offences.specs.First.{first_below}

-- a place in a list of `count`, or its end: the descriptors before it are clean, and `last` is the identifier before it
pub record Swept (o : Order) (s : List ℕ) (q : Request) (count at last : ℕ) : Type 0 where
  pub k : ℕ
  pub is_at : at ≡ base_of k
  pub few : k ≤ count
  pub is_last : last ≡ last_before o s k
  pub clean : first_below k (offence_at o s q) ≡ Ok tt
