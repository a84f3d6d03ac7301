-- The reader goes by a request's fields, and by whether it sets a reserved bit, alone.
use Prim.Native.Nat.{ℕ}
use mathlib.Core.List.{List}
use mathlib.Core.Path.{◌≡◌}
use Rattle.offences.specs.Checks.{offence_at}
use Rattle.offences.specs.First.{first_below}
use Rattle.request.proofs.Requests.{refused-same}
use Rattle.request.specs.Requests.{SameFields}
use Rattle.request.specs.declared.Request.{Request}
use Rattle.words.specs.declared.Order.{Order}
use Rattle.reader.specs.Promises.{IgnoredUnread}

module _ (o : Order) (s : List ℕ) (p q : Request) (same : SameFields p q) where
  offence_same : (k : ℕ) → offence_at o s p k ≡ offence_at o s q k
  offence_same k = rw (same.start, same.report, same.filter)

  list_same : (n : ℕ) → first_below n (offence_at o s p) ≡ first_below n (offence_at o s q)
  list_same n = λ i. first_below n (λ k. offence_same k i)

pub ignored_unread : IgnoredUnread
ignored_unread o s p q same = rw (refused-same p q same, same.pages, list_same o s p q same _)
