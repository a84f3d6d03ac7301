-- What holds of every front call. It is a statement; proofs/ has the proof under the same name in lower case.
use Rattle.std.specs.Prelude.{◌≡◌}
use Rattle.front.specs.Front.{left}
use Rattle.front.specs.declared.Left.{Left}

-- no second answer fits, nor another device
abbrev pub OneLeft : Type 0
OneLeft = (l m : Left) → left l ≡ left m → l ≡ m
