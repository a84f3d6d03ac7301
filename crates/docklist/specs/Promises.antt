-- What holds of every listing; that no second answer fits, and that a refusal writes nothing, is said of any bytes in a lent buffer
-- (paper/specs/Promises). It is a statement; proofs/ has the proof under the same name in lower case.
use Rattle.std.specs.Prelude.{ℕ, ◌≤◌, List, ◌≡◌, length}
use Rattle.docklist.specs.Docklist.{listed}

-- room for every listing
abbrev pub Enough : Type 0
Enough = (s out : List ℕ) → 80000 ≤ length out → (listed s out).number ≡ 0
