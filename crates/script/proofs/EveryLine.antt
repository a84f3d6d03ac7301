-- A line says what its bytes say (specs/Promises).
use Prim.Native.Nat.{ℕ, ◌≤◌, ◌<◌}
use mathlib.Core.Bool.{Bool, true, false}
use mathlib.Core.List.{List}
use mathlib.Core.Path.{◌≡◌, refl, sym}
use lib.Dec.{ltb}
use lib.ListN.{length}
use borrow.Author.Tests.{le-ltb, ltb-true, ltb-false}
use Rattle.pieces.proofs.EveryLine.{kept_whole, longer_told}
use Rattle.arguments.specs.declared.Line.TheVariants.{NotACall}
use Rattle.pieces.specs.Pieces.{is_long, nothing, gathered}
use Rattle.script.specs.Names.{line_of, meaning_of}
use Rattle.script.specs.Promises.{SaysItsBytes}

line_long : (l : List ℕ) → is_long l ≡ true → NotACall ≡ line_of l
unfolding line_of
line_long l e = sym (rw e)

pub says_its_bytes : SaysItsBytes
says_its_bytes l = by_test (ltb 200 (length l)) refl
  where
    by_test : (t : Bool) → ltb 200 (length l) ≡ t → meaning_of (gathered nothing l) ≡ line_of l
    by_test true e =
        let long : 200 < length l = ltb-true 200 (length l) e in
        rw (longer_told l long) (line_long l e)
    by_test false e =
        let short : length l ≤ 200 = ltb-false 200 (length l) e in
        rw ((kept_whole l short).0, le-ltb 200 (length l) short, (kept_whole l short).1)
