-- How long a line is: at most 38 bytes for each descriptor that the walk passes by it.
use Prim.Native.Nat.{ℕ, ◌+◌, ◌*◌, ◌≤◌}
use mathlib.Core.List.{List, ◌++◌}
use native.Mathlib.Omega.{arith}
use lib.ListN.{length, length-append}
use Rattle.compare.proofs.Walking.{passed}
use Rattle.compare.specs.declared.Cursor.{Cursor}
use Rattle.compare.specs.declared.Line.TheVariants.{OnlyOlder, OnlyNewer, Changed}
use Rattle.compare.specs.declared.Line.{Line}
use Rattle.layout.specs.declared.Descriptor.{Descriptor}
use Rattle.rows.proofs.Rows.{length_values}
use Rattle.rows.specs.Rows.{values_of}
use Rattle.text.specs.Digits.{digits}
use Rattle.text.specs.Text.{ascii}
use Rattle.changes.specs.Changes.{handed, older_of, signed, changed, line_of}

length-signed : (sign : List ℕ) (d : Descriptor) → length (signed sign d) ≤ length sign + 35
length-signed sign d =
    let id : List ℕ = digits 16 8 d.id.0 in
    omega (
      arith,
      length-append (sign ++ id ++ ascii " ") (values_of d),
      length-append (sign ++ id) (ascii " "),
      length-append sign id,
      length_values d,
    )

module _ (s t : List ℕ) where
  length_older : (k : ℕ) → length (line_of s t (OnlyOlder k)) ≤ 38
  unfolding line_of
  length_older k =
      let d : Descriptor = handed s t (OnlyOlder k) in
      omega (arith, length-append (signed (ascii "- ") d) (ascii "\n"), length-signed (ascii "- ") d)

  length_newer : (k : ℕ) → length (line_of s t (OnlyNewer k)) ≤ 38
  unfolding line_of
  length_newer k =
      let d : Descriptor = handed s t (OnlyNewer k) in
      omega (arith, length-append (signed (ascii "+ ") d) (ascii "\n"), length-signed (ascii "+ ") d)

  length-changed : (c : Cursor) → length (line_of s t (Changed c)) ≤ 68
  unfolding line_of
  length-changed c =
      let d : Descriptor = handed s t (Changed c) in
      let old : Descriptor = older_of s c in
      omega (
        arith,
        length-append (changed d old) (ascii "\n"),
        length-append (signed (ascii "~ ") d ++ ascii " <- ") (values_of old),
        length-append (signed (ascii "~ ") d) (ascii " <- "),
        length-signed (ascii "~ ") d,
        length_values old,
      )

  pub length_line : (l : Line) → length (line_of s t l) ≤ 68
  length_line (OnlyOlder k) = omega (arith, length_older k)
  length_line (OnlyNewer k) = omega (arith, length_newer k)
  length_line (Changed c) = length-changed c

  pub line_passes : (l : Line) → length (line_of s t l) ≤ 38 * passed l
  line_passes (OnlyOlder k) = length_older k
  line_passes (OnlyNewer k) = length_newer k
  line_passes (Changed c) = omega (arith, length-changed c)
