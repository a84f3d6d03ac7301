-- Of pages that look alike a difference has one line: the descriptors that it hands out are alike, so they read as one.
use Prim.Native.Nat.{ℕ}
use mathlib.Core.List.{List, ◌++◌}
use mathlib.Core.Path.{◌≡◌}
use Rattle.compare.specs.declared.Cursor.{Cursor}
use Rattle.compare.specs.declared.Line.TheVariants.{OnlyOlder, OnlyNewer, Changed}
use Rattle.compare.specs.declared.Line.{Line}
use Rattle.layout.proofs.Reserved.{descriptor_reserved}
use Rattle.parts.proofs.Reserved.{hands_out_alike}
use Rattle.parts.specs.Parts.{part_of}
use Rattle.reader.specs.Reserved.{LooksAlike}
use Rattle.text.specs.Text.{ascii}
use Rattle.words.specs.declared.Order.TheVariants.{Little}
use Rattle.changes.specs.Changes.{handed, older_of, signed, changed, body_of, line_of}

module _ (s s' t t' : List ℕ) (older : LooksAlike Little s s') (newer : LooksAlike Little t t') where
  handed-same : (l : Line) → handed s t l ≡ handed s' t' l
  unfolding handed
  handed-same l = descriptor_reserved Little (part_of s t l) (part_of s' t' l) (hands_out_alike s s' t t' older newer l)

  older_same : (c : Cursor) → older_of s c ≡ older_of s' c
  unfolding handed older_of
  older_same c = handed-same (OnlyOlder c.older)

  body_same : (l : Line) → body_of s t l ≡ body_of s' t' l
  body_same (OnlyOlder k) = λ i. signed (ascii "- ") (handed-same (OnlyOlder k) i)
  body_same (OnlyNewer k) = λ i. signed (ascii "+ ") (handed-same (OnlyNewer k) i)
  body_same (Changed c) = λ i. changed (handed-same (Changed c) i) (older_same c i)

  pub line_same : (l : Line) → line_of s t l ≡ line_of s' t' l
  unfolding line_of
  line_same l = λ i. body_same l i ++ ascii "\n"
