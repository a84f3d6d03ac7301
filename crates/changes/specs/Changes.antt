-- The line of a difference, as docs/changes/2026-01 asks for it: "a line for each difference, `-` or `+` or `~`, identifier, type, health,
-- capacity as the listing has them". The older page is s, the newer t.
use Rattle.std.specs.Prelude.{ℕ, List, ◌++◌}
use Rattle.compare.specs.declared.Cursor.{Cursor}
use Rattle.compare.specs.declared.Line.TheVariants.{OnlyOlder, OnlyNewer, Changed}
use Rattle.compare.specs.declared.Line.{Line}
use Rattle.layout.specs.Bytes.{descriptor_in}
use Rattle.layout.specs.declared.Descriptor.{Descriptor}
use Rattle.parts.specs.Parts.{descriptor_part, part_of}
use Rattle.rows.specs.Rows.{values_of}
use Rattle.text.specs.Digits.{digits}
use Rattle.text.specs.Text.{ascii}
use Rattle.words.specs.declared.Order.TheVariants.{Little}

-- the descriptor that a line hands out
unfoldable pub handed : List ℕ → List ℕ → Line → Descriptor
handed s t l = descriptor_in Little (part_of s t l)

-- the older one of a changed element
unfoldable pub older_of : List ℕ → Cursor → Descriptor
older_of s c = descriptor_in Little (descriptor_part s c.older)

abbrev pub signed : List ℕ → Descriptor → List ℕ
signed sign d = sign ++ digits 16 8 d.id.0 ++ ascii " " ++ values_of d

-- "for `~` the older values after an arrow"
abbrev pub changed : Descriptor → Descriptor → List ℕ
changed d old = signed (ascii "~ ") d ++ ascii " <- " ++ values_of old

-- without its newline. The flag is not printed: where it alone has changed, both sides read the same
abbrev pub body_of : List ℕ → List ℕ → Line → List ℕ
body_of s t (OnlyOlder k) = signed (ascii "- ") (handed s t (OnlyOlder k))
body_of s t (OnlyNewer k) = signed (ascii "+ ") (handed s t (OnlyNewer k))
body_of s t (Changed c) = changed (handed s t (Changed c)) (older_of s c)

unfoldable pub line_of : List ℕ → List ℕ → Line → List ℕ
line_of s t l = body_of s t l ++ ascii "\n"
