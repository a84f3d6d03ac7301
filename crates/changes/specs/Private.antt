-- What a difference's line begins with, the descriptor that it hands out of a page, and what a changed element's line ends with.
use Rattle.std.specs.Prelude.{ℕ, List, [], ◌∷◌, ◌++◌}
use Rattle.compare.specs.declared.Line.TheVariants.{OnlyOlder, OnlyNewer, Changed}
use Rattle.compare.specs.declared.Line.{Line}
use Rattle.layout.specs.Bytes.{descriptor_in}
use Rattle.layout.specs.declared.Descriptor.{Descriptor}
use Rattle.parts.specs.Parts.{descriptor_part}
use Rattle.rows.specs.Rows.{values_of}
use Rattle.text.specs.Digits.{digits}
use Rattle.text.specs.Text.{ascii}
use Rattle.words.specs.declared.Order.TheVariants.{Little}

-- `-`, `+` or `~`
abbrev pub sign_of : Line → ℕ
sign_of (OnlyOlder k) = 0x2D
sign_of (OnlyNewer k) = 0x2B
sign_of (Changed c) = 0x7E

-- a sign and the identifier, each with the space after it
abbrev pub head_of : ℕ → ℕ → List ℕ
head_of sign id = (sign ∷ 32 ∷ []) ++ digits 16 8 id ++ ascii " "

abbrev pub handed_at : List ℕ → ℕ → Descriptor
handed_at s k = descriptor_in Little (descriptor_part s k)

-- the older values, after an arrow
abbrev pub older_text : List ℕ → ℕ → List ℕ
older_text s k = ascii " <- " ++ values_of (handed_at s k)
