-- For the promises of private functions: no reader has to believe it. Parts of a line, and the readers side by side.
use Rattle.std.specs.Prelude.{ℕ, List, ◌++◌, Option}
use Rattle.layout.specs.declared.Descriptor.{Descriptor}
use Rattle.reader.specs.Judgement as page
use Rattle.scsi.specs.Judgement as scsi
use Rattle.slices.specs.Lists.{one}
use Rattle.text.specs.Digits.{digits, decimal_of}
use Rattle.text.specs.Text.{ascii}
use Rattle.words.specs.declared.Order.TheVariants.{Little, Big}
use Rattle.words.specs.declared.Order.{Order}

-- identifier and bit, each with the space after it
abbrev pub head_of : Descriptor → List ℕ
head_of d = digits 16 8 d.id.0 ++ ascii " " ++ decimal_of (one d.restorable) ++ ascii " "

-- the descriptor at a number, of a page or of SCSI data
abbrev pub slot_at : Order → List ℕ → ℕ → Option Descriptor
slot_at Little s k = page.slot_of Little s k
slot_at Big s k = scsi.slot_of Big s k
