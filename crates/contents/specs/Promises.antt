-- What holds of every reading. Each is a statement; proofs/ has the proof under the same name in lower case.
use Rattle.std.specs.Prelude.{ℕ, ◌≤◌, List, ◌≡◌, length}
use Rattle.query.specs.declared.Query.{Query}
use Rattle.reader.specs.Reserved.{LooksAlike}
use Rattle.request.specs.declared.Request.{Request}
use Rattle.words.specs.declared.Order.TheVariants.{Little}
use Rattle.contents.specs.Contents.{reading_of}
use Rattle.contents.specs.DockContents.{scsi_reading_of}

-- room for every reading
abbrev pub Enough : Type 0
Enough = (page : List ℕ) (q : Request) → length (reading_of page q) ≤ 80000

abbrev pub EnoughForData : Type 0
EnoughForData = (bytes : List ℕ) (q : Query) → length (scsi_reading_of bytes q) ≤ 80000

-- "Reserved bytes are not looked at": kept pages that look alike have one reading, for every request
abbrev pub ReservedUnsaid : Type 0
ReservedUnsaid = (s t : List ℕ) → length s ≤ 65536 → LooksAlike Little s t → (q : Request) → reading_of s q ≡ reading_of t q
