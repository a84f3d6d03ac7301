-- Reserved bytes are not looked at (specs/Promises). Data that looks alike has one header and the same whole descriptors; and these and the
-- length are all that is read.
use Prim.Native.Nat.{ℕ, ◌<◌}
use mathlib.Core.Bool.{not}
use mathlib.Core.List.{List}
use mathlib.Core.Path.{◌≡◌, ◌∙◌}
use lib.Dec.{eqb, leb}
use lib.ListN.{length, drop}
use Rattle.layout.proofs.Reserved.{header_reserved, descriptor_reserved}
use Rattle.layout.specs.Bytes.{header_in}
use Rattle.offences.proofs.Checks.{list_same}
use Rattle.offences.specs.Checks.{base_of, descriptor_at}
use Rattle.offences.specs.First.{unless, ◌or_else◌}
use Rattle.query.specs.Queries.{due_four, asked}
use Rattle.query.specs.declared.Query.{Query}
use Rattle.words.specs.declared.Order.{Order}
use Rattle.scsi.specs.Data.{whole_of, torn_of, contents_of, data_offence}
use Rattle.scsi.specs.Judgement.{answer_of, read_of, slot_of}
use Rattle.scsi.specs.Promises.{ReservedUnseen}
use Rattle.scsi.specs.Reserved.{LooksAlike}
use Rattle.scsi.proofs.Slots.{slots_alike}

module _ (o : Order) (s t : List ℕ) (alike : LooksAlike o s t) where
  abbrev n : ℕ
  n = (header_in o s).number

  abbrev whole : ℕ
  whole = whole_of n (length s)

  header_same : header_in o s ≡ header_in o t
  header_same = header_reserved o s t alike.header

  whole_same : whole ≡ whole_of (header_in o t).number (length t)
  whole_same = λ i. whole_of (header_same i).number (alike.long i)

  descriptor_same : (k : ℕ) → k < whole → descriptor_at o s k ≡ descriptor_at o t k
  descriptor_same k less = descriptor_reserved o (drop (base_of k) s) (drop (base_of k) t) (alike.list k less)

  module _ (q : Query) where
    contents_same : contents_of o s q n whole ≡ contents_of o t q (header_in o t).number (whole_of (header_in o t).number (length t))
    contents_same =
        (λ i. list_same o o s t whole descriptor_same (asked q) i or_else unless (leb (alike.long i) (base_of n)) (base_of n))
        ∙ (λ i. contents_of o t q (header_same i).number (whole_same i))

    offences_same : data_offence o s q ≡ data_offence o t q
    offences_same = λ i.
        unless (leb 32 (alike.long i)) 0 or_else
        (unless (not (due_four q)) 0 or_else
        (unless (eqb (header_same i).returned (header_same i).number) 4 or_else
        contents_same i))

    read_same : read_of o s q ≡ read_of o t q
    read_same = λ i. answer_of (offences_same i) (header_same i) (whole_same i) (torn_of (header_same i).number (alike.long i))

  slot_same : (k : ℕ) → slot_of o s k ≡ slot_of o t k
  slot_same k =
      slots_alike whole (whole_of (header_in o t).number (length t)) whole_same (descriptor_at o s k) (descriptor_at o t k) k
      (λ less. descriptor_same k (rw whole_same less))

pub reserved_unseen : ReservedUnseen
reserved_unseen o s t alike = (read_same o s t alike, slot_same o s t alike)
