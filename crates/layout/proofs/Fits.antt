-- What is read from bytes fits its fields.
use Prim.Native.Nat.{ℕ}
use mathlib.Core.List.{List}
use Rattle.slices.specs.Lists.{Every}
use Rattle.words.proofs.Bytes.{Byte, byte_at, number_fits}
use Rattle.words.specs.declared.Order.{Order}
use Rattle.layout.specs.Bytes.{header_in, descriptor_in}
use Rattle.layout.specs.Promises.{HeaderFits, DescriptorFits}

module _ (o : Order) (s : List ℕ) (e : Every Byte s) where
  pub header_fits : HeaderFits (header_in o s)
  header_fits = record {
    number = number_fits o 4 s 0 e;
    returned = number_fits o 4 s 4 e;
    busy = number_fits o 4 s 8 e;
    limit = number_fits o 2 s 12 e;
    removed = number_fits o 2 s 14 e;
  }

  pub descriptor_fits : DescriptorFits (descriptor_in o s)
  descriptor_fits = record { id = number_fits o 4 s 4 e; kind = byte_at s 14 e; health = byte_at s 15 e; capacity = number_fits o 8 s 16 e }
