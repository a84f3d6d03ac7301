-- What is laid is read back, whatever follows it, no reserved byte is looked at, and each is laid as 0. Each is a statement; proofs/ has the
-- proof under the same name in lower case.
use Rattle.std.specs.Prelude.{ℕ, ◌^◌, ◌<◌, List, ◌++◌, ◌≡◌, get_or}
use Rattle.words.specs.declared.Order.{Order}
use Rattle.layout.specs.Bytes.{header_bytes, header_in, descriptor_bytes, descriptor_in}
use Rattle.layout.specs.Reserved.{in_header, in_descriptor, HeadersAlike, DescriptorsAlike}
use Rattle.layout.specs.declared.Descriptor.{Descriptor}
use Rattle.layout.specs.declared.Header.{Header}

-- numbers that fit their fields, as every struct of the code has them
pub record HeaderFits (h : Header) : Type 0 where
  pub number : h.number < 2 ^ 32
  pub returned : h.returned < 2 ^ 32
  pub busy : h.busy.0 < 2 ^ 32
  pub limit : h.limit < 2 ^ 16
  pub removed : h.removed < 2 ^ 16

pub record DescriptorFits (d : Descriptor) : Type 0 where
  pub id : d.id.0 < 2 ^ 32
  pub kind : d.kind < 2 ^ 8
  pub health : d.health < 2 ^ 8
  pub capacity : d.capacity < 2 ^ 64

abbrev pub HeaderBack : Type 0
HeaderBack = (o : Order) (h : Header) (rest : List ℕ) → HeaderFits h → header_in o (header_bytes o h ++ rest) ≡ h

abbrev pub DescriptorBack : Type 0
DescriptorBack = (o : Order) (d : Descriptor) (rest : List ℕ) → DescriptorFits d → descriptor_in o (descriptor_bytes o d ++ rest) ≡ d

-- "Reserved bytes are not looked at": alike headers are read alike, and so are alike descriptors
abbrev pub HeaderReserved : Type 0
HeaderReserved = (o : Order) (s t : List ℕ) → HeadersAlike s t → header_in o s ≡ header_in o t

abbrev pub DescriptorReserved : Type 0
DescriptorReserved = (o : Order) (s t : List ℕ) → DescriptorsAlike s t → descriptor_in o s ≡ descriptor_in o t

-- "16..31 zero", "the rest zero": of each byte that is laid, all is looked at; a byte past the end counts as 0
abbrev pub HeaderZeroed : Type 0
HeaderZeroed = (o : Order) (h : Header) (at : ℕ) → in_header at (get_or (header_bytes o h) at 0) ≡ get_or (header_bytes o h) at 0

abbrev pub DescriptorZeroed : Type 0
DescriptorZeroed = (o : Order) (d : Descriptor) (at : ℕ) → in_descriptor at (get_or (descriptor_bytes o d) at 0) ≡ get_or (descriptor_bytes o d) at 0
