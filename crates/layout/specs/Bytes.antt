-- The 32 bytes of a page's header (004, table 102) and of a descriptor (003, table 103), in either byte order, and their reading back.
use Rattle.std.specs.Prelude.{ℕ, ◌-◌, ◌*◌, ◌%◌, ◌^◌, min, List, [], ◌∷◌, ◌++◌, eqb, get_or, replicate}
use Rattle.slices.specs.Lists.{flat, one}
use Rattle.words.specs.Bytes.{bytes_of, number_at}
use Rattle.words.specs.declared.Order.{Order}
use Rattle.layout.specs.declared.Descriptor.{Descriptor}
use Rattle.layout.specs.declared.Header.{Header}

-- "0..3 length of the list N; 4..7 returned ..; 8..11 noted element or 0; 12..13 limit; 14..15 number at FFh; 16..31 zero"
abbrev pub header_bytes : Order → Header → List ℕ
header_bytes o h =
    bytes_of o 4 h.number
    ++ bytes_of o 4 h.returned
    ++ bytes_of o 4 h.busy.0
    ++ bytes_of o 2 h.limit
    ++ bytes_of o 2 h.removed
    ++ replicate 16 0

abbrev pub header_in : Order → List ℕ → Header
header_in o s =
    record {
      number = number_at o 4 s 0;
      returned = number_at o 4 s 4;
      busy = record { 0 = number_at o 4 s 8 };
      limit = number_at o 2 s 12;
      removed = number_at o 2 s 14;
    }

-- "4..7 identifier; 13 bit 0 restoration allowed ..; 14 type; 15 health; 16..23 block count ..; the rest zero"
abbrev pub descriptor_bytes : Order → Descriptor → List ℕ
descriptor_bytes o d =
    replicate 4 0
    ++ bytes_of o 4 d.id.0
    ++ replicate 5 0
    ++ (one d.restorable ∷ d.kind ∷ d.health ∷ [])
    ++ bytes_of o 8 d.capacity
    ++ replicate 8 0

abbrev pub descriptor_in : Order → List ℕ → Descriptor
descriptor_in o s =
    record {
      id = record { 0 = number_at o 4 s 4 };
      restorable = eqb (get_or s 13 0 % 2) 1;
      kind = get_or s 14 0;
      health = get_or s 15 0;
      capacity = number_at o 8 s 16;
    }

-- a header, and descriptors after it
abbrev pub laid : Order → Header → List Descriptor → List ℕ
laid o h l = header_bytes o h ++ flat (descriptor_bytes o) l

-- ## What a page of p times 512 bytes holds

-- a header and 16p - 1 descriptors of 32 bytes, where p is at least 1
abbrev pub room_of : ℕ → ℕ
room_of p = 16 * p - 1

-- "returned, the smaller of N and 16p - 1"
abbrev pub returned_of : ℕ → ℕ → ℕ
returned_of n p = min n (room_of p)

-- the 8 bytes of an unreported capacity
abbrev pub all_ones : ℕ
all_ones = 2 ^ 64 - 1
