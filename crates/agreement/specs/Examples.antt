-- Document 01's bench examples R1 to R8 and G1 to G4 as one table, G2 as request 2026-05 mends it: a row of the device, and what the last command
-- leaves in the lent buffer. R4 and R8 are two rows each, and two rows of the limit alone go with them.
use Rattle.std.specs.Prelude.{ℕ, Bool, true, false, ◌&&◌, List, [], ◌∷◌, ◌++◌, map, ◌≡◌, eqb, replicate}
use Rattle.device.specs.Machine.{Event, command, step, media_error, power_cut, comreset, hardware_reset, software_reset, grade}
use Rattle.device.specs.declared.Device.{Device}
use Rattle.layout.specs.Examples.{page_g1}
use Rattle.making.specs.Examples.{registers, Row, row, rows, holds, run, device_a, as_built}
use Rattle.paper.specs.declared.Security.TheVariants.{Unlocked}
use Rattle.slices.specs.Lists.{all}
use Rattle.status.specs.Lent.{lent}

pub record Example : Type 0 where
  pub line : Row
  pub before : List ℕ
  pub after : List ℕ

-- only a command is lent a buffer
abbrev pub buffer_after : Device → Event → List ℕ → List ℕ
buffer_after d (command s r room) buf = lent d s r buf
buffer_after d step buf = buf
buffer_after d media_error buf = buf
buffer_after d power_cut buf = buf
buffer_after d comreset buf = buf
buffer_after d hardware_reset buf = buf
buffer_after d software_reset buf = buf
buffer_after d (grade id h) buf = buf

abbrev pub same : List ℕ → List ℕ → Bool
same [] [] = true
same [] (y ∷ ys) = false
same (x ∷ xs) [] = false
same (x ∷ xs) (y ∷ ys) = eqb x y && same xs ys

abbrev pub as_said : Example → Bool
as_said x =
    holds x.line && same (buffer_after (run x.line.device x.line.before) x.line.event x.before) x.after

-- without a buffer
abbrev pub unlent : Row → Example
unlent r = record { line = r; before = []; after = [] }

-- 12h on device A, over a page of A5h: the number, and the bytes afterwards
abbrev pub old : List ℕ
old = replicate 512 0xA5

abbrev pub get : ℕ → ℕ → ℕ → ℕ → List ℕ → Example
get feature count lba number bytes =
    record { line = row device_a [] (command Unlocked (registers 0x12 feature count lba) 512) number 2999 as_built false false; before = old; after = bytes }

abbrev pub examples : List Example
examples =
    map unlent rows
    -- G1: "one descriptor, 0001_0003h; its bytes 4..7 are 03 00 01 00, 16..17 are F4 01"
    ++ (get 0x4100 1 0 0 page_g1
    -- G2: "Example G2 now gets 4" (request 2026-05)
    ∷ get 0x4100 1 0x1_0000_0000 4 old
    -- G3, G4
    ∷ get 0x4100 0 0 4 old
    ∷ get 0x8000 1 0 4 old
    ∷ [])

-- "Proved: R1 to R8, G1 to G4."
abbrev pub Twelve : Type 0
Twelve = all as_said examples ≡ true
