-- Document 01's bench examples R1 to R8 of device A, the limit alone (R8 would meet check 6 without it), and the machine's edges. That device
-- A is made, and that the rows of each table hold, is stated; proofs/ has the proof under the same name in lower case.
use Rattle.std.specs.Prelude.{ℕ, Bool, true, false, not, ◌&&◌, List, [], ◌∷◌, ◌++◌, ◌≡◌, eqb, take, replicate}
use Rattle.cells.specs.Cells.{is_set}
use Rattle.device.specs.Machine.{Event, command, step, media_error, power_cut, comreset, hardware_reset, software_reset, grade, told}
use Rattle.device.specs.Record.{under_way}
use Rattle.device.specs.declared.Device.{Device}
use Rattle.offer.specs.Examples.{offer_a}
use Rattle.paper.specs.Told.{tells}
use Rattle.paper.specs.declared.Registers.{Registers}
use Rattle.paper.specs.declared.Security.TheVariants.{Locked, Unlocked, Frozen}
use Rattle.slices.specs.Lists.{all}
use Rattle.making.specs.Making.{fresh, made_of}

-- "Device A, limit 2"
abbrev pub device_a : Device
device_a = fresh (offer_a 2)

-- its table is accepted with that limit, and with 1; with 129 it is refused
abbrev pub MadeOfA : Type 0
MadeOfA =
    (there : Device)
    → (made_of there (offer_a 2) ≡ tells 0 device_a)
    × (made_of there (offer_a 1) ≡ tells 0 (fresh (offer_a 1)))
    × (made_of there (offer_a 129) ≡ tells 8 there)

abbrev pub run : Device → List Event → Device
run d [] = d
run d (e ∷ es) = run (told d e).state es

-- the registers of a command
abbrev pub registers : ℕ → ℕ → ℕ → ℕ → Registers
registers code feature count lba = record { code = code; feature = feature; count = count; lba = record { 0 = lba } }

-- 7Ch, unlocked
abbrev pub remove : ℕ → ℕ → ℕ → Event
remove feature count lba = command Unlocked (registers 0x7C feature count lba) 0

abbrev pub steps : ℕ → List Event
steps n = replicate n step

abbrev pub R1 : List Event
R1 = remove 1 3 0 ∷ steps 5

-- R1, cut after n steps, and m steps more
abbrev pub cut_after : ℕ → ℕ → List Event
cut_after n m = remove 1 3 0 ∷ (steps n ++ (power_cut ∷ steps m))

abbrev pub R5 : List Event
R5 = cut_after 2 4

abbrev pub R6 : List Event
R6 = cut_after 3 4

-- from a device, after some events that are answered 0: the number that one more gets, and then both maxima, the healths, the failed mark,
-- whether a removal is under way
pub record Row : Type 0 where
  pub device : Device
  pub before : List Event
  pub event : Event
  pub number : ℕ
  pub maximum : ℕ
  pub healths : List ℕ
  pub failed : Bool
  pub busy : Bool

abbrev pub row : Device → List Event → Event → ℕ → ℕ → List ℕ → Bool → Bool → Row
row d es e n m hs f b = record { device = d; before = es; event = e; number = n; maximum = m; healths = hs; failed = f; busy = b }

abbrev pub same_healths : List ℕ → List ℕ → Bool
same_healths [] [] = true
same_healths [] (h ∷ hs) = false
same_healths (x ∷ xs) [] = false
same_healths (x ∷ xs) (h ∷ hs) = eqb x h && same_healths xs hs

abbrev pub same_bool : Bool → Bool → Bool
same_bool true b = b
same_bool false b = not b

abbrev pub shows : Row → Device → Bool
shows r d =
    eqb d.cells.native.0 r.maximum
    && eqb d.cells.accessible.0 r.maximum
    && same_healths (take d.table.count d.cells.healths) r.healths
    && same_bool (is_set d.cells.failed) r.failed
    && same_bool (under_way d) r.busy

-- each of the events is answered 0
abbrev pub accepted : Device → List Event → Bool
accepted d [] = true
accepted d (e ∷ es) = eqb (told d e).number 0 && accepted (told d e).state es

abbrev pub holds : Row → Bool
holds r =
    let d : Device = run r.device r.before in
    accepted r.device r.before && eqb (told d r.event).number r.number && shows r (told d r.event).state

abbrev pub as_built : List ℕ
as_built = 0x20 ∷ 0x10 ∷ 0x70 ∷ 0 ∷ []

abbrev pub one_gone : List ℕ
one_gone = 0x20 ∷ 0x10 ∷ 0xFF ∷ 0 ∷ []

abbrev pub rows : List Row
rows =
    -- R1
    row device_a (remove 1 3 0 ∷ steps 4) step 0 2499 one_gone false false
    -- R2, R3
    ∷ row device_a [] (remove 0 0 0) 4 2999 as_built false false
    ∷ row device_a [] (remove 2 0 0) 4 2999 as_built false false
    -- R4
    ∷ row device_a [] (remove 1 3 2499) 0 2999 as_built false true
    ∷ row device_a [] (remove 1 3 2500) 4 2999 as_built false false
    -- R5, R6
    ∷ row device_a (cut_after 2 3) step 0 2999 as_built true false
    ∷ row device_a (cut_after 3 3) step 0 2499 one_gone true false
    -- R7
    ∷ row device_a R6 (remove 1 3 0xFFFF_FFFF_FFFF) 0 2499 one_gone false false
    -- R8
    ∷ row device_a (R1 ++ (remove 0 1 0 ∷ steps 4)) step 0 1499 (0xFF ∷ 0x10 ∷ 0xFF ∷ 0 ∷ []) false false
    ∷ row device_a (R1 ++ (remove 0 1 0 ∷ steps 5)) (remove 0 3 0) 4 1499 (0xFF ∷ 0x10 ∷ 0xFF ∷ 0 ∷ []) false false
    -- the limit alone: 2,499 - 1,000 blocks would leave room
    ∷ row (fresh (offer_a 1)) R1 (remove 0 1 0) 4 2499 one_gone false false
    ∷ row device_a R1 (remove 0 1 0) 0 2499 one_gone false true
    ∷ []

abbrev pub RowsHold : Type 0
RowsHold = all holds rows ≡ true

-- ## The edges: what the examples above do not reach

abbrev pub locked : ℕ → Event
locked code = command Locked (registers code 1 3 0) 0

-- a media access, and another command
abbrev pub access : ℕ → ℕ → Event
access lba count = command Unlocked (registers 0x25 0 count lba) 0

abbrev pub other : ℕ → ℕ → ℕ → Event
other code feature lba = command Unlocked (registers code feature 1 lba) 512

abbrev pub graded : ℕ → ℕ → Event
graded id h = grade (record { 0 = id }) h

-- events that leave device A as built, and those that leave it in mid-removal after two steps
abbrev pub idle : Event → ℕ → Row
idle e n = row device_a [] e n 2999 as_built false false

abbrev pub amid : Event → ℕ → Row
amid e n = row device_a (remove 1 3 0 ∷ steps 2) e n 2499 as_built false true

abbrev pub removals : List Row
removals =
    -- checks 1 and 2, in this order
    idle (locked 0x7C) 1
    ∷ amid (locked 0x7C) 1
    ∷ amid (remove 0 1 0) 2
    -- check 6 without a limit: 1,499 - 1,500; and the least that is left
    ∷ row (fresh (offer_a 0)) (R1 ++ (remove 0 1 0 ∷ steps 5)) (remove 0 3 0) 4 1499 (0xFF ∷ 0x10 ∷ 0xFF ∷ 0 ∷ []) false false
    ∷ row device_a ((remove 1 3 1501 ∷ steps 5) ++ (remove 0 3 0 ∷ steps 4)) step 0 1 (0x20 ∷ 0xFF ∷ 0xFF ∷ 0 ∷ []) false false
    ∷ row device_a (remove 1 3 1500 ∷ steps 5) (remove 0 3 0) 4 1500 one_gone false false
    -- the LBA is the new maximum; bits above 47 are ignored, so 2^48 is 0
    ∷ row device_a (remove 1 3 100 ∷ steps 4) step 0 100 one_gone false false
    ∷ row device_a (remove 1 3 0x1_0000_0000_0000 ∷ steps 4) step 0 2499 one_gone false false
    -- work step 4 clears a mark
    ∷ row device_a (R6 ++ (remove 0 1 0 ∷ steps 4)) step 0 1499 (0xFF ∷ 0x10 ∷ 0xFF ∷ 0 ∷ []) false false
    -- without a removal
    ∷ idle step 10
    ∷ idle media_error 10
    ∷ row device_a R5 power_cut 0 2999 as_built true false
    -- a cut right after acceptance, an error in mid-removal, and an error during winding up, which starts again
    ∷ row device_a (cut_after 0 3) step 0 2999 as_built true false
    ∷ row device_a (remove 1 3 0 ∷ (steps 4 ++ (media_error ∷ steps 3))) step 0 2499 one_gone true false
    ∷ row device_a (cut_after 3 2 ++ (media_error ∷ steps 3)) step 0 2499 one_gone true false
    -- a reset stops nothing, in winding up neither
    ∷ row device_a (remove 1 3 0 ∷ (steps 2 ++ (comreset ∷ hardware_reset ∷ software_reset ∷ steps 2))) step 0 2499 one_gone false false
    ∷ row device_a (cut_after 2 2 ++ (software_reset ∷ steps 1)) step 0 2999 as_built true false
    -- grades
    ∷ row device_a [] (graded 3 0xCF) 0 2999 (0x20 ∷ 0xCF ∷ 0x70 ∷ 0 ∷ []) false false
    ∷ row device_a (remove 1 3 0 ∷ steps 2) (graded 0x0001_0003 0) 0 2499 (0x20 ∷ 0x10 ∷ 0 ∷ 0 ∷ []) false true
    ∷ idle (graded 3 0xD0) 11
    ∷ idle (graded 2 0x10) 11
    ∷ row device_a R1 (graded 0x0001_0003 0x10) 11 2499 one_gone false false
    ∷ []

abbrev pub RemovalsHold : Type 0
RemovalsHold = all holds removals ≡ true

abbrev pub others : List Row
others =
    -- "After R1, 25h: LBA 2,499 COUNT 1: 0; COUNT 2: 5. After R5 or R6: 3."
    row device_a R1 (access 2499 1) 0 2499 one_gone false false
    ∷ row device_a R1 (access 2499 2) 5 2499 one_gone false false
    ∷ row device_a R5 (access 0 1) 3 2999 as_built true false
    ∷ row device_a R6 (access 0 1) 3 2499 one_gone true false
    -- COUNT 0 means 65,536; bits above 47 are ignored; other commands pass with the mark
    ∷ idle (access 0 0) 5
    ∷ idle (access 0x1_0000_0000_0000 1) 0
    ∷ row device_a R5 (other 0xEF 0 0) 0 2999 as_built true false
    -- unknown codes, and the order of 2, 6, 3
    ∷ idle (other 0x7D 0 0) 6
    ∷ amid (other 0x7D 0 0) 2
    ∷ amid (access 0 1) 2
    ∷ row device_a (R5 ++ (remove 1 3 0 ∷ [])) (access 0 1) 2 2999 as_built true true
    -- open, and its neighbours
    ∷ amid (other 0xEC 0 0) 0
    ∷ amid (other 0x2F 0 0x1E0) 0
    ∷ amid (other 0x2F 0 0x11) 2
    ∷ amid (other 0x47 0 0x04) 0
    ∷ amid (other 0x47 0 0x00) 2
    ∷ amid (other 0x0B 0 0) 0
    ∷ amid (other 0xF2 0 0) 0
    ∷ amid (other 0xEF 0x107 0) 0
    ∷ amid (other 0xEF 0x06 0) 2
    ∷ amid (other 0xB0 0xD5 0x30) 0
    ∷ amid (other 0xB0 0xD5 0x10) 2
    ∷ amid (other 0xB0 0xDA 0x77) 0
    ∷ amid (other 0xB0 0xD0 0x30) 2
    -- 2026-02: "only the Unload form", whatever stands above FEATURE 7:0 and LBA 27:0; "Other forms get 2 during a removal", winding up
    -- included, and 0 at rest
    ∷ amid (other 0xE1 0x44 0x0554E4C) 0
    ∷ amid (other 0xE1 0xFF44 0xFFFF_FFFF_F055_4E4C) 0
    ∷ amid (other 0xE1 0x45 0x0554E4C) 2
    ∷ amid (other 0xE1 0x44 0x8554E4C) 2
    ∷ row device_a (cut_after 2 0) (other 0xE1 0 0) 2 2499 as_built false true
    ∷ idle (other 0xE1 0 0) 0
    -- 12h: 4, then 7; in any security state, and during a removal
    ∷ amid (command Locked (registers 0x12 0x4100 1 0) 512) 0
    ∷ idle (command Frozen (registers 0x12 0 1 0) 511) 7
    ∷ idle (command Unlocked (registers 0x12 0 0 0) 0) 4
    ∷ idle (command Unlocked (registers 0x12 0x8000 1 0) 0) 4
    -- reserved bits, before the buffer; and those above LBA 47, which are ignored
    ∷ amid (command Locked (registers 0x12 0x0001 1 0) 512) 4
    ∷ idle (command Frozen (registers 0x12 0x1000 1 0) 0) 4
    ∷ idle (command Unlocked (registers 0x12 0 1 0x1_0000_0003) 511) 4
    ∷ idle (command Unlocked (registers 0x12 0 1 0xFFFF_8000_0000_0000) 512) 4
    ∷ idle (command Unlocked (registers 0x12 0 1 0xFFFF_0000_0000_0003) 512) 0
    ∷ []

abbrev pub OthersHold : Type 0
OthersHold = all holds others ≡ true
