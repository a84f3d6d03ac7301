-- The calls of the bench language, each from the words of its line (docs/BENCH.md).
use Rattle.std.specs.Prelude.{ℕ, List, eqb, Option, Some}
use Rattle.lines.specs.Numbers.{field_at, ◌>>=◌}
use Rattle.lines.specs.Parts.{word_at}
use Rattle.offer.specs.Elements as elements
use Rattle.registers.specs.Registers.{most64, most16, state_of, asked_at}
use Rattle.arguments.specs.declared.Line.TheVariants.{Element, Make, Command, Grade, Page}
use Rattle.arguments.specs.declared.Line.{Line}
use Rattle.arguments.specs.declared.PageCall.TheVariants.{Length, Poke, Read, Next}

-- "ID, START and ALLOCATION 32 .. FILTER, TYPE, HEALTH, CODE and BYTE 8, FLAG 1, LENGTH and PLACE up to 10000h"; those of 16 bits and of 64 stand
-- in `registers`
abbrev pub most32 : ℕ
most32 = 0xFFFF_FFFF

abbrev pub most8 : ℕ
most8 = 0xFF

abbrev pub most_place : ℕ
most_place = 0x1_0000

-- ## The calls: what a line of that name says, by its other words

-- `element ID TYPE HEALTH BLOCKS FLAG`
unfoldable pub element_of : List ℕ → Option Line
element_of l = do
  id ← field_at l 1 most32
  kind ← field_at l 2 most8
  health ← field_at l 3 most8
  blocks ← field_at l 4 most64
  flag ← field_at l 5 1
  Some (Element (elements.element_of (record { 0 = id }) kind health (eqb flag 1) blocks))

-- `make LIMIT`
unfoldable pub make_of : List ℕ → Option Line
make_of l = do
  limit ← field_at l 1 most16
  Some (Make limit)

-- `command STATE CODE FEATURE COUNT LBA LENGTH`
unfoldable pub command_of : List ℕ → Option Line
command_of l = do
  security ← state_of (word_at 1 l)
  code ← field_at l 2 most8
  asked ← asked_at l 3
  size ← field_at l 6 most_place
  Some (Command (record {
    security = security;
    registers = record { code = code; feature = asked.feature; count = asked.count.0; lba = asked.lba };
    length = size;
  }))

-- `grade ID HEALTH`
unfoldable pub grade_of : List ℕ → Option Line
grade_of l = do
  id ← field_at l 1 most32
  health ← field_at l 2 most8
  Some (Grade (record { id = record { 0 = id }; health = health }))

-- `length LENGTH`
unfoldable pub length_of : List ℕ → Option Line
length_of l = do
  size ← field_at l 1 most_place
  Some (Page (Length size))

-- `poke PLACE BYTE`
unfoldable pub poke_of : List ℕ → Option Line
poke_of l = do
  place ← field_at l 1 most_place
  byte ← field_at l 2 most8
  Some (Page (Poke (record { place = place; byte = byte })))

-- `read FEATURE COUNT LBA`
unfoldable pub read_of : List ℕ → Option Line
read_of l = do
  asked ← asked_at l 1
  Some (Page (Read asked))

-- `next FEATURE COUNT LBA`
unfoldable pub next_of : List ℕ → Option Line
next_of l = do
  asked ← asked_at l 1
  Some (Page (Next asked))
