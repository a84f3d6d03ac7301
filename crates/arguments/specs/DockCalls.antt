-- Request 2026-03: the calls for a customer's dock, each from the words of its line (docs/BENCH.md).
use Rattle.std.specs.Prelude.{ℕ, List, Option, Some}
use Rattle.lines.specs.Numbers.{field_at, ◌>>=◌}
use Rattle.query.specs.declared.Query.{Query}
use Rattle.registers.specs.Registers.{most16, asked_at}
use Rattle.arguments.specs.Calls.{most32, most8, most_place}
use Rattle.arguments.specs.declared.DockCall.TheVariants.{Send, ToScsi, ToAta}
use Rattle.arguments.specs.declared.Line.TheVariants.{Page, Dock}
use Rattle.arguments.specs.declared.Line.{Line}
use Rattle.arguments.specs.declared.PageCall.TheVariants.{ReadScsi}

-- FILTER TYPE START, the words after the name: "START and ALLOCATION 32 .. FILTER, TYPE, HEALTH, CODE and BYTE 8"
unfoldable pub query_in : List ℕ → Option Query
query_in l = do
  filter ← field_at l 1 most8
  report ← field_at l 2 most8
  start ← field_at l 3 most32
  Some (record { filter = filter; report = report; start = record { 0 = start } })

-- `scsi FILTER TYPE START ALLOCATION LENGTH`
unfoldable pub scsi_of : List ℕ → Option Line
scsi_of l = do
  query ← query_in l
  allocation ← field_at l 4 most32
  size ← field_at l 5 most_place
  Some (Dock (record { call = Send (record { query = query; allocation = allocation }); length = size }))

-- `scsiread FILTER TYPE START`
unfoldable pub scsiread_of : List ℕ → Option Line
scsiread_of l = do
  query ← query_in l
  Some (Page (ReadScsi query))

-- `toscsi FEATURE COUNT LBA LENGTH`
unfoldable pub toscsi_of : List ℕ → Option Line
toscsi_of l = do
  asked ← asked_at l 1
  size ← field_at l 4 most_place
  Some (Dock (record { call = ToScsi asked; length = size }))

-- `toata FILTER TYPE START PAGES LENGTH`: "PAGES 16"
unfoldable pub toata_of : List ℕ → Option Line
toata_of l = do
  query ← query_in l
  pages ← field_at l 4 most16
  size ← field_at l 5 most_place
  Some (Dock (record { call = ToAta (record { query = query; pages = record { 0 = pages } }); length = size }))
