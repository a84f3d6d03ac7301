-- Document 01, "Table and cells": "Cells that survive power loss, each written whole or not at all".
use Rattle.std.specs.Prelude.{ℕ, Bool, true, false, get_or, take, set}
use Rattle.paper.specs.declared.Lba.{Lba}
use Rattle.table.specs.Elements.{removed_count}
use Rattle.table.specs.declared.Table.{Table}
use Rattle.cells.specs.declared.Cells.{Cells}
use Rattle.cells.specs.declared.Mark.TheVariants.{Clear, Set}
use Rattle.cells.specs.declared.Mark.{Mark}
use Rattle.cells.specs.declared.Note.TheVariants.{Empty, Full}
use Rattle.cells.specs.declared.Note.{Note}
use Rattle.cells.specs.declared.Store.TheVariants.{Nothing, NativeTo, AccessibleTo, Marked, Graded, FailedTo, Noted, NoteEmptied}
use Rattle.cells.specs.declared.Store.{Store}

-- "A removal is under way exactly while the note is full."
abbrev pub is_full : Note → Bool
is_full Empty = false
is_full (Full w) = true

-- the number of a command that has to wait for a removal
abbrev pub busy_number : Cells → ℕ
busy_number c = 2

-- whether the failed mark is set
unfoldable pub is_set : Mark → Bool
is_set Clear = false
is_set Set = true

-- the number of a media access while it is set
abbrev pub failed_number : Mark → ℕ
failed_number m = 3

-- "each element's health": the cell of its place
abbrev pub health_in : Cells → ℕ → ℕ
health_in c place = get_or c.healths place 0

-- how many elements of the table are at FFh
abbrev pub removed_in : Table → Cells → ℕ
removed_in t c = removed_count (take t.count c.healths)

-- ## One cell written

abbrev pub with_native : Lba → Cells → Cells
with_native v c = record { native = v; accessible = c.accessible; healths = c.healths; failed = c.failed; note = c.note }

abbrev pub with_accessible : Lba → Cells → Cells
with_accessible v c = record { native = c.native; accessible = v; healths = c.healths; failed = c.failed; note = c.note }

abbrev pub with_health : ℕ → ℕ → Cells → Cells
with_health place h c = record { native = c.native; accessible = c.accessible; healths = set c.healths place h; failed = c.failed; note = c.note }

abbrev pub with_failed : Mark → Cells → Cells
with_failed m c = record { native = c.native; accessible = c.accessible; healths = c.healths; failed = m; note = c.note }

abbrev pub with_note : Note → Cells → Cells
with_note n c = record { native = c.native; accessible = c.accessible; healths = c.healths; failed = c.failed; note = n }

-- the cells with one store made
abbrev pub make : Store → Cells → Cells
make Nothing c = c
make (NativeTo v) c = with_native v c
make (AccessibleTo v) c = with_accessible v c
make (Marked place) c = with_health place 0xFF c
make (Graded place h) c = with_health place h c
make (FailedTo m) c = with_failed m c
make (Noted w) c = with_note (Full w) c
make NoteEmptied c = with_note Empty c
