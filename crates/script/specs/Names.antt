-- What a line says: the call of its name, "with exactly its words", or that there is none (docs/BENCH.md).
use Rattle.std.specs.Prelude.{ℕ, cond, List, ltb, take, Option, Some, None, unwrap_or}
use Rattle.arguments.specs.Calls.{element_of, make_of, command_of, grade_of, length_of, poke_of, read_of, next_of}
use Rattle.arguments.specs.DockCalls.{scsi_of, scsiread_of, toscsi_of, toata_of}
use Rattle.arguments.specs.declared.Bare.TheVariants.{Step, Error, Cut, Comreset, Hardreset, Softreset}
use Rattle.arguments.specs.declared.Line.TheVariants.{Passed, NotACall, Bare, Cells}
use Rattle.arguments.specs.declared.Line.{Line}
use Rattle.lines.specs.Parts.{named, is_passed}
use Rattle.pieces.specs.Pieces.{is_long}
use Rattle.pieces.specs.declared.Gathered.{Gathered}
use Rattle.text.specs.Text.{ascii}

unfoldable pub dock_call : List ℕ → Option Line
dock_call l =
    cond (named (ascii "scsi") 6 l) (scsi_of l)
    (cond (named (ascii "scsiread") 4 l) (scsiread_of l)
    (cond (named (ascii "toscsi") 5 l) (toscsi_of l)
    (cond (named (ascii "toata") 6 l) (toata_of l)
    None)))

unfoldable pub page_call : List ℕ → Option Line
page_call l =
    cond (named (ascii "length") 2 l) (length_of l)
    (cond (named (ascii "poke") 3 l) (poke_of l)
    (cond (named (ascii "read") 4 l) (read_of l)
    (cond (named (ascii "next") 4 l) (next_of l)
    (dock_call l))))

unfoldable pub reset_call : List ℕ → Option Line
reset_call l =
    cond (named (ascii "comreset") 1 l) (Some (Bare Comreset))
    (cond (named (ascii "hardreset") 1 l) (Some (Bare Hardreset))
    (cond (named (ascii "softreset") 1 l) (Some (Bare Softreset))
    (page_call l)))

unfoldable pub event_call : List ℕ → Option Line
event_call l =
    cond (named (ascii "step") 1 l) (Some (Bare Step))
    (cond (named (ascii "error") 1 l) (Some (Bare Error))
    (cond (named (ascii "cut") 1 l) (Some (Bare Cut))
    (cond (named (ascii "grade") 3 l) (grade_of l)
    (reset_call l))))

unfoldable pub device_call : List ℕ → Option Line
device_call l =
    cond (named (ascii "element") 6 l) (element_of l)
    (cond (named (ascii "make") 2 l) (make_of l)
    (cond (named (ascii "command") 7 l) (command_of l)
    (cond (named (ascii "cells") 1 l) (Some Cells)
    (event_call l))))

-- "A line of more than 200 bytes, the newline not counted, is `not a call`, whatever it holds. .. Each other line is one of the calls below
-- with exactly its words, or answers `not a call`"
unfoldable pub line_of : List ℕ → Line
line_of l = cond (is_long l) NotACall (cond (is_passed l) Passed (unwrap_or (device_call l) NotACall))

-- a line as it was gathered
abbrev pub meaning_of : Gathered → Line
meaning_of g = cond (ltb 200 g.len) NotACall (line_of (take g.len g.bytes))
