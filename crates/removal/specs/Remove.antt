-- Document 01, "REMOVE ELEMENT AND TRUNCATE (7Ch)": the checks in order. Their differences are written as sums, so that
-- none is cut off at 0; the new maximum's comes after check 6.
use Rattle.std.specs.Prelude.{ℕ, ◌+◌, ◌-◌, Bool, cond, not, ◌&&◌, Option, None, Some, leb, ltb, eqb}
use Rattle.paper.specs.Elements.{removed_health}
use Rattle.paper.specs.Registers.{low48, identifier_of}
use Rattle.paper.specs.Table12.{aborts}
use Rattle.paper.specs.declared.ElementId.{ElementId}
use Rattle.paper.specs.declared.Lba.{Lba}
use Rattle.paper.specs.declared.Registers.{Registers}
use Rattle.paper.specs.declared.Security.{Security}
use Rattle.table.specs.Elements.{is_storage}
use Rattle.table.specs.declared.Table.{Table}
use Rattle.cells.specs.Cells.{is_full, busy_number, removed_in}
use Rattle.cells.specs.Rulings.{Ruled, quiet, goes}
use Rattle.cells.specs.Sights.{see_in}
use Rattle.paper.specs.declared.Command.TheVariants.{Remove}
use Rattle.cells.specs.declared.Cells.{Cells}
use Rattle.cells.specs.declared.Mark.TheVariants.{Clear}
use Rattle.cells.specs.declared.Position.TheVariants.{Work1}
use Rattle.cells.specs.declared.Position.{Position}
use Rattle.cells.specs.declared.Removal.{Removal}
use Rattle.cells.specs.declared.Seen.{Seen}
use Rattle.cells.specs.declared.Store.TheVariants.{FailedTo, Noted}

-- 5: "limit not 0 and as many elements already FFh"
abbrev pub limit_met : ℕ → ℕ → Bool
limit_met limit removed = not (eqb limit 0) && leb limit removed

-- 6: "native max minus the element's blocks is below 1"
abbrev pub too_small : ℕ → ℕ → Bool
too_small native blocks = ltb native (blocks + 1)

-- 7: "LBA, if not 0, above that difference"
abbrev pub too_high : ℕ → ℕ → ℕ → Bool
too_high native blocks lba = not (eqb lba 0) && ltb native (lba + blocks)

-- "The new maximum is the LBA, or that difference if the LBA is 0."
abbrev pub or_difference : ℕ → Lba → Lba
or_difference difference lba = cond (eqb lba.0 0) (record { 0 = difference }) lba

abbrev pub removal_of : Lba → ElementId → Lba → ℕ → Removal
removal_of native id lba blocks = record { element = id; old = native; new = or_difference (native.0 - blocks) lba }

-- checks 6 and 7; "Acceptance makes one store: the note."
unfoldable pub judge_room : Position → Lba → ElementId → Lba → ℕ → Ruled
judge_room p native id lba blocks =
    cond (too_small native.0 blocks) (quiet 4 p)
    (cond (too_high native.0 blocks lba.0) (quiet 4 p)
    (goes (Noted (removal_of native id lba blocks)) Work1))

-- 3: "identifier not in the table, or type not 01h: 4"
-- 4: "health FFh: 0; no element or address changes, but a failed mark is cleared"
-- then 5, and 6 and 7
unfoldable pub judge_found : Table → Cells → Position → ElementId → Lba → Option Seen → Ruled
judge_found t c p id lba None = quiet 4 p
judge_found t c p id lba (Some s) =
    cond (not (is_storage s.part)) (quiet 4 p)
    (cond (removed_health s.health) (goes (FailedTo Clear) p)
    (cond (limit_met t.limit (removed_in t c)) (quiet 4 p)
    (judge_room p c.native id lba s.part.blocks)))

-- 1: "security state locked: 1"; 2: "removal under way: 2"
abbrev pub judge : Table → Cells → Position → Security → ElementId → Lba → Ruled
judge t c p security id lba =
    cond (aborts Remove security) (quiet 1 p)
    (cond (is_full c.note) (quiet (busy_number c) p)
    (judge_found t c p id lba (see_in t c id)))

abbrev pub rule_remove : Table → Cells → Position → Security → Registers → Ruled
rule_remove t c p security r = judge t c p security (identifier_of r) (low48 r.lba)
