-- Document 01, "GET PHYSICAL ELEMENT STATUS (12h)", with 003 and 004: what a page shows of an element, what a request asks for, the noted
-- element.
use Rattle.std.specs.Prelude.{ℕ, Bool, false, cond, ◌&&◌}
use Rattle.cells.specs.declared.Note.TheVariants.{Empty, Full}
use Rattle.cells.specs.declared.Note.{Note}
use Rattle.layout.specs.Bytes.{all_ones}
use Rattle.layout.specs.declared.Descriptor.{Descriptor}
use Rattle.paper.specs.Flags.{is_on}
use Rattle.request.specs.Requests.{filter_of, report_type_of, takes_id, takes_type, takes_health}
use Rattle.request.specs.declared.Request.{Request}
use Rattle.table.specs.declared.Part.{Part}

-- "block count, or all ones if unreported"
abbrev pub capacity_of : Part → ℕ
capacity_of p = cond (is_on p.unreported) all_ones p.blocks

-- a part, with the health of its place; "13 bit 0 restoration allowed, here 0"
unfoldable pub shown_of : Part → ℕ → Descriptor
shown_of p h = record { id = p.id; restorable = false; kind = p.kind; health = h; capacity = capacity_of p }

-- "elements with identifier at or above the start; type 01h only if report type is 1; with filter 01b only health 65h to CFh, or FFh"
unfoldable pub asks : Request → Descriptor → Bool
asks q x = takes_id q x.id.0 && (takes_type (report_type_of q) x.kind && takes_health (filter_of q) x.health)

-- "noted element or 0"
abbrev pub busy_of : Note → ℕ
busy_of Empty = 0
busy_of (Full w) = w.element.0
