-- The device's page and the reader: what holds of the two together.
use Rattle.std.specs.Prelude.{ℕ, ◌<◌, true, false, ◌≡◌, get_or, Some}
use Rattle.conduct.specs.Fits.{Fits}
use Rattle.device.specs.declared.Device.{Device}
use Rattle.paper.specs.Told.{tells}
use Rattle.reader.specs.Judgement.{header, read_of, slot_of}
use Rattle.request.specs.Requests.{refused}
use Rattle.request.specs.declared.Request.{Request}
use Rattle.status.specs.Page.{list_of, header_of, page_of}
use Rattle.table.specs.Elements.{identifiers, blank_part, ascending}
use Rattle.view.specs.Shown.{shown_of}
use Rattle.words.specs.declared.Order.TheVariants.{Little}

-- "gives back what was written": the page is taken for its request, with the header's numbers, and has what it shows of each listed element
-- at its place
abbrev pub Agrees : Type 0
Agrees =
    (d : Device) (q : Request) → Fits d → ascending 0 (identifiers d.table) ≡ true → refused q ≡ false
    → (read_of Little (page_of d q) q ≡ tells 0 (header (header_of d q)))
    × ((k : ℕ) → k < (header_of d q).returned → slot_of Little (page_of d q) k ≡ Some (get_or (list_of d q) k (shown_of blank_part 0)))
