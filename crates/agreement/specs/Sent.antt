-- The data that a device sends to a SCSI host, and its reader: what holds of the two together, in either byte order.
use Rattle.std.specs.Prelude.{ℕ, ◌≤◌, ◌<◌, true, false, ◌≡◌, length, get_or, take, Some}
use Rattle.conduct.specs.Fits.{Fits}
use Rattle.device.specs.declared.Device.{Device}
use Rattle.paper.specs.Told.{tells}
use Rattle.query.specs.Queries.{due_four, asked}
use Rattle.query.specs.declared.Query.{Query}
use Rattle.scsi.specs.Data.{whole_of, torn_of}
use Rattle.scsi.specs.Judgement.{reading, read_of, slot_of}
use Rattle.status.specs.Page.{list_of}
use Rattle.sender.specs.Sent.{sent_header, data_of}
use Rattle.table.specs.Elements.{identifiers, blank_part, ascending}
use Rattle.view.specs.Shown.{shown_of}
use Rattle.words.specs.declared.Order.{Order}

-- cut at any length from 32 on, the data is taken for its request, with the header's numbers and what of the list is there, and has each whole
-- element at its place
abbrev pub SentAgrees : Type 0
SentAgrees =
    (o : Order) (d : Device) (q : Query) (a : ℕ) → Fits d → ascending 0 (identifiers d.table) ≡ true → due_four q ≡ false → 32 ≤ a
    → let s = take a (data_of o d q) in
    let n = (sent_header d q).number in
    (read_of o s q ≡ tells 0 (reading (sent_header d q) (whole_of n (length s)) (torn_of n (length s))))
    × ((k : ℕ) → k < whole_of n (length s) → slot_of o s k ≡ Some (get_or (list_of d (asked q)) k (shown_of blank_part 0)))
