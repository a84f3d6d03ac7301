-- Request 2026-03: the status data of a device for a SCSI host, in either byte order, and what is written of it.
use Rattle.std.specs.Prelude.{ℕ, cond, List, length, take}
use Rattle.device.specs.Record.{removed_number}
use Rattle.device.specs.declared.Device.{Device}
use Rattle.layout.specs.Bytes.{laid}
use Rattle.layout.specs.declared.Header.{Header}
use Rattle.paper.specs.Output.{Output, output, written}
use Rattle.paper.specs.Told.{Told, tells}
use Rattle.query.specs.Queries.{due_four, asked}
use Rattle.query.specs.declared.Query.{Query}
use Rattle.request.specs.declared.Request.{Request}
use Rattle.words.specs.declared.Order.TheVariants.{Big}
use Rattle.words.specs.declared.Order.{Order}
use Rattle.status.specs.Page.{list_of, headed}

-- "N and returned both count the whole list, cut or not"
abbrev pub header_for : Device → Request → Header
header_for d r = let n = length (list_of d r) in headed n n d.cells.note d.table.limit (removed_number d)

abbrev pub sent_header : Device → Query → Header
sent_header d q = header_for d (asked q)

-- "the same header and descriptors ..; nothing follows the last descriptor"
unfoldable pub data_of : Order → Device → Query → List ℕ
data_of o d q = laid o (sent_header d q) (list_of d (asked q))

-- ".. in big-endian order .., cut at an allocation length in bytes"; "on writing, 4 for filter or report type ..; last .. 7 for a buffer below the
-- bytes to be written"
abbrev pub sent : Device → Query → ℕ → List ℕ → Told Output
sent d q allocation buf = cond (due_four q) (tells 4 (output 0 buf)) (written (take allocation (data_of Big d q)) buf)
