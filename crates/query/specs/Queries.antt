-- Request 2026-03: a SCSI host's request, "filter, report type and starting element (32 bits), each as it came".
use Rattle.std.specs.Prelude.{ℕ, ◌+◌, ◌*◌, ◌%◌, ◌^◌, Bool, ◌||◌, ltb}
use Rattle.request.specs.declared.Request.{Request}
use Rattle.query.specs.declared.Query.{Query}

-- "a request with a filter or report type due 4": any value above 1
unfoldable pub due_four : Query → Bool
due_four q = ltb 1 q.filter || ltb 1 q.report

-- the ATA request of these fields, for some pages: FEATURE 15:14 filter, 11:8 report type, and LBA 31:0 the start
abbrev pub asked_for : ℕ → Query → Request
asked_for pages q =
    record { feature = q.filter % 2 ^ 2 * 2 ^ 14 + q.report % 2 ^ 4 * 2 ^ 8; count = record { 0 = pages }; lba = record { 0 = q.start.0 % 2 ^ 32 } }

-- what is asked of an element: no test of one looks at pages, which SCSI has not
abbrev pub asked : Query → Request
asked q = asked_for 0 q

-- "request: filter 0, type 0, start 0"
abbrev pub plain : Query
plain = record { filter = 0; report = 0; start = record { 0 = 0 } }
