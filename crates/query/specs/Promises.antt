-- What holds of every request. Each is a statement; proofs/ has the proof under the same name in lower case.
use Rattle.std.specs.Prelude.{ℕ, ◌^◌, ◌<◌, false, ◌≡◌}
use Rattle.request.specs.Requests.{SameFields, filter_of, report_type_of, pages_of, start_of, sets_reserved, refused}
use Rattle.request.specs.declared.Request.{Request}
use Rattle.query.specs.Queries.{due_four, asked_for}
use Rattle.query.specs.declared.Query.{Query}

-- an ATA request with a SCSI request's fields, for some pages
pub record SameAsked (p : ℕ) (q : Query) (r : Request) : Type 0 where
  pub filter : filter_of r ≡ q.filter
  pub report : report_type_of r ≡ q.report
  pub start : start_of r ≡ q.start.0
  pub pages : pages_of r ≡ p

-- one that is not due 4 has its fields in the ATA request
abbrev pub AsksTheSame : Type 0
AsksTheSame = (p : ℕ) (q : Query) → q.start.0 < 2 ^ 32 → due_four q ≡ false → SameAsked p q (asked_for p q)

-- request 2026-05: the ATA request sets no reserved bit, whatever the fields are
abbrev pub UnsetAsked : Type 0
UnsetAsked = (p : ℕ) (q : Query) → sets_reserved (asked_for p q) ≡ false

-- the SCSI request with an ATA request's fields
abbrev pub query_of : Request → Query
query_of r = record { filter = filter_of r; report = report_type_of r; start = record { 0 = start_of r } }

-- an ATA request that is not due 4 is, but for what lies above LBA 47, that of the SCSI request with its fields, which is not due 4 either: it sets
-- no other bit (request/specs/Promises, `UnsetExactly`)
abbrev pub AskedBack : Type 0
AskedBack = (r : Request) → refused r ≡ false → (due_four (query_of r) ≡ false) × SameFields r (asked_for (pages_of r) (query_of r))
