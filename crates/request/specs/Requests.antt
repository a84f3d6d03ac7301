-- Document 01, "GET PHYSICAL ELEMENT STATUS (12h)", with request 2026-05: a request's fields, what it is answered, and the tests of an element.
use Rattle.std.specs.Prelude.{ℕ, ◌+◌, ◌*◌, ◌/◌, ◌%◌, ◌^◌, Bool, cond, not, ◌||◌, List, ◌≡◌, leb, ltb, eqb, length}
use Rattle.paper.specs.Elements.{storage_type, removed_health, slow}
use Rattle.paper.specs.Registers.{low48}
use Rattle.paper.specs.Table12.{aborts}
use Rattle.paper.specs.declared.Command.TheVariants.{Status}
use Rattle.paper.specs.declared.Registers.{Registers}
use Rattle.paper.specs.declared.Security.{Security}
use Rattle.request.specs.declared.Request.{Request}

-- what the registers ask for
abbrev pub asked : Registers → Request
asked r = record { feature = r.feature; count = record { 0 = r.count }; lba = r.lba }

-- "FEATURE 15:14 filter, 11:8 report type"
abbrev pub filter_of : Request → ℕ
filter_of q = q.feature / 2 ^ 14 % 2 ^ 2

abbrev pub report_type_of : Request → ℕ
report_type_of q = q.feature / 2 ^ 8 % 2 ^ 4

-- "COUNT = pages p"
abbrev pub pages_of : Request → ℕ
pages_of q = q.count.0

-- "LBA = starting element": bits 31:0, a number of 32 bits. What lies above is reserved, or ignored
abbrev pub start_of : Request → ℕ
start_of q = q.lba.0 % 2 ^ 32

-- "refuses FEATURE 13:12 or 7:0 not zero, or LBA 47:32 not zero"
abbrev pub sets_reserved : Request → Bool
sets_reserved q = not (eqb (q.feature / 2 ^ 12 % 2 ^ 2) 0) || (not (eqb (q.feature % 2 ^ 8) 0) || not (eqb (q.lba.0 / 2 ^ 32 % 2 ^ 16) 0))

-- FEATURE's 16 bits hold filter and report type alone, and LBA's 48 the start alone
abbrev pub FieldsAlone : Request → Type 0
FieldsAlone q = (q.feature % 2 ^ 16 ≡ filter_of q * 2 ^ 14 + report_type_of q * 2 ^ 8) × ((low48 q.lba).0 ≡ start_of q)

-- "Checks: filter 10b or 11b, report type above 1, p = 0: all 4"; reserved bits: "4, after the page count check and before the buffer check"
unfoldable pub refused : Request → Bool
refused q = leb 2 (filter_of q) || (ltb 1 (report_type_of q) || (eqb (pages_of q) 0 || sets_reserved q))

-- two requests of the same fields, the reserved bits taken for one more: some are set in both, or none in either
pub record SameFields (p q : Request) : Type 0 where
  pub filter : filter_of p ≡ filter_of q
  pub report : report_type_of p ≡ report_type_of q
  pub pages : pages_of p ≡ pages_of q
  pub start : start_of p ≡ start_of q
  pub reserved : sets_reserved p ≡ sets_reserved q

-- "all 4; then the buffer below 512p bytes: 7. Allowed during a removal."; 1 by 000, table 12, where no state aborts it
abbrev pub status_number : Security → Request → ℕ → ℕ
status_number security q room = cond (aborts Status security) 1 (cond (refused q) 4 (cond (ltb room (512 * pages_of q)) 7 0))

-- "elements with identifier at or above the start"
abbrev pub takes_id : Request → ℕ → Bool
takes_id q id = leb (start_of q) id

-- "type 01h only if report type is 1"
abbrev pub takes_type : ℕ → ℕ → Bool
takes_type report kind = not (eqb report 1) || storage_type kind

-- what filter 01b lets through: "only health 65h to CFh, or FFh (000, table 14)"
abbrev pub in_filter : ℕ → Bool
in_filter health = slow health || removed_health health

unfoldable pub takes_health : ℕ → ℕ → Bool
takes_health filter health = not (eqb filter 1) || in_filter health

-- ## Of an input: document 01, "The reader", last paragraph

-- "an answer to filter 0, report type 0, start 0, ..
abbrev pub request_for : ℕ → Request
request_for pages = record { feature = 0; count = record { 0 = pages }; lba = record { 0 = 0 } }

-- .. and as many pages as the input has"
abbrev pub request_of : List ℕ → Request
request_of s = request_for (length s / 512)
