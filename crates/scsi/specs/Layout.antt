-- The layout of SCSI data as the answer to a request: a list of rules, in the order in which a breach is reported, each with its place.
use Rattle.std.specs.Prelude.{ℕ, ◌≤◌, List, [], ◌∷◌, ◌++◌, ◌≡◌, length}
use Rattle.layout.specs.Bytes.{header_in}
use Rattle.offences.specs.Checks.{base_of}
use Rattle.query.specs.Queries.{asked}
use Rattle.query.specs.declared.Query.{Query}
use Rattle.reader.specs.Layout.{Rule, rule, below, rules_at}
use Rattle.words.specs.declared.Order.{Order}
use Rattle.scsi.specs.Data.{whole_of}

-- none of: "length below 32 or a request with a filter or report type due 4 (0), returned not N (4), the ATA reader's descriptor offences in its
-- order, then the first byte past the list"; of the descriptors, those that are there whole
abbrev pub data_rules : Order → List ℕ → Query → List Rule
data_rules o s q =
    let h = header_in o s in
    rule 0 (32 ≤ length s)
    ∷ rule 0 ((q.filter ≤ 1) × (q.report ≤ 1))
    ∷ rule 4 (h.returned ≡ h.number)
    ∷ (below (whole_of h.number (length s)) (rules_at o s (asked q)) ++ (rule (base_of h.number) (length s ≤ base_of h.number) ∷ []))
