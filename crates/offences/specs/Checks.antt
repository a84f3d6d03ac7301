-- Document 01, "The reader": "Checks, first offence reported, descriptor by descriptor, its place counted from the page's first byte".
use Rattle.std.specs.Prelude.{ℕ, zero, suc, ◌+◌, ◌*◌, Bool, not, ◌&&◌, ◌||◌, List, eqb, ltb, drop, Result, ⊤}
use Rattle.layout.specs.Bytes.{descriptor_in}
use Rattle.layout.specs.declared.Descriptor.{Descriptor}
use Rattle.paper.specs.Elements.{removed_health}
use Rattle.request.specs.Requests.{filter_of, report_type_of, takes_id, takes_type, takes_health}
use Rattle.request.specs.declared.Request.{Request}
use Rattle.words.specs.declared.Order.{Order}
use Rattle.offences.specs.First.{unless, ◌or_else◌}
use Rattle.offences.specs.declared.Offence.{Offence}

-- where descriptor k starts
abbrev pub base_of : ℕ → ℕ
base_of k = 32 + 32 * k

abbrev pub descriptor_at : Order → List ℕ → ℕ → Descriptor
descriptor_at o s k = descriptor_in o (drop (base_of k) s)

-- the identifier before descriptor k; 0 before the first
abbrev pub last_before : Order → List ℕ → ℕ → ℕ
last_before o s zero = 0
last_before o s (suc k) = (descriptor_at o s k).id.0

-- none of: "identifier 0, below the start, or not above the one before"
abbrev pub in_turn : Request → ℕ → ℕ → Bool
in_turn q last id = not (eqb id 0) && (takes_id q id && ltb last id)

-- not: "restoration bit set while health is not FFh"
abbrev pub earned : Descriptor → Bool
earned d = not d.restorable || removed_health d.health

-- ".. (its byte 4); restoration bit .. (13); type outside the report type (14); health outside the filter (15)"
abbrev pub check_of : Request → ℕ → ℕ → Descriptor → Result ⊤ Offence
check_of q last base d =
    unless (in_turn q last d.id.0) (base + 4) or_else
    (unless (earned d) (base + 13) or_else
    (unless (takes_type (report_type_of q) d.kind) (base + 14) or_else
    unless (takes_health (filter_of q) d.health) (base + 15)))

abbrev pub offence_at : Order → List ℕ → Request → ℕ → Result ⊤ Offence
offence_at o s q k = check_of q (last_before o s k) (base_of k) (descriptor_at o s k)
