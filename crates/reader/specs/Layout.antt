-- The layout of a page as the answer to a request: a list of rules, in the order in which a breach is reported, each with its place.
use Rattle.std.specs.Prelude.{ℕ, zero, suc, ◌+◌, ◌-◌, ◌*◌, ◌≤◌, ◌<◌, true, List, [], ◌∷◌, ◌++◌, ◌⊎◌, ◌≡◌, length, get_or}
use Rattle.layout.specs.Bytes.{header_in, returned_of}
use Rattle.layout.specs.declared.Descriptor.{Descriptor}
use Rattle.offences.specs.Checks.{base_of, descriptor_at, last_before}
use Rattle.request.specs.Requests.{filter_of, report_type_of, pages_of, start_of, FieldsAlone}
use Rattle.request.specs.declared.Request.{Request}
use Rattle.words.specs.declared.Order.{Order}

pub record Rule : Type 1 where
  pub place : ℕ
  pub Says : Type 0

abbrev pub rule : ℕ → Type 0 → Rule
rule p S = record { place = p; Says = S }

-- ## Rules kept, and the first that is broken

abbrev pub Each : List Rule → Type 0
Each [] = Unit {0}
Each (r ∷ rs) = r.Says × Each rs

abbrev pub FirstBroken : List Rule → ℕ → Type 0
FirstBroken [] p = ⊥
FirstBroken (r ∷ rs) p = ((r.Says → ⊥) × (r.place ≡ p)) ⊎ (r.Says × FirstBroken rs p)

-- the rules of 0, 1, .., n - 1
abbrev pub below : ℕ → (ℕ → List Rule) → List Rule
below zero g = []
below (suc n) g = below n g ++ g n

-- ## The rules

-- not: "A request that would get 4"
abbrev pub Asked : Request → Type 0
Asked q = (filter_of q ≤ 1) × (report_type_of q ≤ 1) × (1 ≤ pages_of q) × FieldsAlone q

-- "only health 65h to CFh, or FFh"
abbrev pub InFilter : ℕ → Type 0
InFilter health = ((0x65 ≤ health) × (health ≤ 0xCF)) ⊎ (health ≡ 0xFF)

-- of a descriptor that starts at `base`, after the identifier `last`: its bytes 4, 13, 14 and 15
abbrev pub descriptor_rules : Request → ℕ → ℕ → Descriptor → List Rule
descriptor_rules q last base d =
    rule (base + 4) ((1 ≤ d.id.0) × (start_of q ≤ d.id.0) × (last < d.id.0))
    ∷ rule (base + 13) (d.restorable ≡ true → d.health ≡ 0xFF)
    ∷ rule (base + 14) (report_type_of q ≡ 1 → d.kind ≡ 1)
    ∷ rule (base + 15) (filter_of q ≡ 1 → InFilter d.health)
    ∷ []

abbrev pub rules_at : Order → List ℕ → Request → ℕ → List Rule
rules_at o s q k = descriptor_rules q (last_before o s k) (base_of k) (descriptor_at o s k)

-- not: "non-zero padding byte"
abbrev pub padding_rules : List ℕ → ℕ → ℕ → List Rule
padding_rules s from i = rule (from + i) (get_or s (from + i) 0 ≡ 0) ∷ []

abbrev pub page_rules : Order → List ℕ → Request → List Rule
page_rules o s q =
    let h = header_in o s in
    rule 0 (Asked q)
    ∷ rule 0 (length s ≡ 512 * pages_of q)
    ∷ rule 4 (h.returned ≡ returned_of h.number (pages_of q))
    ∷ (below h.returned (rules_at o s q) ++ below (length s - base_of h.returned) (padding_rules s (base_of h.returned)))
