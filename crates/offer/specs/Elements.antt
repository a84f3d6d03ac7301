-- The elements of an offered table, and the table as built of it.
use Rattle.std.specs.Prelude.{ℕ, ◌-◌, Bool, false, List, ◌++◌, map, take, replicate}
use Rattle.paper.specs.declared.ElementId.{ElementId}
use Rattle.slices.specs.Lists.{one, sum}
use Rattle.table.specs.Elements.{blank_part}
use Rattle.table.specs.declared.Part.{Part}
use Rattle.table.specs.declared.Table.{Table}
use Rattle.offer.specs.declared.Element.{Element}
use Rattle.offer.specs.declared.Offer.{Offer}

-- the elements that count: the first `count`, or all 128 where the count is larger
abbrev pub offered : Offer → List Element
offered o = take o.count o.elements

-- ## An element, and the part of it that is built

abbrev pub element_of : ElementId → ℕ → ℕ → Bool → ℕ → Element
element_of id kind health unreported blocks = record { id = id; kind = kind; health = health; unreported = one unreported; spare = 0; blocks = blocks }

abbrev pub part_of : Element → Part
part_of e = record { id = e.id; kind = e.kind; unreported = e.unreported; spare = 0; blocks = e.blocks }

-- what fills an unused place
abbrev pub blank : Element
blank = element_of (record { 0 = 0 }) 0 0 false 0

-- ## Identifiers and blocks

abbrev pub element_ids : List Element → List ℕ
element_ids es = map (λ (e : Element). e.id.0) es

-- the blocks of all
abbrev pub block_sum : List Element → ℕ
block_sum es = sum (λ (e : Element). e.blocks) es

-- ## An offered table, split: what is built, and the health that the cell of each place starts with

abbrev pub health_of : Element → ℕ
health_of e = e.health

-- unused places hold blanks and 00h
abbrev pub table_of : Offer → Table
table_of o = record { parts = map part_of (offered o) ++ replicate (128 - o.count) blank_part; count = o.count; limit = o.limit }

abbrev pub healths_of : Offer → List ℕ
healths_of o = map health_of (offered o) ++ replicate (128 - o.count) 0
