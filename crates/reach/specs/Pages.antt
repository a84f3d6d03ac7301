-- What a page has, and how far two pages are compared.
use Rattle.std.specs.Prelude.{ℕ, ◌-◌, ◌^◌, cond, List, ltb, Option, Some, None}
use Rattle.layout.specs.Bytes.{header_in}
use Rattle.layout.specs.declared.Descriptor.{Descriptor}
use Rattle.offences.specs.Checks.{descriptor_at, last_before}
use Rattle.paper.specs.declared.ElementId.{ElementId}
use Rattle.words.specs.declared.Order.TheVariants.{Little}

-- ## A page

-- how many descriptors it has: returned, not N
unfoldable pub count_of : List ℕ → ℕ
count_of s = (header_in Little s).returned

-- its descriptor k; a byte past the end counts as 0
unfoldable pub element_at : List ℕ → ℕ → Descriptor
element_at s k = descriptor_at Little s k

-- ## How far: the bound is the last identifier, itself included; of what is whole there is none

-- "If a page was cut short (N above returned)": to its last identifier, which an accepted one has (specs/Promises, `CutBounds`)
unfoldable pub reach_of : List ℕ → Option ElementId
reach_of s =
    let h = header_in Little s in
    cond (ltb h.returned h.number) (Some (record { 0 = last_before Little s h.returned })) None

abbrev pub smallest : Option ElementId → Option ElementId → Option ElementId
smallest None b = b
smallest (Some x) None = Some x
smallest (Some x) (Some y) = cond (ltb x.0 y.0) (Some x) (Some y)

-- "only identifiers up to the smallest last one of the cut pages are compared"
unfoldable pub bound_of : List ℕ → List ℕ → Option ElementId
bound_of s t = smallest (reach_of s) (reach_of t)

-- the last identifier that is compared; of all it is FFFF_FFFFh
abbrev pub end_of : Option ElementId → ElementId
end_of None = record { 0 = 2 ^ 32 - 1 }
end_of (Some id) = id
