-- Where the fields of the lent records stand in memory, as the language lays them out: the static assertions of c/recorder.h have the same numbers. No
-- byte lies between fields or after them: their sizes add up to the whole. And which field stands at which place: a record as a value of memory has its
-- fields in this order.
use Rattle.std.specs.Prelude.{ℕ, ◌+◌, List, [], ◌∷◌, ◌≡◌}
use mathlib.Core.Path.{refl}
use mir.Syntax.{Width, w8, w16, w32, w64, Ty, Tys, ty_int, ty_bool, ty_float, ty_ptr, ty_ref, ty_array, ty_array_p, ty_param, ty_const, ty_unit, ty_struct, ty_enum, ty_named, tcons, tnil}
use mir.Val.{Val, vint, vstruct, of_list}
use prog.Memory.{align, size, up}
use denote.Array.{array_val}
use denote.Memory.{lone}
use denote.Struct.Declared as Struct
use denote.Struct.Laws as Laws
use Rattle.image.specs.contracts.Image as Image
use Rattle.image.proofs.Image.TheLaws as Image'
use Rattle.image.specs.declared.Image as images
use Rattle.offer.specs.contracts.Element as Element
use Rattle.offer.proofs.Element.TheLaws as Element'
use Rattle.offer.specs.declared.Element as elements
use Rattle.table.specs.contracts.Part as Part
use Rattle.table.proofs.Part.TheLaws as Part'
use Rattle.table.specs.declared.Part as parts

abbrev ty : Struct.Declared → Ty
ty T = lone (Struct.row T).mir

-- where each field begins, after e bytes, and how long they are in all
abbrev places_from : ℕ → Tys → List ℕ
places_from e tnil = []
places_from e (tcons τ τs) = up (align τ) e ∷ places_from (up (align τ) e + size τ) τs

abbrev sizes : Tys → ℕ
sizes tnil = 0
sizes (tcons τ τs) = size τ + sizes τs

abbrev fields : Ty → Tys
fields (ty_struct ν τs) = τs
fields (ty_int w) = tnil
fields ty_bool = tnil
fields (ty_float f) = tnil
fields ty_ptr = tnil
fields (ty_ref κ μ τ) = tnil
fields (ty_array τ n) = tnil
fields ty_unit = tnil
fields (ty_enum ν τss) = tnil
fields (ty_named ν τs) = tnil
fields (ty_param n) = tnil
fields (ty_const n) = tnil
fields (ty_array_p τ n) = tnil

abbrev Laid : Ty → ℕ → List ℕ → Type 0
Laid τ n places = (size τ ≡ n) × (sizes (fields τ) ≡ n) × (places_from 0 (fields τ) ≡ places)

-- one number in a struct of its own, as an identifier and an address are
abbrev single : Width → ℕ → Val
single w n = vstruct (of_list (vint w n ∷ []))

pub element_laid : Laid (ty Element.the_type) 16 (0 ∷ 4 ∷ 5 ∷ 6 ∷ 7 ∷ 8 ∷ [])
element_laid = (refl, refl, refl)

pub element_named : (e : elements.Element)
    → Laws.val Element.the_type Element'.the_laws e ≡ vstruct (of_list (single w32 e.id.0 ∷ vint w8 e.kind ∷ vint w8 e.health ∷ vint w8 e.unreported ∷ vint w8 e.spare ∷ vint w64 e.blocks ∷ []))
element_named e = refl

pub part_laid : Laid (ty Part.the_type) 16 (0 ∷ 4 ∷ 5 ∷ 6 ∷ 8 ∷ [])
part_laid = (refl, refl, refl)

pub part_named : (p : parts.Part)
    → Laws.val Part.the_type Part'.the_laws p ≡ vstruct (of_list (single w32 p.id.0 ∷ vint w8 p.kind ∷ vint w8 p.unreported ∷ vint w16 p.spare ∷ vint w64 p.blocks ∷ []))
part_named p = refl

pub image_laid : Laid (ty Image.the_type) 2224 (0 ∷ 2048 ∷ 2056 ∷ 2064 ∷ 2072 ∷ 2080 ∷ 2084 ∷ 2088 ∷ 2090 ∷ 2091 ∷ 2092 ∷ 2096 ∷ [])
image_laid = (refl, refl, refl)

-- its arrays, the first and the last, are told apart by their sizes
pub image_named : (i : images.Image) → i.parts ≡ [] → i.healths ≡ []
    → Laws.val Image.the_type Image'.the_laws i ≡ vstruct (of_list (array_val []
    ∷ single w64 i.native.0 ∷ single w64 i.accessible.0 ∷ single w64 i.old.0 ∷ single w64 i.new.0 ∷ single w32 i.element.0
    ∷ vint w32 i.count ∷ vint w16 i.limit ∷ vint w8 i.full ∷ vint w8 i.failed ∷ vint w32 i.position ∷ array_val [] ∷ []))
image_named i p h = rw (p, h) refl
