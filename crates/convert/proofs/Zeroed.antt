-- Reserved bytes become zero (specs/Promises): each byte is one of a header or of a descriptor that is laid.
use Prim.Native.Nat.{ℕ, ◌+◌, ◌<◌}
use mathlib.Core.List.{List, [], append-nil}
use mathlib.Core.Path.{◌≡◌, sym, ap, ◌∙◌}
use native.Mathlib.Omega.{arith}
use lib.ListN.{get_or, drop, get_or-append}
use lib.Seq.{get_or-drop}
use Rattle.layout.proofs.Bytes.{header_wide, wide}
use Rattle.layout.proofs.Zeroed.{header_zeroed, descriptor_zeroed}
use Rattle.layout.specs.Bytes.{header_bytes, header_in, descriptor_bytes}
use Rattle.layout.specs.declared.Descriptor.{Descriptor}
use Rattle.layout.specs.declared.Header.{Header}
use Rattle.offences.proofs.Laid.{laid_at}
use Rattle.offences.specs.Checks.{base_of, descriptor_at}
use Rattle.slices.proofs.Lists.{after}
use Rattle.slices.specs.Lists.{flat}
use Rattle.words.specs.declared.Order.{Order}
use Rattle.convert.specs.Convert.{list_in, turned}
use Rattle.convert.specs.Promises.{ReservedZeroed}
use Rattle.convert.proofs.Turned.{length_list}

module _ (from to : Order) (s : List ℕ) where
  abbrev h : Header
  h = header_in from s

  abbrev l : List Descriptor
  l = list_in from s h.number

  abbrev element : ℕ → Descriptor
  element k = get_or l k (descriptor_at from s 0)

  header_byte : (at : ℕ) → at < 32 → get_or (turned from to s) at 0 ≡ get_or (header_bytes to h) at 0
  unfolding turned
  header_byte at inside = get_or-append (header_bytes to h) (flat (descriptor_bytes to) l) 0 at (omega (arith, header_wide to h))

  descriptor_byte : (k at : ℕ) → k < h.number → at < 32 → get_or (turned from to s) (base_of k + at) 0 ≡ get_or (descriptor_bytes to (element k)) at 0
  unfolding turned
  descriptor_byte k at less inside =
      sym (get_or-drop (base_of k) (turned from to s) at 0)
      ∙ ap (λ (t : List ℕ). get_or (drop (base_of k) t) at 0) (sym (append-nil (turned from to s)))
      ∙ ap (λ (t : List ℕ). get_or t at 0) (laid_at to h l [] k (descriptor_at from s 0) (omega (arith, length_list from s h.number)))
      ∙ get_or-append (descriptor_bytes to (element k)) (after (descriptor_bytes to) 32 (wide to) l k []) 0 at (omega (arith, wide to (element k)))

pub reserved_zeroed : ReservedZeroed
reserved_zeroed from to s = (
  λ at inside. rw (header_byte from to s at inside) (header_zeroed to (header_in from s) at),
  λ k at less inside. rw (descriptor_byte from to s k at less inside) (descriptor_zeroed to (element from to s k) at),
)
