-- How long an input is that reaches the reader; and that 65,536 bytes are enough (specs/Promises).
use Prim.Native.Nat.{ℕ, ◌≤◌}
use mathlib.Core.List.{List}
use mathlib.Core.Path.{◌≡◌, refl, sym, ◌∙◌}
use native.Mathlib.Omega.{arith}
use lib.ListN.{length}
use borrow.Author.Tests.{leb-true, le-ltb}
use Rattle.std.proofs.Common.{Ok, Err, Result}
use Rattle.std.specs.Prelude.{⊤}
use Rattle.convert.proofs.Outcomes.{unless_clean, or_clean, length-turned, page_whole, page_bytes}
use Rattle.convert.specs.Convert.{turned, paged, scsi_offence, ata_offence, outcome}
use Rattle.offences.specs.First.{◌or_else◌}
use Rattle.offences.specs.declared.Offence.{Offence}
use Rattle.query.specs.Queries.{plain}
use Rattle.request.specs.Requests.{request_of}
use Rattle.words.specs.declared.Order.TheVariants.{Little, Big}
use Rattle.turning.specs.Promises.{Enough}
use Rattle.turning.specs.Turning.{within}

-- ## The input

pub short : (s : List ℕ) → within s ≡ Ok tt → length s ≤ 65536
short s e = leb-true (length s) 65536 (unless_clean _ 65536 e)

-- ## 65,536 bytes are enough

-- bytes that there is room for are not too many
not_7 : (f : Result ⊤ Offence) (bytes buf : List ℕ) → (f ≡ Ok tt → length bytes ≤ length buf) → (outcome f bytes buf).number ≡ 7 → ⊥
not_7 (Err p) bytes buf room e = let no : ◌≡◌ {A = ℕ} 9 7 = e in omega arith
not_7 (Ok _) bytes buf room e = let no : ◌≡◌ {A = ℕ} 0 7 = sym (rw (le-ltb _ _ (room refl))) ∙ e in omega arith

pub enough : Enough
enough s buf wide = (
  not_7 (within s or_else scsi_offence s (request_of s)) (turned Little Big s) buf (λ clean.
      let (few, own) = or_clean (within s) (scsi_offence s (request_of s)) clean in
      let bound = short s few in
      omega (arith, length-turned Little Big s, page_whole s (request_of s) own, bound)),
  λ p few.
      not_7 (within s or_else ata_offence s plain p) (paged p s) buf (λ clean.
      omega (arith, page_bytes s plain p (or_clean (within s) (ata_offence s plain p) clean).1)),
)
