-- What of a list is there, in bytes (specs/Promises).
use Prim.Native.Nat.{◌%◌}
use mathlib.Core.Bool.{not}
use native.Mathlib.Omega.{arith}
use lib.Dec.{eqb, ltb}
use borrow.Author.Tests.{ltb-true, lt-ltb, eqb-false, ne_eqb, not-true}
use Rattle.offences.specs.Checks.{base_of}
use Rattle.reader.proofs.LayoutTheorem.{and_both}
use Rattle.scsi.specs.Promises.{WholeExactly, TornExactly}

pub whole_exactly : WholeExactly
whole_exactly n size k = (λ h. (omega arith, omega arith), λ h. omega arith)

pub torn_exactly : TornExactly
torn_exactly n size there = (
  λ e.
      let (goes_on, inside) = and_both (ltb size (base_of n)) (not (eqb (size % 32) 0)) e in
      (omega (arith, ltb-true size (base_of n) goes_on), omega (arith, eqb-false (size % 32) 0 (not-true _ inside))),
  λ h. rw (lt-ltb size (base_of n) (omega arith), ne_eqb (size % 32) 0 (λ e. omega arith)),
)
