-- The making of a device: what the check's answer tells.
use Prim.Native.Nat.{ℕ, ◌-◌, ◌≤◌}
use mathlib.Core.List.{List}
use mathlib.Core.Path.{◌≡◌, sym, ap, ◌∙◌}
use native.Mathlib.Omega.{arith}
use Rattle.cells.specs.declared.Mark.TheVariants.{Clear}
use Rattle.cells.specs.declared.Note.TheVariants.{Empty}
use Rattle.cells.specs.declared.Position.TheVariants.{Work1}
use Rattle.device.specs.declared.Device.{Device}
use Rattle.offer.proofs.Laws.{check_refused, check_blocks, good_blocks}
use Rattle.offer.specs.Check.{check_of, verdict}
use Rattle.offer.specs.Elements.{offered, table_of, healths_of}
use Rattle.std.proofs.Common.{Option, Some, None}
use Rattle.offer.specs.declared.Offer.{Offer}
use Rattle.paper.specs.Told.{said}
use Rattle.paper.specs.declared.Answer.TheVariants.{Done, TableRefused}
use Rattle.table.specs.declared.Table.{Table}
use Rattle.making.specs.Making.{made_of}

module _ (there : Device) (o : Offer) (c : Option ℕ) (is_c : verdict c ≡ check_of o) where
  pub made_refused : c ≡ None → said TableRefused there ≡ made_of there o
  unfolding made_of
  made_refused e = sym (rw (check_refused o (sym (ap verdict e) ∙ is_c)))

  module _ (n : ℕ) (is_n : c ≡ Some n) where
    counted : verdict (Some n) ≡ check_of o
    counted = sym (ap verdict is_n) ∙ is_c

    pub made_fits : 1 ≤ n
    made_fits =
        let so = check_blocks o n counted in
        let two = good_blocks o.count (offered o) o.limit so.0 in
        omega arith

    pub made_done : (u : Table) (hs : List ℕ) → u ≡ table_of o → hs ≡ healths_of o
        → said Done (record {
          table = u;
          cells = record { native = record { 0 = n - 1 }; accessible = record { 0 = n - 1 }; healths = hs; failed = Clear; note = Empty };
          position = Work1;
        }) ≡ made_of there o
    unfolding made_of
    made_done u hs is_u is_hs =
        let so = check_blocks o n counted in
        rw (so.0, is_u, is_hs, so.1)
