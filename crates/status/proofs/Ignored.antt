-- A page goes by a request's fields, and by whether it sets a reserved bit, alone; and what lies above bit 47 of LBA is not looked at: each rule
-- drops it, or goes by lower bits.
use Prim.Native.Nat.{ℕ, ◌+◌, ◌%◌, ◌^◌}
use mathlib.Core.Bool.{cond, ◌&&◌}
use mathlib.Core.List.{List}
use mathlib.Core.Path.{◌≡◌, sym, ap}
use native.Mathlib.Nat.{mod-mod}
use lib.Dec.{eqb, leb, ltb}
use lib.ListN.{length}
use lib.Pow.{mod-mod-pow}
use Rattle.cells.specs.Cells.{is_set, failed_number}
use Rattle.cells.specs.declared.Mark.{Mark}
use Rattle.device.specs.Commands.{sectors_of, media_number, other_number}
use Rattle.device.specs.Machine.{command, quiet_number, rule}
use Rattle.device.specs.Record.{says, tell}
use Rattle.device.specs.declared.Device.{Device}
use Rattle.layout.specs.declared.Descriptor.{Descriptor}
use Rattle.open.specs.Open.{is_open}
use Rattle.paper.specs.Registers.{low48, identifier_of}
use Rattle.paper.specs.Told.{Told}
use Rattle.paper.specs.declared.Lba.{Lba}
use Rattle.paper.specs.declared.Registers.{Registers}
use Rattle.paper.specs.declared.Security.{Security}
use Rattle.removal.specs.Remove.{judge}
use Rattle.request.proofs.Requests.{refused-same}
use Rattle.request.proofs.ReservedBits.{high_bits_alike}
use Rattle.request.specs.Requests.{SameFields, asked, status_number, takes_type, takes_health}
use Rattle.request.specs.declared.Request.{Request}
use Rattle.slices.specs.Lists.{keep}
use Rattle.view.specs.Shown.{asks}
use Rattle.status.specs.Page.{shown_all, list_of, page_of}
use Rattle.status.specs.Promises.{IgnoredUnshown, lowered, HighBitsUnseen}

-- ## The fields

module _ (p q : Request) (same : SameFields p q) where
  number_same : (s : Security) (room : ℕ) → status_number s p room ≡ status_number s q room
  number_same s room = rw (refused-same p q same, same.pages)

  module _ (d : Device) where
    list_same : list_of d p ≡ list_of d q
    unfolding list_of asks
    list_same =
        λ i. keep (λ (x : Descriptor). leb (same.start i) x.id.0 && (takes_type (same.report i) x.kind && takes_health (same.filter i) x.health))
        (shown_all d)

    pub page_same : page_of d p ≡ page_of d q
    unfolding page_of
    page_same = rw (list_same, same.pages)

pub ignored_unshown : IgnoredUnshown
ignored_unshown d s p q buf same = rw (number_same p q same s (length buf), page_same p q same d, same.pages)

-- ## Above bit 47

once : (lba : Lba) → low48 lba ≡ low48 (low48 lba)
once lba = λ i. record { 0 = sym (mod-mod lba.0 (2 ^ 48)) i }

open_low : (code feature n : ℕ) → is_open code feature n ≡ is_open code feature (n % 2 ^ 48)
unfolding is_open
open_low code feature n = rw (mod-mod-pow n 40 8, mod-mod-pow n 20 28)

media_low : (failed : Mark) (accessible : Lba) (count : ℕ) (lba : Lba) → media_number failed accessible count lba ≡ media_number failed accessible count (low48 lba)
unfolding media_number
media_low failed accessible count lba =
    ap (λ (x : Lba). cond (is_set failed) (failed_number failed) (cond (ltb (accessible.0 + 1) (x.0 + sectors_of count)) 5 0)) (once lba)

module _ (d : Device) (s : Security) (r : Registers) where
  other_low : other_number d r ≡ other_number d (lowered r)
  unfolding other_number
  other_low = rw (open_low r.code r.feature r.lba.0, media_low d.cells.failed d.cells.accessible r.count r.lba)

  quiet_low : (room : ℕ) → quiet_number d s r room ≡ quiet_number d s (lowered r) room
  quiet_low room = λ i. cond (eqb r.code 0x12) (number_same (asked r) (asked (lowered r)) (high_bits_alike (asked r)) s room i) (other_low i)

  rule_low : (room : ℕ) → rule d (command s r room) ≡ rule d (command s (lowered r) room)
  rule_low room =
      λ i. cond (eqb r.code 0x7C) (judge d.table d.cells d.position s (identifier_of r) (once r.lba i)) (says (quiet_low room i) d)

pub high_bits_unseen : HighBitsUnseen
high_bits_unseen d s r buf = (
  ap (tell d) (rule_low d s r (length buf)),
  ap (λ (t : Told (List ℕ)). cond (eqb r.code 0x12) t.state buf) (ignored_unshown d s (asked r) (asked (lowered r)) buf (high_bits_alike (asked r))),
)
