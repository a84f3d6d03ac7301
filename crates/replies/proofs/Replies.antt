-- Laws of the replies, by what they were found to be; and how long they are.
use Prim.Native.Nat.{ℕ, ◌+◌, ◌≤◌, ◌<◌}
use mathlib.Core.Bool.{true, false}
use mathlib.Core.List.{List}
use mathlib.Core.Path.{◌≡◌, refl, sym}
use native.Mathlib.Omega.{arith}
use lib.ListN.{length, length-append}
use borrow.Author.Tests.{le-leb, lt-leb}
use Rattle.acts.specs.Acts.{Saying, nothing, not_acall, no_device, outside, long_now, answered, commanded, cells, reads, walks, reads_scsi, docked, heard}
use Rattle.acts.specs.declared.Reply.TheVariants as replies
use Rattle.acts.specs.declared.Reply.{Reply}
use Rattle.contents.proofs.Contents.{length_reading}
use Rattle.contents.proofs.DockContents.{enough_for_data}
use Rattle.device.specs.declared.Device.{Device}
use Rattle.inventory.proofs.Inventory.{length_cells}
use Rattle.moves.proofs.Moves.{length_next}
use Rattle.slices.specs.Lists.{stored, ended}
use Rattle.text.proofs.Digits.{length_decimal}
use Rattle.writing.proofs.Puts.{puts_none, puts_one, puts_in, none_stored_in, none_ended_in, whole_stored_in, whole_ended_in}
use Rattle.writing.specs.Private.{Puts}
use Rattle.writing.specs.Writing.{stored_in, ended_in}
use Rattle.replies.specs.Promises.{Enough}
use Rattle.replies.specs.Replies.{text_of}
use Rattle.replies.proofs.Answers.{length_answer, length-lent}
use Rattle.replies.proofs.DockReplies.{length_docked}

-- by what it was found to be
module _ (reply m : Reply) (e : reply ≡ m) (v : Device) (page lent d x : List ℕ) (r : ℕ) where
  pub at_puts : Puts d 0 (text_of (heard m) v page lent) x r → Puts d 0 (text_of (heard reply) v page lent) x r
  at_puts so = rw e so

  pub at_stored : x ≡ stored d 0 (text_of (heard m) v page lent) → r ≡ ended d 0 (text_of (heard m) v page lent) → Puts d 0 (text_of (heard reply) v page lent) x r
  at_stored is_x is_r = at_puts (puts_one d x 0 r (text_of (heard m) v page lent) is_x is_r)

  module _ (long : 140000 ≤ length d) where
    pub at_cells : x ≡ stored_in 6000 d 0 (text_of (heard m) v page lent) → r ≡ ended_in 6000 d 0 (text_of (heard m) v page lent)
        → Puts d 0 (text_of (heard reply) v page lent) x r
    at_cells is_x is_r = at_puts (puts_in (text_of (heard m) v page lent) d x 0 6000 r (omega arith) is_x is_r)

    pub at_reading : x ≡ stored_in 80000 d 0 (text_of (heard m) v page lent) → r ≡ ended_in 80000 d 0 (text_of (heard m) v page lent)
        → Puts d 0 (text_of (heard reply) v page lent) x r
    at_reading is_x is_r = at_puts (puts_in (text_of (heard m) v page lent) d x 0 80000 r (omega arith) is_x is_r)

pub at_nothing : (reply : Reply) (v : Device) (page lent d : List ℕ) → reply ≡ replies.Nothing → Puts d 0 (text_of (heard reply) v page lent) d 0
at_nothing reply v page lent d e = at_puts reply replies.Nothing e v page lent d d 0 (puts_none d 0)

pub enough : Enough
enough nothing d page lent = omega arith
enough not_acall d page lent = omega arith
enough no_device d page lent = omega arith
enough outside d page lent = omega arith
enough (long_now n) d page lent = simp length-append (omega (arith, length_decimal n))
enough (answered n) d page lent = omega (arith, length_answer n)
enough (commanded n room count) d page lent = length-lent n room count lent
enough cells d page lent = omega (arith, length_cells d)
enough (reads q) d page lent = omega (arith, length_reading page q)
enough (walks q) d page lent = omega (arith, length_next page q)
enough (reads_scsi q) d page lent = omega (arith, enough_for_data page q)
enough (docked a) d page lent = length_docked a lent

module _ (s : Saying) (v : Device) (page lent d : List ℕ) where
  module _ (short : length d < 140000) where
    pub short_stored : d ≡ stored_in 140000 d 0 (text_of s v page lent)
    short_stored = none_stored_in (text_of s v page lent) d 0 140000 false (sym (lt-leb (0 + 140000) (length d) (omega arith))) refl

    pub short_ended : 0 ≡ ended_in 140000 d 0 (text_of s v page lent)
    short_ended = none_ended_in (text_of s v page lent) d 0 140000 false (sym (lt-leb (0 + 140000) (length d) (omega arith))) refl

  module _ (long : 140000 ≤ length d) (x : List ℕ) (r : ℕ) (so : Puts d 0 (text_of s v page lent) x r) where
    pub long_stored : x ≡ stored_in 140000 d 0 (text_of s v page lent)
    long_stored =
        whole_stored_in (text_of s v page lent) d 0 140000 true (sym (le-leb (0 + 140000) (length d) (omega arith))) refl (enough s v page lent) x r so

    pub long_ended : r ≡ ended_in 140000 d 0 (text_of s v page lent)
    long_ended =
        whole_ended_in (text_of s v page lent) d 0 140000 true (sym (le-leb (0 + 140000) (length d) (omega arith))) refl (enough s v page lent) x r so
