-- What holds of the library (specs/Library): what is put down in a record is what is read, call by call.
use Prim.Native.Nat.{ℕ}
use mathlib.Core.Bool.{true}
use mathlib.Core.List.{List}
use mathlib.Core.Path.{◌≡◌, refl, sym, ap, subst, ◌∙◌}
use lib.ListN.{length}
use Rattle.calls.proofs.Lists.{made_alike}
use Rattle.calls.proofs.Refusals.{refusal_leaves_both}
use Rattle.calls.specs.Offered.{offer_of, made_from}
use Rattle.cells.specs.declared.Note.TheVariants.{Empty, Full}
use Rattle.cells.specs.declared.Note.{Note}
use Rattle.device.specs.Machine.{Event, command, step, power_cut, told}
use Rattle.device.specs.declared.Device.{Device}
use Rattle.history.specs.Runs as runs
use Rattle.history.specs.Runs.{begin, ◌▸◌, after}
use Rattle.image.proofs.Every.{reads_on, refusal_leaves_image, reads_made, refused_making_leaves}
use Rattle.image.specs.Calls.{told_of}
use Rattle.image.specs.Reading.{security_of, device_of}
use Rattle.image.specs.declared.Image.{Image}
use Rattle.offer.specs.Check.{good}
use Rattle.offer.specs.declared.Element.{Element}
use Rattle.paper.specs.Told.{Told, tells}
use Rattle.paper.specs.declared.Answer.TheVariants.{Done}
use Rattle.recorder.proofs.Front.{made_in_lem}
use Rattle.recorder.specs.Made.{made_in}
use Rattle.demands.specs.Library.{none, call, LibraryRuns, LibraryStarts, LibraryAfter, LibraryKeeps, LibraryForgets, LibraryRests, RefusedCommandLeaves, RefusedListLeavesImage, LibraryRefuses}
use Rattle.demands.proofs.Starts.{listed_starts, listed-keeps}

-- ## The record and the device that it is

read : (x y : Image) (e : Event) (n : ℕ) → tells n y ≡ told_of x e → tells n (device_of y) ≡ told (device_of x) e
read x y e n is =
    ap (λ (t : Told Image). tells t.number (device_of t.state)) is ∙ (λ k. tells ((reads_on x e).0 k) ((reads_on x e).1 k))

pub library_runs : LibraryRuns
library_runs i _ _ _ none = runs.none
library_runs i _ _ _ (call {s} {ns} {x} ran e n y is) = runs.call (library_runs i s ns x ran) e n (device_of y) (read x y e n is)

module _ (there : Image) (es : List Element) (limit : ℕ) where
  -- the making, read
  made_read : (n : ℕ) (i : Image) → tells n i ≡ made_in there es limit → tells n (device_of i) ≡ made_from (device_of there) es limit
  made_read n i is =
      let both = reads_made there (offer_of es limit) in
      ap (λ (t : Told Image). tells t.number (device_of t.state)) (is ∙ sym (made_in_lem there es limit)) ∙ (λ k. tells (both.0 k) (both.1 k))
      ∙ sym (made_alike (device_of there) es limit)

accepted : (d : Device) (es : List Element) (limit : ℕ) → good (length es) es limit ≡ true → (made_from d es limit).number ≡ 0
unfolding made_from
accepted d es limit g = rw g refl

pub library_starts : LibraryStarts
library_starts there es limit n i is =
    let made = made_read there es limit n i is in (
      λ z. (listed_starts (device_of there) es limit Done (device_of i) (ap (λ (m : ℕ). tells m (device_of i)) (sym z) ∙ made)).0 refl,
      λ g. ap (λ (t : Told Device). t.number) made ∙ accepted (device_of there) es limit g,
    )

pub library_after : LibraryAfter
library_after P holds there es limit i (is, fits) s ns x ran =
    holds (device_of there) es limit Done (device_of i) (made_read there es limit 0 i is, fits) refl s ns (device_of x) (library_runs i s ns x ran)

-- ## Demand 3

pub library_keeps : LibraryKeeps
library_keeps there es limit i is s ns x ran =
    listed-keeps (device_of there) es limit Done (device_of i) (made_read there es limit 0 i is) refl s ns (device_of x) (library_runs i s ns x ran)

pub library_forgets : LibraryForgets
unfolding device_of
library_forgets i n = record { table = refl; cells = refl }

-- a device, by its note
abbrev noting : Device → Note → Device
noting d n =
    record {
      table = d.table;
      cells =
          record { native = d.cells.native; accessible = d.cells.accessible; healths = d.cells.healths; failed = d.cells.failed; note = n };
      position = d.position;
    }

rests : (d : Device) (n : Note) → (after (noting d n) (begin ▸ power_cut ▸ step ▸ step ▸ step ▸ step)).cells.note ≡ Empty
rests d Empty = refl
rests d (Full w) = refl

pub library_rests : LibraryRests
library_rests i = rests (device_of i) (device_of i).cells.note

-- ## A refusal

refused_command_leaves : RefusedCommandLeaves
refused_command_leaves i state r buf z =
    let e : Event = command (security_of state) r (length buf) in
    (refusal_leaves_image i e z, (refusal_leaves_both (device_of i) (security_of state) r buf (λ q. z ((reads_on i e).0 ∙ q))).1)

refused_list_leaves_image : RefusedListLeavesImage
refused_list_leaves_image i es limit =
    subst (λ (t : Told Image). (t.number ≡ 0 → ⊥) → t.state ≡ i) (made_in_lem i es limit) (refused_making_leaves i (offer_of es limit))

pub library_refuses : LibraryRefuses
library_refuses = record { changing = refusal_leaves_image; command = refused_command_leaves; making = refused_list_leaves_image }
