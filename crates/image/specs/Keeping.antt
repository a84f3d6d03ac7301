-- What is put down of a device in an image. The table as built stays; "A number that says so already stays as it is" (c/recorder.h).
use Rattle.std.specs.Prelude.{ℕ, min, Bool, cond, eqb, replicate}
use Rattle.cells.specs.Cells.{is_full, is_set}
use Rattle.cells.specs.declared.Note.TheVariants.{Empty, Full}
use Rattle.cells.specs.declared.Note.{Note}
use Rattle.cells.specs.declared.Position.{Position}
use Rattle.device.specs.declared.Device.{Device}
use Rattle.paper.specs.declared.ElementId.{ElementId}
use Rattle.paper.specs.declared.Lba.{Lba}
use Rattle.table.specs.declared.Table.{Table}
use Rattle.image.specs.Reading.{position_of, place_of}
use Rattle.image.specs.declared.Image.{Image}

-- any byte but 0 says yes, and 1 is put down where 0 stood
abbrev pub flag_for : ℕ → Bool → ℕ
flag_for flag on = cond on (cond (eqb flag 0) 1 flag) 0

-- and a number above 8 where the next step is the first of winding up
abbrev pub place_for : ℕ → Position → ℕ
place_for n p = cond (eqb (place_of (position_of n)) (place_of p)) n (place_of p)

-- an empty note's numbers are let be
abbrev pub element_for : ElementId → Note → ElementId
element_for was Empty = was
element_for was (Full w) = w.element

abbrev pub old_for : Lba → Note → Lba
old_for was Empty = was
old_for was (Full w) = w.old

abbrev pub new_for : Lba → Note → Lba
new_for was Empty = was
new_for was (Full w) = w.new

-- the image with a device's cells and position
unfoldable pub keeps : Image → Device → Image
keeps i d =
    let c = d.cells in
    record {
      parts = i.parts;
      native = c.native;
      accessible = c.accessible;
      old = old_for i.old c.note;
      new = new_for i.new c.note;
      element = element_for i.element c.note;
      count = i.count;
      limit = i.limit;
      full = flag_for i.full (is_full c.note);
      failed = flag_for i.failed (is_set c.failed);
      position = place_for i.position d.position;
      healths = c.healths;
    }

-- ## A new image

-- of a table as built, with nothing in its cells yet; a table of more than 128 elements is none
unfoldable pub built : Table → Image
built t =
    record {
      parts = t.parts;
      native = record { 0 = 0 };
      accessible = record { 0 = 0 };
      old = record { 0 = 0 };
      new = record { 0 = 0 };
      element = record { 0 = 0 };
      count = min t.count 128;
      limit = t.limit;
      full = 0;
      failed = 0;
      position = 0;
      healths = replicate 128 0;
    }

abbrev pub image_of : Device → Image
image_of d = keeps (built d.table) d
