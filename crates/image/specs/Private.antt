-- For the promises of private functions: no reader has to believe it. One thing put down in an image.
use Rattle.std.specs.Prelude.{ℕ, List}
use Rattle.cells.specs.Cells.{is_full, is_set}
use Rattle.cells.specs.declared.Mark.{Mark}
use Rattle.cells.specs.declared.Note.{Note}
use Rattle.cells.specs.declared.Position.{Position}
use Rattle.paper.specs.declared.Lba.{Lba}
use Rattle.image.specs.Keeping.{flag_for, place_for, element_for, old_for, new_for}
use Rattle.image.specs.declared.Image.{Image}

abbrev pub with_addresses : Lba → Lba → Image → Image
with_addresses native accessible i =
    record {
      parts = i.parts;
      native = native;
      accessible = accessible;
      old = i.old;
      new = i.new;
      element = i.element;
      count = i.count;
      limit = i.limit;
      full = i.full;
      failed = i.failed;
      position = i.position;
      healths = i.healths;
    }

abbrev pub with_healths : List ℕ → Image → Image
with_healths healths i =
    record {
      parts = i.parts;
      native = i.native;
      accessible = i.accessible;
      old = i.old;
      new = i.new;
      element = i.element;
      count = i.count;
      limit = i.limit;
      full = i.full;
      failed = i.failed;
      position = i.position;
      healths = healths;
    }

abbrev pub with_mark : Mark → Image → Image
with_mark mark i =
    record {
      parts = i.parts;
      native = i.native;
      accessible = i.accessible;
      old = i.old;
      new = i.new;
      element = i.element;
      count = i.count;
      limit = i.limit;
      full = i.full;
      failed = flag_for i.failed (is_set mark);
      position = i.position;
      healths = i.healths;
    }

abbrev pub with_note : Note → Image → Image
with_note note i =
    record {
      parts = i.parts;
      native = i.native;
      accessible = i.accessible;
      old = old_for i.old note;
      new = new_for i.new note;
      element = element_for i.element note;
      count = i.count;
      limit = i.limit;
      full = flag_for i.full (is_full note);
      failed = i.failed;
      position = i.position;
      healths = i.healths;
    }

abbrev pub at_position : Position → Image → Image
at_position position i =
    record {
      parts = i.parts;
      native = i.native;
      accessible = i.accessible;
      old = i.old;
      new = i.new;
      element = i.element;
      count = i.count;
      limit = i.limit;
      full = i.full;
      failed = i.failed;
      position = place_for i.position position;
      healths = i.healths;
    }
