-- The making of a device from an offered table. "Any other table is refused (8)", and the device that was there stays.
use Rattle.std.specs.Prelude.{◌-◌, cond}
use Rattle.cells.specs.declared.Mark.TheVariants.{Clear}
use Rattle.cells.specs.declared.Note.TheVariants.{Empty}
use Rattle.cells.specs.declared.Position.TheVariants.{Work1}
use Rattle.device.specs.declared.Device.{Device}
use Rattle.offer.specs.Check.{good}
use Rattle.offer.specs.Elements.{offered, table_of, healths_of, block_sum}
use Rattle.offer.specs.declared.Offer.{Offer}
use Rattle.paper.specs.Told.{Told, tells}
use Rattle.paper.specs.declared.Lba.{Lba}

-- "the starting maximum address is the sum minus 1"
abbrev pub starting_max : Offer → Lba
starting_max o = record { 0 = block_sum (offered o) - 1 }

-- a new device: the table as built, both addresses at the start, each health as offered, no mark, no note
abbrev pub fresh : Offer → Device
fresh o =
    record {
      table = table_of o;
      cells = record { native = starting_max o; accessible = starting_max o; healths = healths_of o; failed = Clear; note = Empty };
      position = Work1;
    }

unfoldable pub made_of : Device → Offer → Told Device
made_of d o = cond (good o.count (offered o) o.limit) (tells 0 (fresh o)) (tells 8 d)
