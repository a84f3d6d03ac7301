-- The bench that a script starts from: nothing offered, no device made, and "The kept page (empty at first)" (docs/BENCH.md).
use Rattle.std.specs.Prelude.{false, replicate}
use Rattle.cells.specs.declared.Cells.{Cells}
use Rattle.device.specs.declared.Device.{Device}
use Rattle.cells.specs.declared.Mark.TheVariants.{Clear}
use Rattle.cells.specs.declared.Note.TheVariants.{Empty}
use Rattle.cells.specs.declared.Position.TheVariants.{Work1}
use Rattle.offer.specs.Elements.{blank}
use Rattle.offer.specs.declared.Offer.{Offer}
use Rattle.table.specs.Elements.{blank_part}
use Rattle.table.specs.declared.Table.{Table}
use Rattle.workbench.specs.declared.Bench.{Bench}

abbrev pub no_offer : Offer
no_offer = record { elements = replicate 128 blank; count = 0; limit = 0 }

abbrev pub no_table : Table
no_table = record { parts = replicate 128 blank_part; count = 0; limit = 0 }

abbrev pub no_cells : Cells
no_cells = record { native = record { 0 = 0 }; accessible = record { 0 = 0 }; healths = replicate 128 0; failed = Clear; note = Empty }

abbrev pub no_device : Device
no_device = record { table = no_table; cells = no_cells; position = Work1 }

abbrev pub empty : Bench
empty = record { offered = no_offer; made = false; device = no_device; kept = 0 }
