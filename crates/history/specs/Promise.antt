-- What a run keeps.
use Rattle.std.specs.Prelude.{ℕ, ◌<◌, true, ◌≡◌}
use Rattle.cells.specs.Cells.{is_set}
use Rattle.device.specs.Record.{health_at}
use Rattle.device.specs.declared.Device.{Device}
use Rattle.cells.specs.declared.Note.TheVariants.{Empty}
use Rattle.paper.specs.Elements.{removed_health}
use Rattle.table.specs.Elements.{size, identifier_at}
use Rattle.history.specs.Ledger.{marked, address, recorded, failed_in}
use Rattle.history.specs.Runs.{History}
use Rattle.history.specs.Starts.{Present}

pub record Promise (start : Device) (h : History) (d : Device) : Type 0 where
  -- "the removed elements are exactly those whose marking store was made"
  pub removed : (place : ℕ) → place < size d.table → removed_health (health_at d place) ≡ marked start h (identifier_at d.table place)
  pub there : (id : ℕ) → marked start h id ≡ true → Present d.table id
  -- "both maximum addresses equal the one accepted with the latest such store, or the first if there was none"
  pub native_max : d.cells.native.0 ≡ address start h
  pub accessible_max : d.cells.accessible.0 ≡ address start h
  -- "all else in the table is as built, but for the last accepted grades": identifiers, types, blocks, flags, their order, count, limit
  pub table : d.table ≡ start.table
  pub healths : (place : ℕ) → place < size d.table → health_at d place ≡ recorded start h place

pub record KeptByRuns (start : Device) (h : History) (d : Device) : Type 0 where
  -- "whenever no removal is under way"
  pub at_rest : d.cells.note ≡ Empty → Promise start h d
  -- the failed mark is a cell, not the table, and is right at any time
  pub failed : is_set d.cells.failed ≡ failed_in start h
