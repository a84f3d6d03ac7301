-- Where a run may start, and that every accepted table makes such a start.
use Rattle.std.specs.Prelude.{ℕ, ◌-◌, ◌<◌, ◌≤◌, Bool, true, false, ◌||◌, List, map, ◌≡◌, length, take}
use Rattle.cells.specs.declared.Note.TheVariants.{Empty, Full}
use Rattle.cells.specs.declared.Note.{Note}
use Rattle.cells.specs.declared.Position.TheVariants.{Wind1}
use Rattle.device.specs.Machine.{power_cut}
use Rattle.device.specs.Record.{health_at}
use Rattle.device.specs.declared.Device.{Device}
use Rattle.making.specs.Making.{made_of}
use Rattle.offer.specs.Check.{good}
use Rattle.offer.specs.Elements.{offered, part_of, health_of, block_sum}
use Rattle.offer.specs.declared.Element.{Element}
use Rattle.offer.specs.declared.Offer.{Offer}
use Rattle.paper.specs.Answers.{number_of}
use Rattle.paper.specs.Elements.{removed_health, graded_health}
use Rattle.paper.specs.Told.{said}
use Rattle.paper.specs.declared.Answer.{Answer}
use Rattle.table.specs.Elements.{live, identifiers, size, identifier_at, ascending}
use Rattle.table.specs.declared.Table.{Table}
use Rattle.history.specs.Ledger.{marked, address, failed_in}
use Rattle.history.specs.Runs.{Script, ◌▸◌, empty, after}

-- an element of this identifier is in the table
abbrev pub Present : Table → ℕ → Type 0
Present t id = (place : ℕ) × (place < size t) × (identifier_at t place ≡ id)

-- at FFh, or with a health up to CFh
abbrev pub fit : ℕ → Bool
fit h = removed_health h || graded_health h

-- no removal under way, and equal addresses; or, as after a power cut, before the first winding-up step of the removal of an element of
-- the table
abbrev pub Begins : Device → Note → Type 0
Begins d Empty = d.cells.accessible.0 ≡ d.cells.native.0
Begins d (Full w) = Present d.table w.element.0 × (d.position ≡ Wind1)

pub record Startable (d : Device) : Type 0 where
  pub ids : ascending 0 (identifiers d.table) ≡ true
  -- each element has the cell of its health: a new device has them (`AcceptedStarts`), and no call takes one away
  pub celled : size d.table ≤ length d.cells.healths
  pub healths : (place : ℕ) → place < size d.table → fit (health_at d place) ≡ true
  pub begins : Begins d d.cells.note

-- a device that was made of elements and a limit: its elements, "the starting maximum address is the sum minus 1", no note, nothing marked, no failed mark
pub record MadeOf (es : List Element) (most : ℕ) (d : Device) : Type 0 where
  pub startable : Startable d
  pub parts : live d.table ≡ map part_of es
  pub healths : take d.table.count d.cells.healths ≡ map health_of es
  pub count : d.table.count ≡ length es
  pub limit : d.table.limit ≡ most
  pub rests : d.cells.note ≡ Empty
  pub native_max : d.cells.native.0 ≡ block_sum es - 1
  pub accessible_max : d.cells.accessible.0 ≡ block_sum es - 1
  pub first : address d empty ≡ block_sum es - 1
  pub unmarked : (id : ℕ) → marked d empty id ≡ false
  pub sound : failed_in d empty ≡ false

-- "From any accepted table": 0 is answered exactly to the tables that document 01 accepts, and whoever is answered 0 has such a device
abbrev pub AcceptedStarts : Type 0
AcceptedStarts =
    (there : Device) (o : Offer) (a : Answer) (d : Device) → length o.elements ≡ 128 → said a d ≡ made_of there o
    → (number_of a ≡ 0 → (good o.count (offered o) o.limit ≡ true) × MadeOf (offered o) o.limit d) × (good o.count (offered o) o.limit ≡ true → number_of a ≡ 0)

-- what is left after a cut is such a start too
abbrev pub CutStarts : Type 0
CutStarts = (start : Device) → Startable start → (s : Script) → Startable (after start (s ▸ power_cut))
