-- A walk over a device of 16 elements, computed from the definitions: by pages of one, of two, and of both.
use Prim.Native.Nat.{ℕ, ◌+◌, ◌*◌}
use mathlib.Core.List.{List, [], ◌∷◌, ◌++◌, map}
use mathlib.Core.Path.{◌≡◌, refl}
use lib.ListN.{replicate}
use Rattle.cells.specs.declared.Mark.TheVariants as marks
use Rattle.cells.specs.declared.Note.TheVariants.{Empty}
use Rattle.cells.specs.declared.Position.TheVariants.{Work1}
use Rattle.device.specs.declared.Device.{Device}
use Rattle.layout.specs.declared.Descriptor.{Descriptor}
use Rattle.reach.specs.Opening.{accepted}
use Rattle.reach.specs.Pages.{reach_of}
use Rattle.request.specs.Requests.{start_of, refused, takes_health}
use Rattle.request.specs.declared.Request.{Request}
use Rattle.slices.specs.Lists.{up_to}
use Rattle.status.specs.Page.{list_of, page_of}
use Rattle.table.specs.Elements.{blank_part}
use Rattle.table.specs.declared.Part.{Part}
use Rattle.view.specs.Shown.{shown_of, asks}
use Rattle.walk.specs.Next.{next_of}
use Rattle.walk.specs.Walk.{Came, Round, ended, Walked, walk, elements_in, listed}
use Rattle.tour.specs.Tour.{requests_for}

-- identifiers 10h, 20h, .. 100h
abbrev part : ℕ → Part
part k = record { id = record { 0 = 16 * (k + 1) }; kind = 1; unreported = 0; spare = 0; blocks = 1000 }

abbrev device : Device
device =
    record {
      table = record { parts = map part (up_to 16) ++ replicate 112 blank_part; count = 16; limit = 0 };
      cells =
          record {
            native = record { 0 = 15999 };
            accessible = record { 0 = 15999 };
            healths = replicate 16 0x20 ++ replicate 112 0;
            failed = marks.Clear;
            note = Empty;
          };
      position = Work1;
    }

abbrev request : ℕ → ℕ → Request
request count lba = record { feature = 0; count = record { 0 = count }; lba = record { 0 = lba } }

-- the device's page, and so many are asked for next
abbrev came : Request → ℕ → Came
came q next = record { page = page_of device q; next = record { 0 = next } }

abbrev starts : Walked → List ℕ
starts w = map (λ (r : Round). start_of r.request) w.rounds

abbrev ids : Walked → List ℕ
ids w = map (λ (x : Descriptor). x.id.0) (listed w)

pub ones : let w = walk (request 1 0) (came (request 1 0) 1 ∷ came (request 1 0xF1) 1 ∷ []) in
    (w.stand ≡ ended) × (starts w ≡ 0 ∷ 0xF1 ∷ []) × (ids w ≡ map (λ (k : ℕ). 16 * (k + 1)) (up_to 16))
unfolding walk elements_in accepted next_of reach_of refused takes_health page_of list_of shown_of asks
ones = (refl, refl, refl)

pub twos : let w = walk (request 2 0x11) (came (request 2 0x11) 1 ∷ []) in (w.stand ≡ ended) × (ids w ≡ map (λ (k : ℕ). 16 * (k + 2)) (up_to 15))
unfolding walk elements_in accepted next_of reach_of refused takes_health page_of list_of shown_of asks
twos = (refl, refl)

pub mixed : let w = walk (request 1 0) (came (request 1 0) 2 ∷ came (request 2 0xF1) 1 ∷ []) in
    (w.stand ≡ ended) × (starts w ≡ 0 ∷ 0xF1 ∷ []) × (ids w ≡ map (λ (k : ℕ). 16 * (k + 1)) (up_to 16))
unfolding walk elements_in accepted next_of reach_of refused takes_health page_of list_of shown_of asks
mixed = (refl, refl, refl)

pub counts : map requests_for (0 ∷ 1 ∷ 15 ∷ 16 ∷ 30 ∷ 31 ∷ 40 ∷ 128 ∷ []) ≡ 1 ∷ 1 ∷ 1 ∷ 2 ∷ 2 ∷ 3 ∷ 3 ∷ 9 ∷ []
counts = refl
