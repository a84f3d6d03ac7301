-- Document 02, 2026-04: "Show that, if nothing changes the device between, such a walk with any mix of page counts from 1 lists each matching
-- element exactly once, in order." A walk is that of walk/specs/Walk; here the pages that come are a device's.
use Rattle.std.specs.Prelude.{ℕ, ◌+◌, ◌/◌, ◌≤◌, true, false, cond, List, map, ◌≡◌, eqb, length}
use Rattle.conduct.specs.Fits.{Fits}
use Rattle.device.specs.declared.Device.{Device}
use Rattle.layout.specs.Bytes.{header_in}
use Rattle.layout.specs.declared.Descriptor.{Descriptor}
use Rattle.paper.specs.declared.PageCount.{PageCount}
use Rattle.request.specs.Requests.{pages_of, refused}
use Rattle.request.specs.declared.Request.{Request}
use Rattle.slices.specs.Lists.{Every}
use Rattle.status.specs.Page.{list_of, page_of}
use Rattle.table.specs.Elements.{identifiers, size, ascending}
use Rattle.table.specs.declared.Table.{Table}
use Rattle.walk.specs.Promises.{Last}
use Rattle.walk.specs.Walk.{Came, Round, ended, Walked, walk, listed}
use Rattle.words.specs.declared.Order.TheVariants.{Little}

-- ## What comes

-- a round whose request is not due 4, so its page count is "from 1", and whose page the device fills
pub record Shows (d : Device) (r : Round) : Type 0 where
  pub asked : refused r.request ≡ false
  pub page : r.page ≡ page_of d r.request

-- ## How many requests

-- for n elements, by pages of one: 15 to each, the last perhaps with fewer; one request where there is none
abbrev pub requests_for : ℕ → ℕ
requests_for n = cond (eqb n 0) 1 ((n + 14) / 15)

-- ## "if nothing changes the device between"

-- whatever the page counts, pages come: "any mix of page counts from 1", and a first request that is not due 4
pub record Comes (d : Device) (q : Request) (counts : List PageCount) : Type 0 where
  pub came : List Came
  pub mix : map (λ (c : Came). c.next) came ≡ counts
  pub shown : Every (Shows d) (walk q came).rounds

abbrev pub AnyMix : Type 0
AnyMix =
    (d : Device) (q : Request) (counts : List PageCount) → refused q ≡ false → Every (λ (p : PageCount). 1 ≤ p.0) counts → Comes d q counts

-- a walk whose first request was q
pub record ListsWhole (d : Device) (q : Request) (w : Walked) : Type 0 where
  pub ends : w.stand ≡ ended
  -- "each matching element": what the device lists for the first request; "exactly once, in order" (`ListsInOrder`)
  pub whole : listed w ≡ list_of d q
  -- "It ends where N equals returned."
  pub last : Last (λ (r : Round). (header_in Little r.page).number ≡ (header_in Little r.page).returned) w.rounds
  -- as many requests at most, and exactly as many where each is for one page
  pub few : length w.rounds ≤ requests_for (length (list_of d q))
  pub met : Every (λ (r : Round). pages_of r.request ≡ 1) w.rounds → length w.rounds ≡ requests_for (length (list_of d q))

-- where as many pages come as it may take
abbrev pub WalksWhole : Type 0
WalksWhole =
    (d : Device) → Fits d → ascending 0 (identifiers d.table) ≡ true
    → (q : Request) (cs : List Came) → Every (Shows d) (walk q cs).rounds → requests_for (length (list_of d q)) ≤ length cs
    → ListsWhole d q (walk q cs)

-- ## Whatever comes

-- no identifier is listed twice, and they ascend
abbrev pub ListsInOrder : Type 0
ListsInOrder = (q : Request) (cs : List Came) → ascending 0 (map (λ (x : Descriptor). x.id.0) (listed (walk q cs))) ≡ true

-- a round with a device of which all but the table may have changed; the table is as built
pub record ShowsThen (built : Table) (r : Round) : Type 0 where
  pub device : Device
  pub fits : Fits device
  pub same : device.table ≡ built
  pub shows : Shows device r

-- the walk still ends, where as many pages come as the whole table may take
abbrev pub EndsAnyway : Type 0
EndsAnyway =
    (built : Table) → ascending 0 (identifiers built) ≡ true
    → (q : Request) (cs : List Came) → Every (ShowsThen built) (walk q cs).rounds → requests_for (size built) ≤ length cs
    → ((walk q cs).stand ≡ ended) × (length (walk q cs).rounds ≤ requests_for (size built))
