-- A walk over a device that changes (specs/Tour): the identifiers of its table that lie ahead grow fewer by 15 with each request.
use Prim.Native.Nat.{ℕ, ◌≤◌}
use mathlib.Core.Bool.{true}
use mathlib.Core.List.{List}
use mathlib.Core.Path.{◌≡◌, ap, subst, subst⁻¹, ◌∙◌}
use native.Mathlib.Omega.{arith}
use lib.Dec.{leb}
use lib.ListN.{length}
use Rattle.device.specs.declared.Device.{Device}
use Rattle.layout.specs.declared.Descriptor.{Descriptor}
use Rattle.reach.specs.Opening.{accepted}
use Rattle.request.specs.Requests.{start_of}
use Rattle.request.specs.declared.Request.{Request}
use Rattle.slices.proofs.Lists.{length-keep, every_so}
use Rattle.slices.specs.Lists.{keep}
use Rattle.status.proofs.Page.{shown_ids}
use Rattle.status.specs.Page.{shown_all, page_of}
use Rattle.table.specs.Elements.{identifiers, size, ascending}
use Rattle.table.specs.declared.Table.{Table}
use Rattle.walk.proofs.Walks.{Reads, Falls, bounded, ends}
use Rattle.walk.specs.Promises.{Leads}
use Rattle.walk.specs.Walk.{Round, walk}
use Rattle.tour.specs.Tour.{ShowsThen, EndsAnyway}
use Rattle.tour.proofs.Counts.{most, most_some, most_within, within_most}
use Rattle.tour.proofs.Lists.{from, kept_keys}
use Rattle.tour.proofs.Pages.{is_taken, fewer_ahead}

abbrev id_of : Descriptor → ℕ
id_of x = x.id.0

-- the table's identifiers from a start on
module _ (built : Table) where
  ahead : ℕ → ℕ
  ahead start = length (keep (leb start) (identifiers built))

  ahead-all : (start : ℕ) → ahead start ≤ most (size built)
  unfolding ahead
  ahead-all start = omega (arith, length-keep (leb start) (identifiers built), (most_some (size built)).1)

  module _ (x : Device) (same : x.table ≡ built) where
    ahead-shown : (start : ℕ) → length (keep (from id_of start) (shown_all x)) ≡ ahead start
    unfolding ahead
    ahead-shown start = kept_keys id_of start (shown_all x) ∙ ap (λ (ids : List ℕ). length (keep (leb start) ids)) (shown_ids x ∙ ap identifiers same)

  ahead_falls : ascending 0 (identifiers built) ≡ true → (r : Round) → ShowsThen built r → Falls ahead r
  ahead_falls asc r then id l =
      let q : Request = r.request in
      let x : Device = then.device in
      let led : Leads (page_of x q) q id = subst (λ (s : List ℕ). Leads s q id) then.shows.page l in
      let fewer = fewer_ahead x then.fits (rw then.same asc) q then.shows.asked id led in
      let later = ahead-shown x then.same id.0 in
      (omega (arith, fewer.0, later), omega (arith, fewer.1, later, ahead-shown x then.same (start_of q)))

  reads_then : ascending 0 (identifiers built) ≡ true → (r : Round) → ShowsThen built r → Reads r
  reads_then asc r then =
      subst⁻¹ (λ (s : List ℕ). accepted s r.request ≡ true) then.shows.page
      (is_taken then.device then.fits (rw then.same asc) r.request then.shows.asked)

pub ends_anyway : EndsAnyway
ends_anyway built asc q cs shows enough =
    let n : ℕ = size built in
    let rs : List Round = (walk q cs).rounds in
    let falls = every_so (ShowsThen built) (Falls (ahead built)) (ahead_falls built asc) rs shows in
    let reads = every_so (ShowsThen built) Reads (reads_then built asc) rs shows in
    let all : ahead built (start_of q) ≤ most n = ahead-all built (start_of q) in (
      ends (ahead built) q cs (most n) (most_some n).0 all (most_within n (length cs) enough) falls reads,
      within_most n (length rs) (bounded (ahead built) q cs (most n) (most_some n).0 all falls),
    )
