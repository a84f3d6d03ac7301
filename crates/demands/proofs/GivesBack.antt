-- The page of a run is given back (specs/GivesBack): the run leaves a device in order that fits, and the page that it then leaves is one that the
-- reader takes.
use Prim.Native.Nat.{ℕ, ◌*◌, ◌/◌, ◌≤◌}
use mathlib.Core.Bool.{true, false}
use mathlib.Core.List.{List}
use mathlib.Core.Path.{◌≡◌, sym, ap, subst⁻¹, ◌∙◌}
use native.Mathlib.Omega.{arith}
use lib.ListN.{length}
use borrow.Author.Tests.{le-ltb}
use Rattle.agreement.proofs.Agreement.{agrees}
use Rattle.conduct.specs.Fits.{Fits}
use Rattle.device.specs.declared.Device.{Device}
use Rattle.layout.specs.declared.Header.{Header}
use Rattle.listing.specs.Listing.{judged}
use Rattle.paper.specs.Told.{tells}
use Rattle.reader.proofs.Ignored.{ignored_unread}
use Rattle.reader.specs.Judgement.{header, read_of}
use Rattle.request.proofs.Requests.{accepted}
use Rattle.request.specs.Requests.{SameFields, filter_of, report_type_of, pages_of, start_of, sets_reserved, refused, request_of}
use Rattle.request.specs.declared.Request.{Request}
use Rattle.status.proofs.EveryPage.{whole_pages}
use Rattle.status.specs.Page.{header_of, page_of}
use Rattle.table.specs.Elements.{identifiers, ascending}
use Rattle.words.specs.declared.Order.TheVariants.{Little}
use Rattle.demands.specs.GivesBack.{GivenBack, GivesBack}
use Rattle.demands.proofs.LeftBy.{left-asked, left_page}
use Rattle.demands.proofs.Runs.{run-leaves}

-- ## The listing's request

pages_in : (p : ℕ) → 512 * p / 512 ≡ p
pages_in p = omega arith

-- it has the same fields, so the listing takes the page for its own
module _ (s : List ℕ) (q : Request) (h : Header) (filter : filter_of q ≡ 0) (report : report_type_of q ≡ 0) (start : start_of q ≡ 0) (few : pages_of q ≤ 128)
    (none : sets_reserved q ≡ false) (long : length s ≡ 512 * pages_of q) (read : read_of Little s q ≡ tells 0 (header h)) where
  own : SameFields (request_of s) q
  own = record { filter = sym filter; report = sym report; pages = ap (λ (n : ℕ). n / 512) long ∙ pages_in (pages_of q); start = sym start; reserved = sym none }

  listing_takes : judged s ≡ tells 0 (header h)
  listing_takes = rw (le-ltb 65536 (length s) (omega (arith, long, few))) (ignored_unread Little s (request_of s) q own ∙ read)

-- ## The whole

page_given : (d : Device) (q : Request) → Fits d → ascending 0 (identifiers d.table) ≡ true → refused q ≡ false → GivenBack d q (page_of d q)
page_given d q fits asc ok =
    let both = agrees d q fits asc ok in
    record {
      taken = both.0;
      elements = both.1;
      listed = λ f t z few. listing_takes (page_of d q) q (header_of d q) f t z few (accepted q ok).3 (whole_pages d q (accepted q ok).2) both.0;
    }

pub gives_back : GivesBack
gives_back there es limit a d made z s ns x ran q page left =
    let (fits, asc) = run-leaves there es limit a d made z s ns x ran in
    subst⁻¹ (GivenBack x q) (left_page x q page left) (page_given x q fits asc (left-asked x q page left))
