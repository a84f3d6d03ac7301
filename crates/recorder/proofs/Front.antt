-- The front call over an image, and the making of a device: what the calls by value tell of the device that the image is. A page is shown of the
-- image that the command leaves, which of 12h is the device as it was.
use Prim.Native.Nat.{ℕ}
use mathlib.Core.List.{List}
use mathlib.Core.Path.{◌≡◌, sym, ap, ◌∙◌}
use lib.ListN.{length}
use Rattle.calls.proofs.Lists.{made_alike}
use Rattle.calls.specs.Offered.{offer_of}
use Rattle.device.specs.Machine.{command}
use Rattle.device.specs.declared.Device.{Device}
use Rattle.image.proofs.Every.{reads_on}
use Rattle.image.specs.Calls.{told_of, made_as, made_by}
use Rattle.image.specs.Reading.{device_of}
use Rattle.image.specs.declared.Image.{Image}
use Rattle.offer.specs.declared.Element.{Element}
use Rattle.paper.specs.Told.{Told, tells}
use Rattle.paper.specs.declared.Registers.{Registers}
use Rattle.paper.specs.declared.Security.{Security}
use Rattle.request.specs.Requests.{asked}
use Rattle.request.specs.declared.Request.{Request}
use Rattle.status.proofs.EveryPage.{shown-alike}
use Rattle.status.specs.Lent.{lent}
use Rattle.status.specs.Page.{shown}
use Rattle.recorder.specs.Made.{made_in}

module _ (i e : Image) (s : Security) (r : Registers) (buf : List ℕ) (n : ℕ) (is : tells n e ≡ told_of i (command s r (length buf))) where
  abbrev Front : List ℕ → Type 0
  Front out = (tells n e ≡ told_of i (command s r (length buf))) × (out ≡ lent (device_of i) s r buf)

  module _ (is_status : r.code ≡ 0x12) where
    unchanged : device_of e ≡ device_of i
    unchanged =
        ap (λ (t : Told Image). device_of t.state) is ∙ (reads_on i (command s r (length buf))).1
        ∙ ap (λ (t : Told Device). t.state) (shown-alike (device_of i) s r buf is_status).0

    pub front_status : (q : Request) → q ≡ asked r → (b : ℕ) (out : List ℕ) → tells b out ≡ shown (device_of e) s q buf → Front out
    front_status q is_q b out page =
        (is, ap (λ (t : Told (List ℕ)). t.state) page ∙ rw (unchanged, is_q) (sym (shown-alike (device_of i) s r buf is_status).1))

pub made_in_lem : (i : Image) (es : List Element) (limit : ℕ) → made_by i (offer_of es limit) ≡ made_in i es limit
unfolding made_by
made_in_lem i es limit = ap (made_as i) (sym (made_alike (device_of i) es limit))
