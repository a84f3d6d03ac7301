-- A page that the front call left (specs/Runs): its request is not due 4, and it is the page that the device fills. 12h leaves the device, and is
-- answered where there is room.
use Prim.Native.Nat.{ℕ, ◌*◌}
use mathlib.Core.Bool.{Bool, true, false, cond}
use mathlib.Core.List.{List, ◌++◌}
use mathlib.Core.Path.{◌≡◌, refl, sym, ap, subst, ◌∙◌}
use native.Mathlib.Omega.{arith}
use lib.Dec.{eqb, ltb}
use lib.ListN.{length, take, drop, replicate, length-replicate}
use lib.Seq.{take_at}
use borrow.Author.Tests.{le-ltb}
use Rattle.device.specs.Machine.{command, told}
use Rattle.device.specs.declared.Device.{Device}
use Rattle.paper.specs.Told.{Told, tells}
use Rattle.paper.specs.declared.Answer.TheVariants.{Done}
use Rattle.paper.specs.declared.Registers.{Registers}
use Rattle.paper.specs.declared.Security.TheVariants.{Unlocked}
use Rattle.paper.specs.declared.Security.{Security}
use Rattle.request.proofs.Requests.{accepted}
use Rattle.request.specs.Requests.{asked, pages_of, refused}
use Rattle.request.specs.declared.Request.{Request}
use Rattle.status.proofs.EveryPage.{three_answers, shown-alike, whole_pages}
use Rattle.status.specs.Lent.{lent}
use Rattle.status.specs.Page.{page_of, shown}
use Rattle.demands.specs.Runs.{LeftBy}

-- 0 is no refusal, and the buffer has room
zero_only : (r small : Bool) → cond {A = ℕ} r 4 (cond small 7 0) ≡ 0 → r ≡ false
zero_only true small e = absurd (omega arith)
zero_only false small e = refl

-- a page that is shown is accepted, and stands at the front
module _ (d : Device) (s : Security) (q : Request) (buf : List ℕ) (zero : (shown d s q buf).number ≡ 0) where
  shown-accepted : refused q ≡ false
  shown-accepted = zero_only (refused q) (ltb (length buf) (512 * pages_of q)) (sym (three_answers d s q buf) ∙ zero)

  shown-front : take (512 * pages_of q) (shown d s q buf).state ≡ page_of d q
  shown-front =
      ap (λ (n : ℕ). take (512 * pages_of q) (cond (eqb n 0) (page_of d q ++ drop (512 * pages_of q) buf) buf)) zero
      ∙ take_at (page_of d q) _ (512 * pages_of q) (whole_pages d q (accepted q shown-accepted).2)

module _ (d : Device) (s : Security) (r : Registers) (buf : List ℕ) (is_12 : r.code ≡ 0x12) (done : (told d (command s r (length buf))).number ≡ 0) where
  abbrev q : Request
  q = asked r

  shown_0 : (shown d s q buf).number ≡ 0
  shown_0 = ap (λ (t : Told Device). t.number) (sym (shown-alike d s r buf is_12).0) ∙ done

  unrefused : refused q ≡ false
  unrefused = shown-accepted d s q buf shown_0

  page_left : take (512 * pages_of q) (lent d s r buf) ≡ page_of d q
  page_left = ap (take (512 * pages_of q)) (shown-alike d s r buf is_12).1 ∙ shown-front d s q buf shown_0

module _ (x : Device) (q : Request) (page : List ℕ) (c : LeftBy x q page) where
  zero : (told x (command c.security c.registers (length c.buf))).number ≡ 0
  zero = ap (λ (t : Told Device). t.number) (sym c.promised.0) ∙ c.done

  pub left-asked : refused q ≡ false
  left-asked = subst (λ (p : Request). refused p ≡ false) c.asking (unrefused x c.security c.registers c.buf c.status zero)

  pub left_page : page ≡ page_of x q
  left_page =
      let front : take (512 * pages_of (asked c.registers)) c.out ≡ page_of x (asked c.registers) =
      ap (take (512 * pages_of (asked c.registers))) c.promised.1 ∙ page_left x c.security c.registers c.buf c.status zero in
      c.filled ∙ subst (λ (p : Request). take (512 * pages_of p) c.out ≡ page_of x p) c.asking front

  pub left_device : c.after ≡ x
  left_device = ap (λ (t : Told Device). t.state) (c.promised.0 ∙ (shown-alike x c.security c.registers c.buf c.status).0)

-- ## Any request that is not due 4

module _ (x : Device) (q : Request) (ok : refused q ≡ false) where
  abbrev r : Registers
  r = record { code = 0x12; feature = q.feature; count = q.count.0; lba = q.lba }

  abbrev room : List ℕ
  room = replicate (512 * pages_of q) 0

  all_room : length room ≡ 512 * pages_of q
  all_room = length-replicate (512 * pages_of q) 0

  answers : (shown x Unlocked q room).number ≡ 0
  answers = three_answers x Unlocked q room ∙ rw (ok, le-ltb (length room) (512 * pages_of q) (omega (arith, all_room)))

  tells_0 : told x (command Unlocked r (length room)) ≡ tells 0 x
  tells_0 = (shown-alike x Unlocked r room refl).0 ∙ ap (λ (n : ℕ). tells n x) answers

  pub leaves : LeftBy x q (page_of x q)
  leaves =
      record {
        security = Unlocked;
        registers = r;
        buf = room;
        out = lent x Unlocked r room;
        answer = Done;
        after = x;
        status = refl;
        asking = refl;
        promised = (sym tells_0, refl);
        done = refl;
        filled = sym (page_left x Unlocked r room refl (ap (λ (t : Told Device). t.number) tells_0));
      }
