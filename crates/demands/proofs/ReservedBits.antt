-- A request that sets a reserved bit is due 4, and whoever judges a request goes by that (specs/ReservedBits).
use Prim.Native.Nat.{ℕ, ◌*◌}
use mathlib.Core.Bool.{Bool, true, cond}
use mathlib.Core.List.{List}
use mathlib.Core.Path.{◌≡◌, ap, ◌∙◌}
use native.Mathlib.Omega.{arith}
use lib.Dec.{ltb}
use lib.ListN.{length}
use Rattle.device.specs.Machine.{command, told}
use Rattle.device.specs.declared.Device.{Device}
use Rattle.paper.specs.Told.{Told, tells}
use Rattle.paper.specs.declared.Registers.{Registers}
use Rattle.paper.specs.declared.Security.{Security}
use Rattle.reach.specs.Opening.{accepted}
use Rattle.request.proofs.Requests.{set-refused}
use Rattle.request.specs.Requests.{asked, pages_of, refused}
use Rattle.request.specs.declared.Request.{Request}
use Rattle.status.proofs.EveryPage.{three_answers, refusal_leaves_bytes, shown-alike}
use Rattle.status.specs.Lent.{lent}
use Rattle.status.specs.Page.{shown}
use Rattle.walk.specs.Next.{next_of}
use Rattle.demands.specs.ReservedBits.{FourRefused, ReservedBitsRefused}

module _ (q : Request) (due : refused q ≡ true) (d : Device) (s : Security) where
  shows : (buf : List ℕ) → shown d s q buf ≡ tells 4 buf
  shows buf =
      let four : (shown d s q buf).number ≡ 4 = three_answers d s q buf ∙ ap (λ (b : Bool). cond b 4 (cond (ltb (length buf) (512 * pages_of q)) 7 0)) due in
      let stays = refusal_leaves_bytes d s q buf (λ z. omega (arith, four, z)) in
      λ i. tells (four i) (stays i)

  answers : (r : Registers) (buf : List ℕ) → r.code ≡ 0x12 → asked r ≡ q → (told d (command s r (length buf)) ≡ tells 4 d) × (lent d s r buf ≡ buf)
  answers r buf code same =
      let (said, left) = shown-alike d s r buf code in
      let refused_so : shown d s (asked r) buf ≡ tells 4 buf = ap (λ (p : Request). shown d s p buf) same ∙ shows buf in
      (said ∙ ap (λ (t : Told (List ℕ)). tells t.number d) refused_so, left ∙ ap (λ (t : Told (List ℕ)). t.state) refused_so)

pub four_refused : FourRefused
unfolding accepted next_of
four_refused q due =
    record {
      show = λ d s. shows q due d s;
      front = λ d s. answers q due d s;
      read = λ o s. rw due;
      next = λ s. rw due;
      convert = λ s buf. rw due;
      compare = λ s t. rw due;
    }

pub reserved_bits_refused : ReservedBitsRefused
reserved_bits_refused q set = four_refused q (set-refused q set)
