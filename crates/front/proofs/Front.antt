-- Laws of the front call: one for each way out of a function.
use Prim.Native.Nat.{ℕ, ◌-◌, min}
use mathlib.Core.List.{List, ◌++◌}
use mathlib.Core.Path.{◌≡◌, ap, ◌∙◌}
use native.Mathlib.Omega.{arith}
use lib.ListN.{length, drop, replicate}
use Rattle.arguments.specs.declared.Command.{Command}
use Rattle.device.specs.Machine.{told}
use Rattle.device.specs.declared.Device.{Device}
use Rattle.events.specs.Events.{event_of}
use Rattle.paper.specs.Answers.{number_of}
use Rattle.paper.specs.Told.{Told, said}
use Rattle.paper.specs.declared.Answer.{Answer}
use Rattle.front.specs.Front.{Fronted, written_by, after, lent_of, room_of, left_after, lent_after}

-- ## The call

module _ (d : Device) (c : Command) where
  pub over_left : (a : Answer) (e : Device) (room count : ℕ) → said a e ≡ told d (event_of c room) → count ≡ written_by c (number_of a)
      → record { told = said a e; room = room; count = count } ≡ after d c room
  over_left a e room count so is_count = λ i. record { told = so i; room = room; count = (is_count ∙ ap (λ (t : Told Device). written_by c t.number) so) i }

  pub over_lent : (buf x y : List ℕ) → x ≡ replicate (length buf) 0xA5 → y ≡ lent_of d c x → y ≡ lent_of d c (replicate (length buf) 0xA5)
  over_lent buf x y is_x is_y = is_y ∙ ap (lent_of d c) is_x

  -- over the first n bytes, of which m are lent
  module _ (buf : List ℕ) (n m : ℕ) (is_n : n ≡ min c.length (length buf)) (is_m : m ≡ n) where
    room : m ≡ room_of c buf
    room = is_m ∙ is_n

    pub called : (f : Fronted) (x : List ℕ) → f ≡ after d c m → x ≡ lent_of d c (replicate m 0xA5)
        → (f ≡ left_after d c buf) × (x ++ drop (n - 0) buf ≡ lent_after d c buf)
    unfolding left_after lent_after
    called f x is_f is_x =
        let past : n - 0 ≡ room_of c buf = omega (arith, is_n) in
        (is_f ∙ ap (after d c) room, rw (past, is_x, room))
