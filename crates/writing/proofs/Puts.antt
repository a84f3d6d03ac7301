-- One writer after another: if both texts fit, they stand side by side.
use Prim.Native.Nat.{ℕ, ◌+◌, ◌≤◌, ◌<◌, ◌^◌}
use mathlib.Core.Bool.{Bool, true, false, cond}
use mathlib.Core.List.{List, [], ◌++◌}
use mathlib.Core.Path.{◌≡◌, refl, sym, ap, ◌∙◌}
use native.Mathlib.Omega.{arith}
use lib.Dec.{leb}
use lib.ListN.{length, length-append}
use borrow.Author.Tests.{leb-true, leb-false, le-leb, lt-leb}
use Rattle.slices.proofs.Lists.{room_there, stored_no, ended_yes, ended_no, length-stored, stored_none, stored_more}
use Rattle.slices.specs.Lists.{fits, stored, ended}
use Rattle.writing.specs.Private.{Puts}
use Rattle.writing.specs.Writing.{stored_in, ended_in}

pub ended_none : (d : List ℕ) (at : ℕ) → ended d at [] ≡ at
ended_none d at = by_test (fits 0 at (length d))
  where
    by_test : (t : Bool) → cond t (at + 0) at ≡ at
    by_test true = omega arith
    by_test false = refl

pub puts_none : (d : List ℕ) (at : ℕ) → Puts d at [] d at
unfolding Puts
puts_none d at room = (sym (stored_none d at), omega arith)

module _ (d x : List ℕ) (at r : ℕ) where
  pub puts_one : (b : List ℕ) → x ≡ stored d at b → r ≡ ended d at b → Puts d at b x r
  unfolding Puts
  puts_one b is_x is_r room = (is_x, is_r ∙ rw (le-leb (at + length b) (length d) room))

  -- by another name
  pub puts_same : (a b : List ℕ) → a ≡ b → x ≡ stored d at a → r ≡ ended d at a → Puts d at b x r
  puts_same a b e is_x is_r = puts_one b (is_x ∙ ap (stored d at) e) (is_r ∙ ap (ended d at) e)

  pub puts_more : (a b y : List ℕ) (m : ℕ) → Puts x r b y m → Puts d at a x r → Puts d at (a ++ b) y m
  unfolding Puts
  puts_more a b y m two one room =
      let wide : length (a ++ b) ≡ length a + length b = length-append a b in
      let first : (x ≡ stored d at a) × (r ≡ at + length a) = one (omega arith) in
      let same : length x ≡ length d = ap length first.0 ∙ length-stored d a at in
      let second : (y ≡ stored x r b) × (m ≡ r + length b) = two (omega arith) in
      (second.0 ∙ rw (first.0, first.1) (stored_more d at a b room), omega arith)

-- ## The test of the room

module _ (text : List ℕ) (n at room : ℕ) (b : Bool) (is_b : b ≡ fits n at room) where
  -- where more bytes fit than the text can have, it is not measured
  pub fits_unmeasured : length text ≤ n → b ≡ true → true ≡ fits (length text) at room
  fits_unmeasured short so = sym (le-leb (at + length text) room (omega (arith, leb-true (at + n) room (sym is_b ∙ so))))

  pub fits_measured : n ≡ length text → b ≡ fits (length text) at room
  fits_measured is_n = is_b ∙ rw is_n

-- after it
module _ (text d : List ℕ) (at n : ℕ) (t : Bool) (is_n : n ≡ length text) (is_t : t ≡ fits n at (length d)) where
  same_test : t ≡ fits (length text) at (length d)
  same_test = is_t ∙ rw is_n

  pub none_stored : t ≡ false → d ≡ stored d at text
  none_stored = stored_no d text at t same_test

  pub none_ended : t ≡ false → at ≡ ended d at text
  none_ended = ended_no d text at t same_test

  module _ (yes : t ≡ true) (x : List ℕ) (r : ℕ) (puts : Puts d at text x r) where
    whole : (x ≡ stored d at text) × (r ≡ at + length text)
    unfolding Puts
    whole = puts (room_there d text at t same_test yes)

    pub whole_stored : x ≡ stored d at text
    whole_stored = whole.0

    pub whole_ended : r ≡ ended d at text
    whole_ended = whole.1 ∙ ended_yes d text at t same_test yes

-- two texts side by side
module _ (a b at room : ℕ) (t : Bool) (is_t : t ≡ fits a at room) where
  pub first_out : t ≡ false → false ≡ fits (a + b) at room
  first_out e =
      let out : room < at + a = leb-false (at + a) room (sym is_t ∙ e) in
      sym (lt-leb (at + (a + b)) room (omega arith))

  pub first_in : t ≡ true → room < 2 ^ 64 → at + a < 2 ^ 64
  first_in e small =
      let within : at + a ≤ room = leb-true (at + a) room (sym is_t ∙ e) in
      omega arith

pub both_in : (a b at room : ℕ) (t : Bool) → t ≡ fits b (at + a) room → t ≡ fits (a + b) at room
both_in a b at room t is_t =
    let one : at + a + b ≡ at + (a + b) = omega arith in
    is_t ∙ ap (λ (n : ℕ). leb n room) one

-- where there is room for the longest text of its kind
module _ (text d : List ℕ) (at n : ℕ) (t : Bool) (is_t : t ≡ fits n at (length d)) where
  pub none_stored_in : t ≡ false → d ≡ stored_in n d at text
  none_stored_in e = sym (rw (sym is_t ∙ e))

  pub none_ended_in : t ≡ false → at ≡ ended_in n d at text
  none_ended_in e = sym (rw (sym is_t ∙ e))

  module _ (yes : t ≡ true) (wide : length text ≤ n) (x : List ℕ) (r : ℕ) (puts : Puts d at text x r) where
    fit : at + length text ≤ length d
    fit = let all : at + n ≤ length d = leb-true (at + n) (length d) (sym is_t ∙ yes) in omega arith

    stands : (x ≡ stored d at text) × (r ≡ at + length text)
    unfolding Puts
    stands = puts fit

    pub room_stored : x ≡ stored d at text
    room_stored = stands.0

    pub room_ended : r ≡ ended d at text
    room_ended = stands.1 ∙ ended_yes d text at true (sym (le-leb (at + length text) (length d) fit)) refl

    pub whole_stored_in : x ≡ stored_in n d at text
    whole_stored_in = room_stored ∙ sym (rw (sym is_t ∙ yes))

    pub whole_ended_in : r ≡ ended_in n d at text
    whole_ended_in = room_ended ∙ sym (rw (sym is_t ∙ yes))

pub puts_in : (text d x : List ℕ) (at n r : ℕ) → at + n ≤ length d → x ≡ stored_in n d at text → r ≡ ended_in n d at text → Puts d at text x r
puts_in text d x at n r room is_x is_r =
    let there : fits n at (length d) ≡ true = le-leb (at + n) (length d) room in
    puts_one d x at r text (is_x ∙ rw there) (is_r ∙ rw there)
