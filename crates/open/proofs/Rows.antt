-- The table of what is open: the forms of a register, and 002's alternatives as its rows.
use Prim.Native.Nat.{ℕ, ◌+◌, ◌-◌, ◌%◌, ◌≤◌, ◌<◌, ◌^◌}
use mathlib.Core.Bool.{Bool, true, false, ◌&&◌, ◌||◌, or_assoc, and-or_distrib_left, and-or_distrib_right}
use mathlib.Core.List.{List}
use mathlib.Core.Path.{◌≡◌, refl, sym, ap, ◌∙◌}
use native.Mathlib.Numerals.{add-one}
use native.Mathlib.Omega.{arith}
use lib.Bits.{bit_and, and_mask, and_zero_r}
use lib.Dec.{eqb}
use lib.ListN.{length, get_or, drop, drop_of_length-le}
use lib.Seq.{drop-cons}
use borrow.Author.Tests.{eq-eqb, ne_eqb}
use Rattle.std.specs.List.{list_any}
use Rattle.open.specs.Open.{is_open}
use Rattle.open.specs.Private.{leaves, row_fits, any_fits}
use Rattle.open.specs.declared.Row.{Row}

-- ## The forms of a register

pub any_form : (x : ℕ) → leaves 0 0 x ≡ true
unfolding leaves
any_form x = rw (and_zero_r x)

-- the k lowest bits
pub low_bits : (k v x : ℕ) → leaves (2 ^ k - 1) v x ≡ eqb (x % 2 ^ k) v
unfolding leaves
low_bits k v x = ap (λ (y : ℕ). eqb y v) (and_mask x k)

-- ## The table

-- the rows are those that the code has: a proof need not write them
pub by_rows : (rows : List Row) (code feature lba : ℕ) (b : Bool) → b ≡ any_fits rows code feature lba
    → ((c f l : ℕ) → list_any (λ (r : Row). row_fits r c f l) rows ≡ is_open c f l) → b ≡ is_open code feature lba
unfolding any_fits
by_rows rows code feature lba b is_b rule = is_b ∙ rule code feature lba

-- ## Alternatives, in a row

pub or_chain : (a b c d e f g : Bool) → (a || b || c || d || e || f || g) ≡ (a || (b || (c || (d || (e || (f || g))))))
or_chain true b c d e f g = refl
or_chain false b c d e f g = simp or_assoc

-- two codes, each with four logs
pub spread : (a b p q r s z : Bool)
    → ((a || b) && (p || (q || (r || s))) || z) ≡ (a && p || (b && p || (a && q || (b && q || (a && r || (b && r || (a && s || (b && s || z))))))))
spread a b p q r s z = simp (and-or_distrib_left, and-or_distrib_right, or_assoc)
