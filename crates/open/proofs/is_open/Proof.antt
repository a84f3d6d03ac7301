-- `open::is_open`: that a row of the constant fits is 002's list by cases, by boolean algebra.
use mathlib.Core.Bool.{and-true, or-false, or_assoc, and-or_distrib_left}
use borrow.Author.Rules.{rules}
use Rattle.open.specs.Open.{is_open}
use Rattle.open.proofs.Rows.{any_form, low_bits, by_rows, or_chain, spread}
use Rattle.open.proofs.is_open.Statement.{statement}
use Rattle.open.proofs.is_open.Tie as tie

returns : tie.Need-returns
unfolding is_open
returns c =
    by_rows _ _ _ _ _ c.any_fits.ensures
    (λ code feature lba. simp (any_form, low_bits 8, low_bits 28, and-true, or-false) (simp (or_chain, spread) (simp (and-or_distrib_left, or_assoc))))

pub is_open_spec : {M : Type 1} → statement M
is_open_spec = tie.close (tie.spec (λ c κs. search rules) returns)
