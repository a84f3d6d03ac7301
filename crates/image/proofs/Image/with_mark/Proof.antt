-- `Image::with_mark`.
use mathlib.Core.Path.{refl}
use borrow.Author.Rules.{rules}
use Rattle.image.proofs.Image.with_mark.Statement.{statement}
use Rattle.image.proofs.Image.with_mark.Tie as tie

pub with_mark_spec : {M : Type 1} → statement M
with_mark_spec = tie.close (tie.spec (λ c κs. search rules) (λ c κs. search rules) (λ c. rw (c.flag_for.ensures, c.before.is_set.ensures) refl))
