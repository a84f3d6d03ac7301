-- `Image::keep`: one thing after the other.
use borrow.Author.Rules.{rules}
use Rattle.image.proofs.Keeping.{all_kept}
use Rattle.image.proofs.Image.keep.Statement.{statement}
use Rattle.image.proofs.Image.keep.Tie as tie

pub keep_spec : {M : Type 1} → statement M
keep_spec =
    tie.close
    (tie.spec
    (λ c κs. search rules)
    (λ c κs. search rules)
    (λ c κs. search rules)
    (λ c κs. search rules)
    (λ c κs. search rules)
    (λ c. search (all_kept)))
