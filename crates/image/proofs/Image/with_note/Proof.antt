-- `Image::with_note`.
use borrow.Author.Rules.{rules}
use Rattle.image.proofs.Keeping.{note_put}
use Rattle.image.proofs.Image.with_note.Statement.{statement}
use Rattle.image.proofs.Image.with_note.Tie as tie

pub with_note_spec : {M : Type 1} → statement M
with_note_spec =
    tie.close
    (tie.spec
    (λ c κs. search rules)
    (λ c κs. search rules)
    (λ c κs. search rules)
    (λ c κs. search rules)
    (λ c κs. search rules)
    (λ c. search (note_put)))
