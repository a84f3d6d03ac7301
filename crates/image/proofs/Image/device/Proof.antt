-- `Image::device`.
use borrow.Author.Rules.{rules}
use Rattle.image.proofs.Reading.{device_read}
use Rattle.image.proofs.Image.device.Statement.{statement}
use Rattle.image.proofs.Image.device.Tie as tie

pub device_spec : {M : Type 1} → statement M
device_spec =
    tie.close
    (tie.spec
    (λ c κs. search rules)
    (λ c κs. search rules)
    (λ c κs. search rules)
    (λ c. search rules)
    (λ c. search (device_read)))
