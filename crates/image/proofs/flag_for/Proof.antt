-- `image::flag_for`: a law for each way out.
use Rattle.image.proofs.Keeping.{flag_off, flag_new, flag_old}
use Rattle.image.proofs.flag_for.Statement.{statement}
use Rattle.image.proofs.flag_for.Tie as tie

pub flag_for_spec : {M : Type 1} → statement M
flag_for_spec = tie.close (tie.spec (λ c. search (flag_off)) (λ c. search (flag_new)) (λ c. search (flag_old)))
