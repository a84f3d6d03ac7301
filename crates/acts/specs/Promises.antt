-- What holds of every line's call. It is a statement; proofs/ has the proof under the same name in lower case.
use Rattle.std.specs.Prelude.{◌≡◌}
use Rattle.acts.specs.Acts.{acted}
use Rattle.acts.specs.declared.Acted.{Acted}

-- no second reply fits, nor another bench
abbrev pub OneAct : Type 0
OneAct = (a b : Acted) → acted a ≡ acted b → a ≡ b
