-- What holds of every call. It is a statement; proofs/ has the proof under the same name in lower case.
use Rattle.std.specs.Prelude.{◌≡◌}
use Rattle.docking.specs.Dock.{heard}
use Rattle.docking.specs.declared.Docked.{Docked}

-- no second answer fits
abbrev pub OneDocked : Type 0
OneDocked = (a b : Docked) → heard a ≡ heard b → a ≡ b
