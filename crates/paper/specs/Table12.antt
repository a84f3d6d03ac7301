-- 000, table 12, as document 01 has it: "under locked, unlocked, frozen this command is aborted, runs, runs; GET PHYSICAL ELEMENT STATUS runs in
-- all three".
use Rattle.std.specs.Prelude.{ℕ, Bool, true, false, List, [], ◌∷◌}
use Rattle.paper.specs.declared.Command.TheVariants.{Remove, Status}
use Rattle.paper.specs.declared.Command.{Command}
use Rattle.paper.specs.declared.Security.TheVariants.{Locked, Unlocked, Frozen}
use Rattle.paper.specs.declared.Security.{Security}

abbrev pub aborts : Command → Security → Bool
aborts Remove Locked = true
aborts Remove Unlocked = false
aborts Remove Frozen = false
aborts Status Locked = false
aborts Status Unlocked = false
aborts Status Frozen = false

-- ## As the code has it: rows by columns (specs/Promises, `GridRight`)

abbrev pub row_of : Command → ℕ
row_of Remove = 0
row_of Status = 1

abbrev pub column_of : Security → ℕ
column_of Locked = 0
column_of Unlocked = 1
column_of Frozen = 2

abbrev pub grid : List (List Bool)
grid = (true ∷ false ∷ false ∷ []) ∷ (false ∷ false ∷ false ∷ []) ∷ []
