-- What holds of every ruling.
use Rattle.std.specs.Prelude.{◌≡◌}
use Rattle.cells.specs.Rulings.{ruled}
use Rattle.cells.specs.declared.Ruling.{Ruling}

-- no second ruling fits
abbrev pub OneRuling : Type 0
OneRuling = (a b : Ruling) → ruled a ≡ ruled b → a ≡ b
