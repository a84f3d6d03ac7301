-- Words as ASCII codes.
use Prim.Native.Char.{code}
use Rattle.std.specs.Prelude.{ℕ, List, [], ◌∷◌}
use Prim.Native.String.{String, [] as ε, ◌∷◌ as ◌▸◌}

abbrev pub ascii : String → List ℕ
ascii ε = []
ascii (c ▸ word) = code c ∷ ascii word
