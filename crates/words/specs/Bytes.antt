-- Numbers as bytes, in either order, at any width.
use Rattle.std.specs.Prelude.{ℕ, zero, suc, ◌+◌, ◌*◌, ◌/◌, ◌%◌, List, [], ◌∷◌, reverse, get_or, drop}
use Rattle.words.specs.declared.Order.TheVariants.{Little, Big}
use Rattle.words.specs.declared.Order.{Order}

-- the w low bytes of a number, the lowest first
abbrev pub low_bytes : ℕ → ℕ → List ℕ
low_bytes zero x = []
low_bytes (suc w) x = x % 256 ∷ low_bytes w (x / 256)

-- the number of some bytes, the lowest first
abbrev pub value : List ℕ → ℕ
value [] = 0
value (b ∷ bs) = value bs * 256 + b

-- bytes given the lowest first, put in an order; doing it again undoes it
abbrev pub ordered : Order → List ℕ → List ℕ
ordered Little bs = bs
ordered Big bs = reverse bs

-- the w low bytes of a number, in an order
abbrev pub bytes_of : Order → ℕ → ℕ → List ℕ
bytes_of o w x = ordered o (low_bytes w x)

-- the number of some bytes, in an order
abbrev pub number : Order → List ℕ → ℕ
number o bs = value (ordered o bs)

-- the first w bytes; past the end a byte is 0
abbrev pub front : ℕ → List ℕ → List ℕ
front zero s = []
front (suc w) s = get_or s 0 0 ∷ front w (drop 1 s)

-- the number of the w bytes at a place
abbrev pub number_at : Order → ℕ → List ℕ → ℕ → ℕ
number_at o w s at = number o (front w (drop at s))
