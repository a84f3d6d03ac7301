-- Lists kept and tested, laid end to end, stored at a place, and added up.
use Rattle.std.specs.Prelude.{ℕ, zero, suc, ◌+◌, Bool, true, false, cond, ◌&&◌, ◌||◌, List, [], ◌∷◌, ◌++◌, eqb, leb, length, take, drop}

-- the elements for which the test holds, in order
abbrev pub keep : {A : Type 0} → (A → Bool) → List A → List A
keep f [] = []
keep f (x ∷ xs) = cond (f x) (x ∷ keep f xs) (keep f xs)

-- the numbers below n
abbrev pub up_to : ℕ → List ℕ
up_to zero = []
up_to (suc n) = up_to n ++ (n ∷ [])

-- whether the test holds for every element
abbrev pub all : {A : Type 0} → (A → Bool) → List A → Bool
all f [] = true
all f (x ∷ xs) = f x && all f xs

-- whether it holds for one
abbrev pub any : {A : Type 0} → (A → Bool) → List A → Bool
any f [] = false
any f (x ∷ xs) = f x || any f xs

-- a statement that holds of every element
abbrev pub Every : {A : Type 0} → (A → Type 0) → List A → Type 0
Every P [] = Unit {0}
Every P (x ∷ xs) = P x × Every P xs

-- whether a number is one of some
abbrev pub one_of : ℕ → List ℕ → Bool
one_of n xs = any (eqb n) xs

-- what f makes of each element, end to end
abbrev pub flat : {A B : Type 0} → (A → List B) → List A → List B
flat f [] = []
flat f (x ∷ xs) = f x ++ flat f xs

-- whether n elements fit from a place on
abbrev pub fits : ℕ → ℕ → ℕ → Bool
fits n at room = leb (at + n) room

-- b stored over d from a place on, if it fits there
abbrev pub stored : {A : Type 0} → List A → ℕ → List A → List A
stored d at b = cond (fits (length b) at (length d)) (take at d ++ b ++ drop (at + length b) d) d

-- where it ends then; the place itself if it does not fit
abbrev pub ended : {A : Type 0} → List A → ℕ → List A → ℕ
ended d at b = cond (fits (length b) at (length d)) (at + length b) at

-- what f measures of each element, added up
abbrev pub sum : {A : Type 0} → (A → ℕ) → List A → ℕ
sum f [] = 0
sum f (x ∷ xs) = f x + sum f xs

-- 1 where a test holds: the sum of it is a count
abbrev pub one : Bool → ℕ
one true = 1
one false = 0
