-- The first of several checks that offends.
use Rattle.std.specs.Prelude.{ℕ, zero, suc, Bool, true, false, Result, Ok, Err, ⊤}
use Rattle.offences.specs.declared.Offence.{Offence}

-- an offence at the place unless the test holds
abbrev pub unless : Bool → ℕ → Result ⊤ Offence
unless true place = Ok tt
unless false place = Err (record { 0 = place })

infixr 20 ◌or_else◌
-- the first check's offence, else the second's
abbrev pub ◌or_else◌ : Result ⊤ Offence → Result ⊤ Offence → Result ⊤ Offence
Ok _ or_else b = b
Err e or_else b = Err e

-- the first offence of the checks f 0, f 1, .., f (n - 1)
abbrev pub first_below : ℕ → (ℕ → Result ⊤ Offence) → Result ⊤ Offence
first_below zero f = Ok tt
first_below (suc n) f = first_below n f or_else f n
