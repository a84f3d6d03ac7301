-- Words that fit their fields are a request.
use Prim.Native.Nat.{ℕ, ◌+◌}
use mathlib.Core.Bool.{cond, ◌&&◌}
use mathlib.Core.List.{List}
use mathlib.Core.Path.{◌≡◌, refl}
use Rattle.std.proofs.Common.{Option, Some, None, Ok, Err}
use Rattle.std.specs.Option.{is_some, unwrap_or}
use Rattle.std.specs.Result.{result_ok}
use Rattle.lines.specs.Numbers.{field_at, ◌>>=◌}
use Rattle.request.specs.declared.Request.{Request}
use Rattle.registers.specs.Registers.{most16, most64, fitted_at, asked_at}

abbrev request : ℕ → ℕ → ℕ → Request
request f c l = record { feature = f; count = record { 0 = c }; lba = record { 0 = l } }

each : (f c l : Option ℕ)
    → result_ok (cond (is_some f && (is_some c && is_some l))
    (Ok (request (unwrap_or f 0) (unwrap_or c 0) (unwrap_or l 0))) (Err (request (unwrap_or f 0) (unwrap_or c 0) (unwrap_or l 0))))
    ≡ (f >>= (λ x. c >>= (λ y. l >>= (λ z. Some (request x y z)))))
each None c l = refl
each (Some x) None l = refl
each (Some x) (Some y) None = refl
each (Some x) (Some y) (Some z) = refl

pub told_fit : (l : List ℕ) (k : ℕ) → result_ok (fitted_at l k) ≡ asked_at l k
unfolding fitted_at asked_at
told_fit l k = each (field_at l k most16) (field_at l (k + 1) most16) (field_at l (k + 2) most64)
