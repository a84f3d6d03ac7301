-- Bytes in a lent buffer: a law for each way out, and what holds of all (specs/Promises).
use Prim.Native.Nat.{ℕ, ◌≤◌, ◌<◌}
use mathlib.Core.Bool.{Bool, true, false, cond}
use mathlib.Core.List.{List, ◌++◌}
use mathlib.Core.Path.{◌≡◌, refl, sym, ap, ◌∙◌}
use Rattle.std.specs.Prelude.{Result, Ok, Err}
use native.Mathlib.Omega.{arith}
use lib.Dec.{eqb, ltb}
use lib.ListN.{length, drop}
use borrow.Author.Tests.{lt-ltb, le-ltb}
use Rattle.paper.specs.Output.{Output, output, wrote, written}
use Rattle.paper.specs.Promises.{OneOutput, RefusalWritesNothing}
use Rattle.paper.specs.Told.{Told, tells}
use Rattle.paper.specs.declared.Unwritten.TheVariants.{InvalidField, SmallBuffer}
use Rattle.paper.specs.declared.Unwritten.{Unwritten}

module _ (bytes out : List ℕ) (n : ℕ) (is_n : n ≡ length bytes) where
  pub written_small : length out < n → wrote (Err SmallBuffer) out ≡ written bytes out
  written_small h = sym (rw (lt-ltb (length out) (length bytes) (omega (arith, is_n))))

  pub written_done : n ≤ length out → (b : List ℕ) → b ≡ bytes ++ drop (length bytes) out → wrote (Ok n) b ≡ written bytes out
  written_done room b filled = rw (is_n, filled) (sym (rw (le-ltb (length out) (length bytes) (omega (arith, is_n)))))

-- a number of bytes is told by itself, a reason by its number
of_told : Told Output → Result ℕ Unwritten
of_told t = cond (eqb t.number 0) (Ok t.state.count) (cond (eqb t.number 4) (Err InvalidField) (Err SmallBuffer))

told_back : (a : Result ℕ Unwritten) (x : List ℕ) → of_told (wrote a x) ≡ a
unfolding of_told
told_back (Ok n) x = refl
told_back (Err InvalidField) x = refl
told_back (Err SmallBuffer) x = refl

left_back : (a : Result ℕ Unwritten) (x : List ℕ) → (wrote a x).state.buffer ≡ x
left_back (Ok n) x = refl
left_back (Err why) x = refl

pub one-output : OneOutput
one-output t a b x y is_a is_b =
    let same : wrote a x ≡ wrote b y = is_a ∙ sym is_b in (
      sym (told_back a x) ∙ ap of_told same ∙ told_back b y,
      sym (left_back a x) ∙ ap (λ (u : Told Output). u.state.buffer) same ∙ left_back b y,
    )

pub refusal_writes_nothing : RefusalWritesNothing
refusal_writes_nothing bytes out = by_test (ltb (length out) (length bytes))
  where
    by_test : (t : Bool)
        → ((cond t (tells 7 (output 0 out)) (tells 0 (output (length bytes) (bytes ++ drop (length bytes) out)))).number ≡ 0 → ⊥)
        → (cond t (tells 7 (output 0 out)) (tells 0 (output (length bytes) (bytes ++ drop (length bytes) out)))).state ≡ output 0 out
    by_test true h = refl
    by_test false h = absurd (h refl)
