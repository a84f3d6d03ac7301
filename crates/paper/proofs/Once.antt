-- No second answer fits a promise (specs/Promises): the numbers of two answers differ (`answer_of` undoes `number_of`), and `said` shows both
-- its parts.
use Prim.Native.Nat.{ℕ}
use mathlib.Core.Bool.{cond}
use mathlib.Core.Path.{◌≡◌, refl, sym, ap, ◌∙◌}
use lib.Dec.{eqb}
use Rattle.paper.specs.Answers.{number_of}
use Rattle.paper.specs.Promises.{NumberInjective, NoSecondAnswer}
use Rattle.paper.specs.Told.{Told, said}
use Rattle.paper.specs.declared.Answer.TheVariants.{Done, SecurityLocked, InProgress, Failed, InvalidField, BeyondMax, UnknownCommand, SmallBuffer, TableRefused, NoRemoval, GradeRefused}
use Rattle.paper.specs.declared.Answer.{Answer}

pub answer_of : ℕ → Answer
answer_of n =
    cond (eqb n 0) Done
    (cond (eqb n 1) SecurityLocked
    (cond (eqb n 2) InProgress
    (cond (eqb n 3) Failed
    (cond (eqb n 4) InvalidField
    (cond (eqb n 5) BeyondMax
    (cond (eqb n 6) UnknownCommand
    (cond (eqb n 7) SmallBuffer
    (cond (eqb n 8) TableRefused
    (cond (eqb n 10) NoRemoval GradeRefused)))))))))

pub answer_number : (a : Answer) → answer_of (number_of a) ≡ a
unfolding answer_of
answer_number Done = refl
answer_number SecurityLocked = refl
answer_number InProgress = refl
answer_number Failed = refl
answer_number InvalidField = refl
answer_number BeyondMax = refl
answer_number UnknownCommand = refl
answer_number SmallBuffer = refl
answer_number TableRefused = refl
answer_number NoRemoval = refl
answer_number GradeRefused = refl

pub number_injective : NumberInjective
number_injective a b e = sym (answer_number a) ∙ ap answer_of e ∙ answer_number b

pub told_once : {X : Type 0} (t : Told X) (a b : Answer) (x y : X) → said a x ≡ t → said b y ≡ t → (a ≡ b) × (x ≡ y)
told_once {X} t a b x y p q =
    let same : said a x ≡ said b y = p ∙ sym q in
    (number_injective a b (ap (λ (u : Told X). u.number) same), ap (λ (u : Told X). u.state) same)

pub no_second_answer : NoSecondAnswer
no_second_answer X = told_once
