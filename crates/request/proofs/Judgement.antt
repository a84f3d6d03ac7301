-- What a request is answered: a law for each way out, what callers use of an answer 0, and that no second judgement fits (specs/Promises).
use Prim.Native.Nat.{ℕ, ◌*◌, ◌≤◌, ◌<◌}
use mathlib.Core.Bool.{Bool, true, false, cond}
use mathlib.Core.Path.{◌≡◌, refl, sym, ◌∙◌}
use native.Mathlib.Omega.{arith}
use lib.Dec.{ltb}
use borrow.Author.Tests.{lt-ltb, le-ltb, ltb-false}
use Rattle.paper.proofs.Once.{number_injective}
use Rattle.paper.specs.Answers.{number_of}
use Rattle.paper.specs.Table12.{aborts}
use Rattle.paper.specs.declared.Answer.{Answer}
use Rattle.paper.specs.declared.Command.TheVariants.{Status}
use Rattle.paper.specs.declared.Security.{Security}
use Rattle.request.specs.Promises.{OneJudgement}
use Rattle.request.specs.Requests.{pages_of, refused, status_number}
use Rattle.request.specs.declared.Request.{Request}
use Rattle.request.proofs.Requests.{accepted}

module _ (s : Security) (q : Request) (room : ℕ) (a : Bool) (is_a : a ≡ aborts Status s) where
  pub judge-locked : a ≡ true → 1 ≡ status_number s q room
  judge-locked y = sym (rw (sym is_a ∙ y))

  module _ (n : a ≡ false) (b : Bool) (is_b : b ≡ refused q) where
    pub judge-refused : b ≡ true → 4 ≡ status_number s q room
    judge-refused y = sym (rw (sym is_a ∙ n, sym is_b ∙ y))

    pub judge_small : b ≡ false → room < 512 * pages_of q → 7 ≡ status_number s q room
    judge_small m h = sym (rw (sym is_a ∙ n, sym is_b ∙ m, lt-ltb _ _ h))

    pub judge_done : b ≡ false → 512 * pages_of q ≤ room → 0 ≡ status_number s q room
    judge_done m h = sym (rw (sym is_a ∙ n, sym is_b ∙ m, le-ltb _ _ h))

-- ## For callers

-- a request that is answered 0 is for some pages, and they fit
answered : (s : Security) (q : Request) (room : ℕ) → status_number s q room ≡ 0 → (1 ≤ pages_of q) × (512 * pages_of q ≤ room)
answered s q room e = go (aborts Status s) (refused q) (ltb room (512 * pages_of q)) refl refl e
  where
    go : (a b c : Bool) → refused q ≡ b → ltb room (512 * pages_of q) ≡ c → ◌≡◌ {A = ℕ} (cond a 1 (cond b 4 (cond c 7 0))) 0 → (1 ≤ pages_of q) × (512 * pages_of q ≤ room)
    go true b c p r z = absurd (omega arith)
    go false true c p r z = absurd (omega arith)
    go false false true p r z = absurd (omega arith)
    go false false false p r z = ((accepted q p).2, ltb-false room (512 * pages_of q) r)

module _ (s : Security) (q : Request) (room n : ℕ) (a : Answer) (is_a : number_of a ≡ status_number s q room) (is_n : n ≡ number_of a) (z : n ≡ 0) where
  pub some_pages : 1 ≤ pages_of q
  some_pages = (answered s q room (sym is_a ∙ sym is_n ∙ z)).0

  pub pages_fit : 512 * pages_of q ≤ room
  pages_fit = (answered s q room (sym is_a ∙ sym is_n ∙ z)).1

pub one_judgement : OneJudgement
one_judgement s q room a b x y = number_injective a b (x ∙ sym y)
