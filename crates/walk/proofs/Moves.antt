-- Laws of what a walk does after a page: one for each way out, and that no second answer fits (specs/Promises).
use Prim.Native.Nat.{ℕ}
use mathlib.Core.List.{List}
use mathlib.Core.Path.{◌≡◌, refl, sym, ap, ◌∙◌}
use Rattle.std.proofs.Common.{Option, Some, None, Result, Ok, Err}
use Rattle.layout.specs.declared.Header.{Header}
use Rattle.offences.specs.declared.Offence.{Offence}
use Rattle.paper.specs.Told.{Told, tells}
use Rattle.paper.specs.declared.ElementId.{ElementId}
use Rattle.reach.specs.Pages.{reach_of}
use Rattle.reader.specs.Judgement as reader
use Rattle.request.specs.declared.Request.{Request}
use Rattle.words.specs.declared.Order.TheVariants.{Little}
use Rattle.walk.specs.Next.{Values, ask, end, place, heard, after, next_of}
use Rattle.walk.specs.Promises.{OneNext}

-- ## After a page

module _ (s : List ℕ) (q : Request) (r : Result Header Offence) (is_r : reader.heard r ≡ reader.read_of Little s q) where
  pub next_refused : (e : Offence) → r ≡ Err e → tells 9 (place e.0) ≡ next_of s q
  unfolding next_of
  next_refused e is_e = sym (rw (← is_r, is_e))

  module _ (h : Header) (is_h : r ≡ Ok h) (b : Option ElementId) (is_b : b ≡ reach_of s) where
    pub next_whole : b ≡ None → tells 0 end ≡ next_of s q
    unfolding next_of
    next_whole e = sym (rw (← is_r, is_h, ← is_b, e))

    pub next_cut : (last : ElementId) → b ≡ Some last → (n : Option ElementId) → heard (Ok n) ≡ tells 0 (after last) → heard (Ok n) ≡ next_of s q
    unfolding next_of
    next_cut last e n is_n = is_n ∙ sym (rw (← is_r, is_h, ← is_b, e))

-- ## One answer

abbrev of : Values → Result (Option ElementId) Offence
of (ask id) = Ok (Some id)
of end = Ok None
of (place p) = Err (record { 0 = p })

abbrev answer : Told Values → Result (Option ElementId) Offence
answer u = of u.state

back : (a : Result (Option ElementId) Offence) → answer (heard a) ≡ a
back (Ok (Some id)) = refl
back (Ok None) = refl
back (Err e) = refl

pub one_next : OneNext
one_next s q a b is_a is_b = sym (back a) ∙ ap answer (is_a ∙ sym is_b) ∙ back b
