-- What the host's calls hand on: what is written into a lent buffer, and what comes of a conversion.
use Prim.Native.Nat.{ℕ}
use mathlib.Core.List.{List}
use mathlib.Core.Path.{◌≡◌, refl, sym, ap, ◌∙◌}
use Rattle.std.proofs.Common.{Result, Ok, Err}
use Rattle.convert.specs.Convert.{Outcome, buffer_of, heard}
use Rattle.convert.specs.declared.Refusal.TheVariants.{SmallBuffer, Offence}
use Rattle.convert.specs.declared.Refusal.{Refusal}
use Rattle.paper.specs.Output.{Output, output}
use Rattle.paper.specs.Told.{Told, tells, said}
use Rattle.paper.specs.declared.Written.{Written}
use Rattle.spelt.specs.Spelt.{count_of, turned_of}
use Rattle.spelt.specs.declared.Count.{Count}
use Rattle.spelt.specs.declared.Turned.{Turned}

pub counted : (w : Written) (r : Count) → r ≡ count_of w → (out : List ℕ) (t : Told Output) → said w.answer (output w.count out) ≡ t
    → tells r.answer (output r.count out) ≡ t
counted w r is_r out t is_t = ap (λ (c : Count). tells c.answer (output c.count out)) is_r ∙ is_t

held : (c : Result ℕ Refusal) (buf : List ℕ) → buffer_of (heard c buf).state ≡ buf
held (Ok n) buf = refl
held (Err SmallBuffer) buf = refl
held (Err (Offence p)) buf = refl

pub turned : (c : Result ℕ Refusal) (r : Turned) → ((buf : List ℕ) → r ≡ turned_of (heard c buf)) → (out : List ℕ) (t : Told Outcome) → heard c out ≡ t
    → (r ≡ turned_of t) × (out ≡ buffer_of t.state)
turned c r is_r out t is_t = (is_r out ∙ ap turned_of is_t, sym (held c out) ∙ ap (λ (u : Told Outcome). buffer_of u.state) is_t)
