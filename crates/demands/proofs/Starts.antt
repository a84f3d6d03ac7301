-- The lent making starts a run (specs/Starts): it is the making of the list's offer, whose array is full. Calls that follow are a script.
use Prim.Native.Nat.{ℕ}
use mathlib.Core.Bool.{Bool, true, false, cond, false≢true}
use mathlib.Core.List.{List}
use mathlib.Core.Path.{◌≡◌, refl, ap, subst, subst⁻¹, ◌∙◌}
use native.Mathlib.Omega.{arith}
use lib.ListN.{length, length-append, length-take, length-replicate}
use Rattle.calls.proofs.Lists.{taken, made_alike}
use Rattle.calls.specs.Offered.{array_of, offer_of, made_from}
use Rattle.conduct.specs.Promises.{Tidy}
use Rattle.device.specs.declared.Device.{Device}
use Rattle.history.proofs.Promise.{kept}
use Rattle.history.proofs.Runs.{runs_are_scripts}
use Rattle.history.proofs.Starts.{accepted_starts}
use Rattle.history.specs.Promise.{KeptByRuns}
use Rattle.history.specs.Runs.{history}
use Rattle.history.specs.Starts.{MadeOf}
use Rattle.making.proofs.EveryMaking.{made_tidy}
use Rattle.making.specs.Making.{fresh}
use Rattle.offer.proofs.Laws.{good_count}
use Rattle.offer.specs.Check.{good}
use Rattle.offer.specs.Elements.{offered}
use Rattle.offer.specs.declared.Element.{Element}
use Rattle.paper.specs.Answers.{number_of}
use Rattle.paper.specs.Told.{Told, tells, said}
use Rattle.paper.specs.declared.Answer.{Answer}
use Rattle.demands.specs.Starts.{ListedStarts, ListedKeeps, ListedTidy}

full : (es : List Element) → length (array_of es) ≡ 128
full es = rw (length-append, length-take, length-replicate) (omega arith)

module _ (there : Device) (es : List Element) (limit : ℕ) (a : Answer) (d : Device) (is_made : said a d ≡ made_from there es limit) where
  made_offer : number_of a ≡ 0 → MadeOf (offered (offer_of es limit)) limit d
  made_offer z = ((accepted_starts there (offer_of es limit) a d (full es) (is_made ∙ made_alike there es limit)).0 z).1

  exactly : (b : Bool) → good (length es) es limit ≡ b → said a d ≡ cond b (tells 0 (fresh (offer_of es limit))) (tells 8 there)
      → (number_of a ≡ 0 → b ≡ true) × (b ≡ true → number_of a ≡ 0)
  exactly true g q = (λ _. refl, λ _. ap (λ (u : Told Device). u.number) q)
  exactly false g q = (λ z. absurd (let e : number_of a ≡ 8 = ap (λ (u : Told Device). u.number) q in omega (arith, z, e)), λ y. absurd (false≢true y))

  -- an accepted list is the one that is offered
  as_listed : good (length es) es limit ≡ true → offered (offer_of es limit) ≡ es
  as_listed g = taken es (good_count (length es) es limit g)

pub listed_starts : ListedStarts
unfolding made_from
listed_starts there es limit a d is_made =
    let so = exactly there es limit a d is_made (good (length es) es limit) refl is_made in
    let made : number_of a ≡ 0 → MadeOf es limit d =
    λ z. subst (λ (l : List Element). MadeOf l limit d) (as_listed there es limit a d is_made (so.0 z)) (made_offer there es limit a d is_made z) in
    (λ z. (so.0 z, made z), so.1)

pub listed-keeps : ListedKeeps
listed-keeps there es limit a d is_made z s ns x ran =
    let made : MadeOf es limit d = ((listed_starts there es limit a d is_made).0 z).1 in
    subst⁻¹ (KeptByRuns d (history d s)) (runs_are_scripts d s ns x ran).0 (kept d made.startable s)

pub listed_tidy : ListedTidy
listed_tidy there es limit =
    subst⁻¹ (λ (t : Told Device). t.number ≡ 0 → Tidy t.state) (made_alike there es limit) (made_tidy there (offer_of es limit) (full es))
