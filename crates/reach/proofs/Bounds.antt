-- Both pages judged, and how far they are compared: a law for each way out.
use Prim.Native.Nat.{ℕ, zero, suc, ◌-◌, ◌≤◌, ◌<◌}
use mathlib.Core.Bool.{true, false, cond}
use mathlib.Core.List.{List}
use mathlib.Core.Path.{◌≡◌, refl, sym, ap, ◌∙◌}
use native.Mathlib.Omega.{arith}
use lib.Dec.{ltb}
use lib.ListN.{length}
use borrow.Author.Tests.{lt-ltb, le-ltb}
use Rattle.std.proofs.Common.{Option, Some, None, Result, Ok, Err}
use Rattle.std.specs.Result.{result_or}
use Rattle.layout.specs.Bytes.{header_in}
use Rattle.layout.specs.declared.Descriptor.{Descriptor}
use Rattle.layout.specs.declared.Header.{Header}
use Rattle.offences.specs.Checks.{descriptor_at, last_before}
use Rattle.offences.specs.declared.Offence.{Offence}
use Rattle.paper.specs.Told.{tells}
use Rattle.paper.specs.declared.ElementId.{ElementId}
use Rattle.reader.specs.Judgement as judgement
use Rattle.request.specs.Requests.{request_of}
use Rattle.request.specs.declared.Request.{Request}
use Rattle.words.specs.declared.Order.TheVariants.{Little}
use Rattle.reach.specs.Opening.{heard, open_of, judged, accepted, bound, turn}
use Rattle.reach.specs.Pages.{count_of, reach_of, bound_of}
use Rattle.reach.specs.declared.Turn.TheVariants.{Older, Newer}
use Rattle.reach.specs.declared.Turn.{Turn}

-- ## Both judged

-- a page whose refusal is told as a turn
module _ (s : List ℕ) (q : Request) where
  refused_one : (r : Result Header Offence) → judgement.heard r ≡ judgement.read_of Little s q → (w e : Turn) → result_or r (Err w) ≡ Err e → (accepted s q ≡ false) × (w ≡ e)
  unfolding accepted
  refused_one (Ok h) is_r w e is_e = absurd (cc)
  refused_one (Err p) is_r w e is_e = (rw (← is_r) refl, cc)

  taken_one : (r : Result Header Offence) → judgement.heard r ≡ judgement.read_of Little s q → (w : Turn) (h : Header) → result_or r (Err w) ≡ Ok h → accepted s q ≡ true
  unfolding accepted
  taken_one (Ok g) is_r w h is_h = rw (← is_r) refl
  taken_one (Err p) is_r w h is_h = absurd (cc)

module _ (s t : List ℕ) (q : Request) (a : Result Header Offence) (is_a : judgement.heard a ≡ judgement.read_of Little s q) where
  pub open_older : (e : Turn) → result_or a (Err Older) ≡ Err e → tells 9 (turn e) ≡ open_of s t q
  open_older e is_e = let no = refused_one s q a is_a Older e is_e in sym (rw (no.0, no.1))

  module _ (h : Header) (y : result_or a (Err Older) ≡ Ok h) (b : Result Header Offence) (is_b : judgement.heard b ≡ judgement.read_of Little t q) where
    pub open_newer : (e : Turn) → result_or b (Err Newer) ≡ Err e → tells 9 (turn e) ≡ open_of s t q
    open_newer e is_e = let no = refused_one t q b is_b Newer e is_e in sym (rw (taken_one s q a is_a Older h y, no.0, no.1))

    pub open_both : (g : Header) → result_or b (Err Newer) ≡ Ok g → (m : Option ElementId) → m ≡ bound_of s t → tells 0 (bound m) ≡ open_of s t q
    open_both g z m is_m = sym (rw (taken_one s q a is_a Older h y, taken_one t q b is_b Newer g z, ← is_m))

module _ (s t : List ℕ) where
  pub older_long : 65536 < length s → tells 9 (turn Older) ≡ judged s t
  unfolding judged
  older_long h = sym (rw (lt-ltb _ _ h))

  pub both_read : length s ≤ 65536 → (q : Request) → q ≡ request_of s → (r : Result (Option ElementId) Turn) → heard r ≡ open_of s t q → heard r ≡ judged s t
  unfolding judged
  both_read h q is_q r e = e ∙ rw is_q (sym (rw (le-ltb _ _ h)))

-- ## How far

pub before_some : (s : List ℕ) (k : ℕ) (some : k ≡ 0 → ⊥) (d : Descriptor) → d ≡ descriptor_at Little s (k - 1) → d.id.0 ≡ last_before Little s k
before_some s zero some d is_d = absurd (some refl)
before_some s (suc k) some d is_d =
    let back : suc k - 1 ≡ k = omega arith in
    ap (λ (x : Descriptor). x.id.0) is_d ∙ ap (λ (j : ℕ). (descriptor_at Little s j).id.0) back

module _ (s : List ℕ) (h : Header) (is_h : h ≡ header_in Little s) where
  pub count_read : h.returned ≡ count_of s
  unfolding count_of
  count_read = ap (λ (x : Header). x.returned) is_h

  reach_read : cond (ltb h.returned h.number) (Some (record { 0 = last_before Little s h.returned })) None ≡ reach_of s
  unfolding reach_of
  reach_read = ap (λ (x : Header). cond (ltb x.returned x.number) (Some (record { 0 = last_before Little s x.returned })) None) is_h

  pub reach_whole : h.number ≤ h.returned → None ≡ reach_of s
  reach_whole l = sym (rw (le-ltb h.returned h.number l)) ∙ reach_read

  pub reach_cut : h.returned < h.number → (id : ElementId) → id.0 ≡ last_before Little s h.returned → Some id ≡ reach_of s
  reach_cut l id is_id = sym (rw (lt-ltb h.returned h.number l, ← is_id)) ∙ reach_read
