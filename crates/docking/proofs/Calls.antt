-- Laws of the calls for a SCSI host: one for each way out of a function.
use Prim.Native.Nat.{ℕ, ◌-◌, min}
use mathlib.Core.List.{List, ◌++◌}
use mathlib.Core.Path.{◌≡◌, refl, sym, ap, ◌∙◌}
use native.Mathlib.Omega.{arith}
use lib.ListN.{length, drop, replicate}
use Rattle.arguments.specs.declared.Dock.{Dock}
use Rattle.arguments.specs.declared.DockCall.TheVariants as calls
use Rattle.arguments.specs.declared.DockCall.{DockCall}
use Rattle.arguments.specs.declared.Send.{Send}
use Rattle.arguments.specs.declared.ToAta.{ToAta as Asked}
use Rattle.convert.specs.Convert as convert
use Rattle.convert.specs.Convert.{Outcome, put, buffer_of}
use Rattle.std.proofs.Common.{Result, Ok, Err}
use Rattle.convert.specs.declared.Refusal.TheVariants.{SmallBuffer, Offence}
use Rattle.convert.specs.declared.Refusal.{Refusal}
use Rattle.device.specs.declared.Device.{Device}
use Rattle.paper.specs.Output.{Output, output}
use Rattle.paper.specs.Told.{Told, tells, said}
use Rattle.paper.specs.declared.Written.{Written}
use Rattle.request.specs.declared.Request.{Request}
use Rattle.sender.specs.Sent.{sent}
use Rattle.docking.specs.Dock.{answered, heard_over, heard_in, heard, kind_said, kind_of, told_over, room_of, filled, answered_by, lent_by}
use Rattle.docking.specs.declared.Said.TheVariants.{Sent, ToScsi, ToAta}
use Rattle.docking.specs.declared.Said.{Said}

-- ## An answer, by what the call was found to be

pub at_kind : (call found : DockCall) (s : Said) → call ≡ found → kind_said s ≡ kind_of found → kind_said s ≡ kind_of call
at_kind call found s e so = so ∙ sym (rw e)

module _ (d : Device) (call : DockCall) (source buf x : List ℕ) where
  pub sent-told : (s : Send) (w : Written) → call ≡ calls.Send s → said w.answer (output w.count x) ≡ sent d s.query s.allocation buf
      → heard_over (Sent w) x ≡ told_over d call source buf
  unfolding told_over
  sent-told s w e so = ap (λ (t : Told Output). tells t.number (put t.state)) so ∙ sym (rw e)

  pub scsi_told : (q : Request) (c : Result ℕ Refusal) → call ≡ calls.ToScsi q → convert.heard c x ≡ convert.to_scsi source q buf → heard_over (ToScsi c) x ≡ told_over d call source buf
  unfolding told_over
  scsi_told q c e so = so ∙ sym (rw e)

  pub ata_told : (t : Asked) (c : Result ℕ Refusal) → call ≡ calls.ToAta t → convert.heard c x ≡ convert.to_ata source t.query t.pages.0 buf
      → heard_over (ToAta c) x ≡ told_over d call source buf
  unfolding told_over
  ata_told t c e so = so ∙ sym (rw e)

-- ## Over A5h

pub over_told : (d : Device) (call : DockCall) (source buf x y : List ℕ) (s : Said) → x ≡ replicate (length buf) 0xA5 → heard_over s y ≡ told_over d call source x
    → heard_over s y ≡ told_over d call source (filled (length buf))
unfolding filled
over_told d call source buf x y s is_x so = so ∙ ap (told_over d call source) is_x

-- the buffer has no part in what is said, and is the one that is heard
told_answer : (room : ℕ) (s : Said) (x : List ℕ) → heard_in room s ≡ answered (kind_said s) room (heard_over s x)
told_answer room (Sent w) x = refl
told_answer room (ToScsi (Ok n)) x = refl
told_answer room (ToScsi (Err SmallBuffer)) x = refl
told_answer room (ToScsi (Err (Offence p))) x = refl
told_answer room (ToAta (Ok n)) x = refl
told_answer room (ToAta (Err SmallBuffer)) x = refl
told_answer room (ToAta (Err (Offence p))) x = refl

told_buffer : (s : Said) (x : List ℕ) → buffer_of (heard_over s x).state ≡ x
told_buffer (Sent w) x = refl
told_buffer (ToScsi (Ok n)) x = refl
told_buffer (ToScsi (Err SmallBuffer)) x = refl
told_buffer (ToScsi (Err (Offence p))) x = refl
told_buffer (ToAta (Ok n)) x = refl
told_buffer (ToAta (Err SmallBuffer)) x = refl
told_buffer (ToAta (Err (Offence p))) x = refl

-- over the first n bytes, of which m are lent
pub called : (d : Device) (c : Dock) (source buf : List ℕ) (n : ℕ) → n ≡ min c.length (length buf) → (s : Said) (x : List ℕ) → kind_said s ≡ kind_of c.call
    → (m : ℕ) → heard_over s x ≡ told_over d c.call source (filled m) → m ≡ n
    → (heard (record { said = s; room = n }) ≡ answered_by d c source buf) × (x ++ drop (n - 0) buf ≡ lent_by d c source buf)
unfolding answered_by lent_by
called d c source buf n is_n s x kind m so is_m =
    let told : heard_over s x ≡ told_over d c.call source (filled (room_of c buf)) =
    so ∙ ap (λ (k : ℕ). told_over d c.call source (filled k)) (is_m ∙ is_n) in
    let past : n - 0 ≡ room_of c buf = omega (arith, is_n) in (
      told_answer n s x ∙ (λ i. answered (kind i) (is_n i) (told i)),
      (λ i. sym (told_buffer s x) i ++ drop (past i) buf) ∙ ap (λ (t : Told Outcome). buffer_of t.state ++ drop (room_of c buf) buf) told,
    )
