-- No second answer fits the promise of a call (specs/Promises): `docked_of` undoes `heard`.
use Prim.Native.Nat.{ℕ}
use mathlib.Core.Bool.{cond}
use mathlib.Core.Path.{◌≡◌, refl, sym, ap, ◌∙◌}
use lib.Dec.{eqb}
use Rattle.std.proofs.Common.{Result, Ok, Err}
use Rattle.convert.specs.declared.Refusal.TheVariants.{SmallBuffer, Offence}
use Rattle.convert.specs.declared.Refusal.{Refusal}
use Rattle.paper.proofs.Once.{answer_of, answer_number}
use Rattle.docking.specs.Dock.{Kind, scsi, toscsi, toata, Answered, heard_in, heard}
use Rattle.docking.specs.Promises.{OneDocked}
use Rattle.docking.specs.declared.Docked.{Docked}
use Rattle.docking.specs.declared.Said.TheVariants.{Sent, ToScsi, ToAta}
use Rattle.docking.specs.declared.Said.{Said}

abbrev converted_of : Answered → Result ℕ Refusal
converted_of a = cond (eqb a.number 0) (Ok a.count) (Err (cond (eqb a.number 7) SmallBuffer (Offence (record { 0 = a.place }))))

abbrev said_as : Kind → Answered → Said
said_as scsi a = Sent (record { answer = answer_of a.number; count = a.count })
said_as toscsi a = ToScsi (converted_of a)
said_as toata a = ToAta (converted_of a)

abbrev pub docked_of : Answered → Docked
docked_of a = record { said = said_as a.kind a; room = a.room }

undone : (s : Said) (room : ℕ) → ◌≡◌ {A = Docked} (docked_of (heard_in room s)) (record { said = s; room = room })
undone (Sent w) room = λ i. record { said = Sent (record { answer = answer_number w.answer i; count = w.count }); room = room }
undone (ToScsi (Ok n)) room = refl
undone (ToScsi (Err SmallBuffer)) room = refl
undone (ToScsi (Err (Offence p))) room = refl
undone (ToAta (Ok n)) room = refl
undone (ToAta (Err SmallBuffer)) room = refl
undone (ToAta (Err (Offence p))) room = refl

pub docked_undone : (d : Docked) → docked_of (heard d) ≡ d
docked_undone d = undone d.said d.room

pub one_docked : OneDocked
one_docked a b e = sym (docked_undone a) ∙ ap docked_of e ∙ docked_undone b
