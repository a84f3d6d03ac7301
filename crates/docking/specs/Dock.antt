-- Request 2026-03, "Bench language, so that every request can be tried": `scsi`, `toscsi` and `toata`.
use Rattle.std.specs.Prelude.{ℕ, min, List, [], ◌++◌, length, drop, replicate}
use Rattle.arguments.specs.declared.Dock.{Dock}
use Rattle.arguments.specs.declared.DockCall.TheVariants as calls
use Rattle.arguments.specs.declared.DockCall.{DockCall}
use Rattle.convert.specs.Convert as convert
use Rattle.convert.specs.Convert.{Outcome, put, place, buffer_of, to_scsi, to_ata}
use Rattle.device.specs.declared.Device.{Device}
use Rattle.paper.specs.Answers.{number_of}
use Rattle.paper.specs.Output.{output}
use Rattle.paper.specs.Told.{Told, tells}
use Rattle.sender.specs.Sent.{sent}
use Rattle.docking.specs.declared.Docked.{Docked}
use Rattle.docking.specs.declared.Said.TheVariants as said
use Rattle.docking.specs.declared.Said.{Said}

-- ## What is said

-- the call that was made
pub data Kind : Type 0 where
  scsi : Kind
  toscsi : Kind
  toata : Kind

-- the number, how many bytes were written, the place that goes with 9, and how many bytes were lent
pub record Answered : Type 0 where
  pub kind : Kind
  pub number : ℕ
  pub count : ℕ
  pub place : ℕ
  pub room : ℕ

abbrev pub kind_of : DockCall → Kind
kind_of (calls.Send s) = scsi
kind_of (calls.ToScsi q) = toscsi
kind_of (calls.ToAta t) = toata

abbrev pub count_in : Outcome → ℕ
count_in (put out) = out.count
count_in (place p buf) = 0

abbrev pub place_in : Outcome → ℕ
place_in (put out) = 0
place_in (place p buf) = p

abbrev pub answered : Kind → ℕ → Told Outcome → Answered
answered k room t = record { kind = k; number = t.number; count = count_in t.state; place = place_in t.state; room = room }

-- ## As the code says it

abbrev pub kind_said : Said → Kind
kind_said (said.Sent w) = scsi
kind_said (said.ToScsi c) = toscsi
kind_said (said.ToAta c) = toata

-- as the writer and the conversions promise it, with a buffer
abbrev pub heard_over : Said → List ℕ → Told Outcome
heard_over (said.Sent w) buf = tells (number_of w.answer) (put (output w.count buf))
heard_over (said.ToScsi c) buf = convert.heard c buf
heard_over (said.ToAta c) buf = convert.heard c buf

-- which has no part in what is said
abbrev pub number_said : Said → ℕ
number_said s = (heard_over s []).number

abbrev pub count_said : Said → ℕ
count_said s = count_in (heard_over s []).state

abbrev pub place_said : Said → ℕ
place_said s = place_in (heard_over s []).state

abbrev pub heard_in : ℕ → Said → Answered
heard_in room s = answered (kind_said s) room (heard_over s [])

abbrev pub heard : Docked → Answered
heard d = heard_in d.room d.said

-- ## The calls

-- of the device or of the kept page, over a lent buffer
unfoldable pub told_over : Device → DockCall → List ℕ → List ℕ → Told Outcome
told_over d (calls.Send s) source buf = let t = sent d s.query s.allocation buf in tells t.number (put t.state)
told_over d (calls.ToScsi q) source buf = to_scsi source q buf
told_over d (calls.ToAta t) source buf = to_ata source t.query t.pages.0 buf

-- "a lent buffer of LENGTH bytes", as far as there are bytes
abbrev pub room_of : Dock → List ℕ → ℕ
room_of c buf = min c.length (length buf)

-- "of A5h"
unfoldable pub filled : ℕ → List ℕ
filled n = replicate n 0xA5

abbrev pub told_by : Device → Dock → List ℕ → List ℕ → Told Outcome
told_by d c source buf = told_over d c.call source (filled (room_of c buf))

unfoldable pub answered_by : Device → Dock → List ℕ → List ℕ → Answered
answered_by d c source buf = answered (kind_of c.call) (room_of c buf) (told_by d c source buf)

unfoldable pub lent_by : Device → Dock → List ℕ → List ℕ → List ℕ
lent_by d c source buf = buffer_of (told_by d c source buf).state ++ drop (room_of c buf) buf
