-- docs/BENCH.md: what each call of a script leaves on the bench, of the kept page and of the lent buffer, and what it says.
use Rattle.std.specs.Prelude.{ℕ, Bool, true, false, cond, not, ◌&&◌, ◌||◌, List, eqb, leb, take}
use Rattle.acts.specs.declared.Acted.{Acted}
use Rattle.acts.specs.declared.Reply.TheVariants as replies
use Rattle.acts.specs.declared.Reply.{Reply}
use Rattle.arguments.specs.declared.Command.{Command}
use Rattle.arguments.specs.declared.Dock.{Dock}
use Rattle.arguments.specs.declared.DockCall.TheVariants as docks
use Rattle.arguments.specs.declared.DockCall.{DockCall}
use Rattle.arguments.specs.declared.Line.TheVariants as lines
use Rattle.arguments.specs.declared.Line.{Line}
use Rattle.arguments.specs.declared.PageCall.TheVariants as calls
use Rattle.arguments.specs.declared.PageCall.{PageCall}
use Rattle.arguments.specs.declared.Poke.{Poke}
use Rattle.device.specs.Machine.{told}
use Rattle.device.specs.declared.Device.{Device}
use Rattle.docking.specs.Dock as dock
use Rattle.events.specs.Events.{bare_event, grade_event}
use Rattle.front.specs.Front as front
use Rattle.kept.specs.Kept as kept
use Rattle.making.specs.Making.{made_of}
use Rattle.paper.specs.Answers.{number_of}
use Rattle.paper.specs.Told.{Told}
use Rattle.query.specs.declared.Query.{Query}
use Rattle.request.specs.declared.Request.{Request}
use Rattle.slices.specs.Lists.{stored}
use Rattle.workbench.specs.Changes as changes
use Rattle.workbench.specs.Empty.{no_offer}
use Rattle.workbench.specs.declared.Bench.{Bench}

-- ## What is said

pub data Saying : Type 0 where
  nothing : Saying
  not_acall : Saying
  no_device : Saying
  outside : Saying
  -- how long the kept page is
  long_now : ℕ → Saying
  -- an answer's number
  answered : ℕ → Saying
  -- that of the front call, how many bytes were lent, and how many of these it wrote
  commanded : ℕ → ℕ → ℕ → Saying
  cells : Saying
  reads : Request → Saying
  walks : Request → Saying
  reads_scsi : Query → Saying
  -- that of a call for a SCSI host
  docked : dock.Answered → Saying

abbrev pub heard : Reply → Saying
heard replies.Nothing = nothing
heard replies.NotACall = not_acall
heard replies.NoDevice = no_device
heard replies.Outside = outside
heard (replies.Length n) = long_now n
heard (replies.Answer a) = answered (number_of a)
heard (replies.Command l) = commanded (number_of l.answer) l.room l.count
heard replies.Cells = cells
heard (replies.Read q) = reads q
heard (replies.Next q) = walks q
heard (replies.ReadScsi q) = reads_scsi q
heard (replies.Dock d) = docked (dock.heard d)

-- the bench after a line, and what it says
pub record Act : Type 0 where
  pub bench : Bench
  pub saying : Saying

abbrev pub act : Bench → Saying → Act
act b s = record { bench = b; saying = s }

abbrev pub acted : Acted → Act
acted a = act a.bench (heard a.reply)

-- ## The device

-- "`step`, `error`, `cut`, `comreset`, `hardreset`, `softreset`, `grade ID HEALTH`"
abbrev pub after_event : Bench → Told Device → Act
after_event b t = act (changes.with_device b t.state) (answered t.number)

-- "`make LIMIT` offers the list and empties it: a new device (0), or 8 and the device that was there stays"
abbrev pub after_offer : Bench → Told Device → Act
after_offer b t = act (record { offered = no_offer; made = b.made || eqb t.number 0; device = t.state; kept = b.kept }) (answered t.number)

-- ## The front call

-- "the page (its first 512p bytes) follows"
abbrev pub written : Bench → Command → List ℕ → List ℕ
written b c lent = take (front.left_after b.device c lent).count (front.lent_after b.device c lent)

-- "and is kept"
abbrev pub kept_page : Bench → Command → List ℕ → List ℕ → List ℕ
kept_page b c page lent = stored page 0 (written b c lent)

abbrev pub after_command : Bench → Command → List ℕ → List ℕ → Act
after_command b c page lent =
    let f = front.left_after b.device c lent in
    act (changes.with_kept (changes.with_device b f.told.state) (kept.kept_with b.kept (written b c lent) page)) (commanded f.told.number f.room f.count)

-- ## The kept page

-- "changes a byte and answers nothing, or `outside` past its end"
abbrev pub poke_saying : Poke → ℕ → Saying
poke_saying p before = cond (leb before p.place) outside nothing

abbrev pub page_saying : PageCall → ℕ → ℕ → Saying
page_saying (calls.Length n) before after = long_now after
page_saying (calls.Poke p) before after = poke_saying p before
page_saying (calls.Read q) before after = reads q
page_saying (calls.Next q) before after = walks q
page_saying (calls.ReadScsi q) before after = reads_scsi q

abbrev pub after_page : Bench → PageCall → List ℕ → Act
after_page b c page = let n = kept.kept_after c b.kept page in act (changes.with_kept b n) (page_saying c b.kept n)

-- ## The calls for a SCSI host: of the device, or of the kept page

abbrev pub dock_answer : Bench → Dock → List ℕ → List ℕ → dock.Answered
dock_answer b c page lent = dock.answered_by b.device c (take b.kept page) lent

abbrev pub dock_lent : Bench → Dock → List ℕ → List ℕ → List ℕ
dock_lent b c page lent = dock.lent_by b.device c (take b.kept page) lent

-- "these bytes are kept"; "A refusal keeps what was kept"
abbrev pub dock_bytes : Bench → Dock → List ℕ → List ℕ → List ℕ
dock_bytes b c page lent = take (dock_answer b c page lent).count (dock_lent b c page lent)

abbrev pub dock_page : Bench → Dock → List ℕ → List ℕ → List ℕ
dock_page b c page lent = kept.page_data (dock_answer b c page lent).number (dock_bytes b c page lent) page

abbrev pub after_dock : Bench → Dock → List ℕ → List ℕ → Act
after_dock b c page lent =
    let a = dock_answer b c page lent in act (changes.with_kept b (kept.kept_data a.number b.kept (dock_bytes b c page lent) page)) (docked a)

-- ## A line

abbrev pub act_of : Bench → Line → List ℕ → List ℕ → Act
act_of b lines.Passed page lent = act b nothing
act_of b lines.NotACall page lent = act b not_acall
act_of b (lines.Element e) page lent = act (changes.with_record b e) nothing
act_of b (lines.Make limit) page lent = after_offer b (made_of b.device (changes.offering b limit))
act_of b (lines.Command c) page lent = after_command b c page lent
act_of b (lines.Bare e) page lent = after_event b (told b.device (bare_event e))
act_of b (lines.Grade g) page lent = after_event b (told b.device (grade_event g))
act_of b lines.Cells page lent = act b cells
act_of b (lines.Page c) page lent = after_page b c page
act_of b (lines.Dock c) page lent = after_dock b c page lent

-- what then stands of the kept page
abbrev pub page_of : Bench → Line → List ℕ → List ℕ → List ℕ
page_of b lines.Passed page lent = page
page_of b lines.NotACall page lent = page
page_of b (lines.Element e) page lent = page
page_of b (lines.Make limit) page lent = page
page_of b (lines.Command c) page lent = kept_page b c page lent
page_of b (lines.Bare e) page lent = page
page_of b (lines.Grade g) page lent = page
page_of b lines.Cells page lent = page
page_of b (lines.Page c) page lent = kept.page_after c b.kept page
page_of b (lines.Dock c) page lent = dock_page b c page lent

-- and in the buffer that is lent to a call
abbrev pub lent_of : Bench → Line → List ℕ → List ℕ → List ℕ
lent_of b lines.Passed page lent = lent
lent_of b lines.NotACall page lent = lent
lent_of b (lines.Element e) page lent = lent
lent_of b (lines.Make limit) page lent = lent
lent_of b (lines.Command c) page lent = front.lent_after b.device c lent
lent_of b (lines.Bare e) page lent = lent
lent_of b (lines.Grade g) page lent = lent
lent_of b lines.Cells page lent = lent
lent_of b (lines.Page c) page lent = lent
lent_of b (lines.Dock c) page lent = dock_lent b c page lent

-- ## "Before the first device"

-- `scsi` alone: "`scsiread`, `toscsi` and `toata` need no device"
abbrev pub asks_device : DockCall → Bool
asks_device (docks.Send s) = true
asks_device (docks.ToScsi q) = false
asks_device (docks.ToAta t) = false

-- "`command`, `scsi`, `step`, `error`, `cut`, the resets, `grade` and `cells` answer `no device`"
abbrev pub needs_device : Line → Bool
needs_device lines.Passed = false
needs_device lines.NotACall = false
needs_device (lines.Element e) = false
needs_device (lines.Make limit) = false
needs_device (lines.Command c) = true
needs_device (lines.Bare e) = true
needs_device (lines.Grade g) = true
needs_device lines.Cells = true
needs_device (lines.Page c) = false
needs_device (lines.Dock c) = asks_device c.call

abbrev pub lacks_device : Bool → Line → Bool
lacks_device made l = not made && needs_device l

unfoldable pub acted_on : Bench → Line → List ℕ → List ℕ → Act
acted_on b l page lent = cond (lacks_device b.made l) (act b no_device) (act_of b l page lent)

unfoldable pub page_on : Bench → Line → List ℕ → List ℕ → List ℕ
page_on b l page lent = cond (lacks_device b.made l) page (page_of b l page lent)

unfoldable pub lent_on : Bench → Line → List ℕ → List ℕ → List ℕ
lent_on b l page lent = cond (lacks_device b.made l) lent (lent_of b l page lent)
