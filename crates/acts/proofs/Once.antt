-- No second reply fits the promise of a line's call (specs/Promises): `reply_of` undoes `heard`.
use mathlib.Core.Path.{◌≡◌, refl, sym, ap, ◌∙◌}
use Rattle.docking.proofs.Once.{docked_of, docked_undone}
use Rattle.paper.proofs.Once.{answer_of, answer_number}
use Rattle.acts.specs.Acts.{Saying, nothing, not_acall, no_device, outside, long_now, answered, commanded, cells, reads, walks, reads_scsi, docked, heard, Act}
use Rattle.acts.specs.Promises.{OneAct}
use Rattle.acts.specs.declared.Reply.TheVariants as replies
use Rattle.acts.specs.declared.Reply.{Reply}

abbrev reply_of : Saying → Reply
reply_of nothing = replies.Nothing
reply_of not_acall = replies.NotACall
reply_of no_device = replies.NoDevice
reply_of outside = replies.Outside
reply_of (long_now n) = replies.Length n
reply_of (answered n) = replies.Answer (answer_of n)
reply_of (commanded n room count) = replies.Command (record { answer = answer_of n; room = room; count = count })
reply_of cells = replies.Cells
reply_of (reads q) = replies.Read q
reply_of (walks q) = replies.Next q
reply_of (reads_scsi q) = replies.ReadScsi q
reply_of (docked a) = replies.Dock (docked_of a)

undone : (r : Reply) → reply_of (heard r) ≡ r
undone replies.Nothing = refl
undone replies.NotACall = refl
undone replies.NoDevice = refl
undone replies.Outside = refl
undone (replies.Length n) = refl
undone (replies.Answer a) = ap replies.Answer (answer_number a)
undone (replies.Command l) = λ i. replies.Command (record { answer = answer_number l.answer i; room = l.room; count = l.count })
undone replies.Cells = refl
undone (replies.Read q) = refl
undone (replies.Next q) = refl
undone (replies.ReadScsi q) = refl
undone (replies.Dock d) = ap replies.Dock (docked_undone d)

pub one-act : OneAct
one-act a b e =
    let reply : a.reply ≡ b.reply = sym (undone a.reply) ∙ ap (λ (x : Act). reply_of x.saying) e ∙ undone b.reply in
    λ i. record { bench = (e i).bench; reply = reply i }
