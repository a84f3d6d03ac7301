-- `recorder_command`: the page of 12h is shown of the image that the command leaves.
use Rattle.image.specs.Reading.{security_of}
use Rattle.recorder.proofs.Front.{front_status}
use Rattle.recorder.proofs.recorder_command.Goals as goal

pub returns-then-code-eq18 : goal.returns-then-code-eq18
returns-then-code-eq18 c =
    front_status c.args.d.now c.command-r.result.image (security_of c.args.security)
    (record { code = c.args.code; feature = c.args.feature; count = c.args.count; lba = c.args.lba }) c.args.buf.now
    c.command-r.result.answer c.command-r.ensures c.if-code-eq18.true _ c.from.ensures c.recorder_show.result c.recorder_show.new.buf c.recorder_show.ensures
