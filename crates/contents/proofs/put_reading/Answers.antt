-- `contents::put_reading`.
use Rattle.writing.proofs.Puts.{whole_stored_in, whole_ended_in}
use Rattle.writing.specs.Private.{Puts}
use Rattle.contents.specs.Contents.{reading_of}
use Rattle.contents.proofs.Contents.{length_reading, reading_puts}
use Rattle.contents.proofs.put_reading.Goals as goal

pub returns-clause-out_after : goal.returns-clause-out_after
returns-clause-out_after c =
    let text : Puts c.args.out.now c.args.at (reading_of c.args.page.now c.args.request) c.put_judged.new.out c.put_judged.result = search (reading_puts) in
    search (whole_stored_in, length_reading)

pub returns-clause-value : goal.returns-clause-value
returns-clause-value c =
    let text : Puts c.args.out.now c.args.at (reading_of c.args.page.now c.args.request) c.put_judged.new.out c.put_judged.result = search (reading_puts) in
    search (whole_ended_in, length_reading)
