-- `contents::put_scsi_reading`.
use Rattle.writing.proofs.Puts.{whole_stored_in, whole_ended_in}
use Rattle.writing.specs.Private.{Puts}
use Rattle.contents.specs.DockContents.{scsi_reading_of}
use Rattle.contents.proofs.DockContents.{data_puts, enough_for_data}
use Rattle.contents.proofs.dock.put_scsi_reading.Goals as goal

pub returns-clause-out_after : goal.returns-clause-out_after
returns-clause-out_after c =
    let text : Puts c.args.out.now c.args.at (scsi_reading_of c.args.bytes.now c.args.query) c.put_judged.new.out c.put_judged.result = search (data_puts) in
    search (whole_stored_in, enough_for_data)

pub returns-clause-value : goal.returns-clause-value
returns-clause-value c =
    let text : Puts c.args.out.now c.args.at (scsi_reading_of c.args.bytes.now c.args.query) c.put_judged.new.out c.put_judged.result = search (data_puts) in
    search (whole_ended_in, enough_for_data)
