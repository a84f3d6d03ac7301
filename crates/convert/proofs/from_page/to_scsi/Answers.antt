-- `convert::from_page::to_scsi`: the list is there; the buffer is short, or the data is put.
use Rattle.std.proofs.Common.{arith}
use Rattle.convert.proofs.Outcomes.{page_there, scsi_short, scsi_done}
use Rattle.convert.proofs.from_page.to_scsi.Goals as goal

pub put_turned-requires : goal.put_turned-requires
put_turned-requires c = (
  page_there c.args.page.now c.args.request c.args.buf.now c.offence_of.result c.offence_of.ensures c.in_ok-offence_of.was c.read-h.result c.read-h.ensures,
  omega arith,
)

pub returns-then-buf-size : goal.returns-then-buf-size
returns-then-buf-size c =
    scsi_short c.args.page.now c.args.request c.args.buf.now c.offence_of.result c.offence_of.ensures c.in_ok-offence_of.was c.read-h.result c.read-h.ensures (omega arith)

pub returns : goal.returns
returns c =
    scsi_done c.args.page.now c.args.request c.args.buf.now c.offence_of.result c.offence_of.ensures c.in_ok-offence_of.was c.read-h.result c.read-h.ensures
    (omega arith) c.put_turned.new.buf c.put_turned.ensures
