-- `convert::from_data::to_ata`: the list is there; the buffer is short, or the pages are put.
use Rattle.std.proofs.Common.{arith}
use Rattle.convert.proofs.Outcomes.{data_there, list_fits, ata_short, ata_done}
use Rattle.convert.proofs.from_data.to_ata.Goals as goal

pub put_turned-requires : goal.put_turned-requires
put_turned-requires c = (
  data_there c.args.bytes.now c.args.query c.args.pages.0 c.args.buf.now c.offence_of.result c.offence_of.ensures c.in_ok-offence_of.was (omega arith) c.read-h.result c.read-h.ensures,
  list_fits c.args.bytes.now c.args.query c.args.pages.0 c.args.buf.now c.offence_of.result c.offence_of.ensures c.in_ok-offence_of.was (omega arith) c.read-h.result c.read-h.ensures,
)

pub returns-then-buf-size : goal.returns-then-buf-size
returns-then-buf-size c =
    ata_short c.args.bytes.now c.args.query c.args.pages.0 c.args.buf.now c.offence_of.result c.offence_of.ensures c.in_ok-offence_of.was (omega arith)

pub returns : goal.returns
returns c =
    ata_done c.args.bytes.now c.args.query c.args.pages.0 c.args.buf.now c.offence_of.result c.offence_of.ensures c.in_ok-offence_of.was (omega arith)
    c.read-h.result c.read-h.ensures c.put_turned.new.buf c.clear.new.buf c.put_turned.ensures c.clear.ensures
