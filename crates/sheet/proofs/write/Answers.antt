use Rattle.sheet.specs.Sheet.{sheet_of}
use Rattle.sheet.proofs.Sheet.{sheet_puts}
use Rattle.sheet.proofs.Whole.{all-written, all_counts}
use Rattle.writing.specs.Private.{Puts}
use Rattle.sheet.proofs.write.Goals as goal

pub returns-clause-out_after : goal.returns-clause-out_after
returns-clause-out_after c =
    let t = c.args.tally in
    let whole : Puts c.args.out.now 0 (sheet_of c.args.o c.args.bytes.now c.args.header t.whole t.number t.torn) c.put.new.out c.put.result = search (sheet_puts) in
    search (all-written)

pub returns-clause-prefix_len : goal.returns-clause-prefix_len
returns-clause-prefix_len c =
    let t = c.args.tally in
    let whole : Puts c.args.out.now 0 (sheet_of c.args.o c.args.bytes.now c.args.header t.whole t.number t.torn) c.put.new.out c.put.result = search (sheet_puts) in
    search (all_counts)
