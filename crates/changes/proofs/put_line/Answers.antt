-- `changes::put_line`.
use Rattle.writing.proofs.Puts.{whole_stored, whole_ended}
use Rattle.writing.specs.Private.{Puts}
use Rattle.changes.specs.Changes.{line_of}
use Rattle.changes.proofs.Changes.{line_puts}
use Rattle.changes.proofs.put_line.Goals as goal

pub returns-clause-out_after : goal.returns-clause-out_after
returns-clause-out_after c =
    let line : Puts c.args.out.now c.args.at (line_of c.args.older.now c.args.newer.now c.args.line) c.word.new.out c.word.result = search (line_puts) in
    search (whole_stored)

pub returns-clause-value : goal.returns-clause-value
returns-clause-value c =
    let line : Puts c.args.out.now c.args.at (line_of c.args.older.now c.args.newer.now c.args.line) c.word.new.out c.word.result = search (line_puts) in
    search (whole_ended)
