-- `heading::put_header`.
use Rattle.rows.specs.Rows.{header_line}
use Rattle.writing.proofs.Puts.{whole_stored, whole_ended}
use Rattle.writing.specs.Private.{Puts}
use Rattle.heading.proofs.Heading.{header_puts}
use Rattle.heading.proofs.put_header.Goals as goal

pub returns-clause-out_after : goal.returns-clause-out_after
returns-clause-out_after c =
    let line : Puts c.args.out.now c.args.at (header_line c.args.h) c.put_limits.new.out c.put_limits.result = search (header_puts) in
    search (whole_stored)

pub returns-clause-value : goal.returns-clause-value
returns-clause-value c =
    let line : Puts c.args.out.now c.args.at (header_line c.args.h) c.put_limits.new.out c.put_limits.result = search (header_puts) in
    search (whole_ended)
