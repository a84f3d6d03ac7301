-- `dump::put_data`.
use borrow.Author.Rules.{rules}
use borrow.Author.Tests.{not-true, not-false}
use Rattle.writing.proofs.Puts.{none_stored_in, none_ended_in, whole_stored_in, whole_ended_in}
use Rattle.writing.specs.Private.{Puts}
use Rattle.dump.specs.Dump.{data_text}
use Rattle.dump.proofs.Data.{data_puts, enough_for_data}
use Rattle.dump.proofs.put_data.Statement.{statement}
use Rattle.dump.proofs.put_data.Tie as tie

pub put_data_spec : {M : Type 1} → statement M
put_data_spec =
    tie.close
    (tie.spec
    (λ c κs. search rules)
    (λ c. (search (none_stored_in, not-true), search (none_ended_in, not-true)))
    (λ c κs. search rules)
    (λ c κs. search rules)
    (λ c. search rules)
    (λ c. let s = c.before.before.before.before.before.before.before.before.before.args in
    let last = c.before.before.put_lines in
    let text : Puts s.out.now s.at (data_text s.bytes.now) last.new.out last.result = search (data_puts) in
    (search (whole_stored_in, not-false, enough_for_data), search (whole_ended_in, not-false, enough_for_data))))
