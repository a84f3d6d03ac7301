-- `sender::send`: a law for each way out.
use borrow.Author.Rules.{rules}
use Rattle.sender.proofs.Sending.{sent_due, sent_small, sent_done}
use Rattle.sender.proofs.send.Statement.{statement}
use Rattle.sender.proofs.send.Tie as tie

pub send_spec : {M : Type 1} → statement M
send_spec =
    tie.close
    (tie.spec
    (λ c κs. search rules)
    (λ c. search (sent_due))
    (λ c κs. search rules)
    (λ c κs. search rules)
    (λ c. search rules)
    (λ c. search rules)
    (λ c κs. search rules)
    (λ c. search (sent_small))
    (λ c. search rules)
    (λ c. search rules)
    (λ c. search rules)
    (λ c κs. search rules)
    (λ c. search rules)
    (λ c. let sized = c.before.before.before.before.before in
    let counted = sized.before in
    let judged = counted.before.before.before in
    let s = judged.before.before in
    sent_done s.args.d s.args.query s.args.allocation s.args.buf.now _ judged.is_refused.ensures (search rules) _ counted.before.for_pages-request.ensures _
    counted.number_asked-number.ensures.0 _ sized.smaller-size.ensures c.before.before.before.before.if-buf-size.false _ c.before.before.fill_part.ensures))
