-- `strokes::Row::put_some`.
use borrow.Author.Rules.{rules}
use Rattle.slices.proofs.Lists.{cut_none}
use Rattle.strokes.proofs.Strokes.{row_some}
use Rattle.strokes.proofs.Row.put_some.Statement.{statement}
use Rattle.strokes.proofs.Row.put_some.Tie as tie

pub put_some_spec : {M : Type 1} → statement M
put_some_spec =
    tie.close
    (tie.spec
    (λ c κs. search rules)
    (λ c. search rules)
    (λ c κs. search rules)
    (λ c. search rules)
    (λ c κs. search rules)
    (λ c. search rules)
    (λ c κs. search rules)
    (λ c. search rules)
    (λ c. let four = c.before.before in
    let three = four.before.before.before.before in
    let two = three.before.before.before.before in
    let one = two.before.before.before.before in
    let s = one.before.before.before.before in
    row_some s.args.buf.now s.args.at s.args.self _ _ _ _ one.put_some8.ensures two.put_some8-then-at-buf.ensures three.put_some8-then-at-buf-2.ensures four.put_some8-then-at-buf-3.ensures)
    (λ c. search (cut_none)))
