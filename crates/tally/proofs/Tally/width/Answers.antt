use Rattle.std.proofs.Common.{◌≤◌, rules}
use Rattle.tally.proofs.Line.{digits_few, cut_wide}
use Rattle.tally.proofs.Tally.width.Goals as goal

pub overflow_add-result : goal.overflow_add-result
overflow_add-result c =
    let few : c.digits_width.result ≤ 40 = digits_few c.args.self.whole c.args.self.number c.digits_width.result c.digits_width.ensures in search rules

pub overflow_add-result-then-self-2 : goal.overflow_add-result-then-self-2
overflow_add-result-then-self-2 c =
    let count = c.digits_width-then-self-2 in
    let few : count.result ≤ 40 = digits_few c.args.self.whole c.args.self.number count.result count.ensures in search rules

pub returns-then-self-2 : goal.returns-then-self-2
returns-then-self-2 c =
    let count = c.digits_width-then-self-2 in
    cut_wide c.args.self.whole c.args.self.number c.args.self.torn count.result count.ensures c.if-self.false c.if-self-2.true
