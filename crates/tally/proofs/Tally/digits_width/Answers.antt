use Rattle.tally.proofs.Line.{digits-fit}
use Rattle.tally.proofs.Tally.digits_width.Goals as goal

pub overflow_add-result : goal.overflow_add-result
overflow_add-result c = record { fits = digits-fit c.args.self.whole c.args.self.number c.width.result c.width-2.result c.width.ensures c.width-2.ensures }
