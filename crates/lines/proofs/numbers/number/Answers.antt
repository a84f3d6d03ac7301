-- `lines::numbers::number`: each way out has its law.
use Rattle.std.proofs.Common.{rules, arith, inl, inr, get_or}
use Rattle.lines.proofs.Hexadecimal.{length_unfit, value_small, digit_is, number_none, number_above, number_is}
use Rattle.lines.proofs.numbers.number.Goals as goal
use Rattle.lines.proofs.numbers.number.Goals.{then-is_empty-via-then-is_empty, then-is_empty-via-else-is_empty+then-word-gt16}

pub returns-then-is_empty : goal.returns-then-is_empty
returns-then-is_empty c = length_unfit _ _ (elim c.then-is_empty.branch [ then-is_empty-via-then-is_empty w ↦ inl (search rules) | then-is_empty-via-else-is_empty+then-word-gt16 w ↦ inr (search rules) ])

pub overflow_mul-value : goal.overflow_mul-value
overflow_mul-value c = omega (arith, value_small c.args.most c.args.word.now c.loop-c.value c.loop-c.c-index c.loop-c.invariant.0 c.loop-c.invariant.1 (search rules))

pub overflow_add-value : goal.overflow_add-value
overflow_add-value c =
    omega (
      arith,
      value_small c.args.most c.args.word.now c.loop-c.value c.loop-c.c-index c.loop-c.invariant.0 c.loop-c.invariant.1 (search rules),
      (digit_is (get_or c.args.word.now c.loop-c.c-index 0) c.in_ok-value.field-0 c.in_ok-value.ensures).1,
    )

pub returns-in_err-value : goal.returns-in_err-value
returns-in_err-value c = search (rules, number_none)

pub returns-then-most-value : goal.returns-then-most-value
returns-then-most-value c = search (rules, number_above)

pub returns : goal.returns
returns c = search (rules, number_is)
