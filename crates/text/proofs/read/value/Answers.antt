-- A digit lies from 48 to 57, and what is written so far is below 100,000.
use Rattle.std.proofs.Common.{arith}
use Rattle.text.specs.laws.Reading.{numeral_is, value_so_far}
use Rattle.text.proofs.read.value.Goals as goal

pub overflow_mul-v : goal.overflow_mul-v
overflow_mul-v c = omega (arith, value_so_far c.args.field.now c.requires c.loop-digit.digit-index (omega arith))

pub overflow_sub-digit : goal.overflow_sub-digit
overflow_sub-digit c = omega (arith, (numeral_is c.args.field.now c.requires).digit c.loop-digit.digit-index)

pub overflow_add-v : goal.overflow_add-v
overflow_add-v c = omega (arith, value_so_far c.args.field.now c.requires c.loop-digit.digit-index (omega arith), (numeral_is c.args.field.now c.requires).digit c.loop-digit.digit-index)
