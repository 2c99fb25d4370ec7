-- `word::mul` is the product of words.
use Rattle.std.proofs.Common.{rules}
use Rattle.word.proofs.Halves.{half_product_fits, product_is}
use Rattle.word.proofs.mul.Goals as goal

pub overflow_mul-cross : goal.overflow_mul-cross
overflow_mul-cross c = half_product_fits (search rules) (search rules)

pub overflow_mul-cross-2 : goal.overflow_mul-cross-2
overflow_mul-cross-2 c = half_product_fits (search rules) (search rules)

pub overflow_mul-result : goal.overflow_mul-result
overflow_mul-result c = half_product_fits (search rules) (search rules)

pub returns : goal.returns
returns c = cc (product_is c.args.a c.args.b)
