use Rattle.witness_check.proofs.NumberWords.{number_told}
use Rattle.witness_check.proofs.tokens.number_word.Goals as goal

pub returns-clause-value : goal.returns-clause-value
returns-clause-value c = number_told c.args.word.now c.digits_number.result c.digits_number.ensures.fits c.digits_number.ensures.some c.digits_number.ensures.none
