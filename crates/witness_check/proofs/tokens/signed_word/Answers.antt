use Rattle.witness_check.proofs.SignedWords.{signed_told}
use Rattle.witness_check.proofs.tokens.signed_word.Goals as goal

pub returns : goal.returns
returns c = signed_told c.args.word.now c.digits_signed.result c.digits_signed.ensures.fits c.digits_signed.ensures.some c.digits_signed.ensures.none
