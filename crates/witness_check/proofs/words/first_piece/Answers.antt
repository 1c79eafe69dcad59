use Rattle.std.proofs.Common.{sym, ◌∙◌, arith}
use Rattle.std.proofs.lemmas.Bool.{eqb-false}
use Rattle.witness_check.proofs.LineWords.{lone_word}
use Rattle.witness_check.proofs.words.first_piece.Goals as goal

pub returns-in_default : goal.returns-in_default
returns-in_default c =
    lone_word c.args.bytes.now (sym c.place_of_blank.ensures ∙ c.in_default.is)
    (let some = eqb-false _ _ (sym c.is_empty.ensures ∙ c.if-is_empty.false) in omega (arith, some))
