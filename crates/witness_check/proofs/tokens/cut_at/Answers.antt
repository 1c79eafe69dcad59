use Rattle.std.proofs.Common.{sym, ◌∙◌}
use Rattle.witness_check.proofs.LineWords.{cut_found, cut_none, found_none}
use Rattle.witness_check.proofs.tokens.cut_at.Goals as goal

pub returns-in_err-place : goal.returns-in_err-place
returns-in_err-place c = found_none _ c.from_residual.result c.from_residual.ensures (cut_none c.args.mark c.args.word.now (sym c.place_of.ensures ∙ c.in_err-place.was))

pub returns : goal.returns
returns c = cut_found c.args.mark c.args.word.now c.in_ok-place.place (sym c.place_of.ensures ∙ c.in_ok-place.was)
