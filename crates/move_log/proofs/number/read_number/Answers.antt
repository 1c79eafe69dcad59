use Rattle.std.proofs.Common.{sym, ◌∙◌, decimal}
use Rattle.move_log.proofs.Numbers.{at_none, before_end, cut_at, no_end}
use Rattle.move_log.proofs.number.read_number.Goals as goal

pub returns-in_err-place-clause-none : goal.returns-in_err-place-clause-none
returns-in_err-place-clause-none c =
    at_none c.from_residual.result c.from_residual.ensures
    (λ n rest fits. no_end c.args.end n c.args.text.now rest c.requires fits (sym c.place_of.ensures ∙ c.in_err-place.was))

pub returns-in_err-number-clause-none : goal.returns-in_err-number-clause-none
returns-in_err-number-clause-none c =
    at_none c.from_residual-in_err-number.result c.from_residual-in_err-number.ensures
    (λ n rest fits is. c.in_err-number.ensures.none n fits
    (before_end c.args.end n c.in_ok-place.place c.args.text.now rest c.requires fits (sym c.place_of.ensures ∙ c.in_ok-place.was) is))

pub returns-clause-some : goal.returns-clause-some
returns-clause-some c =
    cut_at c.args.end c.in_ok-place.place c.args.text.now (decimal c.in_ok-number.number) (sym c.place_of.ensures ∙ c.in_ok-place.was) c.in_ok-number.ensures.some
