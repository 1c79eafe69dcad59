use Rattle.std.proofs.Common.{ap, codes, ◌∙◌, ◌++◌, [], ◌∷◌}
use Rattle.obd_cli.specs.Refused.{refused_line}
use Rattle.obd_cli.specs.Decisions.{refused_with}
use Rattle.obd_cli.proofs.top.too_long.Goals as goal

pub returns : goal.returns
returns c = ap refused_with (c.in_ok-put_refused.ensures ∙ ap (λ text. text ++ refused_line 1 (codes "InputLong") [] (c.args.most ∷ [])) c.new-text.ensures)
