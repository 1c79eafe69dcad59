use Rattle.std.proofs.Common.{◌∙◌, ap, length}
use Rattle.std.specs.Prelude.{unwrap_or}
use Rattle.std.specs.Str.{bytes_eq}
use Rattle.witness_check.proofs.TwistLines.{place_or_count}
use Rattle.witness_check.proofs.twist_lines.curve_number.Goals as goal

pub returns-clause-value : goal.returns-clause-value
returns-clause-value c =
    c.unwrap_or.ensures ∙ (ap (λ found. unwrap_or found (length c.args.curves.now)) c.first_named.ensures ∙ place_or_count (λ curve. bytes_eq c.args.name.now curve.name) c.args.curves.now)
