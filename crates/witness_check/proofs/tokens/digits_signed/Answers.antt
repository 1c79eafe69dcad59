use Rattle.std.proofs.Common.{sym, ◌∙◌, ap, subst}
use Rattle.std.specs.Fmt.{signed_decimal}
use Rattle.std.specs.Str.Parse.{ParsesSigned}
use Rattle.std.proofs.lemmas.Int.{to_z-of_z}
use Rattle.witness_check.proofs.SignedWords.{not_read, other_digits, read_range}
use Rattle.witness_check.proofs.tokens.digits_signed.Goals as goal
use mir.Syntax.{w32}

pub returns-in_default-parse-clause-none : goal.returns-in_default-parse-clause-none
returns-in_default-parse-clause-none c =
    not_read c.args.word.now c.parse.result c.in_default-parse.field-0
    (subst (λ b. ParsesSigned w32 10 b c.parse.result) c.in-Ok.ensures.cases.0 c.parse.ensures.value.0) c.in_default-parse.is

pub returns-else-eq-clause-none : goal.returns-else-eq-clause-none
returns-else-eq-clause-none c =
    let number = c.in-Ok-parse.number in
    let range = read_range c.in-Ok.text.now c.parse.result number c.parse.ensures.value.0 c.in-Ok-parse.is in
    other_digits c.args.word.now c.as_bytes.result.now c.parse.result number
    (subst (λ b. ParsesSigned w32 10 b c.parse.result) c.in-Ok.ensures.cases.0 c.parse.ensures.value.0) c.in-Ok-parse.is
    (c.as_bytes.ensures.value ∙ (c.format.ensures.text ∙ ap signed_decimal (to_z-of_z w32 number range))) (sym c.eq.ensures ∙ c.if-eq.false)
