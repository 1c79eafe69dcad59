-- The certificate of an open book is valid.
use Rattle.std.proofs.Common.{◌≡◌, ◌++◌, true, ap, refl, sym, subst}
use Rattle.std.specs.Prelude.{is_ok}
use Rattle.witness_check.specs.Belonging.{BelongsTo}
use Rattle.witness_check.specs.Checked.{answer_of, checked, keeps_all}
use Rattle.witness_check.specs.OpenBook.{IsOpenBook, OpenBook}
use Rattle.witness_check.specs.Rules.{book_rules, drawing_rules, outcome_rules}
use Rattle.witness_check.specs.Text.{certificate_text}
use Rattle.witness_check.specs.declared.checked.Checked.TheVariants.{Valid as valid}
use Rattle.witness_check.specs.declared.certificate.Certificate.{Certificate}
use Rattle.witness_check.proofs.BelongsFits.{belonging_fits}
use Rattle.witness_check.proofs.BookLines.{book_lines}
use Rattle.witness_check.proofs.CheckLaws.{valid_checked}
use Rattle.witness_check.proofs.DrawingLines.{accepted_is, drawing_lines, own_book_is, words_written}
use Rattle.witness_check.proofs.Kept.{keep_append}
use Rattle.witness_check.proofs.OutcomeLines.{outcome_lines}

-- it keeps all rules
pub belonging_keeps : (book : OpenBook) (c : Certificate) → IsOpenBook book → BelongsTo book c → keeps_all c ≡ true
belonging_keeps book c ok b =
    keep_append (book_rules c) (drawing_rules c ++ outcome_rules c)
    (book_lines c (subst IsOpenBook (sym (own_book_is book c b)) ok) (ap is_ok (accepted_is book c b)) (ap is_ok (words_written book c b)))
    (keep_append (drawing_rules c) (outcome_rules c) (drawing_lines book c b) (outcome_lines book c b))

-- and its text is checked as valid, with the answer of its verdict
pub belonging_valid : (book : OpenBook) (c : Certificate) → IsOpenBook book → BelongsTo book c → checked (certificate_text c) ≡ valid (answer_of c.verdict)
belonging_valid book c ok b = valid_checked (certificate_text c) (answer_of c.verdict)
    (record { certificate = c; fitting = belonging_fits book c ok b; text_is = refl; kept = belonging_keeps book c ok b; answer_is = refl })
