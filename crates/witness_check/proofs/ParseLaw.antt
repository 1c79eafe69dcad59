-- What the lines after the first one say of the whole text.
use Rattle.std.proofs.Common.{◌≡◌, ℕ, suc, ◌+◌, true, List, [], ◌∷◌, length, sym, ◌∙◌, ap, subst, arith}
use Rattle.std.specs.Prelude.{Result, Ok, Err, IfErr, IsErrAnd}
use Rattle.witness_check.specs.declared.certificate.Certificate.{Certificate}
use Rattle.witness_check.specs.declared.fault.Refusal.{Refusal}
use Rattle.witness_check.specs.declared.fault.Refusal.TheVariants.{Bad as badly, NoMemory as no_memory}
use Rattle.witness_check.specs.declared.parsing.ParseRefusal.{ParseRefusal}
use Rattle.witness_check.specs.declared.parsing.ParseRefusal.TheVariants.{Form as form}
use Rattle.witness_check.specs.Forms.{Begun, after_first, begun_as, broken, one, read_both, read_one, whole}
use Rattle.witness_check.specs.Grammar.{BreaksAfter, certificate_lines, certificate_of, fits, parsed, said, says}
use Rattle.witness_check.specs.Lines.{version_line}
use Rattle.witness_check.specs.Parsing.{parse_refusal}
use Rattle.witness_check.specs.Passing.{EndsAt, EndsEarly, Lines, breaks as broken_off, follows}
use Rattle.witness_check.specs.Splitting.{lines_of}
use Rattle.witness_check.specs.Stages.{PolygonsOn, polygons_on}
use Rattle.witness_check.specs.Text.{certificate_text}
use Rattle.witness_check.proofs.TextLaws.{breaks_after, parsed_printed}

-- the text after the line of the version
pub after_version : (text : List ℕ) (left : List (List ℕ)) (b : Begun PolygonsOn) → read_one version_line (lines_of text) ≡ whole 1 left → polygons_on.read left ≡ b
    → parsed text ≡ said (begun_as certificate_of (after_first 1 1 b))
after_version text left b h k =
    ap (λ r. said (begun_as certificate_of (read_both (one version_line) (λ version. polygons_on) r))) h ∙ ap (λ r. said (begun_as certificate_of (after_first 1 1 r))) k

-- a text that is read
pub text_read : (text : List ℕ) (left : List (List ℕ)) (b : PolygonsOn) (c : Certificate) → read_one version_line (lines_of text) ≡ whole 1 left → polygons_on.read left ≡ whole b []
    → c ≡ certificate_of (1, b) → (fits c ≡ true) × (text ≡ certificate_text c)
text_read text left b c h k e = parsed_printed text c (after_version text left (whole b []) h k ∙ ap says (sym e))

-- a line that is the first to lack its form
abbrev pub LacksForm : List ℕ → ℕ → Type 0
LacksForm text line = (n : ℕ) × (line ≡ suc n) × BreaksAfter text n

-- the first line
pub first_lacks : (text : List ℕ) → read_one version_line (lines_of text) ≡ broken 1 0 → (line : ℕ) → form 1 ≡ form line → LacksForm text line
first_lacks text h line e =
    let c = certificate_of (1, polygons_on.blank) in
    let one_is : 1 ≡ line = cc in
    (0, sym one_is, breaks_after text c 0 (ap (λ r. said (begun_as certificate_of (read_both (one version_line) (λ version. polygons_on) r))) h))

-- or another one
pub later_lacks : (text : List ℕ) (lines : Lines) → read_one version_line (lines_of text) ≡ whole 1 lines.left → lines.taken ≡ 1 → (line : ℕ) → EndsEarly polygons_on lines line → LacksForm text line
later_lacks text lines h t line (broken_off b) =
    let e = b.line_is in (
      1 + b.count,
      omega (arith, e, t),
      breaks_after text (certificate_of (1, b.value)) (1 + b.count) (after_version text lines.left (broken b.value b.count) h b.read),
    )
later_lacks text lines h t line (follows a l ls k e) =
    let c = certificate_of (1, a) in
    (length (certificate_lines c), omega (arith, e, t), breaks_after text c (length (certificate_lines c)) (after_version text lines.left (whole a (l ∷ ls)) h k))

-- so the text is refused for it
pub refused_for : {T : Type 0} (text : List ℕ) (lines : Lines) → read_one version_line (lines_of text) ≡ whole 1 lines.left → lines.taken ≡ 1 → (error : Refusal) → EndsAt polygons_on lines error
    → (result : Result T ParseRefusal) → IsErrAnd result (λ e. e ≡ parse_refusal error) → IfErr result (λ refusal. (line : ℕ) → refusal ≡ form line → LacksForm text line)
refused_for text lines h t error ends (Ok c) is = absurd is
refused_for text lines h t (badly at reason) ends (Err e) is = λ line q. let same : at ≡ line = cc in subst (LacksForm text) same (later_lacks text lines h t at ends.0)
refused_for text lines h t no_memory ends (Err e) is = λ line q. cc
