-- The answer of the command `check`.
use Rattle.std.specs.Prelude.{ℕ, List, [], ◌∷◌, codes, decimal}
use Rattle.witness_check.specs.Line.{line}
use Rattle.witness_check.specs.declared.checked.Answer.{Answer as Found}
use Rattle.witness_check.specs.declared.checked.Answer.TheVariants as found
use Rattle.witness_check.specs.declared.checked.Checked.{Checked}
use Rattle.witness_check.specs.declared.checked.Checked.TheVariants as checked
use Rattle.witness_check.specs.declared.checked.Reason.{Reason}
use Rattle.witness_check.specs.declared.checked.Reason.TheVariants as reason
use Rattle.obd_cli.specs.declared.status.Answer.{Answer}
use Rattle.obd_cli.specs.declared.status.Status.TheVariants as status

-- the word for an answer
abbrev pub answer_word : Found → List ℕ
answer_word found.Zero = codes "zero"
answer_word found.Nonzero = codes "nonzero"

-- the word for a reason
abbrev pub reason_word : Reason → List ℕ
reason_word reason.Form = codes "form"
reason_word reason.Page = codes "page"
reason_word reason.Limit = codes "limit"
reason_word reason.Curve = codes "curve"
reason_word reason.Slide = codes "slide"
reason_word reason.Twist = codes "twist"
reason_word reason.Basis = codes "basis"
reason_word reason.Word = codes "word"
reason_word reason.Drawing = codes "drawing"
reason_word reason.Finger = codes "finger"
reason_word reason.Final = codes "final"
reason_word reason.Nice = codes "nice"
reason_word reason.Generators = codes "generators"
reason_word reason.Contact = codes "contact"
reason_word reason.Pivot = codes "pivot"
reason_word reason.Rank = codes "rank"
reason_word reason.Homology = codes "homology"
reason_word reason.Verdict = codes "verdict"

-- the line of a valid certificate, with its answer
abbrev pub valid_line : Found → List ℕ
valid_line answer = line (codes "valid") (answer_word answer ∷ [])

-- the line that tells a bad line, counted from 1, and the reason
abbrev pub bad_line : ℕ → Reason → List ℕ
bad_line number reason = line (codes "bad") (decimal number ∷ reason_word reason ∷ [])

-- the answer of `check`
abbrev pub check_answer : Checked → Answer
check_answer (checked.Valid answer) = record { status = status.Done; text = valid_line answer }
check_answer (checked.Bad number reason) = record { status = status.Bad; text = bad_line number reason }
