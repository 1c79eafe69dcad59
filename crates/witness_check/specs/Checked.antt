-- Whether a text is a valid certificate, or else its first bad line with the reason.
use Rattle.std.specs.Prelude.{◌≡◌, ℕ, suc, Bool, true, not, List, [], ◌∷◌, find, slice_index_or, take, Option, None, Some, option_map}
use Rattle.std.specs.List.{list_all}
use Rattle.mod2_rank.specs.declared.outcome.Verdict.{Verdict}
use Rattle.mod2_rank.specs.declared.outcome.Verdict.TheVariants.{Chain, Functional}
use Rattle.witness_check.specs.declared.certificate.Certificate.{Certificate}
use Rattle.witness_check.specs.declared.checked.Reason.{Reason}
use Rattle.witness_check.specs.declared.checked.Reason.TheVariants.{Form as form}
use Rattle.witness_check.specs.declared.checked.Answer.{Answer}
use Rattle.witness_check.specs.declared.checked.Answer.TheVariants.{Zero as zero, Nonzero as nonzero}
use Rattle.witness_check.specs.declared.checked.Checked.{Checked}
use Rattle.witness_check.specs.declared.checked.Checked.TheVariants.{Bad as bad, Valid as valid}
use Rattle.witness_check.specs.declared.fault.Fault.{Fault}
use Rattle.witness_check.specs.Rules.{Rule, line_rules}
use Rattle.witness_check.specs.Grammar.{BeginsAs, BreaksAfter, Said, breaks, fits, parsed, says}
use Rattle.witness_check.specs.Text.{certificate_text}

-- the answer that a verdict gives
abbrev pub answer_of : Verdict → Answer
answer_of (Chain columns) = zero
answer_of (Functional rows) = nonzero

-- a bad line before what else is said
abbrev pub bad_line : ℕ → Checked → Option Rule → Checked
bad_line number rest None = rest
bad_line number rest (Some broken) = bad number broken.reason

-- the first line with a rule that isn't kept, and its first such rule; else what is said where there is none
abbrev pub first_bad : ℕ → List (List Rule) → Checked → Checked
first_bad number [] good = good
first_bad number (rules ∷ lines) good = bad_line number (first_bad (suc number) lines good) (find (λ r. not r.keeps) rules)

-- the first of some lines, by the rules of each, with a rule that isn't kept, counted from 0, and its first such rule
abbrev pub one_later : Fault → Fault
one_later fault = record { at = suc fault.at; reason = fault.reason }

abbrev pub fault_or : Option Fault → Option Rule → Option Fault
fault_or later None = option_map one_later later
fault_or later (Some broken) = Some (record { at = 0; reason = broken.reason })

abbrev pub first_fault : List (List Rule) → Option Fault
first_fault [] = None
first_fault (rules ∷ lines) = fault_or (first_fault lines) (find (λ r. not r.keeps) rules)

-- what is said of a text: the lines before the first one that lacks its form come first
abbrev pub judged : Said → Checked
judged (says c) = first_bad 1 (line_rules c) (valid (answer_of c.verdict))
judged (breaks c n) = first_bad 1 (take n (line_rules c)) (bad (suc n) form)

-- a text, checked
abbrev pub checked : List ℕ → Checked
checked text = judged (parsed text)

-- all rules of all lines are kept
abbrev pub keeps_all : Certificate → Bool
keeps_all c = list_all (list_all (λ r. r.keeps)) (line_rules c)

-- a text is valid with an answer: it is the text of a certificate that fits, keeps all rules and gives the answer
pub record IsValid (text : List ℕ) (answer : Answer) : Type 0 where
  pub certificate : Certificate
  pub fitting : fits certificate ≡ true
  pub text_is : text ≡ certificate_text certificate
  pub kept : keeps_all certificate ≡ true
  pub answer_is : answer ≡ answer_of certificate.verdict

-- the first rule of a line that isn't kept
abbrev pub first_broken : List Rule → Option Rule
first_broken rules = find (λ r. not r.keeps) rules

-- the rules of the first so many lines are kept
abbrev pub KeptBefore : Certificate → ℕ → Type 0
KeptBefore c n = list_all (list_all (λ r. r.keeps)) (take n (line_rules c)) ≡ true

-- A text is bad at a line for a reason: all lines before it are those of some certificate and keep their rules, and the
-- line either lacks its form, or it is that certificate's too and this is the reason of its first rule that isn't kept.
pub data IsBad (text : List ℕ) : ℕ → Reason → Type 0 where
  lacks_form : (c : Certificate) (n : ℕ) → BeginsAs text n c → KeptBefore c n → BreaksAfter text n → IsBad text (suc n) form
  breaks_rule : (c : Certificate) (n : ℕ) (r : Rule) → BeginsAs text (suc n) c → KeptBefore c n
      → first_broken (slice_index_or (line_rules c) n []) ≡ Some r → IsBad text (suc n) r.reason
