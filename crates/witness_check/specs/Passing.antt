-- A text that is read section by section, from its first line on.
use Rattle.std.specs.Prelude.{◌≡◌, ◌⊎◌, ℕ, suc, ◌+◌, ◌-◌, Bool, false, nat_le, ◌&&◌, List, [], ◌∷◌, ◌++◌, length, take, Option, Some, None}
use Rattle.witness_check.specs.Forms.{Begun, LineForm, Section, blank_rows, both, broken, one, read_one, read_rows, rows, seen_as, whole}
use Rattle.witness_check.specs.Lines.{number_line}
use Rattle.witness_check.specs.declared.fault.Refusal.{Refusal}
use Rattle.witness_check.specs.declared.fault.Refusal.TheVariants.{Bad as badly, NoMemory as no_memory}
use Rattle.witness_check.specs.declared.certificate.Certificate.{Certificate}
use Rattle.witness_check.specs.declared.checked.Checked.{Checked}
use Rattle.witness_check.specs.declared.checked.Checked.TheVariants.{Bad as bad, Valid as valid}
use Rattle.witness_check.specs.declared.checked.Reason.{Reason}
use Rattle.witness_check.specs.declared.checked.Reason.TheVariants.{Form as form}
use Rattle.witness_check.specs.Checked.{answer_of, checked, first_bad}
use Rattle.witness_check.specs.Rules.{Rule}

-- how many lines were taken, and those that are left
pub record Lines : Type 0 where
  pub taken : ℕ
  pub left : List (List ℕ)

-- one line says a value, or lacks its form
abbrev pub LineRead : {A : Type 0} → LineForm A → Lines → Lines → Option A → Type 0
LineRead shape old new None = read_one shape old.left ≡ broken shape.blank 0
LineRead shape old new (Some a) = (read_one shape old.left ≡ whole a new.left) × (new.taken ≡ suc old.taken)

-- as many rows as wanted were read; or some, before a line that is the first to lack its form
abbrev pub RowsRead : {A : Type 0} → (ℕ → LineForm A) → ℕ → Lines → Lines → List A → Option ℕ → Type 0
RowsRead shape n old new xs None = (read_rows shape 0 n old.left ≡ whole xs new.left) × (new.taken ≡ old.taken + length xs)
RowsRead shape n old new xs (Some line) =
    (read_rows shape 0 n old.left ≡ broken (xs ++ blank_rows shape (length xs) (n - length xs)) (length xs)) × (line ≡ suc (old.taken + length xs))

-- a line with a number, and then as many rows
abbrev pub counted_rows : {A : Type 0} → List ℕ → (ℕ → LineForm A) → Section (List A)
counted_rows many shape = seen_as (λ p. p.1) (λ xs. (length xs, xs)) (both (one (number_line many)) (rows shape))

-- a section was read whole
abbrev pub SectionRead : {A : Type 0} → Section A → Lines → Lines → A → Type 0
SectionRead section old new a = (section.read old.left ≡ whole a new.left) × (new.taken ≡ old.taken + length (section.write a))

-- or a line of it is the first that lacks its form
pub record BreaksAt {A : Type 0} (section : Section A) (old : Lines) (line : ℕ) : Type 0 where
  pub value : A
  pub count : ℕ
  pub read : section.read old.left ≡ broken value count
  pub line_is : line ≡ suc (old.taken + count)

-- so that the text is refused there
abbrev pub Breaks : {A : Type 0} → Section A → Lines → Refusal → Type 0
Breaks section old (badly line reason) = BreaksAt section old line × (reason ≡ form)
Breaks section old no_memory = Unit {0}

-- a number is in a range
abbrev pub is_between : ℕ → ℕ → ℕ → Bool
is_between least most n = nat_le least n && nat_le n most

-- a line with a number lacks its form, or its number isn't in a range
abbrev pub CountRefused : List ℕ → ℕ → ℕ → Reason → Lines → Lines → Refusal → Type 0
CountRefused many least most reason old new refusal =
    Breaks (one (number_line many)) old refusal
    ⊎ ((n : ℕ) × SectionRead (one (number_line many)) old new n × (is_between least most n ≡ false) × (refusal ≡ badly (suc old.taken) reason))

-- the lines are a section's, and further ones follow, of which this is the first; or else one of the section lacks its form
pub data EndsEarly {A : Type 0} (section : Section A) (old : Lines) (line : ℕ) : Type 0 where
  breaks : BreaksAt section old line → EndsEarly section old line
  follows : (a : A) (l : List ℕ) (ls : List (List ℕ)) → section.read old.left ≡ whole a (l ∷ ls) → line ≡ suc (old.taken + length (section.write a)) → EndsEarly section old line

-- and the text is refused there
abbrev pub EndsAt : {A : Type 0} → Section A → Lines → Refusal → Type 0
EndsAt section old (badly line reason) = EndsEarly section old line × (reason ≡ form)
EndsAt section old no_memory = Unit {0}

-- What is said of a text after its first n lines, where further ones have a form and rules.
abbrev pub judged_from : {B : Type 0} → ℕ → (B → Certificate) → Section B → (Certificate → List (List Rule)) → Begun B → Checked
judged_from n to section rules (whole b []) = first_bad (suc n) (rules (to b)) (valid (answer_of (to b).verdict))
judged_from n to section rules (whole b (l ∷ ls)) =
    first_bad (suc n) (take (length (section.write b)) (rules (to b))) (bad (suc (n + length (section.write b))) form)
judged_from n to section rules (broken b m) = first_bad (suc n) (take m (rules (to b))) (bad (suc (n + m)) form)

-- the first lines of a text keep their rules, and the further ones decide
abbrev pub Passes : {B : Type 0} → List ℕ → Lines → (B → Certificate) → Section B → (Certificate → List (List Rule)) → Type 0
Passes text lines to section rules = checked text ≡ judged_from lines.taken to section rules (section.read lines.left)
