-- Sections are read one after another.
use Rattle.std.proofs.Common.{◌≡◌, ℕ, suc, ◌+◌, List, [], ◌∷◌, ◌++◌, length, refl, sym, ◌∙◌, ap, subst, arith, length-append}
use Rattle.witness_check.specs.declared.checked.Reason.TheVariants.{Form as form}
use Rattle.std.specs.Prelude.{◌-◌, Bool, true, false, cond, if◌then◌else◌, Option, Some, None, Result, Ok, Err, IfErr, IsErrAnd}
use Rattle.witness_check.specs.Forms.{Begun, LineForm, Section, after_first, begun_as, blank_rows, both, broken, has_form, guess, one, read_both, read_one, rows, value_in, whole, write_rows}
use Rattle.witness_check.specs.declared.fault.Refusal.{Refusal}
use Rattle.witness_check.specs.declared.fault.Refusal.TheVariants.{Bad as badly, NoMemory as no_memory}
use Rattle.witness_check.specs.Lines.{number_line}
use Rattle.witness_check.specs.Passing.{Breaks, BreaksAt, Lines, RowsRead, SectionRead, counted_rows}

-- one line, as a section
pub line_whole : {A : Type 0} (shape : LineForm A) (old new : Lines) (a : A) → read_one shape old.left ≡ whole a new.left → new.taken ≡ suc old.taken → SectionRead (one shape) old new a
line_whole shape old new a h k = (h, omega (arith, k))

pub line_breaks : {A : Type 0} (shape : LineForm A) (old : Lines) (line : ℕ) → read_one shape old.left ≡ broken shape.blank 0 → line ≡ suc old.taken → BreaksAt (one shape) old line
line_breaks shape old line h k = record { value = shape.blank; count = 0; read = h; line_is = omega (arith, k) }

-- one section after another
pub both_whole : {A B : Type 0} (s : Section A) (t : A → Section B) (l0 l1 l2 : Lines) (a : A) (b : B) → SectionRead s l0 l1 a → SectionRead (t a) l1 l2 b → SectionRead (both s t) l0 l2 (a, b)
both_whole s t l0 l1 l2 a b (p, m) (q, n) =
    let size = length-append (s.write a) ((t a).write b) in
    (ap (read_both s t) p ∙ ap (after_first a (length (s.write a))) q, omega (arith, m, n, size))

pub first_breaks : {A B : Type 0} (s : Section A) (t : A → Section B) (l0 : Lines) (line : ℕ) → BreaksAt s l0 line → BreaksAt (both s t) l0 line
first_breaks s t l0 line b = record {
  value = (b.value, (t b.value).blank);
  count = b.count;
  read = ap (read_both s t) b.read;
  line_is = b.line_is;
}

pub second_breaks : {A B : Type 0} (s : Section A) (t : A → Section B) (l0 l1 : Lines) (a : A) (line : ℕ) → SectionRead s l0 l1 a → BreaksAt (t a) l1 line → BreaksAt (both s t) l0 line
second_breaks s t l0 l1 a line (p, m) b = record {
  value = (a, b.value);
  count = length (s.write a) + b.count;
  read = ap (read_both s t) p ∙ ap (after_first a (length (s.write a))) b.read;
  line_is = (let k = b.line_is in omega (arith, m, k));
}

-- rows
pub length_written : {A : Type 0} (shape : ℕ → LineForm A) (i : ℕ) (xs : List A) → length (write_rows shape i xs) ≡ length xs
length_written shape i [] = refl
length_written shape i (x ∷ xs) = ap suc (length_written shape (suc i) xs)

pub rows_whole : {A : Type 0} (shape : ℕ → LineForm A) (n : ℕ) (old new : Lines) (xs : List A) → RowsRead shape n old new xs None → SectionRead (rows shape n) old new xs
rows_whole shape n old new xs (h, k) = let size = length_written shape 0 xs in (h, omega (arith, k, size))

pub rows_break : {A : Type 0} (shape : ℕ → LineForm A) (n : ℕ) (old new : Lines) (xs : List A) (line : ℕ) → RowsRead shape n old new xs (Some line) → BreaksAt (rows shape n) old line
rows_break shape n old new xs line (h, l) = record { value = xs ++ blank_rows shape (length xs) (n - length xs); count = length xs; read = h; line_is = l }

-- a number, and so many rows
counted_read : {A : Type 0} (many : List ℕ) (shape : ℕ → LineForm A) (left : List (List ℕ)) (b : Begun ℕ) → read_one (number_line many) left ≡ b
    → (counted_rows many shape).read left ≡ begun_as (λ p. p.1) (read_both (one (number_line many)) (rows shape) b)
counted_read many shape left b h = ap (λ r. begun_as (λ p. p.1) (read_both (one (number_line many)) (rows shape) r)) h

pub counted_whole : {A : Type 0} (many : List ℕ) (shape : ℕ → LineForm A) (l0 l1 l2 : Lines) (n : ℕ) (xs : List A)
    → SectionRead (one (number_line many)) l0 l1 n → SectionRead (rows shape n) l1 l2 xs → SectionRead (counted_rows many shape) l0 l2 xs
counted_whole many shape l0 l1 l2 n xs (p, a) (q, b) =
    (counted_read many shape l0.left (whole n l1.left) p ∙ ap (λ r. begun_as (λ p. p.1) (after_first n 1 r)) q, omega (arith, a, b))

pub count_breaks : {A : Type 0} (many : List ℕ) (shape : ℕ → LineForm A) (l0 : Lines) (line : ℕ) → BreaksAt (one (number_line many)) l0 line → BreaksAt (counted_rows many shape) l0 line
count_breaks many shape l0 line b = record {
  value = blank_rows shape 0 b.value;
  count = b.count;
  read = counted_read many shape l0.left (broken b.value b.count) b.read;
  line_is = b.line_is;
}

pub counted_breaks : {A : Type 0} (many : List ℕ) (shape : ℕ → LineForm A) (l0 l1 : Lines) (n line : ℕ)
    → SectionRead (one (number_line many)) l0 l1 n → BreaksAt (rows shape n) l1 line → BreaksAt (counted_rows many shape) l0 line
counted_breaks many shape l0 l1 n line (p, a) b = record {
  value = b.value;
  count = 1 + b.count;
  read = counted_read many shape l0.left (whole n l1.left) p ∙ ap (λ r. begun_as (λ p. p.1) (after_first n 1 r)) b.read;
  line_is = (let k = b.line_is in omega (arith, a, k));
}

-- a refusal in a part is one in the whole
pub breaks_on : {A B : Type 0} (s : Section A) (t : Section B) (l0 l1 : Lines) → ((line : ℕ) → BreaksAt s l0 line → BreaksAt t l1 line) → (r : Refusal) → Breaks s l0 r → Breaks t l1 r
breaks_on s t l0 l1 on (badly line reason) (b, e) = (on line b, e)
breaks_on s t l0 l1 on no_memory b = tt

-- and so is one that is handed on
pub handed_on : {A B T : Type 0} (s : Section A) (t : Section B) (l0 l1 : Lines) → ((line : ℕ) → BreaksAt s l0 line → BreaksAt t l1 line) → (error : Refusal) (result : Result T Refusal)
    → IsErrAnd result (λ e. e ≡ error) → Breaks s l0 error → IfErr result (Breaks t l1)
handed_on s t l0 l1 on error (Ok a) is b = absurd is
handed_on s t l0 l1 on error (Err e) is b = subst (Breaks t l1) (sym is) (breaks_on s t l0 l1 on error b)

pub given_on : {A B T : Type 0} (s : Section A) (t : Section B) (l0 l1 : Lines) → ((line : ℕ) → BreaksAt s l0 line → BreaksAt t l1 line) → (result : Result T Refusal)
    → IfErr result (Breaks s l0) → IfErr result (Breaks t l1)
given_on s t l0 l1 on (Ok a) b = tt
given_on s t l0 l1 on (Err e) b = breaks_on s t l0 l1 on e b

-- a line of which nothing is said lacks its form
pub unsaid_line : {A T S : Type 0} (shape : LineForm A) (old : Lines) (l : List ℕ) (rest : List (List ℕ)) (number : ℕ) (found : Option S) (result : Result T Refusal)
    → old.left ≡ l ∷ rest → (found ≡ None → value_in shape l ≡ None) → number ≡ suc old.taken → IfErr result (λ r. (found ≡ None) × (r ≡ badly number form)) → IfErr result (Breaks (one shape) old)
unsaid_line shape old l rest number found (Ok a) h f n b = tt
unsaid_line shape old l rest number found (Err e) h f n (o, b) =
    subst (Breaks (one shape) old) (sym b) (line_breaks shape old number (ap (read_one shape) h ∙ go (has_form shape l) refl (f o)) n, refl)
  where
    go : (b : Bool) → has_form shape l ≡ b → value_in shape l ≡ None → cond (has_form shape l) (whole (guess shape l) rest) (broken shape.blank 0) ≡ broken shape.blank 0
    go true t z = let q : Some (guess shape l) ≡ None = sym (ap (λ (c : Bool). if c then Some (guess shape l) else None) t) ∙ z in cc
    go false t z = ap (λ c. cond c (whole (guess shape l) rest) (broken shape.blank 0)) t

-- and so does one that isn't there
pub unsaid_end : {A T S : Type 0} (shape : LineForm A) (old : Lines) (number : ℕ) (found : Option S) (result : Result T Refusal)
    → old.left ≡ [] → number ≡ suc old.taken → IfErr result (λ r. (found ≡ None) × (r ≡ badly number form)) → IfErr result (Breaks (one shape) old)
unsaid_end shape old number found (Ok a) h n b = tt
unsaid_end shape old number found (Err e) h n (o, b) = subst (Breaks (one shape) old) (sym b) (line_breaks shape old number (ap (read_one shape) h) n, refl)
