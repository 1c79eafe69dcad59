-- Lines and sections of a text, passed one after another.
use Rattle.std.proofs.Common.{◌≡◌, ℕ, zero, suc, ◌+◌, ◌-◌, ◌≤◌, ◌<◌, Bool, true, false, not, ◌&&◌, leb, le-leb, leb-true, eqb, append-nil, inl, inr, cond, find, List, [], ◌∷◌, ◌++◌, length, map, take, Option, Some, None, refl, sym, ◌∙◌, ap, ap₂, subst, arith, length-append}
use Rattle.std.specs.Prelude.{option_map}
use Rattle.std.specs.List.{enumerate_from, list_all}
use Rattle.std.proofs.lemmas.Bool.{and_parts}
use Rattle.witness_check.specs.declared.certificate.Certificate.{Certificate}
use Rattle.witness_check.specs.declared.checked.Checked.{Checked}
use Rattle.witness_check.specs.declared.checked.Checked.TheVariants.{Bad as bad, Valid as valid}
use Rattle.witness_check.specs.declared.checked.Reason.{Reason}
use Rattle.witness_check.specs.declared.checked.Reason.TheVariants.{Form as form}
use Rattle.witness_check.specs.declared.fault.Fault.{Fault}
use Rattle.witness_check.specs.declared.fault.Refusal.{Refusal}
use Rattle.witness_check.specs.declared.fault.Refusal.TheVariants.{Bad as badly, NoMemory as no_memory}
use Rattle.witness_check.specs.Between.{After, Refutes}
use Rattle.witness_check.specs.Checked.{answer_of, bad_line, checked, fault_or, first_bad, first_broken, first_fault, one_later}
use Rattle.witness_check.specs.Forms.{Begun, LineForm, Section, after_first, after_row, begun_as, blank_rows, both, broken, guess, has_form, one, read_both, read_one, read_rows, rows, rows_fit, whole, write_rows}
use Rattle.witness_check.specs.Lines.{counted, number_line}
use Rattle.witness_check.specs.Passing.{Breaks, BreaksAt, CountRefused, Lines, RowsRead, SectionRead, is_between, judged_from}
use Rattle.witness_check.specs.Rules.{Rule, each, rule}
use Rattle.witness_check.proofs.Passed.{section_breaks, section_breaks_faulty, section_faulty, section_passes}
use Rattle.witness_check.proofs.Prefixes.{take_within}
use Rattle.witness_check.proofs.Reading.{length_written}
use Rattle.witness_check.proofs.Rows.{rows_section}
use Rattle.witness_check.proofs.Sections.{IsLineForm}

module _ {A B : Type 0} (s : Section A) (t : A → Section B) (own rest : Certificate → List (List Rule)) (fields : Certificate → A × B) (known : Certificate → Type 0) (text : List ℕ) (l0 : Lines)
    (after : After (both s t) (λ c. own c ++ rest c) fields known text l0) where
  -- a section is read whole, and its lines keep their rules
  pub staged : (l1 : Lines) (a : A) (next : Certificate → Type 0) → SectionRead s l0 l1 a
      → ((c : Certificate) → known c → (fields c).0 ≡ a → length (own c) ≡ length (s.write a))
      → ((c : Certificate) → known c → (fields c).0 ≡ a → first_fault (own c) ≡ None)
      → ((c : Certificate) → known c → (fields c).0 ≡ a → next c)
      → After (t a) rest (λ c. (fields c).1) next text l1
  staged l1 a next read size kept knows = record {
    to = λ b. after.to (a, b);
    fields_are = λ b. ap (λ p. p.1) (after.fields_are (a, b));
    knows = λ b. knows (after.to (a, b)) (after.knows (a, b)) (first b);
    passes = section_passes text l0 after.to s t (λ c. own c ++ rest c) after.passes rest l1 a (λ b. own (after.to (a, b))) read.0 read.1 (λ b. refl)
        (λ b. size (after.to (a, b)) (after.knows (a, b)) (first b)) (λ b. kept (after.to (a, b)) (after.knows (a, b)) (first b));
  }
    where
      first : (b : B) → (fields (after.to (a, b))).0 ≡ a
      first b = ap (λ p. p.0) (after.fields_are (a, b))

  -- or one of them doesn't
  pub staged_fault : (left : List (List ℕ)) (a : A) (fault : Fault) → s.read l0.left ≡ whole a left
      → ((c : Certificate) → known c → (fields c).0 ≡ a → length (own c) ≡ length (s.write a))
      → ((c : Certificate) → known c → (fields c).0 ≡ a → first_fault (own c) ≡ Some fault)
      → checked text ≡ bad (suc (l0.taken + fault.at)) fault.reason
  staged_fault left a fault read size broke =
      section_faulty text l0 after.to s t (λ c. own c ++ rest c) after.passes rest left a (λ b. own (after.to (a, b))) fault read (λ b. refl)
      (λ b. size (after.to (a, b)) (after.knows (a, b)) (ap (λ p. p.0) (after.fields_are (a, b))))
      (λ b. broke (after.to (a, b)) (after.knows (a, b)) (ap (λ p. p.0) (after.fields_are (a, b))))

  -- or it breaks off, behind lines that keep their rules
  pub staged_break : (a : A) (m : ℕ) → s.read l0.left ≡ broken a m
      → ((c : Certificate) → known c → (fields c).0 ≡ a → m ≤ length (own c))
      → ((c : Certificate) → known c → (fields c).0 ≡ a → first_fault (take m (own c)) ≡ None)
      → checked text ≡ bad (suc (l0.taken + m)) form
  staged_break a m read inside kept =
      section_breaks text l0 after.to s t (λ c. own c ++ rest c) after.passes a m (λ b. take m (own (after.to (a, b)))) read
      (λ b. take_within m (own (after.to (a, b))) (rest (after.to (a, b))) (inside (after.to (a, b)) (after.knows (a, b)) (ap (λ p. p.0) (after.fields_are (a, b)))))
      (λ b. kept (after.to (a, b)) (after.knows (a, b)) (ap (λ p. p.0) (after.fields_are (a, b))))

  -- or behind one that doesn't
  pub staged_break_fault : (a : A) (m : ℕ) (fault : Fault) → s.read l0.left ≡ broken a m
      → ((c : Certificate) → known c → (fields c).0 ≡ a → m ≤ length (own c))
      → ((c : Certificate) → known c → (fields c).0 ≡ a → first_fault (take m (own c)) ≡ Some fault)
      → checked text ≡ bad (suc (l0.taken + fault.at)) fault.reason
  staged_break_fault a m fault read inside broke =
      section_breaks_faulty text l0 after.to s t (λ c. own c ++ rest c) after.passes a m (λ b. take m (own (after.to (a, b)))) fault read
      (λ b. take_within m (own (after.to (a, b))) (rest (after.to (a, b))) (inside (after.to (a, b)) (after.knows (a, b)) (ap (λ p. p.0) (after.fields_are (a, b)))))
      (λ b. broke (after.to (a, b)) (after.knows (a, b)) (ap (λ p. p.0) (after.fields_are (a, b))))

-- a line that isn't read is the first
pub unread : {A : Type 0} (shape : LineForm A) (ls : List (List ℕ)) (a : A) (m : ℕ) → read_one shape ls ≡ broken a m → m ≡ 0
unread shape [] a m e = cc
unread shape (l ∷ ls) a m e = go (has_form shape l) e
  where
    go : (b : Bool) → cond b (whole (guess shape l) ls) (broken shape.blank 0) ≡ broken a m → m ≡ 0
    go true q = absurd (cc)
    go false q = cc

-- A single line.
module _ {A B : Type 0} (shape : LineForm A) (t : A → Section B) (own : Certificate → List Rule) (rest : Certificate → List (List Rule)) (fields : Certificate → A × B) (known : Certificate → Type 0)
    (text : List ℕ) (l0 : Lines) (after : After (both (one shape) t) (λ c. (own c ∷ []) ++ rest c) fields known text l0) where
  -- it keeps its rules
  pub line_passed : (l1 : Lines) (a : A) (next : Certificate → Type 0) → SectionRead (one shape) l0 l1 a
      → ((c : Certificate) → known c → (fields c).0 ≡ a → first_fault (own c ∷ []) ≡ None)
      → ((c : Certificate) → known c → (fields c).0 ≡ a → next c)
      → After (t a) rest (λ c. (fields c).1) next text l1
  line_passed l1 a next read kept knows = staged (one shape) t (λ c. own c ∷ []) rest fields known text l0 after l1 a next read (λ c k e. refl) kept knows

  -- or doesn't
  pub line_fault : (l1 : Lines) (a : A) (fault : Fault) → SectionRead (one shape) l0 l1 a
      → ((c : Certificate) → known c → (fields c).0 ≡ a → first_fault (own c ∷ []) ≡ Some fault)
      → checked text ≡ bad (suc (l0.taken + fault.at)) fault.reason
  line_fault l1 a fault read broke = staged_fault (one shape) t (λ c. own c ∷ []) rest fields known text l0 after l1.left a fault read.0 (λ c k e. refl) broke

  -- or lacks its form
  pub line_breaks : (r : Refusal) → Breaks (one shape) l0 r → Refutes text r
  line_breaks no_memory breaks = tt
  line_breaks (badly line reason) breaks =
      let b : BreaksAt (one shape) l0 line = breaks.0 in
      let none : b.count ≡ 0 = unread shape l0.left b.value b.count b.read in
      staged_break (one shape) t (λ c. own c ∷ []) rest fields known text l0 after b.value b.count b.read
      (λ c k e. omega (arith, none)) (λ c k e. ap (λ m. first_fault (take m (own c ∷ []))) none)
      ∙ ap₂ bad (sym b.line_is) (sym breaks.1)

-- the number of rows that are read, or are left blank
after_row_whole : {A : Type 0} (a : A) (r : Begun (List A)) (xs : List A) (rest : List (List ℕ)) → after_row a r ≡ whole xs rest → (ys : List A) × (r ≡ whole ys rest) × (xs ≡ a ∷ ys)
after_row_whole a (whole ys rs) xs rest e = let h : a ∷ ys ≡ xs = cc in let k : rs ≡ rest = cc in (ys, ap (whole ys) k, sym h)
after_row_whole a (broken ys m) xs rest e = absurd cc

after_row_broken : {A : Type 0} (a : A) (r : Begun (List A)) (xs : List A) (m : ℕ) → after_row a r ≡ broken xs m → (ys : List A) × (k : ℕ) × (r ≡ broken ys k) × (xs ≡ a ∷ ys) × (m ≡ suc k)
after_row_broken a (whole ys rs) xs m e = absurd cc
after_row_broken a (broken ys k) xs m e = let h : a ∷ ys ≡ xs = cc in let j : suc k ≡ m = cc in (ys, k, refl, sym h, sym j)

blank_count : {A : Type 0} (shape : ℕ → LineForm A) (i n : ℕ) → length (blank_rows shape i n) ≡ n
blank_count shape i zero = refl
blank_count shape i (suc n) = ap suc (blank_count shape (suc i) n)

whole_count : {A : Type 0} (shape : ℕ → LineForm A) (i n : ℕ) (ls : List (List ℕ)) (xs : List A) (rest : List (List ℕ)) → read_rows shape i n ls ≡ whole xs rest
    → (length xs ≡ n) × (length xs + length rest ≡ length ls)
whole_count shape i zero ls xs rest e = let h : [] ≡ xs = cc in let k : ls ≡ rest = cc in (ap length (sym h), omega (arith, ap length h, ap length k))
whole_count shape i (suc n) [] xs rest e = absurd cc
whole_count {A = A} shape i (suc n) (l ∷ ls) xs rest e = go (λ ys q. whole_count shape (suc i) n ls ys rest q) (has_form (shape i) l) e
  where
    go : ((ys : List A) → read_rows shape (suc i) n ls ≡ whole ys rest → (length ys ≡ n) × (length ys + length rest ≡ length ls)) → (b : Bool) → cond b (after_row (guess (shape i) l) (read_rows shape (suc i) n ls)) (broken (blank_rows shape i (suc n)) 0) ≡ whole xs rest → (length xs ≡ suc n) × (length xs + length rest ≡ suc (length ls))
    go fewer true q =
        let p = after_row_whole (guess (shape i) l) (read_rows shape (suc i) n ls) xs rest q in
        let k = fewer p.0 p.1 in
        let size : length xs ≡ suc (length p.0) = ap length p.2 in
        (omega (arith, size, k.0), omega (arith, size, k.1))
    go fewer false q = absurd cc

broken_count : {A : Type 0} (shape : ℕ → LineForm A) (i n : ℕ) (ls : List (List ℕ)) (xs : List A) (m : ℕ) → read_rows shape i n ls ≡ broken xs m
    → (length xs ≡ n) × (m < n) × (m ≤ length ls)
broken_count shape i zero ls xs m e = absurd cc
broken_count shape i (suc n) [] xs m e =
    let h : blank_rows shape i (suc n) ≡ xs = cc in
    let k : 0 ≡ m = cc in
    (ap length (sym h) ∙ blank_count shape i (suc n), omega (arith, k), omega (arith, k))
broken_count {A = A} shape i (suc n) (l ∷ ls) xs m e = go (λ ys k q. broken_count shape (suc i) n ls ys k q) (has_form (shape i) l) e
  where
    go : ((ys : List A) (k : ℕ) → read_rows shape (suc i) n ls ≡ broken ys k → (length ys ≡ n) × (k < n) × (k ≤ length ls)) → (b : Bool) → cond b (after_row (guess (shape i) l) (read_rows shape (suc i) n ls)) (broken (blank_rows shape i (suc n)) 0) ≡ broken xs m → (length xs ≡ suc n) × (m < suc n) × (m ≤ suc (length ls))
    go fewer true q =
        let p = after_row_broken (guess (shape i) l) (read_rows shape (suc i) n ls) xs m q in
        let k = fewer p.0 p.1 p.2 in
        let size : length xs ≡ suc (length p.0) = ap length p.3 in
        (omega (arith, size, k.0), omega (arith, p.4, k.1), omega (arith, p.4, k.2))
    go fewer false q =
        let h : blank_rows shape i (suc n) ≡ xs = cc in
        let k : 0 ≡ m = cc in
        (ap length (sym h) ∙ blank_count shape i (suc n), omega (arith, k), omega (arith, k))

-- rows that were read are lines that were left, and a fault is at one of some lines
pub rows_few : {A : Type 0} (shape : ℕ → LineForm A) (n : ℕ) (l0 l1 : Lines) (xs : List A) (breaks : Option ℕ) → RowsRead shape n l0 l1 xs breaks → length xs ≤ length l0.left
rows_few shape n l0 l1 xs None read = let k = whole_count shape 0 n l0.left xs l1.left read.0 in omega (arith, k.1)
rows_few shape n l0 l1 xs (Some line) read = (broken_count shape 0 n l0.left (xs ++ blank_rows shape (length xs) (n - length xs)) (length xs) read.0).2

pub rows_count : {A : Type 0} (shape : ℕ → LineForm A) (n : ℕ) (l0 l1 : Lines) (xs : List A) → RowsRead shape n l0 l1 xs None → length xs ≡ n
rows_count shape n l0 l1 xs read = (whole_count shape 0 n l0.left xs l1.left read.0).0

pub rows_at_most : {A : Type 0} (shape : ℕ → LineForm A) (n : ℕ) (l0 l1 : Lines) (xs : List A) (breaks : Option ℕ) (least most : ℕ) → RowsRead shape n l0 l1 xs breaks → is_between least most n ≡ true → length xs ≤ most
rows_at_most shape n l0 l1 xs None least most read within =
    let bound : n ≤ most = leb-true n most (and_parts (leb least n) (leb n most) within).1 in
    let k = whole_count shape 0 n l0.left xs l1.left read.0 in
    omega (arith, k.0, bound)
rows_at_most shape n l0 l1 xs (Some line) least most read within =
    let bound : n ≤ most = leb-true n most (and_parts (leb least n) (leb n most) within).1 in
    let k = broken_count shape 0 n l0.left (xs ++ blank_rows shape (length xs) (n - length xs)) (length xs) read.0 in
    omega (arith, k.1, bound)

pub rows_all : {A : Type 0} (shape : ℕ → LineForm A) (n : ℕ) (l0 l1 : Lines) (xs : List A) (breaks : Option ℕ) (least most : ℕ) → RowsRead shape n l0 l1 xs breaks → breaks ≡ None → is_between least most n ≡ true
    → (least ≤ length xs) × (length xs ≤ most)
rows_all shape n l0 l1 xs None least most read all within =
    let bounds = and_parts (leb least n) (leb n most) within in
    let low : least ≤ n = leb-true least n bounds.0 in
    let high : n ≤ most = leb-true n most bounds.1 in
    let k = whole_count shape 0 n l0.left xs l1.left read.0 in
    (omega (arith, k.0, low), omega (arith, k.0, high))
rows_all shape n l0 l1 xs (Some line) least most read all within = absurd cc

later_some : (found : Option Fault) (fault : Fault) → option_map one_later found ≡ Some fault → (g : Fault) × (found ≡ Some g) × (fault.at ≡ suc g.at)
later_some None fault e = absurd cc
later_some (Some g) fault e = let h : one_later g ≡ fault = cc in (g, refl, sym (ap (λ (f : Fault). f.at) h))

pub fault_within : (lines : List (List Rule)) (fault : Fault) → first_fault lines ≡ Some fault → fault.at < length lines
fault_within [] fault found = absurd cc
fault_within (rules ∷ lines) fault found = go (λ g q. fault_within lines g q) (find (λ r. not r.keeps) rules) found
  where
    go : ((g : Fault) → first_fault lines ≡ Some g → g.at < length lines) → (o : Option Rule) → fault_or (first_fault lines) o ≡ Some fault → fault.at < suc (length lines)
    go before None q = let p = later_some (first_fault lines) fault q in omega (arith, p.2, before p.0 p.1)
    go before (Some r) q = let at : 0 ≡ fault.at = cc in omega (arith, at)

numbered_count : {A : Type 0} (own : ℕ → A → List Rule) (k : ℕ) (xs : List A) → length (map (λ e. own e.0 e.1) (enumerate_from k xs)) ≡ length xs
numbered_count own k [] = refl
numbered_count own k (x ∷ xs) = ap suc (numbered_count own (k + 1) xs)

pub each_count : {A : Type 0} (own : ℕ → A → List Rule) (xs : List A) → length (each own xs) ≡ length xs
each_count own xs = numbered_count own 0 xs

-- the rules of the first of some entries
numbered_take : {A : Type 0} (own : ℕ → A → List Rule) (k : ℕ) (xs ys : List A) → take (length xs) (map (λ e. own e.0 e.1) (enumerate_from k (xs ++ ys))) ≡ map (λ e. own e.0 e.1) (enumerate_from k xs)
numbered_take own k [] ys = refl
numbered_take own k (x ∷ xs) ys = ap (λ (lines : List (List Rule)). own k x ∷ lines) (numbered_take own (k + 1) xs ys)

each_take : {A : Type 0} (own : ℕ → A → List Rule) (xs ys : List A) → take (length xs) (each own (xs ++ ys)) ≡ each own xs
each_take own xs ys = numbered_take own 0 xs ys

-- Rows.
module _ {A B : Type 0} (shape : ℕ → LineForm A) (n : ℕ) (t : List A → Section B) (own : Certificate → ℕ → A → List Rule) (rest : Certificate → List (List Rule)) (fields : Certificate → List A × B) (known : Certificate → Type 0)
    (text : List ℕ) (l0 : Lines) (after : After (both (rows shape n) t) (λ c. each (own c) (fields c).0 ++ rest c) fields known text l0) where
  size : (c : Certificate) {xs : List A} → (fields c).0 ≡ xs → length (each (own c) (fields c).0) ≡ length (write_rows shape 0 xs)
  size c {xs} e = each_count (own c) (fields c).0 ∙ (ap length e ∙ sym (length_written shape 0 xs))

  -- all are read, and keep their rules
  pub rows_passed : (l1 : Lines) (xs : List A) (next : Certificate → Type 0) → RowsRead shape n l0 l1 xs None
      → ((c : Certificate) → known c → (fields c).0 ≡ xs → first_fault (each (own c) xs) ≡ None)
      → ((c : Certificate) → known c → (fields c).0 ≡ xs → next c)
      → After (t xs) rest (λ c. (fields c).1) next text l1
  rows_passed l1 xs next read kept knows =
      staged (rows shape n) t (λ c. each (own c) (fields c).0) rest fields known text l0 after l1 xs next (read.0, read.1 ∙ ap (λ k. l0.taken + k) (sym (length_written shape 0 xs)))
      (λ c k e. size c e) (λ c k e. ap (λ zs. first_fault (each (own c) zs)) e ∙ kept c k e) knows

  -- or one of them doesn't
  pub rows_fault : (l1 : Lines) (xs : List A) (fault : Fault) → RowsRead shape n l0 l1 xs None
      → ((c : Certificate) → known c → (fields c).0 ≡ xs → first_fault (each (own c) xs) ≡ Some fault)
      → checked text ≡ bad (suc (l0.taken + fault.at)) fault.reason
  rows_fault l1 xs fault read broke =
      staged_fault (rows shape n) t (λ c. each (own c) (fields c).0) rest fields known text l0 after l1.left xs fault read.0 (λ c k e. size c e)
      (λ c k e. ap (λ zs. first_fault (each (own c) zs)) e ∙ broke c k e)

  -- what stands behind rows that were read, where one more is wanted
  abbrev blanks : List A → List A
  blanks xs = blank_rows shape (length xs) (n - length xs)

  more_wanted : (l1 : Lines) (xs : List A) (line : ℕ) → RowsRead shape n l0 l1 xs (Some line) → (next : A) × (more : List A) × (blanks xs ≡ next ∷ more)
  more_wanted l1 xs line read = go (n - length xs) (let k = broken_count shape 0 n l0.left (xs ++ blanks xs) (length xs) read.0 in omega (arith, k.1))
    where
      go : (m : ℕ) → 0 < m → (next : A) × (more : List A) × (blank_rows shape (length xs) m ≡ next ∷ more)
      go zero some = absurd (omega (arith, some))
      go (suc m) some = ((shape (length xs)).blank, blank_rows shape (suc (length xs)) m, refl)

  inside : (c : Certificate) (xs : List A) → (fields c).0 ≡ xs ++ blanks xs → length xs ≤ length (each (own c) (fields c).0)
  inside c xs e =
      let size : length (each (own c) (fields c).0) ≡ length xs + length (blanks xs) = each_count (own c) (fields c).0 ∙ (ap length e ∙ length-append xs (blanks xs)) in
      omega (arith, size)

  begun : (c : Certificate) (xs : List A) → (fields c).0 ≡ xs ++ blanks xs → take (length xs) (each (own c) (fields c).0) ≡ each (own c) xs
  begun c xs e = ap (λ zs. take (length xs) (each (own c) zs)) e ∙ each_take (own c) xs (blanks xs)

  -- some are read before one that lacks its form, and keep their rules
  pub rows_break : (l1 : Lines) (xs : List A) (line : ℕ) → RowsRead shape n l0 l1 xs (Some line)
      → ((c : Certificate) → known c → (next : A) (more : List A) → (fields c).0 ≡ xs ++ next ∷ more → first_fault (each (own c) xs) ≡ None)
      → checked text ≡ bad line form
  rows_break l1 xs line read kept =
      let w = more_wanted l1 xs line read in
      staged_break (rows shape n) t (λ c. each (own c) (fields c).0) rest fields known text l0 after (xs ++ blanks xs) (length xs) read.0 (λ c k e. inside c xs e)
      (λ c k e. ap first_fault (begun c xs e) ∙ kept c k w.0 w.1 (e ∙ ap (λ zs. xs ++ zs) w.2))
      ∙ ap (λ z. bad z form) (sym read.1)

  -- or one of those doesn't
  pub rows_break_fault : (l1 : Lines) (xs : List A) (line : ℕ) (fault : Fault) → RowsRead shape n l0 l1 xs (Some line)
      → ((c : Certificate) → known c → (next : A) (more : List A) → (fields c).0 ≡ xs ++ next ∷ more → first_fault (each (own c) xs) ≡ Some fault)
      → checked text ≡ bad (suc (l0.taken + fault.at)) fault.reason
  rows_break_fault l1 xs line fault read broke =
      let w = more_wanted l1 xs line read in
      staged_break_fault (rows shape n) t (λ c. each (own c) (fields c).0) rest fields known text l0 after (xs ++ blanks xs) (length xs) fault read.0 (λ c k e. inside c xs e)
      (λ c k e. ap first_fault (begun c xs e) ∙ broke c k w.0 w.1 (e ∙ ap (λ zs. xs ++ zs) w.2))

-- A line with the number of further rows.
module _ {A B : Type 0} (many : List ℕ) (shape : LineForm A) (t : List A → Section B) (head : Certificate → List Rule) (own : Certificate → ℕ → A → List Rule) (rest : Certificate → List (List Rule))
    (fields : Certificate → List A × B) (known : Certificate → Type 0) (text : List ℕ) (l0 : Lines)
    (after : After (both (counted many shape) t) (λ c. (head c ∷ each (own c) (fields c).0) ++ rest c) fields known text l0) where
  abbrev all : Section (List A × B)
  all = both (counted many shape) t

  abbrev rules : Certificate → List (List Rule)
  rules c = (head c ∷ each (own c) (fields c).0) ++ rest c

  abbrev later : Certificate → List (List Rule)
  later c = each (own c) (fields c).0 ++ rest c

  -- what is judged is some certificate with so many rows: by the line with their number, and then by the further ones
  pub record Judged (n : ℕ) (l1 : Lines) : Type 0 where
    pub certificate : Certificate
    pub known_is : known certificate
    pub count_is : length (fields certificate).0 ≡ n
    pub lines : List (List Rule)
    pub good : Checked
    pub judged : checked text ≡ first_bad (suc l0.taken) (head certificate ∷ lines) good
    pub judged_later : first_bad (suc (suc l0.taken)) lines good ≡ judged_from l1.taken after.to (both (rows (λ i. shape) n) t) later ((both (rows (λ i. shape) n) t).read l1.left)

  judges : (l1 : Lines) (n : ℕ) → SectionRead (one (number_line many)) l0 l1 n → Judged n l1
  judges l1 n read = go (read_rows (λ i. shape) 0 n l1.left) refl
    where
      counted_read : (r : Begun (List A)) → read_rows (λ i. shape) 0 n l1.left ≡ r → (counted many shape).read l0.left ≡ begun_as (λ p. p.1) (after_first n 1 r)
      counted_read r e =
          ap (λ z. begun_as (λ p. p.1) (read_both (one (number_line many)) (λ m. rows (λ i. shape) m) z)) read.0
          ∙ ap (λ z. begun_as (λ p. p.1) (after_first n 1 z)) e

      at_first : (r : Begun (List A)) → read_rows (λ i. shape) 0 n l1.left ≡ r
          → checked text ≡ judged_from l0.taken after.to all rules (read_both (counted many shape) t (begun_as (λ p. p.1) (after_first n 1 r)))
      at_first r e = after.passes ∙ ap (λ z. judged_from l0.taken after.to all rules (read_both (counted many shape) t z)) (counted_read r e)

      at_rows : (r : Begun (List A)) → read_rows (λ i. shape) 0 n l1.left ≡ r
          → judged_from l1.taken after.to (both (rows (λ i. shape) n) t) later ((both (rows (λ i. shape) n) t).read l1.left)
          ≡ judged_from l1.taken after.to (both (rows (λ i. shape) n) t) later (read_both (rows (λ i. shape) n) t r)
      at_rows r e = ap (λ z. judged_from l1.taken after.to (both (rows (λ i. shape) n) t) later (read_both (rows (λ i. shape) n) t z)) e

      -- the rules before a line, with the line's number
      moved : (k : ℕ) (rs : List (List Rule)) → first_bad (suc (suc l0.taken)) rs (bad (suc (l0.taken + suc k)) form) ≡ first_bad (suc l1.taken) rs (bad (suc (l1.taken + k)) form)
      moved k rs =
          let taken : l1.taken ≡ suc l0.taken = read.1 ∙ omega arith in
          let number : suc (l0.taken + suc k) ≡ suc (l1.taken + k) = omega (arith, taken) in
          ap₂ (λ i j. first_bad (suc i) rs (bad j form)) (sym taken) number

      -- a number is one more
      one_more : {j : ℕ} (k : ℕ) (rs : List (List Rule)) → j ≡ suc k → first_bad (suc l0.taken) (take j rs) (bad (suc (l0.taken + j)) form) ≡ first_bad (suc l0.taken) (take (suc k) rs) (bad (suc (l0.taken + suc k)) form)
      one_more k rs e = ap (λ i. first_bad (suc l0.taken) (take i rs) (bad (suc (l0.taken + i)) form)) e

      go : (r : Begun (List A)) → read_rows (λ i. shape) 0 n l1.left ≡ r → Judged n l1
      go (whole xs left) e = tail ((t xs).read left) refl
        where
          size : length xs ≡ n
          size = (whole_count (λ i. shape) 0 n l1.left xs left e).0

          tail : (q : Begun B) → (t xs).read left ≡ q → Judged n l1
          tail (whole b []) f = record {
            certificate = after.to (xs, b);
            known_is = after.knows (xs, b);
            count_is = ap (λ p. length p.0) (after.fields_are (xs, b)) ∙ size;
            lines = later (after.to (xs, b));
            good = valid (answer_of (after.to (xs, b)).verdict);
            judged = at_first (whole xs left) e ∙ ap (λ z. judged_from l0.taken after.to all rules (after_first xs (length ((counted many shape).write xs)) z)) f;
            judged_later = sym (at_rows (whole xs left) e ∙ (ap (λ z. judged_from l1.taken after.to (both (rows (λ i. shape) n) t) later (after_first xs (length ((rows (λ i. shape) n).write xs)) z)) f
                ∙ ap (λ i. first_bad (suc i) (later (after.to (xs, b))) (valid (answer_of (after.to (xs, b)).verdict))) (read.1 ∙ omega arith)));
          }
          tail (whole b (l ∷ ls)) f =
              let k = length (write_rows (λ i. shape) 0 xs ++ (t xs).write b) in
              record {
                certificate = after.to (xs, b);
                known_is = after.knows (xs, b);
                count_is = ap (λ p. length p.0) (after.fields_are (xs, b)) ∙ size;
                lines = take k (later (after.to (xs, b)));
                good = bad (suc (l0.taken + suc k)) form;
                judged = at_first (whole xs left) e ∙ ap (λ z. judged_from l0.taken after.to all rules (after_first xs (length ((counted many shape).write xs)) z)) f;
                judged_later = moved k (take k (later (after.to (xs, b))))
                    ∙ sym (at_rows (whole xs left) e ∙ ap (λ z. judged_from l1.taken after.to (both (rows (λ i. shape) n) t) later (after_first xs (length ((rows (λ i. shape) n).write xs)) z)) f);
              }
          tail (broken b m) f =
              let k = length (write_rows (λ i. shape) 0 xs) + m in
              record {
                certificate = after.to (xs, b);
                known_is = after.knows (xs, b);
                count_is = ap (λ p. length p.0) (after.fields_are (xs, b)) ∙ size;
                lines = take k (later (after.to (xs, b)));
                good = bad (suc (l0.taken + suc k)) form;
                judged = at_first (whole xs left) e ∙ (ap (λ z. judged_from l0.taken after.to all rules (after_first xs (length ((counted many shape).write xs)) z)) f ∙ one_more k (rules (after.to (xs, b))) (omega arith));
                judged_later = moved k (take k (later (after.to (xs, b))))
                    ∙ sym (at_rows (whole xs left) e ∙ ap (λ z. judged_from l1.taken after.to (both (rows (λ i. shape) n) t) later (after_first xs (length ((rows (λ i. shape) n).write xs)) z)) f);
              }
      go (broken xs m) e =
          let c = after.to (xs, (t xs).blank) in
          record {
            certificate = c;
            known_is = after.knows (xs, (t xs).blank);
            count_is = ap (λ p. length p.0) (after.fields_are (xs, (t xs).blank)) ∙ (broken_count (λ i. shape) 0 n l1.left xs m e).0;
            lines = take m (later c);
            good = bad (suc (l0.taken + suc m)) form;
            judged = at_first (broken xs m) e ∙ one_more m (rules c) (omega arith);
            judged_later = moved m (take m (later c)) ∙ sym (at_rows (broken xs m) e);
          }

  -- it keeps its rules
  pub count_passed : (l1 : Lines) (n : ℕ) → SectionRead (one (number_line many)) l0 l1 n
      → ((c : Certificate) → known c → length (fields c).0 ≡ n → first_broken (head c) ≡ None)
      → After (both (rows (λ i. shape) n) t) (λ c. each (own c) (fields c).0 ++ rest c) fields known text l1
  count_passed l1 n read kept =
      let j = judges l1 n read in
      record {
        to = after.to;
        fields_are = after.fields_are;
        knows = after.knows;
        passes = j.judged ∙ (ap (bad_line (suc l0.taken) (first_bad (suc (suc l0.taken)) j.lines j.good)) (kept j.certificate j.known_is j.count_is) ∙ j.judged_later);
      }

  -- or doesn't
  pub count_fault : (l1 : Lines) (n : ℕ) (r : Rule) → SectionRead (one (number_line many)) l0 l1 n
      → ((c : Certificate) → known c → length (fields c).0 ≡ n → first_broken (head c) ≡ Some r)
      → checked text ≡ bad (suc l0.taken) r.reason
  count_fault l1 n r read broke =
      let j = judges l1 n read in
      j.judged ∙ ap (bad_line (suc l0.taken) (first_bad (suc (suc l0.taken)) j.lines j.good)) (broke j.certificate j.known_is j.count_is)

  -- or lacks its form
  pub count_breaks : (r : Refusal) → Breaks (one (number_line many)) l0 r → Refutes text r
  count_breaks no_memory breaks = tt
  count_breaks (badly line reason) breaks =
      let b : BreaksAt (one (number_line many)) l0 line = breaks.0 in
      let none : b.count ≡ 0 = unread (number_line many) l0.left b.value b.count b.read in
      staged_break (counted many shape) t (λ c. head c ∷ each (own c) (fields c).0) rest fields known text l0 after (blank_rows (λ i. shape) 0 b.value) b.count
      (ap (λ z. begun_as (λ p. p.1) (read_both (one (number_line many)) (λ m. rows (λ i. shape) m) z)) b.read)
      (λ c k e. omega (arith, none)) (λ c k e. ap (λ m. first_fault (take m (head c ∷ each (own c) (fields c).0))) none)
      ∙ ap₂ bad (sym b.line_is) (sym breaks.1)

-- a number in a range from nothing on is bounded
pub from_none : (most n : ℕ) → is_between 0 most n ≡ leb n most
from_none most n = ap (λ b. b && leb n most) (le-leb 0 n (omega arith))

-- The number's rule is that it is in a range.
module _ {A B : Type 0} (many : List ℕ) (shape : LineForm A) (t : List A → Section B) (head : Certificate → List Rule) (own : Certificate → ℕ → A → List Rule) (rest : Certificate → List (List Rule))
    (fields : Certificate → List A × B) (known : Certificate → Type 0) (text : List ℕ) (l0 : Lines) (least most : ℕ) (reason : Reason)
    (ranged : (c : Certificate) → known c → head c ≡ rule reason (is_between least most (length (fields c).0)) ∷ [])
    (after : After (both (counted many shape) t) (λ c. (head c ∷ each (own c) (fields c).0) ++ rest c) fields known text l0) where
  -- it is
  pub count_within : (l1 : Lines) (n : ℕ) → SectionRead (one (number_line many)) l0 l1 n → is_between least most n ≡ true
      → After (both (rows (λ i. shape) n) t) (λ c. each (own c) (fields c).0 ++ rest c) fields known text l1
  count_within l1 n read within = count_passed many shape t head own rest fields known text l0 after l1 n read
      (λ c k e. ap first_broken (ranged c k ∙ ap (λ z. rule reason z ∷ []) (ap (is_between least most) e ∙ within)))

  -- or isn't, or the line lacks its form
  pub count_refuted : (l1 : Lines) (r : Refusal) → CountRefused many least most reason l0 l1 r → Refutes text r
  count_refuted l1 r (inl breaks) = count_breaks many shape t head own rest fields known text l0 after r breaks
  count_refuted l1 r (inr outside) =
      subst (Refutes text) (sym outside.3) (count_fault many shape t head own rest fields known text l0 after l1 outside.0 (rule reason false) outside.1
      (λ c k e. ap first_broken (ranged c k ∙ ap (λ z. rule reason z ∷ []) (ap (is_between least most) e ∙ outside.2))))

-- rows that were read may be written
fits_all : {A : Type 0} (shape : LineForm A) (i : ℕ) (xs ys : List A) → rows_fit (λ j. shape) i (xs ++ ys) ≡ true → list_all shape.fits xs ≡ true
fits_all shape i [] ys fit = refl
fits_all shape i (x ∷ xs) ys fit =
    let both = and_parts (shape.fits x) (rows_fit (λ j. shape) (suc i) (xs ++ ys)) fit in
    ap₂ (λ a b. a && b) both.0 (fits_all shape (suc i) xs ys both.1)

pub rows_fitting : {A : Type 0} (shape : LineForm A) (law : IsLineForm shape) (n : ℕ) (l0 l1 : Lines) (xs : List A) (breaks : Option ℕ) → RowsRead (λ j. shape) n l0 l1 xs breaks → list_all shape.fits xs ≡ true
rows_fitting shape law n l0 l1 xs None read =
    let so = (rows_section (λ j. shape) n (λ j within. law)).only l0.left xs l1.left read.0 in
    fits_all shape 0 xs [] (subst (λ zs. rows_fit (λ j. shape) 0 zs ≡ true) (sym (append-nil xs)) (and_parts (eqb (length xs) n) (rows_fit (λ j. shape) 0 xs) so.0).1)
rows_fitting shape law n l0 l1 xs (Some line) read =
    let more = blank_rows (λ j. shape) (length xs) (n - length xs) in
    let so = (rows_section (λ j. shape) n (λ j within. law)).begun l0.left (xs ++ more) (length xs) read.0 in
    fits_all shape 0 xs more (and_parts (eqb (length (xs ++ more)) n) (rows_fit (λ j. shape) 0 (xs ++ more)) so.0).1

-- A line with one rule, whose test is known.
module _ {A B : Type 0} (shape : LineForm A) (t : A → Section B) (own : Certificate → List Rule) (rest : Certificate → List (List Rule)) (fields : Certificate → A × B) (known : Certificate → Type 0)
    (text : List ℕ) (l0 : Lines) (after : After (both (one shape) t) (λ c. (own c ∷ []) ++ rest c) fields known text l0) (l1 : Lines) (a : A) (read : SectionRead (one shape) l0 l1 a)
    (reason : Reason) (kept : Bool) (tested : (c : Certificate) → known c → (fields c).0 ≡ a → own c ≡ rule reason kept ∷ []) where
  pub rule_kept : (next : Certificate → Type 0) → kept ≡ true → ((c : Certificate) → known c → (fields c).0 ≡ a → next c) → After (t a) rest (λ c. (fields c).1) next text l1
  rule_kept next so knows =
      line_passed shape t own rest fields known text l0 after l1 a next read
      (λ c k e. ap (λ rules. first_fault (rules ∷ [])) (tested c k e) ∙ ap (λ b. first_fault ((rule reason b ∷ []) ∷ [])) so) knows

  pub rule_broken : (first : ℕ) (r : Refusal) → kept ≡ false → first ≡ suc l0.taken → r ≡ badly first reason → Refutes text r
  rule_broken first r so at is =
      let number : suc (l0.taken + 0) ≡ first = omega (arith, at) in
      subst (Refutes text) (sym is)
      (line_fault shape t own rest fields known text l0 after l1 a (record { at = 0; reason = reason }) read
      (λ c k e. ap (λ rules. first_fault (rules ∷ [])) (tested c k e) ∙ ap (λ b. first_fault ((rule reason b ∷ []) ∷ [])) so)
      ∙ ap (λ n. bad n reason) number)
