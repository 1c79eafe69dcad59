-- A line with one rule, and the end of a text.
use Rattle.std.proofs.Common.{◌≡◌, ℕ, zero, suc, ◌+◌, Bool, true, false, cond, ℤ, pos, negsuc, List, [], ◌∷◌, ◌++◌, take, refl, sym, ◌∙◌, ap, ap₂, subst, arith}
use Rattle.std.specs.Prelude.{Result, Ok, Err, IfOk, OnOk}
use Rattle.std.proofs.lemmas.Bool.{and_parts, leb-true}
use Rattle.std.proofs.lemmas.Int.{to_z-of_z}
use Rattle.obd_base.specs.declared.causes.NoMemory.{NoMemory}
use Rattle.witness_check.specs.declared.certificate.Certificate.{Certificate}
use Rattle.witness_check.specs.declared.checked.Answer.{Answer}
use Rattle.witness_check.specs.declared.checked.Checked.{Checked}
use Rattle.witness_check.specs.declared.checked.Checked.TheVariants.{Bad as bad, Valid as valid}
use Rattle.witness_check.specs.declared.checked.Reason.{Reason}
use Rattle.witness_check.specs.declared.checked.Reason.TheVariants.{Form as form}
use Rattle.witness_check.specs.declared.fault.Refusal.{Refusal}
use Rattle.witness_check.specs.declared.fault.Refusal.TheVariants.{Bad as badly, NoMemory as no_memory}
use Rattle.witness_check.specs.Between.{After, AfterVerdict, Refutes}
use Rattle.witness_check.specs.Checked.{checked, first_bad, first_fault}
use Rattle.witness_check.specs.Forms.{LineForm, Section, both, broken, guess, has_form, one, read_one, whole}
use Rattle.witness_check.specs.Lines.{end_line, homology_line}
use Rattle.witness_check.specs.OutcomeRules.{Follows, Untrue}
use Rattle.witness_check.specs.Passing.{Breaks, BreaksAt, Lines, SectionRead, judged_from}
use Rattle.witness_check.specs.Reading.{is_signed}
use Rattle.witness_check.specs.Rules.{Rule, rule}
use Rattle.witness_check.specs.RulesOn.{end_on_rules}
use Rattle.witness_check.proofs.Staged.{line_breaks, line_fault, line_passed}
use mir.Syntax.{w32}
use mir.Val.{SFits as FitsSigned, of_z, to_z}

module _ {A B : Type 0} (shape : LineForm A) (t : A → Section B) (own : Certificate → List Rule) (rest : Certificate → List (List Rule)) (fields : Certificate → A × B) (known : Certificate → Type 0)
    (text : List ℕ) (l0 : Lines) (after : After (both (one shape) t) (λ c. (own c ∷ []) ++ rest c) fields known text l0)
    (reason : Reason) (passes : A → Bool) (ruled : (c : Certificate) → known c → own c ≡ rule reason (passes (fields c).0) ∷ []) where
  own_is : (a : A) (b : Bool) → passes a ≡ b → (c : Certificate) → known c → (fields c).0 ≡ a → own c ≡ rule reason b ∷ []
  own_is a b is c k e = ruled c k ∙ ap (λ z. rule reason z ∷ []) (ap passes e ∙ is)

  -- the rule is kept
  pub held_well : (l1 : Lines) (a : A) (next : Certificate → Type 0) → SectionRead (one shape) l0 l1 a → passes a ≡ true → ((c : Certificate) → known c → (fields c).0 ≡ a → next c)
      → After (t a) rest (λ c. (fields c).1) next text l1
  held_well l1 a next read is knows =
      line_passed shape t own rest fields known text l0 after l1 a next read (λ c k e. ap (λ rs. first_fault (rs ∷ [])) (own_is a true is c k e)) knows

  -- or isn't
  unheld : (l1 : Lines) (a : A) → SectionRead (one shape) l0 l1 a → passes a ≡ false → checked text ≡ bad (suc l0.taken) reason
  unheld l1 a read is =
      let number : suc (l0.taken + 0) ≡ suc l0.taken = omega arith in
      line_fault shape t own rest fields known text l0 after l1 a (record { at = 0; reason = reason }) read (λ c k e. ap (λ rs. first_fault (rs ∷ [])) (own_is a false is c k e))
      ∙ ap (λ n. bad n reason) number

  -- or memory is wanting
  pub held_badly : (l1 : Lines) (a : A) (line : ℕ) (tried : Result Bool NoMemory) (r : Refusal) → SectionRead (one shape) l0 l1 a → line ≡ suc l0.taken → IfOk tried (λ yes. yes ≡ passes a)
      → Untrue tried line reason r → Refutes text r
  held_badly l1 a line (Ok true) r read at is untrue = absurd untrue
  held_badly l1 a line (Ok false) r read at is untrue = subst (Refutes text) (sym untrue) (unheld l1 a read (sym is) ∙ ap (λ n. bad n reason) (sym at))
  held_badly l1 a line (Err e) r read at is untrue = subst (Refutes text) (sym untrue) tt

  pub held_breaks : (r : Refusal) → Breaks (one shape) l0 r → Refutes text r
  held_breaks r breaks = line_breaks shape t own rest fields known text l0 after r breaks

-- what is tried says whether the rule is kept
pub held_true : {p : Bool} (tried : Result Bool NoMemory) → tried ≡ Ok true → IfOk tried (λ yes. yes ≡ p) → p ≡ true
held_true (Ok b) is e = let same : b ≡ true = cc in sym e ∙ same
held_true (Err e) is p = absurd cc

-- what a line says can be written
pub says_fit : {A : Type 0} (shape : LineForm A) (ls : List (List ℕ)) (a : A) (rest : List (List ℕ)) → read_one shape ls ≡ whole a rest → shape.fits a ≡ true
says_fit shape [] a rest e = absurd cc
says_fit {A = A} shape (l ∷ ls) a rest e = go (has_form shape l) refl e
  where
    go : (b : Bool) → has_form shape l ≡ b → cond b (whole (guess shape l) ls) (broken shape.blank 0) ≡ whole a rest → shape.fits a ≡ true
    go true h q = let same : guess shape l ≡ a = cc in subst (λ x. shape.fits x ≡ true) same (and_parts (shape.fits (guess shape l)) _ h).0
    go false h q = absurd cc

-- so a signed number that a line says is one
signed_fits : (z : ℤ) → is_signed z ≡ true → FitsSigned w32 z
signed_fits (pos n) is = let few = leb-true n 2147483647 is in record { sfits = omega (arith, few) }
signed_fits (negsuc n) is = let few = leb-true n 2147483647 is in record { sfits = omega (arith, few) }

pub homology_again : (l0 l1 : Lines) (z : ℤ) → SectionRead (one homology_line) l0 l1 z → to_z w32 (of_z w32 z) ≡ z
homology_again l0 l1 z read = to_z-of_z w32 z (signed_fits z (says_fit homology_line l0.left z l1.left read.0))

-- what follows from what is said of a good result
pub ok_then : {T E : Type 0} {P : T → Type 0} {Q : Type 0} (result : Result T E) → IfOk result P → ((a : T) → P a → Q) → OnOk result Q
ok_then (Ok a) p so = so a p
ok_then (Err e) p so = tt

pub on_then : {T E : Type 0} {P Q : Type 0} (result : Result T E) → OnOk result P → (P → Q) → OnOk result Q
on_then (Ok a) p so = so p
on_then (Err e) p so = tt

module _ (answer : Answer) (text : List ℕ) (l0 : Lines) (after : AfterVerdict answer text l0) where
  -- the last line is the end of the text
  pub ended : (l1 : Lines) → SectionRead (one end_line) l0 l1 tt → l1.left ≡ [] → checked text ≡ valid answer
  ended l1 read last =
      after.passes ∙ (ap (λ r. judged_from l0.taken after.to (one end_line) end_on_rules r) read.0
      ∙ (ap (λ left. judged_from l0.taken after.to (one end_line) end_on_rules (whole tt left)) last ∙ ap valid (after.knows tt)))

  -- or a further one follows
  pub followed : (l1 : Lines) (r : Refusal) → SectionRead (one end_line) l0 l1 tt → Follows l1 r → Refutes text r
  followed l1 r read follows =
      let taken : l0.taken + 1 ≡ l1.taken = sym read.1 in
      subst (Refutes text) (sym follows.3)
      (after.passes ∙ (ap (λ r. judged_from l0.taken after.to (one end_line) end_on_rules r) read.0
      ∙ (ap (λ left. judged_from l0.taken after.to (one end_line) end_on_rules (whole tt left)) follows.2 ∙ ap (λ n. bad (suc n) form) taken)))

  -- no rule is broken by the last line
  no_rules : (k m : ℕ) (good : Checked) → first_bad k (take m (end_on_rules (after.to tt))) good ≡ good
  no_rules k zero good = refl
  no_rules k (suc zero) good = refl
  no_rules k (suc (suc m)) good = refl

  -- or it lacks its form
  pub unended : (r : Refusal) → Breaks (one end_line) l0 r → Refutes text r
  unended no_memory breaks = tt
  unended (badly line reason) breaks =
      let b : BreaksAt (one end_line) l0 line = breaks.0 in
      after.passes ∙ (ap (λ r. judged_from l0.taken after.to (one end_line) end_on_rules r) b.read
      ∙ (no_rules (suc l0.taken) b.count (bad (suc (l0.taken + b.count)) form) ∙ ap₂ bad (sym b.line_is) (sym breaks.1)))
