-- The lines of the strands.
use Rattle.std.proofs.Common.{◌≡◌, ℕ, suc, ◌+◌, ◌<◌, ◌^◌, List, [], ◌++◌, length, codes, Option, Some, None, refl, sym, ◌∙◌, ap, ap₂, subst, append-nil}
use Rattle.std.specs.Prelude.{Result, IfErr, OnOk}
use Rattle.obd_base.specs.declared.points.Exit.{Exit}
use Rattle.page_surface.specs.Drawing.{Drawing}
use Rattle.page_surface.specs.Polygon.{Polygon, arc_count}
use Rattle.drawing.specs.Layout.{drawn}
use Rattle.witness_check.specs.declared.certificate.Certificate.{Certificate}
use Rattle.witness_check.specs.declared.fault.Fault.{Fault}
use Rattle.witness_check.specs.declared.fault.Refusal.{Refusal}
use Rattle.witness_check.specs.declared.fault.Stop.{Stop}
use Rattle.witness_check.specs.Between.{AfterBook, AfterStrands, HasWords, Refutes}
use Rattle.witness_check.specs.DrawingRules.{BeginsStrands, Finds, HasStrands, Stops}
use Rattle.witness_check.specs.Forms.{LineForm, Section}
use Rattle.witness_check.specs.Grammar.{drawn_of}
use Rattle.witness_check.specs.Lines.{strand_line}
use Rattle.witness_check.specs.Passing.{Lines, RowsRead}
use Rattle.witness_check.specs.Rules.{each, strand_rules}
use Rattle.witness_check.specs.RulesOn.{fingers_on_rules}
use Rattle.witness_check.specs.Settling.{Broken, Settles}
use Rattle.witness_check.specs.Stages.{FingersOn, fingers_on}
use Rattle.witness_check.specs.Written.{first_drawing}
use Rattle.witness_check.proofs.HandedOn.{of_ok, of_stop}
use Rattle.witness_check.proofs.Settled.{broken_refutes, settled_badly, settled_well}

-- the form of the line of a strand
abbrev pub shape : ℕ → LineForm (List Exit)
shape = strand_line (codes "strand")

-- lines that were read, in a list that is lent
pub lent_strands : (n m : ℕ) (l0 l1 : Lines) (xs lent : List (List Exit)) (breaks found : Option ℕ) → n ≡ m → lent ≡ xs → breaks ≡ found → RowsRead shape n l0 l1 xs breaks → RowsRead shape m l0 l1 lent found
lent_strands n m l0 l1 xs lent breaks found many same ends read =
    subst (λ k. RowsRead shape k l0 l1 lent found) many (subst (λ b. RowsRead shape n l0 l1 lent b) ends (subst (λ ys. RowsRead shape n l0 l1 ys breaks) (sym same) read))

module _ (p : Polygon) (words : List (List ℕ)) (text : List ℕ) (l0 : Lines) (after : AfterBook p words text l0) (l1 : Lines) (xs : List (List Exit)) where
  abbrev then : List (List Exit) → Section FingersOn
  then strands = fingers_on (arc_count p)

  has : (c : Certificate) → HasWords p words c → c.strands ≡ xs → HasStrands p words xs c
  has c k e = record { polygon_is = k.polygon_is; words_are = k.words_are; strands_are = e }

  -- these are all lines
  all : (c : Certificate) (more : List (List Exit)) → more ≡ [] → c.strands ≡ xs ++ more → c.strands ≡ xs
  all c more none e = e ∙ (ap (λ ys. xs ++ ys) none ∙ append-nil xs)

  -- all are read, and have their words and an embedded drawing
  pub strands_passed : (made : Drawing) → RowsRead shape (arc_count p) l0 l1 xs None → Finds (HasStrands p words xs) (λ c. each (strand_rules c) xs) None → made ≡ drawn p xs → AfterStrands made text l1
  strands_passed made read kept is =
      subst (λ d. AfterStrands d text l1) (sym is)
      (settled_well shape (arc_count p) then strand_rules fingers_on_rules drawn_of (HasWords p words) text l0 after l1 xs None (λ c. first_drawing c ≡ drawn p xs) read refl
      (λ c k more behind e. kept c (has c k (all c more behind e))) (λ c k e. ap₂ drawn k.polygon_is e))

  -- or not
  pub strands_refuted : {T : Type 0} (first : ℕ) (tried : Result T Stop) (r : Refusal) → first ≡ suc l0.taken → l0.taken + length l0.left + 1 < 2 ^ 32 → RowsRead shape (arc_count p) l0 l1 xs None
      → OnOk tried (Finds (HasStrands p words xs) (λ c. each (strand_rules c) xs) None) → IfErr tried (Stops (HasStrands p words xs) (λ c. each (strand_rules c) xs)) → Settles first tried None r → Refutes text r
  strands_refuted first tried r at few read kept fault is =
      settled_badly shape (arc_count p) then strand_rules fingers_on_rules drawn_of (HasWords p words) text l0 after l1 xs first tried None r at few read
      (λ made so c k more behind e. of_ok tried made so kept c (has c k (all c more behind e)))
      (λ one so c k more behind e. of_stop (HasStrands p words xs) (λ c. each (strand_rules c) xs) tried one so fault c (has c k (all c more behind e))) is

  -- or one lacks its form, behind lines that are tried by their words
  pub strands_broken : (first line : ℕ) (fault : Option Fault) (r : Refusal) → first ≡ suc l0.taken → l0.taken + length l0.left + 1 < 2 ^ 32 → RowsRead shape (arc_count p) l0 l1 xs (Some line)
      → Finds (BeginsStrands words xs) (λ c. each (strand_rules c) xs) fault → Broken first fault line r → Refutes text r
  strands_broken first line fault r at few read found is =
      broken_refutes shape (arc_count p) then strand_rules fingers_on_rules drawn_of (HasWords p words) text l0 after l1 xs first fault line r at few read
      (λ c k more behind e. found c (record { words_are = k.words_are; next = behind.0; more = behind.1; strands_are = e ∙ ap (λ ys. xs ++ ys) behind.2 })) is
