-- The lines of the strands in the last drawing.
use Rattle.std.proofs.Common.{◌≡◌, ℕ, suc, ◌+◌, ◌≤◌, ◌<◌, ◌^◌, le-leb, List, [], ◌++◌, length, codes, Option, Some, None, refl, sym, ◌∙◌, ap, subst, arith, append-nil}
use Rattle.std.specs.Prelude.{Result, IfErr, OnOk}
use Rattle.std.proofs.lemmas.Bool.{and_from}
use Rattle.obd_base.specs.declared.points.Exit.{Exit}
use Rattle.page_surface.specs.Drawing.{Drawing}
use Rattle.page_surface.specs.Polygon.{arc_count}
use Rattle.witness_check.specs.declared.certificate.Certificate.{Certificate}
use Rattle.witness_check.specs.declared.fault.Fault.{Fault}
use Rattle.witness_check.specs.declared.fault.Refusal.{Refusal}
use Rattle.witness_check.specs.declared.fault.Stop.{Stop}
use Rattle.witness_check.specs.Between.{AfterFinals, AfterFingers, Refutes}
use Rattle.witness_check.specs.DrawingRules.{BeginsFinals, Finds, HasFinals, Stops}
use Rattle.witness_check.specs.FieldsOn.{finals_fields}
use Rattle.witness_check.specs.Forms.{LineForm, Section}
use Rattle.witness_check.specs.Lines.{strand_line}
use Rattle.witness_check.specs.Passing.{Lines, RowsRead}
use Rattle.witness_check.specs.Rules.{each, final_rules}
use Rattle.witness_check.specs.RulesOn.{generators_on_rules}
use Rattle.witness_check.specs.Settling.{Broken, Settles}
use Rattle.witness_check.specs.Stages.{GeneratorsOn, generators_on}
use Rattle.witness_check.specs.Written.{last_drawing}
use Rattle.witness_check.proofs.HandedOn.{of_ok, of_stop}
use Rattle.witness_check.proofs.Settled.{broken_refutes, settled_badly, settled_well}
use Rattle.witness_check.proofs.Staged.{rows_at_most}

-- the form of the line of a strand
abbrev pub shape : ℕ → LineForm (List Exit)
shape = strand_line (codes "final")

-- lines that were read, in a list that is lent, where as many are wanted
pub lent_finals : (n m : ℕ) (l0 l1 : Lines) (xs lent : List (List Exit)) (breaks found : Option ℕ) → n ≡ m → lent ≡ xs → breaks ≡ found → RowsRead shape n l0 l1 xs breaks → RowsRead shape m l0 l1 lent found
lent_finals n m l0 l1 xs lent breaks found many same ends read =
    subst (λ k. RowsRead shape k l0 l1 lent found) many (subst (λ b. RowsRead shape n l0 l1 lent b) ends (subst (λ ys. RowsRead shape n l0 l1 ys breaks) (sym same) read))

-- there are at most as many as are wanted
pub finals_few : (n : ℕ) (l0 l1 : Lines) (xs : List (List Exit)) (breaks : Option ℕ) → RowsRead shape n l0 l1 xs breaks → length xs ≤ n
finals_few n l0 l1 xs breaks read = rows_at_most shape n l0 l1 xs breaks 0 n read (and_from _ _ (le-leb 0 n (omega arith)) (le-leb n n (omega arith)))

module _ (d : Drawing) (text : List ℕ) (l0 : Lines) (after : AfterFingers d text l0) (l1 : Lines) (xs : List (List Exit)) where
  abbrev then : List (List Exit) → Section GeneratorsOn
  then finals = generators_on (arc_count d.polygon)

  has : (c : Certificate) → last_drawing c ≡ d → (more : List (List Exit)) → more ≡ [] → c.finals ≡ xs ++ more → HasFinals d xs c
  has c k more none e = record { last_is = k; finals_are = e ∙ (ap (λ ys. xs ++ ys) none ∙ append-nil xs) }

  -- all are read, and have their exits in a nice drawing
  pub finals_passed : (last : Drawing) → RowsRead shape (arc_count d.polygon) l0 l1 xs None → Finds (HasFinals d xs) (λ c. each (final_rules c) xs) None → last ≡ d → AfterFinals last text l1
  finals_passed last read kept is =
      subst (λ k. AfterFinals k text l1) (sym is)
      (settled_well shape (arc_count d.polygon) then final_rules generators_on_rules finals_fields (λ c. last_drawing c ≡ d) text l0 after l1 xs None (λ c. last_drawing c ≡ d) read refl
      (λ c k more behind e. kept c (has c k more behind e)) (λ c k e. k))

  -- or not
  pub finals_refuted : {T : Type 0} (first : ℕ) (tried : Result T Stop) (r : Refusal) → first ≡ suc l0.taken → l0.taken + length l0.left + 1 < 2 ^ 32 → RowsRead shape (arc_count d.polygon) l0 l1 xs None
      → OnOk tried (Finds (HasFinals d xs) (λ c. each (final_rules c) xs) None) → IfErr tried (Stops (HasFinals d xs) (λ c. each (final_rules c) xs)) → Settles first tried None r → Refutes text r
  finals_refuted first tried r at few read kept fault is =
      settled_badly shape (arc_count d.polygon) then final_rules generators_on_rules finals_fields (λ c. last_drawing c ≡ d) text l0 after l1 xs first tried None r at few read
      (λ made so c k more behind e. of_ok tried made so kept c (has c k more behind e))
      (λ one so c k more behind e. of_stop (HasFinals d xs) (λ c. each (final_rules c) xs) tried one so fault c (has c k more behind e)) is

  -- or one lacks its form, behind lines that are tried by their exits
  pub finals_broken : (first line : ℕ) (fault : Option Fault) (r : Refusal) → first ≡ suc l0.taken → l0.taken + length l0.left + 1 < 2 ^ 32 → RowsRead shape (arc_count d.polygon) l0 l1 xs (Some line)
      → Finds (BeginsFinals d xs) (λ c. each (final_rules c) xs) fault → Broken first fault line r → Refutes text r
  finals_broken first line fault r at few read found is =
      broken_refutes shape (arc_count d.polygon) then final_rules generators_on_rules finals_fields (λ c. last_drawing c ≡ d) text l0 after l1 xs first fault line r at few read
      (λ c k more behind e. found c (record { last_is = k; next = behind.0; more = behind.1; finals_are = e ∙ ap (λ ys. xs ++ ys) behind.2 })) is
