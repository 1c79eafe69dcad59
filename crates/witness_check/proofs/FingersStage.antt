-- The lines of the fingers.
use Rattle.std.proofs.Common.{◌≡◌, ℕ, suc, ◌+◌, ◌<◌, ◌^◌, true, List, [], ◌∷◌, ◌++◌, length, codes, Option, None, sym, ◌∙◌, ap, ap₂, subst}
use Rattle.std.specs.Prelude.{Result, IfErr, OnOk}
use Rattle.page_surface.specs.Drawing.{Drawing}
use Rattle.page_surface.specs.Polygon.{arc_count}
use Rattle.drawing.specs.Fingers.{replayed}
use Rattle.drawing.specs.declared.finger.Finger.{Finger}
use Rattle.witness_check.specs.declared.certificate.Certificate.{Certificate}
use Rattle.witness_check.specs.declared.checked.Reason.TheVariants.{Limit as limit}
use Rattle.witness_check.specs.declared.fault.Refusal.{Refusal}
use Rattle.witness_check.specs.declared.fault.Stop.{Stop}
use Rattle.witness_check.specs.Between.{After, AfterFingers, AfterStrands, Refutes}
use Rattle.witness_check.specs.DrawingRules.{BeginsFingers, Finds, Stops}
use Rattle.witness_check.specs.FieldsOn.{fingers_fields}
use Rattle.witness_check.specs.Forms.{both, one, rows}
use Rattle.witness_check.specs.Lines.{finger_line, number_line}
use Rattle.witness_check.specs.Passing.{CountRefused, Lines, RowsRead, SectionRead, is_between}
use Rattle.witness_check.specs.Rules.{each, finger_rules, rule}
use Rattle.witness_check.specs.RulesOn.{finals_on_rules, finger_count}
use Rattle.witness_check.specs.Settling.{Settles}
use Rattle.witness_check.specs.Stages.{finals_on}
use Rattle.witness_check.specs.Written.{first_drawing, last_drawing}
use Rattle.witness_check.proofs.HandedOn.{of_ok, of_stop}
use Rattle.witness_check.proofs.Settled.{settled_badly, settled_well}
use Rattle.witness_check.proofs.Staged.{count_refuted, count_within, from_none}

module _ (d : Drawing) (text : List ℕ) (l0 : Lines) (after : AfterStrands d text l0) where
  abbrev known : Certificate → Type 0
  known c = first_drawing c ≡ d

  ranged : (c : Certificate) → known c → finger_count c ≡ rule limit (is_between 0 20000 (length c.fingers)) ∷ []
  ranged c k = ap (λ b. rule limit b ∷ []) (sym (from_none 20000 (length c.fingers)))

  -- their number isn't read, or too large
  pub fingers_uncounted : (l1 : Lines) (r : Refusal) → CountRefused (codes "fingers") 0 20000 limit l0 l1 r → Refutes text r
  fingers_uncounted = count_refuted (codes "fingers") finger_line (λ fingers. finals_on (arc_count d.polygon)) finger_count finger_rules finals_on_rules fingers_fields known text l0 0 20000 limit ranged after

  module _ (l1 l2 : Lines) (n : ℕ) (xs : List Finger) (breaks : Option ℕ) (counted : SectionRead (one (number_line (codes "fingers"))) l0 l1 n) (within : is_between 0 20000 n ≡ true)
      (read : RowsRead (λ i. finger_line) n l1 l2 xs breaks) where
    passed : After (both (rows (λ i. finger_line) n) (λ fingers. finals_on (arc_count d.polygon))) (λ c. each (finger_rules c) c.fingers ++ finals_on_rules c) fingers_fields known text l1
    passed = count_within (codes "fingers") finger_line (λ fingers. finals_on (arc_count d.polygon)) finger_count finger_rules finals_on_rules fingers_fields known text l0 0 20000 limit ranged after l1 n counted within

    begins : (c : Certificate) → known c → (more : List Finger) → c.fingers ≡ xs ++ more → BeginsFingers d xs c
    begins c k more e = record { first_is = k; more = more; fingers_are = e }

    -- all are legal
    pub fingers_passed : (moved : Drawing) → breaks ≡ None → Finds (BeginsFingers d xs) (λ c. each (finger_rules c) xs) None → moved ≡ replayed d xs → moved.polygon ≡ d.polygon → AfterFingers moved text l2
    fingers_passed moved all kept is same =
        subst (λ m. After (finals_on m) finals_on_rules (λ c. (fingers_fields c).1) (λ c. last_drawing c ≡ moved) text l2) (sym (ap arc_count same))
        (settled_well (λ i. finger_line) n (λ fingers. finals_on (arc_count d.polygon)) finger_rules finals_on_rules fingers_fields known text l1 passed l2 xs breaks (λ c. last_drawing c ≡ moved) read all
        (λ c k more behind e. kept c (begins c k more e)) (λ c k e. ap₂ replayed k e ∙ sym is))

    -- or not
    pub fingers_refuted : {T : Type 0} (first : ℕ) (tried : Result T Stop) (r : Refusal) → first ≡ suc l1.taken → l1.taken + length l1.left + 1 < 2 ^ 32
        → OnOk tried (Finds (BeginsFingers d xs) (λ c. each (finger_rules c) xs) None) → IfErr tried (Stops (BeginsFingers d xs) (λ c. each (finger_rules c) xs)) → Settles first tried breaks r → Refutes text r
    fingers_refuted first tried r at few kept fault is =
        settled_badly (λ i. finger_line) n (λ fingers. finals_on (arc_count d.polygon)) finger_rules finals_on_rules fingers_fields known text l1 passed l2 xs first tried breaks r at few read
        (λ made so c k more behind e. of_ok tried made so kept c (begins c k more e)) (λ one so c k more behind e. of_stop (BeginsFingers d xs) (λ c. each (finger_rules c) xs) tried one so fault c (begins c k more e)) is
