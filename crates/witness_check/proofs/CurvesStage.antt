-- The lines of the curves.
use Rattle.std.proofs.Common.{◌≡◌, ℕ, suc, ◌+◌, ◌<◌, ◌^◌, true, List, [], ◌∷◌, ◌++◌, length, codes, Option, Some, None, sym, ap}
use Rattle.std.specs.Prelude.{Result, IfErr, OnOk}
use Rattle.page_surface.specs.Labels.{Label}
use Rattle.curve_paths.specs.declared.named.NamedPath.{NamedPath}
use Rattle.witness_check.specs.BookRules.{CurvesCome}
use Rattle.witness_check.specs.declared.certificate.Certificate.{Certificate}
use Rattle.witness_check.specs.declared.checked.Reason.TheVariants.{Limit as limit}
use Rattle.witness_check.specs.declared.fault.Fault.{Fault}
use Rattle.witness_check.specs.declared.fault.Refusal.{Refusal}
use Rattle.witness_check.specs.declared.fault.Stop.{Stop}
use Rattle.witness_check.specs.declared.fault.Stop.TheVariants.{Fault as stopped}
use Rattle.witness_check.specs.Between.{After, AfterCurves, AfterPolygons, HasCurves, Refutes}
use Rattle.witness_check.specs.FieldsOn.{curves_fields}
use Rattle.witness_check.specs.Forms.{both, one, rows}
use Rattle.witness_check.specs.Lines.{curve_line, number_line}
use Rattle.witness_check.specs.Passing.{CountRefused, Lines, RowsRead, SectionRead, is_between}
use Rattle.witness_check.specs.Rules.{each, curve_rules, rule}
use Rattle.witness_check.specs.RulesOn.{slides_on_rules, curve_count}
use Rattle.witness_check.specs.Settling.{Settles}
use Rattle.witness_check.specs.Stages.{slides_on}
use Rattle.witness_check.proofs.HandedOn.{of_fault, of_ok}
use Rattle.witness_check.proofs.Settled.{settled_badly, settled_well}
use Rattle.witness_check.proofs.Staged.{count_refuted, count_within, from_none}

module _ (page : List (List Label)) (text : List ℕ) (l0 : Lines) (after : AfterPolygons page text l0) where
  abbrev known : Certificate → Type 0
  known c = c.polygons ≡ page

  ranged : (c : Certificate) → known c → curve_count c ≡ rule limit (is_between 0 32 (length c.curves)) ∷ []
  ranged c k = ap (λ b. rule limit b ∷ []) (sym (from_none 32 (length c.curves)))

  -- their number isn't read, or too large
  pub curves_uncounted : (l1 : Lines) (r : Refusal) → CountRefused (codes "curves") 0 32 limit l0 l1 r → Refutes text r
  curves_uncounted = count_refuted (codes "curves") curve_line (λ xs. slides_on) curve_count curve_rules slides_on_rules curves_fields known text l0 0 32 limit ranged after

  module _ (l1 l2 : Lines) (n : ℕ) (xs : List NamedPath) (breaks : Option ℕ) (counted : SectionRead (one (number_line (codes "curves"))) l0 l1 n) (within : is_between 0 32 n ≡ true)
      (read : RowsRead (λ i. curve_line) n l1 l2 xs breaks) where
    passed : After (both (rows (λ i. curve_line) n) (λ xs. slides_on)) (λ c. each (curve_rules c) c.curves ++ slides_on_rules c) curves_fields known text l1
    passed = count_within (codes "curves") curve_line (λ xs. slides_on) curve_count curve_rules slides_on_rules curves_fields known text l0 0 32 limit ranged after l1 n counted within

    -- all keep their rules
    pub curves_passed : breaks ≡ None → CurvesCome page xs None → AfterCurves page xs text l2
    curves_passed all come =
        settled_well (λ i. curve_line) n (λ xs. slides_on) curve_rules slides_on_rules curves_fields known text l1 passed l2 xs breaks (HasCurves page xs) read all
        (λ c k more behind e. come c more k e) (λ c k e. record { page_is = k; curves_are = e })

    -- or not
    pub curves_refuted : {T : Type 0} (first : ℕ) (tried : Result T Stop) (r : Refusal) → first ≡ suc l1.taken → l1.taken + length l1.left + 1 < 2 ^ 32
        → OnOk tried (CurvesCome page xs None) → IfErr tried (λ stop. (fault : Fault) → stop ≡ stopped fault → CurvesCome page xs (Some fault)) → Settles first tried breaks r → Refutes text r
    curves_refuted first tried r at few kept ill is =
        settled_badly (λ i. curve_line) n (λ xs. slides_on) curve_rules slides_on_rules curves_fields known text l1 passed l2 xs first tried breaks r at few read
        (λ made so c k more behind e. of_ok tried made so kept c more k e) (λ fault so c k more behind e. of_fault (λ f. CurvesCome page xs (Some f)) tried fault so ill c more k e) is
