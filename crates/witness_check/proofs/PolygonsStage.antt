-- The lines of the polygons.
use Rattle.std.proofs.Common.{◌≡◌, ℕ, suc, ◌+◌, ◌<◌, ◌^◌, true, List, [], ◌++◌, length, codes, Option, Some, None, refl, sym, ◌∙◌, ap, subst, append-nil}
use Rattle.std.specs.Prelude.{Result, IfErr, OnOk}
use Rattle.page_surface.specs.Labels.{Label}
use Rattle.witness_check.specs.declared.certificate.Certificate.{Certificate}
use Rattle.witness_check.specs.declared.checked.Reason.TheVariants.{Form as form, Page as page_reason}
use Rattle.witness_check.specs.declared.fault.Fault.{Fault}
use Rattle.witness_check.specs.declared.fault.Refusal.{Refusal}
use Rattle.witness_check.specs.declared.fault.Refusal.TheVariants.{Bad as badly}
use Rattle.witness_check.specs.declared.fault.Stop.{Stop}
use Rattle.witness_check.specs.declared.fault.Stop.TheVariants.{Fault as stopped}
use Rattle.witness_check.specs.Between.{After, AfterPolygons, AfterVersion, Refutes}
use Rattle.witness_check.specs.BookRules.{PolygonsCome}
use Rattle.witness_check.specs.FieldsOn.{polygons_fields}
use Rattle.witness_check.specs.Forms.{both, one, rows}
use Rattle.witness_check.specs.Lines.{number_line, polygon_line}
use Rattle.witness_check.specs.Passing.{CountRefused, Lines, RowsRead, SectionRead, is_between}
use Rattle.witness_check.specs.Rules.{each, polygon_count, polygon_rules}
use Rattle.witness_check.specs.RulesOn.{curves_on_rules}
use Rattle.witness_check.specs.Settling.{Settles}
use Rattle.witness_check.specs.Stages.{curves_on}
use Rattle.witness_check.proofs.HandedOn.{of_fault, of_ok}
use Rattle.witness_check.proofs.PolygonLines.{polygons_begun}
use Rattle.witness_check.proofs.Settled.{break_refutes, settled_badly, settled_well}
use Rattle.witness_check.proofs.Staged.{count_refuted, count_within}

module _ (text : List ℕ) (l0 : Lines) (after : AfterVersion text l0) where
  abbrev known : Certificate → Type 0
  known c = Unit {0}

  -- their number isn't read, or isn't from 1 to 16
  pub polygons_uncounted : (l1 : Lines) (r : Refusal) → CountRefused (codes "polygons") 1 16 page_reason l0 l1 r → Refutes text r
  polygons_uncounted = count_refuted (codes "polygons") polygon_line (λ xs. curves_on) polygon_count polygon_rules curves_on_rules polygons_fields known text l0 1 16 page_reason (λ c k. refl) after

  module _ (l1 l2 : Lines) (n : ℕ) (xs : List (List Label)) (counted : SectionRead (one (number_line (codes "polygons"))) l0 l1 n) (within : is_between 1 16 n ≡ true) where
    passed : After (both (rows (λ i. polygon_line) n) (λ xs. curves_on)) (λ c. each (polygon_rules c) c.polygons ++ curves_on_rules c) polygons_fields known text l1
    passed = count_within (codes "polygons") polygon_line (λ xs. curves_on) polygon_count polygon_rules curves_on_rules polygons_fields known text l0 1 16 page_reason (λ c k. refl) after l1 n counted within

    -- a line lacks its form: those before it have no rule
    pub polygons_broken : (breaks : Option ℕ) (line : ℕ) (r : Refusal) → RowsRead (λ i. polygon_line) n l1 l2 xs breaks → breaks ≡ Some line → r ≡ badly line form → Refutes text r
    polygons_broken breaks line r read off is =
        subst (Refutes text) (sym is)
        (break_refutes (λ i. polygon_line) n (λ xs. curves_on) polygon_rules curves_on_rules polygons_fields known text l1 passed l2 xs line (subst (λ b. RowsRead (λ i. polygon_line) n l1 l2 xs b) off read)
        (λ c k more behind e. polygons_begun c xs behind.1 behind.0 (e ∙ ap (λ z. xs ++ z) behind.2)))

    module _ (read : RowsRead (λ i. polygon_line) n l1 l2 xs None) where
      these : (c : Certificate) (more : List (List Label)) → more ≡ [] → c.polygons ≡ xs ++ more → c.polygons ≡ xs
      these c more none e = e ∙ (ap (λ z. xs ++ z) none ∙ append-nil xs)

      -- all are read, and are a page
      pub polygons_passed : (page : List (List Label)) → page ≡ xs → PolygonsCome xs None → AfterPolygons page text l2
      polygons_passed page same come =
          settled_well (λ i. polygon_line) n (λ xs. curves_on) polygon_rules curves_on_rules polygons_fields known text l1 passed l2 xs None (λ c. c.polygons ≡ page) read refl
          (λ c k more behind e. come c (these c more behind e)) (λ c k e. e ∙ sym same)

      -- or not
      pub polygons_refuted : {T : Type 0} (first : ℕ) (tried : Result T Stop) (r : Refusal) → first ≡ suc l1.taken → l1.taken + length l1.left + 1 < 2 ^ 32
          → OnOk tried (PolygonsCome xs None) → IfErr tried (λ stop. (fault : Fault) → stop ≡ stopped fault → PolygonsCome xs (Some fault)) → Settles first tried None r → Refutes text r
      polygons_refuted first tried r at few kept ill is =
          settled_badly (λ i. polygon_line) n (λ xs. curves_on) polygon_rules curves_on_rules polygons_fields known text l1 passed l2 xs first tried None r at few read
          (λ made so c k more behind e. of_ok tried made so kept c (these c more behind e)) (λ fault so c k more behind e. of_fault (λ f. PolygonsCome xs (Some f)) tried fault so ill c (these c more behind e)) is
