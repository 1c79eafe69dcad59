-- The lines of the slides.
use Rattle.std.proofs.Common.{◌≡◌, ℕ, suc, ◌+◌, ◌<◌, ◌^◌, true, List, [], ◌∷◌, ◌++◌, length, codes, Option, Some, None, sym, ◌∙◌, ap}
use Rattle.std.specs.Prelude.{Result, IfErr, OnOk}
use Rattle.std.specs.Result.{result_unwrap_or}
use Rattle.page_surface.specs.Labels.{Label}
use Rattle.curve_paths.specs.PathTables.{PagePath}
use Rattle.curve_paths.specs.declared.named.NamedPath.{NamedPath}
use Rattle.handle_slide.specs.declared.slid.Slid.{Slid}
use Rattle.witness_check.specs.BookRules.{SlidesCome, SlidesLeave, on_page}
use Rattle.witness_check.specs.OpenBook.{joined_surface}
use Rattle.witness_check.specs.Written.{own_book, slid_by}
use Rattle.witness_check.specs.declared.certificate.Certificate.{Certificate}
use Rattle.witness_check.specs.declared.checked.Reason.TheVariants.{Limit as limit}
use Rattle.witness_check.specs.declared.fault.Fault.{Fault}
use Rattle.witness_check.specs.declared.fault.Refusal.{Refusal}
use Rattle.witness_check.specs.declared.fault.Stop.{Stop}
use Rattle.witness_check.specs.declared.fault.Stop.TheVariants.{Fault as stopped}
use Rattle.witness_check.specs.Between.{After, AfterCurves, AfterSlides, HasCurves, HasSurface, Refutes}
use Rattle.witness_check.specs.FieldsOn.{slides_fields}
use Rattle.witness_check.specs.Forms.{both, one, rows}
use Rattle.witness_check.specs.Lines.{number_line}
use Rattle.witness_check.specs.Passing.{CountRefused, Lines, RowsRead, SectionRead, is_between}
use Rattle.witness_check.specs.Rules.{each, slide_rules, rule}
use Rattle.witness_check.specs.RulesOn.{twists_on_rules, slide_count}
use Rattle.witness_check.specs.Settling.{Settles}
use Rattle.witness_check.specs.Stages.{twists_on}
use Rattle.witness_check.proofs.HandedOn.{of_fault, of_ok}
use Rattle.witness_check.proofs.Settled.{settled_badly, settled_well}
use Rattle.witness_check.proofs.Staged.{count_refuted, count_within, from_none}

module _ (page : List (List Label)) (curves : List NamedPath) (text : List ℕ) (l0 : Lines) (after : AfterCurves page curves text l0) where
  abbrev known : Certificate → Type 0
  known c = HasCurves page curves c

  ranged : (c : Certificate) → known c → slide_count c ≡ rule limit (is_between 0 64 (length c.slides)) ∷ []
  ranged c k = ap (λ b. rule limit b ∷ []) (sym (from_none 64 (length c.slides)))

  -- their number isn't read, or too large
  pub slides_uncounted : (l1 : Lines) (r : Refusal) → CountRefused (codes "slides") 0 64 limit l0 l1 r → Refutes text r
  slides_uncounted = count_refuted (codes "slides") (number_line (codes "slide")) (λ xs. twists_on) slide_count slide_rules twists_on_rules slides_fields known text l0 0 64 limit ranged after

  module _ (l1 l2 : Lines) (n : ℕ) (xs : List ℕ) (breaks : Option ℕ) (counted : SectionRead (one (number_line (codes "slides"))) l0 l1 n) (within : is_between 0 64 n ≡ true)
      (read : RowsRead (λ i. number_line (codes "slide")) n l1 l2 xs breaks) (lent : List PagePath) (lends : on_page page curves ≡ lent) where
    passed : After (both (rows (λ i. number_line (codes "slide")) n) (λ xs. twists_on)) (λ c. each (slide_rules c) c.slides ++ twists_on_rules c) slides_fields known text l1
    passed = count_within (codes "slides") (number_line (codes "slide")) (λ xs. twists_on) slide_count slide_rules twists_on_rules slides_fields known text l0 0 64 limit ranged after l1 n counted within

    -- all keep their rules
    pub slides_passed : (s : Slid) → breaks ≡ None → SlidesCome page lent xs None → SlidesLeave page lent xs s → AfterSlides page curves s text l2
    slides_passed s all come leave =
        settled_well (λ i. number_line (codes "slide")) n (λ xs. twists_on) slide_rules twists_on_rules slides_fields known text l1 passed l2 xs breaks (HasSurface page curves s) read all
        (λ c k more behind e. come c more k.page_is (ap (on_page page) k.curves_are ∙ lends) e) (λ c k e.
        record {
          page_is = k.page_is;
          curves_are = k.curves_are;
          surface_is = ap (λ slides. result_unwrap_or (slid_by c slides) (joined_surface (own_book c))) e ∙ ap (λ r. result_unwrap_or r (joined_surface (own_book c))) (leave c k.page_is (ap (on_page page) k.curves_are ∙ lends));
        })

    -- or not
    pub slides_refuted : {T : Type 0} (first : ℕ) (tried : Result T Stop) (r : Refusal) → first ≡ suc l1.taken → l1.taken + length l1.left + 1 < 2 ^ 32
        → OnOk tried (SlidesCome page lent xs None) → IfErr tried (λ stop. (fault : Fault) → stop ≡ stopped fault → SlidesCome page lent xs (Some fault)) → Settles first tried breaks r → Refutes text r
    slides_refuted first tried r at few kept ill is =
        settled_badly (λ i. number_line (codes "slide")) n (λ xs. twists_on) slide_rules twists_on_rules slides_fields known text l1 passed l2 xs first tried breaks r at few read
        (λ made so c k more behind e. of_ok tried made so kept c more k.page_is (ap (on_page page) k.curves_are ∙ lends) e) (λ fault so c k more behind e. of_fault (λ f. SlidesCome page lent xs (Some f)) tried fault so ill c more k.page_is (ap (on_page page) k.curves_are ∙ lends) e) is
