-- The lines of the twists.
use Rattle.std.proofs.Common.{◌≡◌, ℕ, suc, ◌+◌, ◌<◌, ◌^◌, true, List, [], ◌∷◌, ◌++◌, length, codes, Option, Some, None, sym, ◌∙◌, ap}
use Rattle.std.specs.Prelude.{Result, IfErr, OnOk}
use Rattle.std.specs.Result.{result_unwrap_or}
use Rattle.page_surface.specs.Labels.{Label}
use Rattle.curve_paths.specs.declared.named.NamedPath.{NamedPath}
use Rattle.curve_paths.specs.declared.named.NamedTwist.{NamedTwist}
use Rattle.handle_slide.specs.declared.slid.Slid.{Slid}
use Rattle.witness_check.specs.BookRules.{TwistsCome, WordsAre}
use Rattle.witness_check.specs.Written.{words_by}
use Rattle.witness_check.specs.declared.certificate.Certificate.{Certificate}
use Rattle.witness_check.specs.declared.checked.Reason.TheVariants.{Limit as limit}
use Rattle.witness_check.specs.declared.fault.Fault.{Fault}
use Rattle.witness_check.specs.declared.fault.Refusal.{Refusal}
use Rattle.witness_check.specs.declared.fault.Stop.{Stop}
use Rattle.witness_check.specs.declared.fault.Stop.TheVariants.{Fault as stopped}
use Rattle.witness_check.specs.Between.{After, AfterSlides, AfterTwists, HasPageWords, HasSurface, Refutes}
use Rattle.witness_check.specs.FieldsOn.{twists_fields}
use Rattle.witness_check.specs.Forms.{both, one, rows}
use Rattle.witness_check.specs.Lines.{twist_line, number_line}
use Rattle.witness_check.specs.Passing.{CountRefused, Lines, RowsRead, SectionRead, is_between}
use Rattle.witness_check.specs.Rules.{each, twist_rules, rule}
use Rattle.witness_check.specs.RulesOn.{seams_on_rules, twist_count}
use Rattle.witness_check.specs.Settling.{Settles}
use Rattle.witness_check.specs.Stages.{seams_on}
use Rattle.witness_check.proofs.HandedOn.{of_fault, of_ok}
use Rattle.witness_check.proofs.Settled.{settled_badly, settled_well}
use Rattle.witness_check.proofs.Staged.{count_refuted, count_within, from_none}

module _ (page : List (List Label)) (curves : List NamedPath) (s : Slid) (text : List ℕ) (l0 : Lines) (after : AfterSlides page curves s text l0) where
  abbrev known : Certificate → Type 0
  known c = HasSurface page curves s c

  ranged : (c : Certificate) → known c → twist_count c ≡ rule limit (is_between 0 256 (length c.twists)) ∷ []
  ranged c k = ap (λ b. rule limit b ∷ []) (sym (from_none 256 (length c.twists)))

  -- their number isn't read, or too large
  pub twists_uncounted : (l1 : Lines) (r : Refusal) → CountRefused (codes "twists") 0 256 limit l0 l1 r → Refutes text r
  twists_uncounted = count_refuted (codes "twists") twist_line (λ xs. seams_on) twist_count twist_rules seams_on_rules twists_fields known text l0 0 256 limit ranged after

  module _ (l1 l2 : Lines) (n : ℕ) (xs : List NamedTwist) (breaks : Option ℕ) (counted : SectionRead (one (number_line (codes "twists"))) l0 l1 n) (within : is_between 0 256 n ≡ true)
      (read : RowsRead (λ i. twist_line) n l1 l2 xs breaks) where
    passed : After (both (rows (λ i. twist_line) n) (λ xs. seams_on)) (λ c. each (twist_rules c) c.twists ++ seams_on_rules c) twists_fields known text l1
    passed = count_within (codes "twists") twist_line (λ xs. seams_on) twist_count twist_rules seams_on_rules twists_fields known text l0 0 256 limit ranged after l1 n counted within

    -- all keep their rules
    pub twists_passed : (words : List (List ℕ)) → breaks ≡ None → TwistsCome s curves xs None → WordsAre s curves xs words → AfterTwists page s.polygon words text l2
    twists_passed words all come are =
        settled_well (λ i. twist_line) n (λ xs. seams_on) twist_rules seams_on_rules twists_fields known text l1 passed l2 xs breaks (HasPageWords page s.polygon words) read all
        (λ c k more behind e. come c more k.surface_is k.curves_are e) (λ c k e.
        record {
          page_is = k.page_is;
          has_words = record {
            polygon_is = ap (λ (z : Slid). z.polygon) k.surface_is;
            words_are = ap (λ twists. result_unwrap_or (words_by c twists) []) e ∙ ap (λ r. result_unwrap_or r []) (are c k.surface_is k.curves_are);
          };
        })

    -- or not
    pub twists_refuted : {T : Type 0} (first : ℕ) (tried : Result T Stop) (r : Refusal) → first ≡ suc l1.taken → l1.taken + length l1.left + 1 < 2 ^ 32
        → OnOk tried (TwistsCome s curves xs None) → IfErr tried (λ stop. (fault : Fault) → stop ≡ stopped fault → TwistsCome s curves xs (Some fault)) → Settles first tried breaks r → Refutes text r
    twists_refuted first tried r at few kept ill is =
        settled_badly (λ i. twist_line) n (λ xs. seams_on) twist_rules seams_on_rules twists_fields known text l1 passed l2 xs first tried breaks r at few read
        (λ made so c k more behind e. of_ok tried made so kept c more k.surface_is k.curves_are e) (λ fault so c k more behind e. of_fault (λ f. TwistsCome s curves xs (Some f)) tried fault so ill c more k.surface_is k.curves_are e) is
