-- The line of the version is passed, or isn't there.
use Rattle.std.proofs.Common.{◌≡◌, ℕ, suc, ◌+◌, List, [], ◌∷◌, ◌++◌, length, take, refl, sym, ◌∙◌, ap, ap₂, arith, append_assoc}
use Rattle.witness_check.specs.declared.certificate.Certificate.{Certificate}
use Rattle.witness_check.specs.declared.checked.Checked.TheVariants.{Bad as bad, Valid as valid}
use Rattle.witness_check.specs.declared.checked.Reason.TheVariants.{Form as form}
use Rattle.witness_check.specs.Between.{AfterColumns, AfterDrawing, AfterVersion}
use Rattle.witness_check.specs.Checked.{answer_of, checked, first_bad, judged}
use Rattle.witness_check.specs.DrawingRules.{HasGenerators}
use Rattle.witness_check.specs.Forms.{Begun, after_first, begun_as, broken, one, read_both, read_one, whole}
use Rattle.witness_check.specs.Grammar.{certificate_lines, certificate_of, said}
use Rattle.witness_check.specs.Lines.{version_line}
use Rattle.witness_check.specs.Passing.{Lines, judged_from}
use Rattle.witness_check.specs.Rules.{Rule, contact_rules, curve_rules, drawing_rules, each, final_rules, finger_rules, generator_rules, line_rules, outcome_rules, polygon_count, polygon_rules, slide_rules, strand_rules, twist_rules}
use Rattle.witness_check.specs.RulesOn.{basis_rules, curve_count, finger_count, polygons_on_rules, seams_rules, slide_count, twist_count}
use Rattle.witness_check.specs.Splitting.{lines_of}
use Rattle.witness_check.specs.Stages.{PolygonsOn, polygons_on}
use Rattle.witness_check.proofs.ParseLaw.{after_version}
use Rattle.hkm_diagram.specs.Domains.{columns}
use Rattle.page_surface.specs.Drawing.{Drawing}

-- parts of a list of lines, put together in another way
parts_joined : {A : Type 0} (p c s t : List A) (d o : List A) → (p ++ (c ++ (s ++ t))) ++ (d ++ o) ≡ p ++ (c ++ (s ++ (t ++ (d ++ o))))
parts_joined p c s t d o = append_assoc p (c ++ (s ++ t)) (d ++ o) ∙ ap (λ z. p ++ z) (append_assoc c (s ++ t) (d ++ o) ∙ ap (λ z. c ++ z) (append_assoc s t (d ++ o)))

drawn_joined : {A : Type 0} (k f n g o : List A) → (k ++ (f ++ (n ++ g))) ++ o ≡ k ++ (f ++ (n ++ (g ++ o)))
drawn_joined k f n g o = append_assoc k (f ++ (n ++ g)) o ∙ ap (λ z. k ++ z) (append_assoc f (n ++ g) o ∙ ap (λ z. f ++ z) (append_assoc n g o))

-- the rules of all lines are those from the polygons on, behind a line without rules
rules_joined : (c : Certificate) → line_rules c ≡ [] ∷ polygons_on_rules c
rules_joined c =
    let B : List (List Rule) = polygon_count c ∷ each (polygon_rules c) c.polygons in
    let C : List (List Rule) = curve_count c ∷ each (curve_rules c) c.curves in
    let S : List (List Rule) = slide_count c ∷ each (slide_rules c) c.slides in
    let T : List (List Rule) = twist_count c ∷ each (twist_rules c) c.twists in
    let F : List (List Rule) = finger_count c ∷ each (finger_rules c) c.fingers in
    ap (λ (z : List (List Rule)). [] ∷ z) (parts_joined B C S T (drawing_rules c) (outcome_rules c)
    ∙ ap (λ (z : List (List Rule)). B ++ (C ++ (S ++ (T ++ (seams_rules c ∷ (basis_rules c ∷ z))))))
    (drawn_joined (each (strand_rules c) c.strands) F (each (final_rules c) c.finals) (generator_rules c ∷ (contact_rules c ∷ [])) (outcome_rules c)))

-- a text that begins with the version is judged by what follows
pub begins : (text : List ℕ) (lines : Lines) → read_one version_line (lines_of text) ≡ whole 1 lines.left → lines.taken ≡ 1 → AfterVersion text lines
begins text lines read taken = record {
  to = λ b. certificate_of (1, b);
  fields_are = λ b. refl;
  knows = λ b. tt;
  passes = ap judged (after_version text lines.left (polygons_on.read lines.left) read refl)
      ∙ (judges (polygons_on.read lines.left) ∙ ap (λ n. judged_from n (λ b. certificate_of (1, b)) polygons_on polygons_on_rules (polygons_on.read lines.left)) (sym taken));
}
  where
    numbered : (k : ℕ) (rules : List (List Rule)) → first_bad 2 rules (bad (suc (suc k)) form) ≡ first_bad 2 rules (bad (suc (1 + k)) form)
    numbered k rules = let more : suc k ≡ 1 + k = omega arith in ap (λ n. first_bad 2 rules (bad (suc n) form)) more

    judges : (r : Begun PolygonsOn) → judged (said (begun_as certificate_of (after_first 1 1 r))) ≡ judged_from 1 (λ b. certificate_of (1, b)) polygons_on polygons_on_rules r
    judges (whole b []) =
        let c = certificate_of (1, b) in
        ap (λ rules. first_bad 1 rules (valid (answer_of c.verdict))) (rules_joined c)
    judges (whole b (l ∷ ls)) =
        let c = certificate_of (1, b) in
        ap (λ rules. first_bad 1 (take (length (certificate_lines c)) rules) (bad (suc (length (certificate_lines c))) form)) (rules_joined c)
        ∙ numbered (length (polygons_on.write b)) (take (length (polygons_on.write b)) (polygons_on_rules c))
    judges (broken b m) =
        let c = certificate_of (1, b) in
        let more : 1 + m ≡ suc m = omega arith in
        ap₂ (λ (k : ℕ) rules. first_bad 1 (take k rules) (bad (suc k) form)) more (rules_joined c) ∙ numbered m (take m (polygons_on_rules c))

-- and one that doesn't is bad at once
pub no_version : (text : List ℕ) → read_one version_line (lines_of text) ≡ broken 1 0 → checked text ≡ bad 1 form
no_version text read = ap (λ r. judged (said (begun_as certificate_of (read_both (one version_line) (λ version. polygons_on) r)))) read

-- the columns are those of the last drawing
pub columned : (text : List ℕ) (lines : Lines) (d : Drawing) (count : ℕ) → AfterDrawing d count text lines → AfterColumns (columns d) count text lines
columned text lines d count after = record {
  to = after.to;
  fields_are = after.fields_are;
  knows = λ b. let h : HasGenerators d count (after.to b) = after.knows b in record { columns_are = ap columns h.last_is; count_is = h.count_is };
  passes = after.passes;
}
