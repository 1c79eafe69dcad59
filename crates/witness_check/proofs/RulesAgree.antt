-- Each line of a certificate has its list of rules, and the first lines of the text tell the rules of these lines.
use Rattle.std.proofs.Common.{◌≡◌, ℕ, zero, suc, ◌*◌, ◌/◌, ◌<◌, ◌&&◌, true, not, eqb, leb, List, [], ◌∷◌, ◌++◌, codes, length, map, take, refl, sym, ◌∙◌, ap, arith, append_assoc}
use Rattle.std.specs.Prelude.{is_ok, slice_index_or}
use Rattle.std.specs.List.{list_any}
use Rattle.std.specs.Option.{is_none}
use Rattle.std.specs.Str.{bytes_eq}
use Rattle.std.proofs.lemmas.Bool.{and_parts}
use Rattle.obd_base.specs.declared.points.Exit.{Exit}
use Rattle.page_surface.specs.Drawing.{is_embedded, strand_exits}
use Rattle.page_surface.specs.Page.{refusal_of as page_refusal}
use Rattle.curve_paths.specs.PathRules.{refusal_of as path_refusal}
use Rattle.drawing.specs.Fingers.{is_legal, replayed}
use Rattle.region_table.specs.Nice.{is_nice}
use Rattle.mod2_rank.specs.Linear.{same_list}
use Rattle.witness_check.specs.declared.certificate.Certificate.{Certificate}
use Rattle.curve_paths.specs.declared.named.NamedPath.{NamedPath}
use Rattle.witness_check.specs.Forms.{LineForm}
use Rattle.witness_check.specs.Reading.{is_number}
use Rattle.witness_check.specs.Lines.{basis_line, contact_line, counted, curve_line, end_line, finger_line, homology_line, number_line, pivot_line, polygon_line, seams_line, strand_line, twist_line, answer_line, version_line}
use Rattle.witness_check.specs.OpenBook.{arcs, seam_names}
use Rattle.witness_check.specs.Written.{first_drawing, last_drawing, last_words, polygon, slid_by, words_by}
use Rattle.mod2_rank.specs.PivotRules.{reducers}
use Rattle.mod2_rank.specs.PivotLines.{next_column, pivot_line_passes}
use Rattle.witness_check.specs.declared.checked.Reason.TheVariants.{Page as page, Limit as limit, Curve as curve, Slide as slide, Twist as twist, Basis as basis_reason, Word as word, Drawing as drawing, Finger as finger, Final as final, Nice as nice, Pivot as pivot}
use Rattle.witness_check.specs.Rules.{Rule, contact_rules, curve_rules, drawing_rules, each, final_rules, finger_rules, generator_rules, homology_rules, is_power, last_columns, line_rules, outcome_rules, pivot_rules, polygon_count, polygon_rules, rank_rules, rule, same_exits, same_names, slide_rules, strand_rules, twist_rules, verdict_rules}
use Rattle.witness_check.specs.Splitting.{is_blank}
use Rattle.witness_check.specs.Grammar.{Drawn, Outcome, Parts, certificate_form, certificate_lines, certificate_of, drawn_form, fits, outcome_form, parts_form, parts_of}
use Rattle.witness_check.proofs.Agreeing.{IsLocal, RulesOf, both_rules, counted_rules, last_local, one_rules, rows_rules, seen_rules}
use Rattle.witness_check.proofs.Cutting.{Free}
use Rattle.witness_check.proofs.LineLaws.{basis_law, contact_law, counted_law, curve_law, end_law, finger_law, homology_law, number_law, pivot_law, polygon_law, seams_law, strand_law, twist_law, verdict_law, version_law}
use Rattle.witness_check.proofs.Prefixes.{take_fewer}
use Rattle.witness_check.proofs.Rows.{rows_section}
use Rattle.witness_check.proofs.Sections.{IsLineForm, one_section}
use Rattle.witness_check.proofs.TextLaws.{below_number}
use Rattle.witness_check.proofs.WordLaws.{free_from_test}

-- a certificate of which some fields are of no account
abbrev nothing : Certificate
nothing = certificate_of parts_form.blank

list_rules : {A : Type 0} (many : List ℕ) (form : LineForm A) → Free is_blank many → IsLineForm form → (first : ℕ → List Rule) (f : List A → ℕ → A → List Rule) → IsLocal f
    → RulesOf (counted many form) (λ xs. first (length xs) ∷ each (f xs) xs)
list_rules many form free ok first f local =
    counted_rules many form (one_section (number_line many) (number_law many free)) (number_law many free) ok first f local

take_map : {A B : Type 0} (f : A → B) (n : ℕ) (xs : List A) → take n (map f xs) ≡ map f (take n xs)
take_map f zero xs = refl
take_map f (suc n) [] = refl
take_map f (suc n) (x ∷ xs) = ap (λ z. f x ∷ z) (take_map f n xs)

one_less : {A : Type 0} (n : ℕ) (xs ys : List A) → take (suc n) xs ≡ take (suc n) ys → take n xs ≡ take n ys
one_less n xs ys e = take_fewer n (suc n) xs ys (omega arith) e

four : {A : Type 0} (a b c d x : List A) → (a ++ (b ++ (c ++ d))) ++ x ≡ a ++ (b ++ (c ++ (d ++ x)))
four a b c d x = simp append_assoc refl

module _ where
  -- the lines from the pivots on, after some fields
  abbrev OutcomeRules : Certificate → Outcome → List (List Rule)
  OutcomeRules k (pivots, (rank, (homology, (verdict, e)))) =
      ((rule pivot (leb (length pivots) k.generators) ∷ []) ∷ each (pivot_rules (record k { pivots = pivots })) pivots)
      ++ ((rank_rules (record k { pivots = pivots; rank = rank }) ∷ [])
      ++ ((homology_rules (record k { rank = rank; homology = homology }) ∷ [])
      ++ ((verdict_rules (record k { verdict = verdict }) ∷ []) ++ ([] ∷ []))))

  outcome_agrees : (k : Certificate) → RulesOf outcome_form (OutcomeRules k)
  outcome_agrees k =
      both_rules (counted_law (codes "pivots") pivot_line (free_from_test is_blank (codes "pivots") refl) pivot_law)
      (list_rules (codes "pivots") pivot_line (free_from_test is_blank (codes "pivots") refl) pivot_law (λ n. rule pivot (leb n k.generators) ∷ [])
      (λ xs. pivot_rules (record k { pivots = xs }))
      (λ xs ys i x l at e. ap (λ w. rule pivot (pivot_line_passes k.generators (last_columns k) (next_column 0 w) (reducers k.generators (last_columns k) [] w) x) ∷ [])
      (one_less i xs ys e)))
      (λ pivots h1.
      both_rules (one_section (number_line (codes "rank")) rank_law)
      (one_rules (number_line (codes "rank")) rank_law (λ rank. rank_rules (record k { pivots = pivots; rank = rank })))
      (λ rank h2.
      both_rules (one_section homology_line homology_law) (one_rules homology_line homology_law (λ homology. homology_rules (record k { rank = rank; homology = homology })))
      (λ homology h3.
      both_rules (one_section answer_line verdict_law) (one_rules answer_line verdict_law (λ verdict. verdict_rules (record k { verdict = verdict })))
      (λ verdict h4. one_rules end_line end_law (λ e. [])))))
    where
      rank_law : IsLineForm (number_line (codes "rank"))
      rank_law = number_law (codes "rank") (free_from_test is_blank (codes "rank") refl)

  -- from the first drawing on
  abbrev DrawnRules : Certificate → Drawn → List (List Rule)
  DrawnRules k (strands, (fingers, (finals, (generators, ((contact, points), outcome))))) =
      let d = record k { strands = strands; fingers = fingers; finals = finals } in
      each (strand_rules (record k { strands = strands })) strands
      ++ (((rule limit (leb (length fingers) 20000) ∷ []) ∷ each (finger_rules (record k { strands = strands; fingers = fingers })) fingers)
      ++ (each (final_rules d) finals
      ++ ((generator_rules (record d { generators = generators }) ∷ [])
      ++ ((contact_rules (record d { generators = generators; contact = contact; points = points }) ∷ [])
      ++ OutcomeRules (record d { generators = generators; contact = contact; points = points }) outcome))))

  drawn_agrees : (k : Certificate) (n : ℕ) → is_number n ≡ true → RulesOf (drawn_form n) (DrawnRules k)
  drawn_agrees k n h =
      both_rules (rows_section (strand_line (codes "strand")) n (strand_ok (codes "strand") (free_from_test is_blank (codes "strand") refl)))
      (rows_rules (strand_line (codes "strand")) n (strand_ok (codes "strand") (free_from_test is_blank (codes "strand") refl))
      (λ xs. strand_rules (record k { strands = xs }))
      (λ xs ys i x l at e. ap (λ z. rule word (same_list (map (λ (u : Exit). u.side) x) (slice_index_or (last_words k) i [])) ∷ z)
      (last_local (λ zs. rule drawing (is_embedded (first_drawing (record k { strands = zs })))) xs ys i l e)))
      (λ strands h1.
      both_rules (counted_law (codes "fingers") finger_line (free_from_test is_blank (codes "fingers") refl) finger_law)
      (list_rules (codes "fingers") finger_line (free_from_test is_blank (codes "fingers") refl) finger_law (λ m. rule limit (leb m 20000) ∷ [])
      (λ xs. finger_rules (record k { strands = strands; fingers = xs }))
      (λ xs ys i x l at e. ap (λ w. rule finger (is_legal (replayed (first_drawing (record k { strands = strands })) w) x) ∷ []) (one_less i xs ys e)))
      (λ fingers h2.
      both_rules (rows_section (strand_line (codes "final")) n (strand_ok (codes "final") (free_from_test is_blank (codes "final") refl)))
      (rows_rules (strand_line (codes "final")) n (strand_ok (codes "final") (free_from_test is_blank (codes "final") refl))
      (λ xs. final_rules (record k { strands = strands; fingers = fingers; finals = xs }))
      (λ xs ys i x l at e. ap (λ z. rule final (same_exits x (strand_exits (last_drawing (record k { strands = strands; fingers = fingers })) i)) ∷ z)
      (last_local (λ zs. rule nice (is_nice (last_drawing (record k { strands = strands; fingers = fingers })))) xs ys i l e)))
      (λ finals h3.
      both_rules (one_section (number_line (codes "generators")) generators_law)
      (one_rules (number_line (codes "generators")) generators_law (λ g. generator_rules (record k { strands = strands; fingers = fingers; finals = finals; generators = g })))
      (λ generators h4.
      both_rules (one_section (contact_line n) (contact_law n))
      (one_rules (contact_line n) (contact_law n)
      (λ c. contact_rules (record k { strands = strands; fingers = fingers; finals = finals; generators = generators; contact = c.0; points = c.1 })))
      (λ c h5. outcome_agrees (record k { strands = strands; fingers = fingers; finals = finals; generators = generators; contact = c.0; points = c.1 }))))))
    where
      strand_ok : (kind : List ℕ) → Free is_blank kind → (j : ℕ) → j < n → IsLineForm (strand_line kind j)
      strand_ok kind f j l = strand_law kind j f (below_number n j h l)

      generators_law : IsLineForm (number_line (codes "generators"))
      generators_law = number_law (codes "generators") (free_from_test is_blank (codes "generators") refl)

  -- all lines
  abbrev PartsRules : Parts → List (List Rule)
  PartsRules (version, (polygons, (curves, (slides, (twists, (seams, (basis, drawn))))))) =
      let c = record nothing { polygons = polygons; curves = curves; slides = slides; twists = twists } in
      ([] ∷ [])
      ++ (((rule page (leb 1 (length polygons) && leb (length polygons) 16) ∷ []) ∷ each (polygon_rules (record nothing { polygons = polygons })) polygons)
      ++ (((rule limit (leb (length curves) 32) ∷ []) ∷ each (curve_rules (record nothing { polygons = polygons; curves = curves })) curves)
      ++ (((rule limit (leb (length slides) 64) ∷ []) ∷ each (slide_rules (record nothing { polygons = polygons; curves = curves; slides = slides })) slides)
      ++ (((rule limit (leb (length twists) 256) ∷ []) ∷ each (twist_rules c) twists)
      ++ (((rule basis_reason (same_names seams (seam_names polygons)) ∷ []) ∷ [])
      ++ (((rule basis_reason (same_list basis (arcs (polygon c))) ∷ []) ∷ [])
      ++ DrawnRules c drawn))))))

  parts_agree : RulesOf parts_form PartsRules
  parts_agree =
      both_rules (one_section version_line version_law) (one_rules version_line version_law (λ v. []))
      (λ version h1.
      both_rules (counted_law (codes "polygons") polygon_line (free_from_test is_blank (codes "polygons") refl) polygon_law)
      (list_rules (codes "polygons") polygon_line (free_from_test is_blank (codes "polygons") refl) polygon_law (λ n. rule page (leb 1 n && leb n 16) ∷ [])
      (λ xs. polygon_rules (record nothing { polygons = xs }))
      (λ xs ys i x l at e. last_local (λ zs. rule page (is_none (page_refusal zs))) xs ys i l e))
      (λ polygons h2.
      both_rules (counted_law (codes "curves") curve_line (free_from_test is_blank (codes "curves") refl) curve_law)
      (list_rules (codes "curves") curve_line (free_from_test is_blank (codes "curves") refl) curve_law (λ n. rule limit (leb n 32) ∷ [])
      (λ xs. curve_rules (record nothing { polygons = polygons; curves = xs }))
      (λ xs ys i x l at e. ap (λ ns. rule curve (not (list_any (bytes_eq x.name) ns) && is_none (path_refusal polygons x.path)) ∷ [])
      (take_map (λ (u : NamedPath). u.name) i xs ∙ (ap (map (λ (u : NamedPath). u.name)) (one_less i xs ys e) ∙ sym (take_map (λ (u : NamedPath). u.name) i ys)))))
      (λ curves h3.
      both_rules (counted_law (codes "slides") (number_line (codes "slide")) (free_from_test is_blank (codes "slides") refl) side_law)
      (list_rules (codes "slides") (number_line (codes "slide")) (free_from_test is_blank (codes "slides") refl) side_law (λ n. rule limit (leb n 64) ∷ [])
      (λ xs. slide_rules (record nothing { polygons = polygons; curves = curves; slides = xs }))
      (λ xs ys i x l at e. ap (λ ks. rule slide (is_ok (slid_by (record nothing { polygons = polygons; curves = curves }) ks)) ∷ []) e))
      (λ slides h4.
      both_rules (counted_law (codes "twists") twist_line (free_from_test is_blank (codes "twists") refl) twist_law)
      (list_rules (codes "twists") twist_line (free_from_test is_blank (codes "twists") refl) twist_law (λ n. rule limit (leb n 256) ∷ [])
      (λ xs. twist_rules (record nothing { polygons = polygons; curves = curves; slides = slides; twists = xs }))
      (λ xs ys i x l at e.
      ap (λ ts. rule twist (list_any (bytes_eq x.name) (map (λ (u : NamedPath). u.name) curves) && is_power x.power)
      ∷ rule limit (is_ok (words_by (record nothing { polygons = polygons; curves = curves; slides = slides }) ts)) ∷ []) e))
      (λ twists h5.
      both_rules (one_section seams_line seams_law) (one_rules seams_line seams_law (λ seams. rule basis_reason (same_names seams (seam_names polygons)) ∷ []))
      (λ seams h6.
      both_rules (one_section basis_line basis_law)
      (one_rules basis_line basis_law (λ basis. rule basis_reason (same_list basis (arcs (polygon (record nothing { polygons = polygons; curves = curves; slides = slides; twists = twists })))) ∷ []))
      (λ basis h7.
      drawn_agrees (record nothing { polygons = polygons; curves = curves; slides = slides; twists = twists }) (length basis / 2)
      (and_parts (is_number (length basis / 2)) _ (and_parts (eqb (2 * (length basis / 2)) (length basis)) _ h7).1).0)))))))
    where
      side_law : IsLineForm (number_line (codes "slide"))
      side_law = number_law (codes "slide") (free_from_test is_blank (codes "slide") refl)

  -- the rules line by line are these
  same_rules : (c : Certificate) → PartsRules (parts_of c) ≡ line_rules c
  same_rules c =
      let P : List (List Rule) = [] ∷ (polygon_count c ∷ each (polygon_rules c) c.polygons) in
      let C : List (List Rule) = (rule limit (leb (length c.curves) 32) ∷ []) ∷ each (curve_rules c) c.curves in
      let S : List (List Rule) = (rule limit (leb (length c.slides) 64) ∷ []) ∷ each (slide_rules c) c.slides in
      let T : List (List Rule) = (rule limit (leb (length c.twists) 256) ∷ []) ∷ each (twist_rules c) c.twists in
      let E : List (List Rule) =
      (rule basis_reason (same_names c.seams (seam_names c.polygons)) ∷ []) ∷ ((rule basis_reason (same_list c.basis (arcs (polygon c))) ∷ []) ∷ each (strand_rules c) c.strands) in
      let F : List (List Rule) = (rule limit (leb (length c.fingers) 20000) ∷ []) ∷ each (finger_rules c) c.fingers in
      sym (four P C S T (drawing_rules c ++ outcome_rules c)
      ∙ ap (λ z. P ++ (C ++ (S ++ (T ++ z)))) (four E F (each (final_rules c) c.finals) (generator_rules c ∷ (contact_rules c ∷ [])) (outcome_rules c)))

  parts_seen : RulesOf certificate_form (λ c. PartsRules (parts_of c))
  parts_seen = seen_rules certificate_of parts_of parts_agree

  -- each line has its list of rules
  pub rules_of_lines : (c : Certificate) → fits c ≡ true → length (line_rules c) ≡ length (certificate_lines c)
  rules_of_lines c h = ap length (sym (same_rules c)) ∙ parts_seen.sized c h

  -- and certificates with the same first lines have the same rules for these
  pub rules_agree : (c d : Certificate) (n : ℕ) → fits c ≡ true → fits d ≡ true → take n (certificate_lines c) ≡ take n (certificate_lines d)
      → take n (line_rules c) ≡ take n (line_rules d)
  rules_agree c d n h k e = ap (take n) (sym (same_rules c)) ∙ (parts_seen.same c d n h k e ∙ ap (take n) (same_rules d))
