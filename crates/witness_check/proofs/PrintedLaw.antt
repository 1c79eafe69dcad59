-- What is printed list by list is the text of the certificate's lines.
use Rattle.std.proofs.Common.{◌≡◌, ℕ, suc, ◌+◌, ◌/◌, List, [], ◌∷◌, ◌++◌, codes, decimal, length, map, refl, sym, ◌∙◌, ap, ap₂, arith, append_assoc, append-nil}
use Rattle.std.specs.List.{enumerate_from, flat_map}
use Rattle.obd_base.specs.declared.points.Exit.{Exit}
use Rattle.mod2_rank.specs.declared.outcome.Verdict.{Verdict}
use Rattle.mod2_rank.specs.declared.outcome.Verdict.TheVariants.{Chain, Functional}
use Rattle.witness_check.specs.declared.certificate.Certificate.{Certificate}
use Rattle.witness_check.specs.Forms.{LineForm, write_rows, written}
use Rattle.witness_check.specs.Line.{exit_text, line}
use Rattle.witness_check.specs.Lines.{basis_line, contact_line, counted, curve_line, end_line, finger_line, homology_line, number_line, pivot_line, polygon_line, seams_line, strand_line, twist_line, answer_line, version_line}
use Rattle.witness_check.specs.Line.{lines, listed}
use Rattle.witness_check.specs.Text.{finger_words, path_words, pivot_words, polygon_words, certificate_text, slide_words, strand_lines, twist_words, verdict_line}
use Rattle.witness_check.specs.Grammar.{certificate_lines, drawn_form, drawn_of, outcome_form, outcome_of}

flat : List (List ℕ) → List ℕ
flat ls = flat_map (λ l. l) ls

pub flat_append : (ks ls : List (List ℕ)) → flat_map (λ l. l) (ks ++ ls) ≡ flat_map (λ l. l) ks ++ flat_map (λ l. l) ls
flat_append [] ls = refl
flat_append (k ∷ ks) ls = ap (λ x. k ++ x) (flat_append ks ls) ∙ sym (append_assoc k (flat_map (λ l. l) ks) (flat_map (λ l. l) ls))

rows_flat : {A : Type 0} (form : LineForm A) (i : ℕ) (xs : List A) → flat_map (λ l. l) (write_rows (λ j. form) i xs) ≡ flat_map (λ x. written form x) xs
rows_flat form i [] = refl
rows_flat form i (x ∷ xs) = ap (λ t. written form x ++ t) (rows_flat form (suc i) xs)

strands_flat : (kind : List ℕ) (i j : ℕ) (xs : List (List Exit)) → i ≡ j
    → flat_map (λ l. l) (write_rows (strand_line kind) i xs) ≡ flat_map (λ row. line kind (decimal row.0 ∷ map exit_text row.1)) (enumerate_from j xs)
strands_flat kind i j [] e = refl
strands_flat kind i j (x ∷ xs) e = ap₂ (λ a b. a ++ b) (ap (λ k. line kind (decimal k ∷ map exit_text x)) e) (strands_flat kind (suc i) (j + 1) xs (omega (arith, e)))

-- a list with its number
counted_text : {A : Type 0} (many kind : List ℕ) (words : A → List (List ℕ)) (form : LineForm A) (xs : List A) → ((x : A) → written form x ≡ line kind (words x))
    → flat_map (λ l. l) ((counted many form).write xs) ≡ listed many kind words xs
unfolding listed lines
counted_text {A = A} many kind words form xs same = ap (λ t. line many (decimal (length xs) ∷ []) ++ t) (rows_flat form 0 xs ∙ each xs)
  where
    each : (ys : List A) → flat_map (λ x. written form x) ys ≡ flat_map (λ x. line kind (words x)) ys
    each [] = refl
    each (y ∷ ys) = ap₂ (λ a b. a ++ b) (same y) (each ys)

strand_text : (kind : List ℕ) (xs : List (List Exit)) → flat_map (λ l. l) (write_rows (strand_line kind) 0 xs) ≡ strand_lines kind xs
unfolding lines
strand_text kind xs = strands_flat kind 0 0 xs refl

version_text : (n : ℕ) → written version_line n ≡ line (codes "contact certificate") (decimal n ∷ [])
unfolding line
version_text n = refl

verdict_is : (v : Verdict) → written answer_line v ≡ verdict_line v
verdict_is (Chain xs) = refl
verdict_is (Functional xs) = refl

-- the lines, put together, are the text
record Writes (ls : List (List ℕ)) (t : List ℕ) : Type 0 where
  same : flat_map (λ l. l) ls ≡ t

-- two parts of the text
parts : {ks ls : List (List ℕ)} {s t : List ℕ} → Writes ks s → Writes ls t → Writes (ks ++ ls) (s ++ t)
parts {ks = ks} {ls = ls} e f = record { same = flat_append ks ls ∙ ap₂ (λ a b. a ++ b) e.same f.same }

one_text : {l : List ℕ} (s : List ℕ) → l ≡ s → Writes (l ∷ []) s
one_text {l = l} s e = record { same = append-nil l ∙ e }

list_text : {A : Type 0} (many kind : List ℕ) (words : A → List (List ℕ)) (form : LineForm A) (xs : List A) → ((x : A) → written form x ≡ line kind (words x))
    → Writes ((counted many form).write xs) (listed many kind words xs)
list_text many kind words form xs same = record { same = counted_text many kind words form xs same }

rows_text : (kind : List ℕ) (xs : List (List Exit)) → Writes (write_rows (strand_line kind) 0 xs) (strand_lines kind xs)
rows_text kind xs = record { same = strand_text kind xs }

outcome_is : (c : Certificate) → Writes (outcome_form.write (outcome_of c))
    (listed (codes "pivots") (codes "pivot") pivot_words c.pivots ++ (line (codes "rank") (decimal c.rank ∷ []) ++ (written homology_line c.homology ++ (verdict_line c.verdict ++ line (codes "end") []))))
outcome_is c =
    parts (list_text (codes "pivots") (codes "pivot") pivot_words pivot_line c.pivots (λ p. refl))
    (parts (one_text (written (number_line (codes "rank")) c.rank) refl)
    (parts (one_text (written homology_line c.homology) refl)
    (parts (one_text (verdict_line c.verdict) (verdict_is c.verdict)) (one_text (written end_line tt) refl))))

drawn_is : (c : Certificate) → Writes ((drawn_form (length c.basis / 2)).write (drawn_of c))
    (strand_lines (codes "strand") c.strands ++ (listed (codes "fingers") (codes "finger") finger_words c.fingers ++ (strand_lines (codes "final") c.finals
    ++ (line (codes "generators") (decimal c.generators ∷ []) ++ (line (codes "contact") (decimal c.contact ∷ map decimal c.points)
    ++ (listed (codes "pivots") (codes "pivot") pivot_words c.pivots ++ (line (codes "rank") (decimal c.rank ∷ []) ++ (written homology_line c.homology ++ (verdict_line c.verdict ++ line (codes "end") [])))))))))
drawn_is c =
    parts (rows_text (codes "strand") c.strands)
    (parts (list_text (codes "fingers") (codes "finger") finger_words finger_line c.fingers (λ f. refl))
    (parts (rows_text (codes "final") c.finals)
    (parts (one_text (written (number_line (codes "generators")) c.generators) refl)
    (parts (one_text (written (contact_line (length c.basis / 2)) (c.contact, c.points)) refl) (outcome_is c)))))

all_is : (c : Certificate) → Writes (certificate_lines c)
    (line (codes "contact certificate") (decimal c.version ∷ []) ++ (listed (codes "polygons") (codes "polygon") polygon_words c.polygons
    ++ (listed (codes "curves") (codes "curve") path_words c.curves ++ (listed (codes "slides") (codes "slide") slide_words c.slides
    ++ (listed (codes "twists") (codes "twist") twist_words c.twists ++ (line (codes "seams") (decimal (length c.seams) ∷ c.seams) ++ (line (codes "basis") (map decimal c.basis)
    ++ (strand_lines (codes "strand") c.strands ++ (listed (codes "fingers") (codes "finger") finger_words c.fingers ++ (strand_lines (codes "final") c.finals
    ++ (line (codes "generators") (decimal c.generators ∷ []) ++ (line (codes "contact") (decimal c.contact ∷ map decimal c.points)
    ++ (listed (codes "pivots") (codes "pivot") pivot_words c.pivots ++ (line (codes "rank") (decimal c.rank ∷ []) ++ (written homology_line c.homology ++ (verdict_line c.verdict ++ line (codes "end") []))))))))))))))))
all_is c =
    parts (one_text (line (codes "contact certificate") (decimal c.version ∷ [])) (version_text c.version))
    (parts (list_text (codes "polygons") (codes "polygon") polygon_words polygon_line c.polygons (λ p. refl))
    (parts (list_text (codes "curves") (codes "curve") path_words curve_line c.curves (λ p. refl))
    (parts (list_text (codes "slides") (codes "slide") slide_words (number_line (codes "slide")) c.slides (λ p. refl))
    (parts (list_text (codes "twists") (codes "twist") twist_words twist_line c.twists (λ p. refl))
    (parts (one_text (written seams_line c.seams) refl)
    (parts (one_text (written basis_line c.basis) refl) (drawn_is c)))))))

-- so the text of a certificate is that of its lines
pub text_of_certificate : (c : Certificate) → flat_map (λ l. l) (certificate_lines c) ≡ certificate_text c
text_of_certificate c = (all_is c).same ∙ sym (simp append_assoc refl)
