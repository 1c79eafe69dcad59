-- A text says a certificate exactly where it is the certificate's text; and else it breaks off at the first line
-- without its form.
use Rattle.std.proofs.Common.{◌≡◌, ℕ, suc, ◌+◌, ◌<◌, ◌≤◌, ◌*◌, ◌/◌, Bool, true, false, eqb, List, [], ◌∷◌, ◌++◌, codes, length, take, refl, sym, ◌∙◌, ap, subst, arith, append-nil, leb, leb-true, leb-false, le-leb, drop}
use Rattle.std.specs.List.{flat_map}
use Rattle.std.proofs.lemmas.Bool.{and_parts}
use Rattle.witness_check.specs.declared.certificate.Certificate.{Certificate}
use Rattle.witness_check.specs.Forms.{Begun, broken, whole}
use Rattle.witness_check.specs.Reading.{is_number}
use Rattle.witness_check.specs.Lines.{curve_line, finger_line, number_line, pivot_line, polygon_line, strand_line, twist_line}
use Rattle.witness_check.specs.Splitting.{is_blank, lines_of}
use Rattle.witness_check.specs.Grammar.{BeginsAs, BreaksAfter, breaks, certificate_form, certificate_lines, certificate_of, drawn_form, fits, outcome_form, parsed, parts_form, parts_of, said, says}
use Rattle.witness_check.specs.Text.{certificate_text}
use Rattle.witness_check.proofs.Cutting.{lines_of_lines, text_of_lines}
use Rattle.witness_check.proofs.LineLaws.{basis_law, contact_law, counted_law, curve_law, end_law, finger_law, homology_law, number_law, pivot_law, polygon_law, seams_law, strand_law, twist_law, verdict_law, version_law}
use Rattle.witness_check.proofs.Prefixes.{goes_on, goes_on_as, take_fewer, take_past}
use Rattle.witness_check.proofs.PrintedLaw.{text_of_certificate}
use Rattle.witness_check.proofs.Rows.{rows_section, seen_section}
use Rattle.witness_check.proofs.Sections.{IsSection, one_section, whole_rest}
use Rattle.witness_check.proofs.Sequences.{both_section}
use Rattle.witness_check.proofs.WordLaws.{free_from_test}

pub outcome_section : IsSection outcome_form
outcome_section =
    both_section _ _ (counted_law (codes "pivots") pivot_line (free_from_test is_blank (codes "pivots") refl) pivot_law) (λ pivots h1.
    both_section _ _ (one_section _ (number_law (codes "rank") (free_from_test is_blank (codes "rank") refl))) (λ rank h2.
    both_section _ _ (one_section _ homology_law) (λ homology h3.
    both_section _ _ (one_section _ verdict_law) (λ verdict h4. one_section _ end_law))))

pub below_number : (n j : ℕ) → is_number n ≡ true → j < n → is_number j ≡ true
below_number n j h l = let k : n ≤ 4294967295 = leb-true n 4294967295 h in le-leb j 4294967295 (omega (arith, k))

pub drawn_section : (n : ℕ) → is_number n ≡ true → IsSection (drawn_form n)
drawn_section n h =
    both_section _ _ (rows_section (strand_line (codes "strand")) n (λ j l. strand_law (codes "strand") j (free_from_test is_blank (codes "strand") refl) (below_number n j h l))) (λ strands h1.
    both_section _ _ (counted_law (codes "fingers") finger_line (free_from_test is_blank (codes "fingers") refl) finger_law) (λ fingers h2.
    both_section _ _ (rows_section (strand_line (codes "final")) n (λ j l. strand_law (codes "final") j (free_from_test is_blank (codes "final") refl) (below_number n j h l))) (λ finals h3.
    both_section _ _ (one_section _ (number_law (codes "generators") (free_from_test is_blank (codes "generators") refl))) (λ generators h4.
    both_section _ _ (one_section _ (contact_law n)) (λ contact h5. outcome_section)))))

pub parts_section : IsSection parts_form
parts_section =
    both_section _ _ (one_section _ version_law) (λ version h1.
    both_section _ _ (counted_law (codes "polygons") polygon_line (free_from_test is_blank (codes "polygons") refl) polygon_law) (λ polygons h2.
    both_section _ _ (counted_law (codes "curves") curve_line (free_from_test is_blank (codes "curves") refl) curve_law) (λ curves h3.
    both_section _ _ (counted_law (codes "slides") (number_line (codes "slide")) (free_from_test is_blank (codes "slides") refl)
    (number_law (codes "slide") (free_from_test is_blank (codes "slide") refl))) (λ slides h4.
    both_section _ _ (counted_law (codes "twists") twist_line (free_from_test is_blank (codes "twists") refl) twist_law) (λ twists h5.
    both_section _ _ (one_section _ seams_law) (λ seams h6.
    both_section _ _ (one_section _ basis_law) (λ basis h7.
    drawn_section (length basis / 2) (and_parts (is_number (length basis / 2)) _ (and_parts (eqb (2 * (length basis / 2)) (length basis)) _ h7).1).0)))))))

pub certificate_section : IsSection certificate_form
certificate_section = seen_section certificate_of parts_of parts_form parts_section (λ c. refl) (λ p h. refl)

-- the text of a certificate that fits is cut into its lines
pub lines_of_certificate : (c : Certificate) → fits c ≡ true → lines_of (certificate_text c) ≡ certificate_lines c
lines_of_certificate c h = ap lines_of (sym (text_of_certificate c)) ∙ lines_of_lines (certificate_lines c) (certificate_section.lines c h)

-- the printed text of a certificate that fits says it
pub printed_parses : (c : Certificate) → fits c ≡ true → parsed (certificate_text c) ≡ says c
printed_parses c h =
    ap (λ ls. said (certificate_form.read ls)) (lines_of_certificate c h ∙ sym (append-nil (certificate_lines c)))
    ∙ ap said (certificate_section.back c [] h)

says_same : {c d : Certificate} → says c ≡ says d → c ≡ d
says_same e = cc

breaks_same : {c d : Certificate} {m n : ℕ} → breaks c m ≡ breaks d n → (c ≡ d) × (m ≡ n)
breaks_same {c = c} {d = d} {m = m} {n = n} e = let p : c ≡ d = cc in let q : m ≡ n = cc in (p, q)

-- and no other text does
pub parsed_printed : (text : List ℕ) (c : Certificate) → parsed text ≡ says c → (fits c ≡ true) × (text ≡ certificate_text c)
parsed_printed text c e = go (certificate_form.read (lines_of text)) refl e
  where
    go : (r : Begun Certificate) → certificate_form.read (lines_of text) ≡ r → said r ≡ says c → (fits c ≡ true) × (text ≡ certificate_text c)
    go (broken d n) q h = cc
    go (whole d (l ∷ ls)) q h = cc
    go (whole d []) q h =
        let v : d ≡ c = says_same h in
        let (p, w) = certificate_section.only (lines_of text) c [] (q ∙ ap (λ x. whole x []) v) in
        (p, sym (text_of_lines text) ∙ (ap (flat_map (λ l. l)) (w ∙ append-nil (certificate_lines c)) ∙ text_of_certificate c))

-- lines as many as there are
take_whole : {A : Type 0} (xs ys : List A) → take (length xs) (xs ++ ys) ≡ xs
take_whole [] ys = refl
take_whole (x ∷ xs) ys = ap (λ z. x ∷ z) (take_whole xs ys)

-- what is read where the text breaks off
abbrev pub Broken : List ℕ → Certificate → ℕ → Type 0
Broken text c n = (n ≤ length (certificate_lines c)) × BeginsAs text n c × ((d : Certificate) → BeginsAs text (suc n) d → ⊥)

-- further lines after those of a certificate
no_further : (text : List ℕ) (d : Certificate) (l : List ℕ) (ls : List (List ℕ)) → fits d ≡ true → lines_of text ≡ certificate_lines d ++ (l ∷ ls)
    → (e : Certificate) → BeginsAs text (suc (length (certificate_lines d))) e → ⊥
no_further text d l ls f w e (g, q) =
    let n : ℕ = length (certificate_lines d) in
    let count : suc (length (certificate_lines d)) ≡ length (certificate_lines d) + 1 = omega arith in
    let long : take (suc (length (certificate_lines d))) (certificate_lines e) ≡ certificate_lines d ++ (l ∷ []) =
    sym q ∙ (ap (take (suc (length (certificate_lines d)))) w ∙ take_past (suc (length (certificate_lines d))) 1 (certificate_lines d) (l ∷ ls) count) in
    let on : certificate_lines e ≡ certificate_lines d ++ drop (length (certificate_lines d)) (certificate_lines e) =
    goes_on (suc (length (certificate_lines d))) 1 (certificate_lines d) (l ∷ ls) (certificate_lines e) count long in
    let again : whole e [] ≡ whole d (drop (length (certificate_lines d)) (certificate_lines e)) =
    sym (ap certificate_form.read (sym (append-nil (certificate_lines e))) ∙ certificate_section.back e [] g)
    ∙ (ap certificate_form.read on ∙ certificate_section.back d (drop (length (certificate_lines d)) (certificate_lines e)) f) in
    let none : [] ≡ drop (length (certificate_lines d)) (certificate_lines e) = whole_rest again in
    let one : take 1 (drop (length (certificate_lines d)) (certificate_lines e)) ≡ l ∷ [] =
    goes_on_as (suc (length (certificate_lines d))) 1 (certificate_lines d) (l ∷ ls) (drop (length (certificate_lines d)) (certificate_lines e)) count
    (ap (take (suc (length (certificate_lines d)))) (sym on) ∙ long) in
    let empty : [] ≡ l ∷ [] = ap (take 1) none ∙ one in
    cc

-- where a text breaks off, its lines so far are a certificate's, and with the next one they are none's
pub parsed_breaks : (text : List ℕ) (c : Certificate) (n : ℕ) → parsed text ≡ breaks c n → Broken text c n
parsed_breaks text c n e = go (certificate_form.read (lines_of text)) refl e
  where
    go : (r : Begun Certificate) → certificate_form.read (lines_of text) ≡ r → said r ≡ breaks c n → Broken text c n
    go (whole d []) q h = cc
    go (whole d (l ∷ ls)) q h =
        let (v, m) = breaks_same h in
        let (p, w) = certificate_section.only (lines_of text) d (l ∷ ls) q in
        subst (λ k. Broken text c k) m (subst (λ x. Broken text x (length (certificate_lines d))) v (
          omega arith,
          (
            p,
            ap (take (length (certificate_lines d))) w ∙ (take_whole (certificate_lines d) (l ∷ ls)
                ∙ sym (ap (take (length (certificate_lines d))) (sym (append-nil (certificate_lines d))) ∙ take_whole (certificate_lines d) [])),
          ),
          no_further text d l ls p w,
        ))
    go (broken d m) q h =
        let (v, k) = breaks_same h in
        let (p, l, w) = certificate_section.begun (lines_of text) d m q in
        subst (λ j. Broken text c j) k (subst (λ x. Broken text x m) v (
          omega (arith, l),
          (p, w),
          λ b g. certificate_section.wrong (lines_of text) d m q b [] g.0 (g.1 ∙ ap (take (suc m)) (sym (append-nil (certificate_lines b)))),
        ))

-- so line n + 1 is the first that lacks its form
pub breaks_after : (text : List ℕ) (c : Certificate) (n : ℕ) → parsed text ≡ breaks c n → BreaksAfter text n
breaks_after text c n e = let (l, b, w) = parsed_breaks text c n e in record { some = c; begins = b; enough = l; none = w }

-- there is one such line at most
pub breaks_once : (text : List ℕ) (m n : ℕ) → BreaksAfter text m → BreaksAfter text n → m ≤ n
breaks_once text m n a b = go (leb m n) refl
  where
    go : (t : Bool) → leb m n ≡ t → m ≤ n
    go true h = leb-true m n h
    go false h =
        let l : n < m = leb-false m n h in
        absurd (b.none a.some (a.begins.0, take_fewer (suc n) m (lines_of text) (certificate_lines a.some) l a.begins.1))
