-- Each line of a certificate is read as it is written.
use Rattle.std.proofs.Common.{◌≡◌, ℕ, zero, suc, ◌*◌, ◌/◌, true, eqb, List, ◌∷◌, codes, decimal, length, refl, ap, subst, arith, eqb-true, eq-eqb}
use Rattle.std.specs.List.{list_all}
use Rattle.std.proofs.lemmas.Bool.{and_parts, and_from}
use Rattle.mod2_rank.specs.declared.outcome.Verdict.{Verdict}
use Rattle.mod2_rank.specs.declared.outcome.Verdict.TheVariants.{Chain, Functional}
use Rattle.witness_check.specs.Forms.{LineForm, both, one, rows}
use Rattle.witness_check.specs.Line.{exit_text}
use Rattle.witness_check.specs.Reading.{cross_of, exit_of, is_cross, is_exit, is_name, is_number, number_of}
use Rattle.witness_check.specs.Text.{cross_text}
use Rattle.witness_check.specs.Lines.{basis_line, contact_line, counted, curve_line, end_line, finger_line, homology_line, number_line, pivot_line, polygon_line, seams_line, strand_line, twist_line, answer_line, verdict_numbers, version_line}
use Rattle.witness_check.specs.Splitting.{is_blank}
use Rattle.witness_check.proofs.Cutting.{Free}
use Rattle.witness_check.proofs.Sections.{IsLineForm, IsSection, one_section}
use Rattle.witness_check.proofs.Sequences.{both_section}
use Rattle.witness_check.proofs.Rows.{rows_section, seen_section}
use Rattle.witness_check.proofs.WordLaws.{all_back, all_free, cross_back, cross_free, exit_back, exit_free, free_from_test, name_plain, names_free, number_back, number_free, plain_no_blank, signed_back, signed_free}

name_free : (w : List ℕ) → is_name w ≡ true → Free is_blank w
name_free w h = plain_no_blank w (name_plain w h)

pub number_law : (kind : List ℕ) → Free is_blank kind → IsLineForm (number_line kind)
number_law kind f = record {
  blank_fits = refl;
  kind_free = λ n h. f;
  words_free = λ n h. (number_free n h, tt);
  back = λ n h. number_back n h;
}

pub version_law : IsLineForm version_line
version_law = record {
  blank_fits = refl;
  kind_free = λ n h. free_from_test is_blank (codes "contact") refl;
  words_free = λ n h. (free_from_test is_blank (codes "certificate") refl, (number_free n (small n h), tt));
  back = λ n h. number_back n (small n h);
}
  where
    small : (n : ℕ) → eqb 1 n ≡ true → is_number n ≡ true
    small n h = let e : 1 ≡ n = eqb-true 1 n h in subst (λ x. is_number x ≡ true) e refl

pub polygon_law : IsLineForm polygon_line
polygon_law = record {
  blank_fits = refl;
  kind_free = λ names h. free_from_test is_blank (codes "polygon") refl;
  words_free = λ names h. names_free names h;
  back = λ names h. refl;
}

pub curve_law : IsLineForm curve_line
curve_law = record {
  blank_fits = refl;
  kind_free = λ c h. free_from_test is_blank (codes "curve") refl;
  words_free = λ c h. let (p, q) = and_parts (is_name c.name) _ h in (name_free c.name p, all_free is_blank cross_text is_cross cross_free c.path q);
  back = λ c h. let (p, q) = and_parts (is_name c.name) _ h in rw (all_back cross_text cross_of is_cross cross_back c.path q) refl;
}

pub twist_law : IsLineForm twist_line
twist_law = record {
  blank_fits = refl;
  kind_free = λ t h. free_from_test is_blank (codes "twist") refl;
  words_free = λ t h. let (p, q) = and_parts (is_name t.name) _ h in (name_free t.name p, (signed_free t.power q, tt));
  back = λ t h. let (p, q) = and_parts (is_name t.name) _ h in rw (signed_back t.power q) refl;
}

pub seams_law : IsLineForm seams_line
seams_law = record {
  blank_fits = refl;
  kind_free = λ names h. free_from_test is_blank (codes "seams") refl;
  words_free = λ names h. let (p, q) = and_parts (is_number (length names)) _ h in (number_free (length names) p, names_free names q);
  back = λ names h. refl;
}

pub basis_law : IsLineForm basis_line
basis_law = record {
  blank_fits = refl;
  kind_free = λ arcs h. free_from_test is_blank (codes "basis") refl;
  words_free = λ arcs h. all_free is_blank decimal is_number number_free arcs (numbers arcs h);
  back = λ arcs h. all_back decimal number_of is_number number_back arcs (numbers arcs h);
}
  where
    numbers : (arcs : List ℕ) → basis_line.fits arcs ≡ true → list_all is_number arcs ≡ true
    numbers arcs h = (and_parts (is_number (length arcs / 2)) _ (and_parts (eqb (2 * (length arcs / 2)) (length arcs)) _ h).1).1

-- a strand whose number can be written
pub strand_law : (kind : List ℕ) (i : ℕ) → Free is_blank kind → is_number i ≡ true → IsLineForm (strand_line kind i)
strand_law kind i f n = record {
  blank_fits = and_from (is_number i) true n refl;
  kind_free = λ exits h. f;
  words_free = λ exits h. let (p, q) = and_parts (is_number i) _ h in (number_free i p, all_free is_blank exit_text is_exit exit_free exits q);
  back = λ exits h. let (p, q) = and_parts (is_number i) _ h in all_back exit_text exit_of is_exit exit_back exits q;
}

pub finger_law : IsLineForm finger_line
finger_law = record {
  blank_fits = refl;
  kind_free = λ f h. free_from_test is_blank (codes "finger") refl;
  words_free = λ f h.
      let (a, r) = and_parts (is_number f.strand) _ h in
      let (b, s) = and_parts (is_number f.chord) _ r in
      let (c, d) = and_parts (is_number f.side) _ s in
      (number_free f.strand a, (number_free f.chord b, (number_free f.side c, (number_free f.segment d, tt))));
  back = λ f h.
      let (a, r) = and_parts (is_number f.strand) _ h in
      let (b, s) = and_parts (is_number f.chord) _ r in
      let (c, d) = and_parts (is_number f.side) _ s in
      rw (number_back f.strand a, number_back f.chord b, number_back f.side c, number_back f.segment d) refl;
}

pub contact_law : (n : ℕ) → IsLineForm (contact_line n)
contact_law n = record {
  blank_fits = and_from (eqb (length (contact_line n).blank.1) n) _ (eq-eqb _ _ (zeros_law n).0) (zeros_law n).1;
  kind_free = λ c h. free_from_test is_blank (codes "contact") refl;
  words_free = λ c h.
      let (a, r) = and_parts (is_number c.0) _ h in
      let (b, s) = and_parts (eqb (length c.1) n) _ r in
      (number_free c.0 a, all_free is_blank decimal is_number number_free c.1 s);
  back = λ c h.
      let (a, r) = and_parts (is_number c.0) _ h in
      let (b, s) = and_parts (eqb (length c.1) n) _ r in
      rw (number_back c.0 a, all_back decimal number_of is_number number_back c.1 s) refl;
}
  where
    zeros_law : (m : ℕ) → (length (contact_line m).blank.1 ≡ m) × (list_all is_number (contact_line m).blank.1 ≡ true)
    zeros_law zero = (refl, refl)
    zeros_law (suc m) = let (a, b) = zeros_law m in (omega (arith, a), b)

pub pivot_law : IsLineForm pivot_line
pivot_law = record {
  blank_fits = refl;
  kind_free = λ p h. free_from_test is_blank (codes "pivot") refl;
  words_free = λ p h. let (a, b) = and_parts (is_number p.column) _ h in (number_free p.column a, (number_free p.row b, tt));
  back = λ p h. let (a, b) = and_parts (is_number p.column) _ h in rw (number_back p.column a, number_back p.row b) refl;
}

pub homology_law : IsLineForm homology_line
homology_law = record {
  blank_fits = refl;
  kind_free = λ z h. free_from_test is_blank (codes "homology") refl;
  words_free = λ z h. (signed_free z h, tt);
  back = λ z h. signed_back z h;
}

pub verdict_law : IsLineForm answer_line
verdict_law = record {
  blank_fits = refl;
  kind_free = kind;
  words_free = λ v h. all_free is_blank decimal is_number number_free (verdict_numbers v) h;
  back = back;
}
  where
    kind : (v : Verdict) → answer_line.fits v ≡ true → Free is_blank (answer_line.kind v)
    kind (Chain xs) h = free_from_test is_blank (codes "zero") refl
    kind (Functional xs) h = free_from_test is_blank (codes "nonzero") refl

    back : (v : Verdict) → answer_line.fits v ≡ true → answer_line.value (answer_line.kind v ∷ answer_line.words v) ≡ v
    back (Chain xs) h = ap Chain (all_back decimal number_of is_number number_back xs h)
    back (Functional xs) h = ap Functional (all_back decimal number_of is_number number_back xs h)

pub end_law : IsLineForm end_line
end_law = record {
  blank_fits = refl;
  kind_free = λ e h. free_from_test is_blank (codes "end") refl;
  words_free = λ e h. tt;
  back = λ e h. refl;
}

-- a number and as many lines
pub counted_law : {A : Type 0} (many : List ℕ) (form : LineForm A) → Free is_blank many → IsLineForm form → IsSection (counted many form)
counted_law {A = A} many form f ok =
    seen_section (λ p. p.1) (λ xs. (length xs, xs)) (both (one (number_line many)) (λ n. rows (λ i. form) n))
    (both_section (one (number_line many)) (λ n. rows (λ i. form) n) (one_section (number_line many) (number_law many f)) (λ n h. rows_section (λ i. form) n (λ j l. ok)))
    (λ xs. refl)
    back
  where
    back : (p : ℕ × List A) → (both (one (number_line many)) (λ n. rows (λ i. form) n)).fits p ≡ true → (length p.1, p.1) ≡ p
    back (n, xs) h =
        let (a, b) = and_parts (is_number n) _ h in
        let e : length xs ≡ n = eqb-true (length xs) n (and_parts (eqb (length xs) n) _ b).0 in
        ap (λ k. (k, xs)) e
