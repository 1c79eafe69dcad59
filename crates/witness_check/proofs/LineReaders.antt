-- The words of each line are read as they are written.
use Rattle.std.proofs.Common.{◌≡◌, ℕ, ◌<◌, ◌^◌, ◌*◌, ◌/◌, Bool, true, false, eqb, cond, ◌&&◌, List, [], ◌∷◌, codes, decimal, length, map, refl, sym, ◌∙◌, ap, subst, arith, Option, Some, None, eqb-true, eq-eqb, le-leb}
use Rattle.std.specs.Prelude.{is_some, option_map}
use Rattle.std.specs.List.{list_all}
use Rattle.std.specs.Fmt.{signed_decimal}
use Rattle.std.specs.Str.{bytes_eq}
use Rattle.std.proofs.lemmas.Bool.{and_parts, and_from}
use Rattle.std.proofs.lemmas.Slice.Eq.{bytes_eq-Decides}
use Rattle.obd_base.specs.declared.points.Exit.{Exit}
use Rattle.drawing.specs.declared.finger.Finger.{Finger}
use Rattle.mod2_rank.specs.declared.outcome.Pivot.{Pivot}
use Rattle.mod2_rank.specs.declared.outcome.Verdict.{Verdict}
use Rattle.mod2_rank.specs.declared.outcome.Verdict.TheVariants.{Chain, Functional}
use Rattle.curve_paths.specs.declared.path.Cross.{Cross}
use Rattle.curve_paths.specs.declared.named.NamedPath.{NamedPath}
use Rattle.curve_paths.specs.declared.named.NamedTwist.{NamedTwist}
use Rattle.witness_check.specs.Forms.{LineForm, guess, has_form, value_in}
use Rattle.witness_check.specs.Line.{exit_text}
use Rattle.witness_check.specs.Lines.{answer_line, basis_line, contact_line, curve_line, end_line, finger_line, homology_line, number_line, pivot_line, polygon_line, seams_line, strand_line, twist_line, version_line}
use Rattle.witness_check.specs.Reading.{is_cross, is_exit, is_name, is_number, is_signed}
use Rattle.witness_check.specs.RowWords.{answer_words, basis_even, basis_words, behind_kind, chord_words, contact_words, curve_words, exit_words, finger_words, kind_words, last_finger, last_pivot, last_twist, last_version, name_words, one_number, one_signed, path_words, pivot_words, point_words, power_words, row_words, seam_words, seams_words, segment_words, side_words, strand_words, twist_words, version_words, where_so}
use Rattle.witness_check.specs.Splitting.{is_blank}
use Rattle.witness_check.specs.Text.{cross_text}
use Rattle.witness_check.specs.Words.{all_words, and_then, cross_word, exit_word, is_word, last_word, line_words, name_word, none_left, number_word, signed_word, then_word}
use Rattle.witness_check.proofs.ByWords.{kind_back, kind_only, line_read, words_read}
use Rattle.witness_check.proofs.Cutting.{Free}
use Rattle.witness_check.proofs.LineLaws.{basis_law, contact_law, curve_law, end_law, finger_law, homology_law, number_law, pivot_law, polygon_law, seams_law, strand_law, twist_law, verdict_law, version_law}
use Rattle.witness_check.proofs.WordLaws.{free_from_test}
use Rattle.witness_check.proofs.WordReaders.{all_words_back, all_words_only, cross_reader, exit_reader, front, last_only, name_reader, number_reader, signed_reader, tested, the_same, then_only}

-- words, one after another
two_words : (a b : List ℕ) (ws r s : List (List ℕ)) → ws ≡ a ∷ r → r ≡ b ∷ s → s ≡ [] → ws ≡ a ∷ b ∷ []
two_words a b ws r s first second last = first ∙ ap (λ x. a ∷ x) (second ∙ ap (λ x. b ∷ x) last)

four_words : (a b c d : List ℕ) (ws r s t u : List (List ℕ)) → ws ≡ a ∷ r → r ≡ b ∷ s → s ≡ c ∷ t → t ≡ d ∷ u → u ≡ [] → ws ≡ a ∷ b ∷ c ∷ d ∷ []
four_words a b c d ws r s t u first second third fourth last =
    first ∙ ap (λ x. a ∷ x) (second ∙ ap (λ x. b ∷ x) (two_words c d s t u third fourth last))

pub number_read : (kind : List ℕ) → Free is_blank kind → (l : List ℕ) → and_then (kind_words kind l) one_number ≡ value_in (number_line kind) l
number_read kind free l = words_read (number_line kind) (number_law kind free) kind one_number (record { kind_is = λ a. refl; back = back; only = only }) l
  where
    back : (n : ℕ) → is_number n ≡ true → one_number (decimal n ∷ []) ≡ Some n
    back n h = rw (number_reader.back n h) refl

    only : (ws : List (List ℕ)) (n : ℕ) → one_number ws ≡ Some n → (is_number n ≡ true) × (ws ≡ decimal n ∷ [])
    only ws n h =
        let a = front is_number decimal number_word number_reader last_word ws n h in
        let z = last_only a.value n a.rest a.more_is in
        subst (λ x. (is_number x ≡ true) × (ws ≡ decimal x ∷ [])) z.1 (a.fits_it, a.words_are ∙ ap (λ x. decimal a.value ∷ x) z.0)

pub homology_read : (l : List ℕ) → and_then (kind_words (codes "homology") l) one_signed ≡ value_in homology_line l
homology_read l = words_read homology_line homology_law (codes "homology") one_signed (record {
  kind_is = λ a. refl;
  back = λ z h. rw (signed_reader.back z h) refl;
  only = λ ws z h.
      let a = front is_signed signed_decimal signed_word signed_reader last_word ws z h in
      let e = last_only a.value z a.rest a.more_is in
      subst (λ x. (is_signed x ≡ true) × (ws ≡ signed_decimal x ∷ [])) e.1 (a.fits_it, a.words_are ∙ ap (λ x. signed_decimal a.value ∷ x) e.0);
}) l

pub pivot_read : (l : List ℕ) → and_then (kind_words (codes "pivot") l) pivot_words ≡ value_in pivot_line l
pivot_read l = words_read pivot_line pivot_law (codes "pivot") pivot_words (record { kind_is = λ a. refl; back = back; only = only }) l
  where
    back : (p : Pivot) → pivot_line.fits p ≡ true → pivot_words (pivot_line.words p) ≡ Some p
    back p h = let (a, b) = and_parts (is_number p.column) _ h in rw (number_reader.back p.column a, number_reader.back p.row b) refl

    only : (ws : List (List ℕ)) (p : Pivot) → pivot_words ws ≡ Some p → (pivot_line.fits p ≡ true) × (ws ≡ pivot_line.words p)
    only ws p h =
        let a = front is_number decimal number_word number_reader row_words ws p h in
        let b = front is_number decimal number_word number_reader (last_pivot a.value) a.rest p a.more_is in
        let z = last_only (record { column = a.value; row = b.value }) p b.rest b.more_is in
        subst (λ x. (pivot_line.fits x ≡ true) × (ws ≡ pivot_line.words x)) z.1 (
          and_from (is_number a.value) _ a.fits_it b.fits_it,
          two_words (decimal a.value) (decimal b.value) ws a.rest b.rest a.words_are b.words_are z.0,
        )

pub finger_read : (l : List ℕ) → and_then (kind_words (codes "finger") l) finger_words ≡ value_in finger_line l
finger_read l = words_read finger_line finger_law (codes "finger") finger_words (record { kind_is = λ a. refl; back = back; only = only }) l
  where
    back : (f : Finger) → finger_line.fits f ≡ true → finger_words (finger_line.words f) ≡ Some f
    back f h =
        let (a, r) = and_parts (is_number f.strand) _ h in
        let (b, s) = and_parts (is_number f.chord) _ r in
        let (c, d) = and_parts (is_number f.side) _ s in
        rw (number_reader.back f.strand a, number_reader.back f.chord b, number_reader.back f.side c, number_reader.back f.segment d) refl

    finish : (strand chord side segment : ℕ) (ws r s t u : List (List ℕ)) (f : Finger) → is_number strand ≡ true → is_number chord ≡ true → is_number side ≡ true → is_number segment ≡ true
        → ws ≡ decimal strand ∷ r → r ≡ decimal chord ∷ s → s ≡ decimal side ∷ t → t ≡ decimal segment ∷ u → last_finger strand chord side segment u ≡ Some f
        → (finger_line.fits f ≡ true) × (ws ≡ finger_line.words f)
    finish strand chord side segment ws r s t u f a b c d first second third fourth h =
        let z = last_only (record { strand = strand; chord = chord; side = side; segment = segment }) f u h in
        subst (λ x. (finger_line.fits x ≡ true) × (ws ≡ finger_line.words x)) z.1 (
          and_from (is_number strand) _ a (and_from (is_number chord) _ b (and_from (is_number side) _ c d)),
          four_words (decimal strand) (decimal chord) (decimal side) (decimal segment) ws r s t u first second third fourth z.0,
        )

    only : (ws : List (List ℕ)) (f : Finger) → finger_words ws ≡ Some f → (finger_line.fits f ≡ true) × (ws ≡ finger_line.words f)
    only ws f h =
        let a = front is_number decimal number_word number_reader chord_words ws f h in
        let b = front is_number decimal number_word number_reader (side_words a.value) a.rest f a.more_is in
        let c = front is_number decimal number_word number_reader (segment_words a.value b.value) b.rest f b.more_is in
        let d = front is_number decimal number_word number_reader (last_finger a.value b.value c.value) c.rest f c.more_is in
        finish a.value b.value c.value d.value ws a.rest b.rest c.rest d.rest f a.fits_it b.fits_it c.fits_it d.fits_it a.words_are b.words_are c.words_are d.words_are d.more_is

pub twist_read : (l : List ℕ) → and_then (kind_words (codes "twist") l) twist_words ≡ value_in twist_line l
twist_read l = words_read twist_line twist_law (codes "twist") twist_words (record { kind_is = λ a. refl; back = back; only = only }) l
  where
    back : (t : NamedTwist) → twist_line.fits t ≡ true → twist_words (twist_line.words t) ≡ Some t
    back t h = let (a, b) = and_parts (is_name t.name) _ h in rw (name_reader.back t.name a, signed_reader.back t.power b) refl

    only : (ws : List (List ℕ)) (t : NamedTwist) → twist_words ws ≡ Some t → (twist_line.fits t ≡ true) × (ws ≡ twist_line.words t)
    only ws t h =
        let a = front is_name (λ w. w) name_word name_reader power_words ws t h in
        let b = front is_signed signed_decimal signed_word signed_reader (last_twist a.value) a.rest t a.more_is in
        let z = last_only (record { name = a.value; power = b.value }) t b.rest b.more_is in
        subst (λ x. (twist_line.fits x ≡ true) × (ws ≡ twist_line.words x)) z.1 (
          and_from (is_name a.value) _ a.fits_it b.fits_it,
          two_words a.value (signed_decimal b.value) ws a.rest b.rest a.words_are b.words_are z.0,
        )

map_same : (xs : List (List ℕ)) → map (λ w. w) xs ≡ xs
map_same [] = refl
map_same (x ∷ xs) = ap (λ y. x ∷ y) (map_same xs)

pub names_back : (names : List (List ℕ)) → list_all is_name names ≡ true → all_words name_word names ≡ Some names
names_back names h = ap (all_words name_word) (sym (map_same names)) ∙ all_words_back is_name (λ w. w) name_word name_reader names h

pub names_only : (ws names : List (List ℕ)) → all_words name_word ws ≡ Some names → (list_all is_name names ≡ true) × (ws ≡ names)
names_only ws names h = let r = all_words_only is_name (λ w. w) name_word name_reader ws names h in (r.0, r.1 ∙ map_same names)

pub polygon_read : (l : List ℕ) → and_then (kind_words (codes "polygon") l) name_words ≡ value_in polygon_line l
polygon_read l = words_read polygon_line polygon_law (codes "polygon") name_words (record { kind_is = λ a. refl; back = names_back; only = names_only }) l

pub curve_read : (l : List ℕ) → and_then (kind_words (codes "curve") l) curve_words ≡ value_in curve_line l
curve_read l = words_read curve_line curve_law (codes "curve") curve_words (record { kind_is = λ a. refl; back = back; only = only }) l
  where
    back : (c : NamedPath) → curve_line.fits c ≡ true → curve_words (curve_line.words c) ≡ Some c
    back c h =
        let (a, b) = and_parts (is_name c.name) _ h in
        rw (name_reader.back c.name a, all_words_back is_cross cross_text cross_word cross_reader c.path b) refl

    only : (ws : List (List ℕ)) (c : NamedPath) → curve_words ws ≡ Some c → (curve_line.fits c ≡ true) × (ws ≡ curve_line.words c)
    only ws c h =
        let a = front is_name (λ w. w) name_word name_reader path_words ws c h in
        go a.value a.rest a.fits_it a.words_are (all_words cross_word a.rest) refl a.more_is
      where
        go : (name : List ℕ) (rest : List (List ℕ)) → is_name name ≡ true → ws ≡ name ∷ rest → (o : Option (List Cross)) → all_words cross_word rest ≡ o
            → option_map {U = NamedPath} (λ path. record { name = name; path = path }) o ≡ Some c → (curve_line.fits c ≡ true) × (ws ≡ curve_line.words c)
        go name rest n is None e q = cc
        go name rest n is (Some path) e q =
            let r = all_words_only is_cross cross_text cross_word cross_reader rest path e in
            subst (λ x. (curve_line.fits x ≡ true) × (ws ≡ curve_line.words x)) (the_same q) (and_from (is_name name) _ n r.0, is ∙ ap (λ x. name ∷ x) r.1)

pub strand_read : (kind : List ℕ) (i : ℕ) → Free is_blank kind → is_number i ≡ true → (l : List ℕ) → and_then (kind_words kind l) (strand_words i) ≡ value_in (strand_line kind i) l
strand_read kind i free n l = words_read (strand_line kind i) (strand_law kind i free n) kind (strand_words i) (record { kind_is = λ a. refl; back = back; only = only }) l
  where
    back : (exits : List Exit) → (strand_line kind i).fits exits ≡ true → strand_words i ((strand_line kind i).words exits) ≡ Some exits
    back exits h =
        let (a, b) = and_parts (is_number i) _ h in
        rw (number_reader.back i a, eq-eqb i i refl, all_words_back is_exit exit_text exit_word exit_reader exits b) refl

    only : (ws : List (List ℕ)) (exits : List Exit) → strand_words i ws ≡ Some exits → ((strand_line kind i).fits exits ≡ true) × (ws ≡ (strand_line kind i).words exits)
    only ws exits h =
        let a = front is_number decimal number_word number_reader (exit_words i) ws exits h in
        go a.value a.rest a.words_are (eqb a.value i) refl a.more_is
      where
        go : (m : ℕ) (rest : List (List ℕ)) → ws ≡ decimal m ∷ rest → (b : Bool) → eqb m i ≡ b → cond b (all_words exit_word rest) None ≡ Some exits
            → ((strand_line kind i).fits exits ≡ true) × (ws ≡ (strand_line kind i).words exits)
        go m rest is false e q = cc
        go m rest is true e q =
            let r = all_words_only is_exit exit_text exit_word exit_reader rest exits q in
            (and_from (is_number i) _ n r.0, is ∙ (λ j. decimal (eqb-true m i e j) ∷ r.1 j))

pub version_read : (l : List ℕ) → and_then (kind_words (codes "contact") l) version_words ≡ value_in version_line l
version_read l = words_read version_line version_law (codes "contact") version_words (record { kind_is = λ a. refl; back = back; only = only }) l
  where
    back : (n : ℕ) → eqb 1 n ≡ true → version_words (codes "certificate" ∷ decimal n ∷ []) ≡ Some n
    back n h =
        let is : 1 ≡ n = eqb-true 1 n h in
        ap (λ o. and_then o (then_word number_word last_version)) (kind_back (codes "certificate") (decimal n ∷ []))
        ∙ rw (number_reader.back n (subst (λ x. is_number x ≡ true) is refl), h) refl

    nothing : (ws : List (List ℕ)) → none_left ws ≡ true → ws ≡ []
    nothing [] h = refl
    nothing (w ∷ ws) h = cc

    only : (ws : List (List ℕ)) (n : ℕ) → version_words ws ≡ Some n → (eqb 1 n ≡ true) × (ws ≡ codes "certificate" ∷ decimal n ∷ [])
    only ws n h =
        let t = then_only (behind_kind (codes "certificate") ws) (then_word number_word last_version) n h in
        let a = front is_number decimal number_word number_reader last_version t.value n t.more_is in
        let (test, e) = tested (eqb 1 a.value && none_left a.rest) a.value n a.more_is in
        let (one, left) = and_parts (eqb 1 a.value) (none_left a.rest) test in
        subst (λ x. (eqb 1 x ≡ true) × (ws ≡ codes "certificate" ∷ decimal x ∷ [])) e
        (one, kind_only (codes "certificate") ws t.value t.first_is ∙ ap (λ x. codes "certificate" ∷ x) (a.words_are ∙ ap (λ x. decimal a.value ∷ x) (nothing a.rest left)))

pub seams_read : (l : List ℕ) → and_then (kind_words (codes "seams") l) seams_words ≡ value_in seams_line l
seams_read l = words_read seams_line seams_law (codes "seams") seams_words (record { kind_is = λ a. refl; back = back; only = only }) l
  where
    back : (names : List (List ℕ)) → seams_line.fits names ≡ true → seams_words (seams_line.words names) ≡ Some names
    back names h =
        let (a, b) = and_parts (is_number (length names)) _ h in
        rw (number_reader.back (length names) a, names_back names b, eq-eqb (length names) (length names) refl) refl

    only : (ws names : List (List ℕ)) → seams_words ws ≡ Some names → (seams_line.fits names ≡ true) × (ws ≡ seams_line.words names)
    only ws names h =
        let a = front is_number decimal number_word number_reader seam_words ws names h in
        let t = then_only (all_words name_word a.rest) (λ found. where_so (eqb a.value (length found)) found) names a.more_is in
        let (test, e) = tested (eqb a.value (length t.value)) t.value names t.more_is in
        let r = names_only a.rest t.value t.first_is in
        let many : a.value ≡ length t.value = eqb-true a.value (length t.value) test in
        subst (λ x. (seams_line.fits x ≡ true) × (ws ≡ seams_line.words x)) e
        (and_from (is_number (length t.value)) _ (subst (λ x. is_number x ≡ true) many a.fits_it) r.0, a.words_are ∙ (λ i. decimal (many i) ∷ r.1 i))

pub basis_read : (l : List ℕ) → and_then (kind_words (codes "basis") l) basis_words ≡ value_in basis_line l
basis_read l = words_read basis_line basis_law (codes "basis") basis_words (record { kind_is = λ a. refl; back = back; only = only }) l
  where
    back : (arcs : List ℕ) → basis_line.fits arcs ≡ true → basis_words (basis_line.words arcs) ≡ Some arcs
    back arcs h =
        let (a, r) = and_parts (eqb (2 * (length arcs / 2)) (length arcs)) _ h in
        let (b, c) = and_parts (is_number (length arcs / 2)) _ r in
        ap (λ o. and_then o (λ found. where_so (basis_even found) found)) (all_words_back is_number decimal number_word number_reader arcs c)
        ∙ ap (λ t. where_so t arcs) (and_from (eqb (2 * (length arcs / 2)) (length arcs)) _ a b)

    only : (ws : List (List ℕ)) (arcs : List ℕ) → basis_words ws ≡ Some arcs → (basis_line.fits arcs ≡ true) × (ws ≡ basis_line.words arcs)
    only ws arcs h =
        let t = then_only (all_words number_word ws) (λ found. where_so (basis_even found) found) arcs h in
        let (test, e) = tested (basis_even t.value) t.value arcs t.more_is in
        let (a, b) = and_parts (eqb (2 * (length t.value / 2)) (length t.value)) _ test in
        let r = all_words_only is_number decimal number_word number_reader ws t.value t.first_is in
        subst (λ x. (basis_line.fits x ≡ true) × (ws ≡ basis_line.words x)) e
        (and_from (eqb (2 * (length t.value / 2)) (length t.value)) _ a (and_from (is_number (length t.value / 2)) _ b r.0), r.1)

pub contact_read : (n : ℕ) (l : List ℕ) → and_then (kind_words (codes "contact") l) (contact_words n) ≡ value_in (contact_line n) l
contact_read n l = words_read (contact_line n) (contact_law n) (codes "contact") (contact_words n) (record { kind_is = λ a. refl; back = back; only = only }) l
  where
    back : (c : ℕ × List ℕ) → (contact_line n).fits c ≡ true → contact_words n ((contact_line n).words c) ≡ Some c
    back c h =
        let (a, r) = and_parts (is_number c.0) _ h in
        let (b, s) = and_parts (eqb (length c.1) n) _ r in
        rw (number_reader.back c.0 a, all_words_back is_number decimal number_word number_reader c.1 s, b) refl

    only : (ws : List (List ℕ)) (c : ℕ × List ℕ) → contact_words n ws ≡ Some c → ((contact_line n).fits c ≡ true) × (ws ≡ (contact_line n).words c)
    only ws c h =
        let a = front is_number decimal number_word number_reader (point_words n) ws c h in
        let t = then_only (all_words number_word a.rest) (λ points. where_so (eqb (length points) n) (a.value, points)) c a.more_is in
        let (test, e) = tested (eqb (length t.value) n) (a.value, t.value) c t.more_is in
        let r = all_words_only is_number decimal number_word number_reader a.rest t.value t.first_is in
        subst (λ x. ((contact_line n).fits x ≡ true) × (ws ≡ (contact_line n).words x)) e
        (and_from (is_number a.value) _ a.fits_it (and_from (eqb (length t.value) n) _ test r.0), a.words_are ∙ ap (λ x. decimal a.value ∷ x) r.1)

pub end_read : (l : List ℕ) → and_then (kind_words (codes "end") l) (last_word tt) ≡ value_in end_line l
end_read l = words_read end_line end_law (codes "end") (last_word tt) (record { kind_is = λ a. refl; back = λ a h. refl; only = λ ws a h. (refl, (last_only tt a ws h).0) }) l

-- `zero` and `nonzero` are different words
pub answer_read : (l : List ℕ) → and_then (line_words l) answer_words ≡ value_in answer_line l
answer_read l = line_read answer_line verdict_law answer_words (record { back = back; only = only }) l
  where
    back : (v : Verdict) → answer_line.fits v ≡ true → answer_words (answer_line.kind v ∷ answer_line.words v) ≡ Some v
    back (Chain xs) h = rw (all_words_back is_number decimal number_word number_reader xs h) refl
    back (Functional xs) h = rw (all_words_back is_number decimal number_word number_reader xs h) refl

    chain : (w : List ℕ) (ws : List (List ℕ)) (v : Verdict) → w ≡ codes "zero" → (o : Option (List ℕ)) → all_words number_word ws ≡ o → option_map Chain o ≡ Some v
        → (answer_line.fits v ≡ true) × (w ∷ ws ≡ answer_line.kind v ∷ answer_line.words v)
    chain w ws v is None e q = cc
    chain w ws v is (Some xs) e q =
        let r = all_words_only is_number decimal number_word number_reader ws xs e in
        subst (λ x. (answer_line.fits x ≡ true) × (w ∷ ws ≡ answer_line.kind x ∷ answer_line.words x)) (the_same q) (r.0, (λ i. is i ∷ r.1 i))

    functional : (w : List ℕ) (ws : List (List ℕ)) (v : Verdict) → w ≡ codes "nonzero" → (o : Option (List ℕ)) → all_words number_word ws ≡ o → option_map Functional o ≡ Some v
        → (answer_line.fits v ≡ true) × (w ∷ ws ≡ answer_line.kind v ∷ answer_line.words v)
    functional w ws v is None e q = cc
    functional w ws v is (Some xs) e q =
        let r = all_words_only is_number decimal number_word number_reader ws xs e in
        subst (λ x. (answer_line.fits x ≡ true) × (w ∷ ws ≡ answer_line.kind x ∷ answer_line.words x)) (the_same q) (r.0, (λ i. is i ∷ r.1 i))

    go : (w : List ℕ) (ws : List (List ℕ)) (v : Verdict) (a b : Bool) → bytes_eq w (codes "zero") ≡ a → bytes_eq w (codes "nonzero") ≡ b
        → cond a (option_map Chain (all_words number_word ws)) (cond b (option_map Functional (all_words number_word ws)) None) ≡ Some v
        → (answer_line.fits v ≡ true) × (w ∷ ws ≡ answer_line.kind v ∷ answer_line.words v)
    go w ws v true b e f h = chain w ws v ((bytes_eq-Decides w (codes "zero")).0 e) (all_words number_word ws) refl h
    go w ws v false true e f h = functional w ws v ((bytes_eq-Decides w (codes "nonzero")).0 f) (all_words number_word ws) refl h
    go w ws v false false e f h = cc

    only : (ws : List (List ℕ)) (v : Verdict) → answer_words ws ≡ Some v → (answer_line.fits v ≡ true) × (ws ≡ answer_line.kind v ∷ answer_line.words v)
    only [] v h = cc
    only (w ∷ ws) v h = go w ws v (bytes_eq w (codes "zero")) (bytes_eq w (codes "nonzero")) refl refl h

-- a kind that is one word
pub word_number_read : (kind : List ℕ) → is_word kind ≡ true → (l : List ℕ) → and_then (kind_words kind l) one_number ≡ value_in (number_line kind) l
word_number_read kind w l = number_read kind (free_from_test is_blank kind w) l

pub word_strand_read : (kind : List ℕ) (i : ℕ) → is_word kind ≡ true → i < 2 ^ 32 → (l : List ℕ) → and_then (kind_words kind l) (strand_words i) ≡ value_in (strand_line kind i) l
word_strand_read kind i w h l = strand_read kind i (free_from_test is_blank kind w) (le-leb i 4294967295 (omega (arith, h))) l

-- a line has its form where something is read
pub read_form : {A : Type 0} (f : LineForm A) (l : List ℕ) (o : Option A) → o ≡ value_in f l → is_some o ≡ has_form f l
read_form f l o is = ap is_some is ∙ go (has_form f l)
  where
    go : (b : Bool) → is_some (cond b (Some (guess f l)) None) ≡ b
    go true = refl
    go false = refl
