-- What a valid text certifies. A text that is checked as valid is that of a certificate, and this one shows, line by line:
-- its own lines write an open book whose slides are accepted; the strands are the tight embedded drawing of the words after
-- the twist word; the fingers are legal one after another and lead to a nice drawing, that of the finals; the number of
-- generators, the contact generator and the rank are those of this drawing; and the answer is Zero with a chain whose sum is
-- the contact generator, or Nonzero with a functional that holds it and meets every column evenly. So a reader needs to
-- trust neither the program that wrote the text nor the strategy that chose the fingers. `Certifies` in specs/Meaning says it.
use Rattle.std.proofs.Common.{◌≡◌, ℕ, suc, ◌+◌, ◌*◌, ◌<◌, ◌≤◌, pos, ◌-ℤ◌, true, ◌&&◌, eqb, leb, List, [], ◌∷◌, ◌++◌, length, map, take, Some, refl, sym, ◌∙◌, ap, subst, arith, eqb-true, leb-true, int_eq}
use Rattle.std.specs.Prelude.{Result, Ok, Err, is_ok, slice_index_or}
use Rattle.std.specs.Result.{result_unwrap_or}
use Rattle.std.specs.Str.{bytes_eq}
use Rattle.std.proofs.lemmas.Bool.{and_parts}
use Rattle.std.proofs.lemmas.Bool.Decides.{Decides-int_eq}
use Rattle.std.proofs.lemmas.List.{length-map}
use Rattle.std.proofs.lemmas.List.FromFn.{length-range_with_len}
use Rattle.std.proofs.lemmas.Slice.Eq.{bytes_eq-Decides}
use Rattle.obd_base.specs.Lists.{below}
use Rattle.obd_base.specs.declared.points.Exit.{Exit}
use Rattle.page_surface.specs.Drawing.{Drawing, IsEmbedded, is_embedded, strand_exits, words}
use Rattle.page_surface.specs.Polygon.{IsPolygon, arc, arc_count, sides}
use Rattle.page_surface.proofs.EmbeddedTest.{embedded_from_test}
use Rattle.curve_paths.specs.Twists.{exits_of}
use Rattle.drawing.specs.Fingers.{AllLegal, is_legal, pushed, replayed}
use Rattle.drawing.specs.Points.{contact_generator, generators as all_generators}
use Rattle.drawing.specs.declared.finger.Finger.{Finger}
use Rattle.drawing.proofs.Tests.{legal_from_test}
use Rattle.region_table.specs.Nice.{IsNice, is_nice}
use Rattle.region_table.proofs.Tests.{nice_from_test}
use Rattle.finger_move.proofs.Replayed.{replayed_embedded, replayed_polygon}
use Rattle.hkm_diagram.specs.Domains.{columns}
use Rattle.mod2_rank.specs.Linear.{IsRank, pivots, same_list}
use Rattle.mod2_rank.specs.PivotLines.{rank_line_passes, verdict_line_passes}
use Rattle.mod2_rank.specs.declared.outcome.Verdict.{Verdict}
use Rattle.mod2_rank.specs.declared.outcome.Verdict.TheVariants.{Chain, Functional}
use Rattle.mod2_rank.proofs.Laws.{has_rank}
use Rattle.mod2_rank.proofs.Members.{same_list_true}
use Rattle.monodromy.proofs.WordsAfter.{drawn_is_one, drawn_is_tight, word_count}
use Rattle.witness_check.specs.Belonging.{IsFirstDrawing}
use Rattle.witness_check.specs.Checked.{answer_of, checked, keeps_all}
use Rattle.witness_check.specs.Grammar.{Fits}
use Rattle.witness_check.specs.Meaning.{AnswerHolds, Certifies, HoldsOf, Shows}
use Rattle.witness_check.specs.OpenBook.{IsOpenBook, IsSurface, arcs, entries, joined_surface, seam_names, surface_of}
use Rattle.witness_check.specs.Rules.{at_last, book_rules, contact_rules, drawing_rules, each, final_rules, finger_rules, generator_rules, homology_rules, last_columns, outcome_rules, pivot_rules, rank_rules, rule, same_exits, same_names, strand_rules, verdict_rules, Rule}
use Rattle.witness_check.specs.Written.{drawing_after, first_drawing, last_drawing, last_words, own_book, polygon, surface, words_by}
use Rattle.witness_check.specs.declared.certificate.Certificate.{Certificate}
use Rattle.witness_check.specs.declared.checked.Answer.{Answer}
use Rattle.witness_check.specs.declared.checked.Checked.TheVariants.{Valid as valid}
use Rattle.witness_check.specs.declared.checked.Reason.TheVariants.{Limit as limit, Basis as basis, Word as word, Drawing as drawing, Finger as finger, Final as final, Nice as nice, Generators as generators, Contact as contact, Pivot as pivot, Rank as rank_reason, Homology as homology, Verdict as verdict_reason}
use Rattle.witness_check.proofs.AnswerLaw.{columns_ascend, kept_parts, valid_count, valid_rank}
use Rattle.witness_check.proofs.CheckLaws.{checked_valid}
use Rattle.mod2_rank.proofs.CheckedVerdict.{nonzero_line, zero_line}
use Rattle.witness_check.proofs.FitsLaw.{fits_says}
use Rattle.witness_check.proofs.Kept.{At, keep, keep_all}
use Rattle.witness_check.proofs.KeptBook.{entry, kept_first, kept_last, kept_rest, last_at, own_open_book, own_slides, own_words}
use Rattle.witness_check.proofs.Laws.{contact_last, last_column}
use Rattle.witness_check.proofs.SurfaceLaw.{surface_polygon}

-- lists that pass the tests are the same
same_names_true : (xs ys : List (List ℕ)) → same_names xs ys ≡ true → xs ≡ ys
same_names_true [] [] h = refl
same_names_true [] (y ∷ ys) h = cc
same_names_true (x ∷ xs) [] h = cc
same_names_true (x ∷ xs) (y ∷ ys) h =
    let (p, q) = and_parts (bytes_eq x y) (same_names xs ys) h in rw ((bytes_eq-Decides x y).0 p, same_names_true xs ys q) refl

same_by_parts : (es fs : List Exit) → map (λ (e : Exit). e.side) es ≡ map (λ (e : Exit). e.side) fs → map (λ (e : Exit). e.place) es ≡ map (λ (e : Exit). e.place) fs → es ≡ fs
same_by_parts [] [] h k = refl
same_by_parts [] (f ∷ fs) h k = cc
same_by_parts (e ∷ es) [] h k = cc
same_by_parts (e ∷ es) (f ∷ fs) h k =
    let side : e.side ≡ f.side = cc in
    let place : e.place ≡ f.place = cc in
    let sides : map (λ (e : Exit). e.side) es ≡ map (λ (e : Exit). e.side) fs = cc in
    let places : map (λ (e : Exit). e.place) es ≡ map (λ (e : Exit). e.place) fs = cc in
    join e.side f.side e.place f.place side place (same_by_parts es fs sides places)
  where
    join : (a b x y : ℕ) → a ≡ b → x ≡ y → es ≡ fs → ◌≡◌ {A = List Exit} (record { side = a; place = x } ∷ es) (record { side = b; place = y } ∷ fs)
    join a b x y e f g = rw (e, f, g) refl

same_exits_true : (es fs : List Exit) → same_exits es fs ≡ true → es ≡ fs
same_exits_true es fs h =
    let (p, q) = and_parts (same_list (map (λ (e : Exit). e.side) es) (map (λ (e : Exit). e.side) fs)) (same_list (map (λ (e : Exit). e.place) es) (map (λ (e : Exit). e.place) fs)) h in
    same_by_parts es fs (same_list_true (map (λ (e : Exit). e.side) es) (map (λ (e : Exit). e.side) fs) p) (same_list_true (map (λ (e : Exit). e.place) es) (map (λ (e : Exit). e.place) fs) q)

-- lists of one length with the same entries are one
same_entries : {A B : Type 0} (f : A → B) (xs : List A) (ys : List B) (d : B) → length xs ≡ length ys → ((i : ℕ) (x : A) → At xs i x → f x ≡ slice_index_or ys i d) → map f xs ≡ ys
same_entries f [] [] d e h = refl
same_entries f [] (y ∷ ys) d e h = absurd (omega (arith, e))
same_entries f (x ∷ xs) [] d e h = absurd (omega (arith, e))
same_entries f (x ∷ xs) (y ∷ ys) d e h = rw (h 0 x refl, same_entries f xs ys d (omega (arith, e)) (λ i z at. h (suc i) z at)) refl

map_self : {A : Type 0} (xs : List A) → map (λ (x : A). x) xs ≡ xs
map_self [] = refl
map_self (x ∷ xs) = ap (λ ys. x ∷ ys) (map_self xs)

-- what a result that is one holds
ok_unwrapped : {A E : Type 0} (r : Result A E) (d : A) → is_ok r ≡ true → r ≡ Ok (result_unwrap_or r d)
ok_unwrapped (Ok x) d h = refl
ok_unwrapped (Err e) d h = cc

legal_all : (d : Drawing) (fs : List Finger) → ((i : ℕ) (f : Finger) → At fs i f → is_legal (replayed d (take i fs)) f ≡ true) → AllLegal d fs
legal_all d [] h = tt
legal_all d (f ∷ fs) h = (legal_from_test d f (h 0 f refl), legal_all (pushed d f) fs (λ i g at. h (suc i) g at))

module _ (c : Certificate) (fits : Fits c) (kept : keeps_all c ≡ true) where
  -- the parts of the rules that are kept
  abbrev strand_part : List (List Rule)
  strand_part = (rule basis (same_names c.seams (seam_names c.polygons)) ∷ []) ∷ ((rule basis (same_list c.basis (arcs (polygon c))) ∷ []) ∷ each (strand_rules c) c.strands)

  abbrev finger_part : List (List Rule)
  finger_part = (rule limit (leb (length c.fingers) 20000) ∷ []) ∷ each (finger_rules c) c.fingers

  abbrev number_part : List (List Rule)
  number_part = generator_rules c ∷ (contact_rules c ∷ [])

  book_kept : keep_all (book_rules c) ≡ true
  book_kept = (kept_parts (book_rules c) (drawing_rules c ++ outcome_rules c) kept).0

  drawing_kept : keep_all (drawing_rules c) ≡ true
  drawing_kept = (kept_parts (drawing_rules c) (outcome_rules c) (kept_parts (book_rules c) (drawing_rules c ++ outcome_rules c) kept).1).0

  outcome_kept : keep_all (outcome_rules c) ≡ true
  outcome_kept = (kept_parts (drawing_rules c) (outcome_rules c) (kept_parts (book_rules c) (drawing_rules c ++ outcome_rules c) kept).1).1

  strands_kept : keep_all strand_part ≡ true
  strands_kept = (kept_parts strand_part (finger_part ++ (each (final_rules c) c.finals ++ number_part)) drawing_kept).0

  fingers_kept : keep_all finger_part ≡ true
  fingers_kept = (kept_parts finger_part (each (final_rules c) c.finals ++ number_part) (kept_parts strand_part (finger_part ++ (each (final_rules c) c.finals ++ number_part)) drawing_kept).1).0

  finals_kept : keep_all (each (final_rules c) c.finals ++ number_part) ≡ true
  finals_kept = (kept_parts finger_part (each (final_rules c) c.finals ++ number_part) (kept_parts strand_part (finger_part ++ (each (final_rules c) c.finals ++ number_part)) drawing_kept).1).1

  each_final : keep_all (each (final_rules c) c.finals) ≡ true
  each_final = (kept_parts (each (final_rules c) c.finals) number_part finals_kept).0

  each_strand : keep_all (each (strand_rules c) c.strands) ≡ true
  each_strand =
      (and_parts (keep (rule basis (same_list c.basis (arcs (polygon c))) ∷ [])) (keep_all (each (strand_rules c) c.strands))
      (and_parts (keep (rule basis (same_names c.seams (seam_names c.polygons)) ∷ [])) (keep_all ((rule basis (same_list c.basis (arcs (polygon c))) ∷ []) ∷ each (strand_rules c) c.strands)) strands_kept).1).1

  -- the open book and its surface
  own : IsOpenBook (own_book c)
  own = own_open_book c fits book_kept

  own_surface : IsSurface (own_book c) (surface c)
  own_surface = ok_unwrapped (surface_of (own_book c)) (joined_surface (own_book c)) (own_slides c fits book_kept)

  own_polygon : IsPolygon (polygon c) × (sides (polygon c) ≤ 16)
  own_polygon = surface_polygon (own_book c) own (surface c) own_surface

  seams_are : c.seams ≡ seam_names c.polygons
  seams_are = same_names_true c.seams (seam_names c.polygons) (kept_first (rule basis (same_names c.seams (seam_names c.polygons))) []
      (and_parts (keep (rule basis (same_names c.seams (seam_names c.polygons)) ∷ [])) (keep_all ((rule basis (same_list c.basis (arcs (polygon c))) ∷ []) ∷ each (strand_rules c) c.strands)) strands_kept).0)

  basis_is : c.basis ≡ arcs (polygon c)
  basis_is = same_list_true c.basis (arcs (polygon c)) (kept_first (rule basis (same_list c.basis (arcs (polygon c)))) []
      (and_parts (keep (rule basis (same_list c.basis (arcs (polygon c))) ∷ [])) (keep_all (each (strand_rules c) c.strands))
      (and_parts (keep (rule basis (same_names c.seams (seam_names c.polygons)) ∷ [])) (keep_all ((rule basis (same_list c.basis (arcs (polygon c))) ∷ []) ∷ each (strand_rules c) c.strands)) strands_kept).1).0)

  -- as many strands as arcs, and there is one
  arcs_counted : fits.arc_count ≡ arc_count (polygon c)
  arcs_counted =
      let even = own_polygon.0.even in
      let twice = fits.basis_count in
      omega (arith, ap length basis_is, length-map (below (sides (polygon c))) (arc (polygon c)), length-range_with_len 0 (sides (polygon c)), even, twice)

  some_arc : 0 < arc_count (polygon c)
  some_arc = let some = own_polygon.0.not_empty in let even = own_polygon.0.even in omega (arith, some, even)

  -- the strands are the first drawing
  words_are : words_by c c.twists ≡ Ok (last_words c)
  words_are = ok_unwrapped (words_by c c.twists) [] (own_words c fits book_kept)

  strand_words : words (first_drawing c) ≡ last_words c
  strand_words = same_entries (map (λ (e : Exit). e.side)) c.strands (last_words c) []
      (fits.strand_count ∙ (arcs_counted ∙ sym (word_count (polygon c) own_polygon.0 own_polygon.1 (map exits_of (surface c).curves) (entries (own_book c)) (last_words c) words_are)))
      (λ i exits at. same_list_true (map (λ (e : Exit). e.side) exits) (slice_index_or (last_words c) i [])
      (kept_first (rule word (same_list (map (λ (e : Exit). e.side) exits) (slice_index_or (last_words c) i []))) (at_last c.strands i (rule drawing (is_embedded (first_drawing c))))
      (entry (strand_rules c) c.strands i exits each_strand at)))

  embedded : IsEmbedded (first_drawing c)
  embedded =
      let strands = fits.strand_count in
      let (i, z, at) = last_at c.strands [] (omega (arith, strands, arcs_counted, some_arc)) in
      embedded_from_test (first_drawing c) own_polygon.0 (kept_last c.strands i (rule drawing (is_embedded (first_drawing c))) z
      (kept_rest (rule word (same_list (map (λ (e : Exit). e.side) (slice_index_or c.strands i [])) (slice_index_or (last_words c) i []))) (at_last c.strands i (rule drawing (is_embedded (first_drawing c))))
      (entry (strand_rules c) c.strands i (slice_index_or c.strands i []) each_strand at)))

  own_first : IsFirstDrawing (own_book c) (surface c) (first_drawing c)
  own_first = record {
    words = last_words c;
    words_are = words_are;
    drawn = drawn_is_one (polygon c) own_polygon.0 own_polygon.1 (map exits_of (surface c).curves) (entries (own_book c)) (last_words c) words_are (first_drawing c) embedded refl strand_words;
    embedded = embedded;
    tight = drawn_is_tight (polygon c) own_polygon.0 own_polygon.1 (map exits_of (surface c).curves) (entries (own_book c)) (last_words c) words_are (first_drawing c) refl strand_words;
  }

  -- the fingers lead to the last one
  legal : AllLegal (first_drawing c) c.fingers
  legal =
      let lines = (and_parts (keep (rule limit (leb (length c.fingers) 20000) ∷ [])) (keep_all (each (finger_rules c) c.fingers)) fingers_kept).1 in
      legal_all (first_drawing c) c.fingers (λ i f at. kept_first (rule finger (is_legal (drawing_after c i) f)) [] (entry (finger_rules c) c.fingers i f lines at))

  last_embedded : IsEmbedded (last_drawing c)
  last_embedded = replayed_embedded (first_drawing c) embedded c.fingers legal

  finals_are : c.finals ≡ (last_drawing c).strands
  finals_are =
      sym (map_self c.finals) ∙ same_entries (λ (exits : List Exit). exits) c.finals (last_drawing c).strands []
      (fits.final_count ∙ (arcs_counted ∙ sym (last_embedded.strand_count ∙ ap arc_count (replayed_polygon (first_drawing c) embedded c.fingers legal))))
      (λ i exits at. same_exits_true exits (strand_exits (last_drawing c) i)
      (kept_first (rule final (same_exits exits (strand_exits (last_drawing c) i))) (at_last c.finals i (rule nice (is_nice (last_drawing c)))) (entry (final_rules c) c.finals i exits each_final at)))

  last_nice : IsNice (last_drawing c)
  last_nice =
      let finals = fits.final_count in
      let (i, z, at) = last_at c.finals [] (omega (arith, finals, arcs_counted, some_arc)) in
      nice_from_test (last_drawing c) (kept_last c.finals i (rule nice (is_nice (last_drawing c))) z
      (kept_rest (rule final (same_exits (slice_index_or c.finals i []) (strand_exits (last_drawing c) i))) (at_last c.finals i (rule nice (is_nice (last_drawing c))))
      (entry (final_rules c) c.finals i (slice_index_or c.finals i []) each_final at)))

  -- the numbers
  numbers_kept : keep_all number_part ≡ true
  numbers_kept = (kept_parts (each (final_rules c) c.finals) number_part finals_kept).1

  contact_kept : (eqb (suc c.contact) c.generators ≡ true) × (same_list c.points (contact_generator (last_drawing c)) ≡ true)
  contact_kept =
      and_parts (eqb (suc c.contact) c.generators) (same_list c.points (contact_generator (last_drawing c)))
      (kept_first (rule contact (eqb (suc c.contact) c.generators && same_list c.points (contact_generator (last_drawing c)))) []
      (and_parts (keep (contact_rules c)) (keep_all []) (and_parts (keep (generator_rules c)) (keep_all (contact_rules c ∷ [])) numbers_kept).1).0)

  last_number : c.contact + 1 ≡ c.generators
  last_number = let e = eqb-true (suc c.contact) c.generators contact_kept.0 in omega (arith, e)

  points_are : c.points ≡ contact_generator (last_drawing c)
  points_are = same_list_true c.points (contact_generator (last_drawing c)) contact_kept.1

  count : c.generators ≡ length (all_generators (last_drawing c))
  count = valid_count c kept

  few_generators : c.generators ≤ 20000
  few_generators = leb-true c.generators 20000 (kept_first (rule limit (leb c.generators 20000)) (rule generators (eqb c.generators (length (all_generators (last_drawing c)))) ∷ [])
      (and_parts (keep (generator_rules c)) (keep_all (contact_rules c ∷ [])) numbers_kept).0)

  rank_written : IsRank c.generators (last_columns c) c.rank
  rank_written =
      let ascend = columns_ascend c count in
      let rank = has_rank c.generators (last_columns c) ascend in
      subst (λ r. IsRank c.generators (last_columns c) r) (sym (valid_rank c (length (pivots c.generators (last_columns c))) kept rank)) rank

  -- the lines from the rank on
  rank_part : keep_all (rank_rules c ∷ (homology_rules c ∷ (verdict_rules c ∷ ([] ∷ [])))) ≡ true
  rank_part = (kept_parts ((rule pivot (leb (length c.pivots) c.generators) ∷ []) ∷ each (pivot_rules c) c.pivots) (rank_rules c ∷ (homology_rules c ∷ (verdict_rules c ∷ ([] ∷ [])))) outcome_kept).1

  pivots_counted : length c.pivots ≡ c.rank
  pivots_counted =
      sym (eqb-true c.rank (length c.pivots) (and_parts (eqb c.rank (length c.pivots)) (rank_line_passes c.generators (last_columns c) c.pivots)
      (kept_first (rule rank_reason (eqb c.rank (length c.pivots) && rank_line_passes c.generators (last_columns c) c.pivots)) [] (and_parts (keep (rank_rules c)) (keep_all (homology_rules c ∷ (verdict_rules c ∷ ([] ∷ [])))) rank_part).0)).0)

  homology_part : keep_all (homology_rules c ∷ (verdict_rules c ∷ ([] ∷ []))) ≡ true
  homology_part = (and_parts (keep (rank_rules c)) (keep_all (homology_rules c ∷ (verdict_rules c ∷ ([] ∷ [])))) rank_part).1

  homology_is : c.homology ≡ pos c.generators -ℤ pos (2 * c.rank)
  homology_is = (Decides-int_eq c.homology (pos c.generators -ℤ pos (2 * c.rank))).0
      (kept_first (rule homology (int_eq c.homology (pos c.generators -ℤ pos (2 * c.rank)))) [] (and_parts (keep (homology_rules c)) (keep_all (verdict_rules c ∷ ([] ∷ []))) homology_part).0)

  verdict_passes : verdict_line_passes c.generators (last_columns c) c.verdict ≡ true
  verdict_passes = kept_first (rule verdict_reason (verdict_line_passes c.generators (last_columns c) c.verdict)) []
      (and_parts (keep (verdict_rules c)) (keep_all ([] ∷ [])) (and_parts (keep (homology_rules c)) (keep_all (verdict_rules c ∷ ([] ∷ []))) homology_part).1).0

  holds : (v : Verdict) → verdict_line_passes c.generators (last_columns c) v ≡ true → HoldsOf c.generators (last_columns c) v
  holds (Chain js) h = (zero_line c.generators (last_columns c) js).0 h
  holds (Functional f) h = (nonzero_line c.generators (last_columns c) f).0 h

  -- a certificate that keeps all rules shows all this
  pub kept_shows : Shows c
  kept_shows = record {
    version = fits.version;
    book = own;
    surface = surface c;
    surface_is = own_surface;
    seams = seams_are;
    basis = basis_is;
    first = first_drawing c;
    first_is = own_first;
    strands = refl;
    few_fingers = leb-true (length c.fingers) 20000 (kept_first (rule limit (leb (length c.fingers) 20000)) [] (and_parts (keep (rule limit (leb (length c.fingers) 20000) ∷ [])) (keep_all (each (finger_rules c) c.fingers)) fingers_kept).0);
    last = last_drawing c;
    last_is = record { legal = legal; replayed_so = refl; embedded = last_embedded; nice = last_nice };
    finals = finals_are;
    generators_are = count;
    few_generators = few_generators;
    points = points_are;
    contact = contact_last (last_drawing c) c.contact (last_number ∙ count) ∙ ap Some (sym points_are);
    contact_last = last_number;
    contact_column = last_column (last_drawing c) last_embedded c.contact (last_number ∙ count);
    rank_is = rank_written;
    pivot_count = pivots_counted;
    homology = homology_is;
    verdict = holds c.verdict verdict_passes;
  }

-- where a verdict holds, so does its answer
answer_of_verdict : (rows : ℕ) (cs : List (List ℕ)) (v : Verdict) → HoldsOf rows cs v → AnswerHolds rows cs (answer_of v)
answer_of_verdict rows cs (Chain js) h = (js, h.0, h.1)
answer_of_verdict rows cs (Functional f) h = (f, h.0, h.1)

-- so does the certificate of a text that is checked as valid
pub valid_certifies : (text : List ℕ) (answer : Answer) → checked text ≡ valid answer → Certifies text answer
valid_certifies text answer h =
    let v = checked_valid text answer h in
    let shows = kept_shows v.certificate (fits_says v.certificate v.fitting) v.kept in
    record {
      certificate = v.certificate;
      text_is = v.text_is;
      shows = shows;
      answer_is = v.answer_is;
      answer_holds = subst (AnswerHolds v.certificate.generators (columns shows.last)) (sym v.answer_is) (answer_of_verdict v.certificate.generators (columns shows.last) v.certificate.verdict shows.verdict);
    }
