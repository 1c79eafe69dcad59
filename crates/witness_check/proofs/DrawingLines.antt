-- The lines of a certificate that belongs to a book, from its seams to its contact generator, keep their rules.
use Rattle.std.proofs.Common.{◌≡◌, ℕ, zero, suc, true, ◌&&◌, eqb, leb, List, [], ◌∷◌, length, map, take, refl, sym, ◌∙◌, ap, subst, arith, le-leb, eq-eqb}
use Rattle.std.specs.Prelude.{Ok, slice_index_or}
use Rattle.std.specs.Result.{result_unwrap_or}
use Rattle.std.proofs.lemmas.Bool.{and_from}
use Rattle.obd_base.specs.declared.points.Exit.{Exit}
use Rattle.page_surface.specs.Drawing.{Drawing, IsEmbedded, is_embedded, strand_exits, words}
use Rattle.page_surface.proofs.EmbeddedTest.{test_from_embedded}
use Rattle.curve_paths.specs.declared.named.NamedPath.{NamedPath}
use Rattle.curve_paths.specs.declared.named.NamedTwist.{NamedTwist}
use Rattle.page_surface.specs.Labels.{Label}
use Rattle.monodromy.proofs.WordsAfter.{words_of_tight}
use Rattle.drawing.specs.declared.finger.Finger.{Finger}
use Rattle.drawing.specs.Fingers.{AllLegal, is_legal, pushed, replayed}
use Rattle.drawing.specs.Points.{contact_generator, generators as all_generators}
use Rattle.drawing.proofs.Tests.{test_from_legal}
use Rattle.handle_slide.specs.declared.slid.Slid.{Slid}
use Rattle.region_table.specs.Nice.{IsNice, is_nice}
use Rattle.region_table.proofs.Tests.{test_from_nice}
use Rattle.mod2_rank.specs.Linear.{same_list}
use Rattle.mod2_rank.proofs.Members.{same_list_itself}
use Rattle.witness_check.specs.Belonging.{BelongsTo}
use Rattle.witness_check.specs.OpenBook.{OpenBook, arcs, joined_surface, seam_names, surface_of, words_on}
use Rattle.witness_check.specs.Written.{drawing_after, first_drawing, last_drawing, last_words, own_book, polygon, surface, words_by}
use Rattle.witness_check.specs.declared.certificate.Certificate.{Certificate}
use Rattle.witness_check.specs.declared.checked.Reason.TheVariants.{Limit as limit, Basis as basis, Word as word, Drawing as drawing, Finger as finger, Final as final, Nice as nice, Generators as generators, Contact as contact}
use Rattle.witness_check.specs.Rules.{at_last, contact_rules, drawing_rules, each, final_rules, finger_rules, generator_rules, rule, same_exits, same_names, strand_rules}
use Rattle.witness_check.proofs.Kept.{At, at_index, at_map, keep_all, keep_append, keep_before, keep_each, keep_last, keep_line, keep_one, keep_two, same_exits_itself, same_names_itself}

-- each finger is legal in the drawing after those before it
legal_at : (d : Drawing) (fs : List Finger) (i : ℕ) (f : Finger) → AllLegal d fs → At fs i f → is_legal (replayed d (take i fs)) f ≡ true
legal_at d [] i f l at = absurd at
legal_at d (g ∷ fs) zero f l at = subst (λ h. is_legal d h ≡ true) at (test_from_legal d g l.0)
legal_at d (g ∷ fs) (suc i) f l at = legal_at (pushed d g) fs i f l.1 at

same_names_as : (xs ys : List (List ℕ)) → xs ≡ ys → same_names xs ys ≡ true
same_names_as xs ys e = subst (λ z. same_names xs z ≡ true) e (same_names_itself xs)

same_as : (xs ys : List ℕ) → xs ≡ ys → same_list xs ys ≡ true
same_as xs ys e = subst (λ z. same_list xs z ≡ true) e (same_list_itself xs)

same_exits_as : (xs ys : List Exit) → xs ≡ ys → same_exits xs ys ≡ true
same_exits_as xs ys e = subst (λ z. same_exits xs z ≡ true) e (same_exits_itself xs)

module _ (book : OpenBook) (c : Certificate) (b : BelongsTo book c) where
  -- the book of the certificate's lines is the book
  pub own_book_is : own_book c ≡ book
  own_book_is = rebuild c.polygons book.page c.curves book.curves c.slides book.slides c.twists book.twists b.polygons b.curves b.slides b.twists
    where
      rebuild : (p q : List (List Label)) (u v : List NamedPath) (s t : List ℕ) (m n : List NamedTwist) → p ≡ q → u ≡ v → s ≡ t → m ≡ n
          → ◌≡◌ {A = OpenBook} (record { page = p; curves = u; slides = s; twists = m }) (record { page = q; curves = v; slides = t; twists = n })
      rebuild p q u v s t m n a b c d = rw (a, b, c, d) refl

  -- its slides are accepted, and leave the surface,
  pub accepted_is : surface_of (own_book c) ≡ Ok b.surface
  accepted_is = ap surface_of own_book_is ∙ b.surface_is

  surface_written : surface c ≡ b.surface
  surface_written = ap (λ r. result_unwrap_or r (joined_surface (own_book c))) accepted_is

  -- on which its words are those of the first drawing,
  pub words_written : words_by c c.twists ≡ Ok (words b.first)
  words_written =
      ap (λ s. words_on s (own_book c)) surface_written ∙ (ap (words_on b.surface) own_book_is
      ∙ (b.first_is.words_are ∙ ap Ok (sym (ap words b.first_is.drawn ∙ words_of_tight b.surface.polygon b.first_is.words))))

  -- which its strands are,
  first_written : first_drawing c ≡ b.first
  first_written = rebuild (ap (λ (s : Slid). s.polygon) surface_written ∙ sym (ap (λ (d : Drawing). d.polygon) b.first_is.drawn)) b.strands
    where
      rebuild : polygon c ≡ b.first.polygon → c.strands ≡ b.first.strands → first_drawing c ≡ b.first
      rebuild e f = rw (e, f) refl

  -- and the fingers lead to the last one
  pub last_written : last_drawing c ≡ b.last
  last_written = ap (λ d. replayed d c.fingers) first_written ∙ sym b.last_is.replayed_so

  pub drawing_lines : keep_all (drawing_rules c) ≡ true
  drawing_lines =
      keep_append ((rule basis (same_names c.seams (seam_names c.polygons)) ∷ []) ∷ ((rule basis (same_list c.basis (arcs (polygon c))) ∷ []) ∷ each (strand_rules c) c.strands)) _ strand_lines
      (keep_append ((rule limit (leb (length c.fingers) 20000) ∷ []) ∷ each (finger_rules c) c.fingers) _ finger_lines
      (keep_append (each (final_rules c) c.finals) _ final_lines
      (keep_line (generator_rules c) (contact_rules c ∷ [])
      (keep_two (rule limit (leb c.generators 20000)) (rule generators (eqb c.generators (length (all_generators (last_drawing c))))) (le-leb _ _ b.few_generators) (eq-eqb _ _ count))
      (keep_line (contact_rules c) []
      (keep_one (rule contact (eqb (suc c.contact) c.generators && same_list c.points (contact_generator (last_drawing c))))
      (and_from (eqb (suc c.contact) c.generators) _ (eq-eqb _ _ (let e = b.contact_last in omega (arith, e))) (same_as c.points _ (b.points ∙ ap contact_generator (sym last_written))))) refl))))
    where
      count : c.generators ≡ length (all_generators (last_drawing c))
      count = b.generators_are ∙ ap (λ d. length (all_generators d)) (sym last_written)

      embedded : is_embedded (first_drawing c) ≡ true
      embedded = test_from_embedded (first_drawing c) (subst IsEmbedded (sym first_written) b.first_is.embedded)

      strand_lines : keep_all ((rule basis (same_names c.seams (seam_names c.polygons)) ∷ []) ∷ ((rule basis (same_list c.basis (arcs (polygon c))) ∷ []) ∷ each (strand_rules c) c.strands)) ≡ true
      strand_lines =
          keep_line (rule basis (same_names c.seams (seam_names c.polygons)) ∷ []) ((rule basis (same_list c.basis (arcs (polygon c))) ∷ []) ∷ each (strand_rules c) c.strands)
          (keep_one (rule basis (same_names c.seams (seam_names c.polygons))) (same_names_as c.seams _ (b.seams ∙ ap seam_names (sym b.polygons))))
          (keep_line (rule basis (same_list c.basis (arcs (polygon c))) ∷ []) (each (strand_rules c) c.strands)
          (keep_one (rule basis (same_list c.basis (arcs (polygon c)))) (same_as c.basis _ (b.basis ∙ ap (λ (s : Slid). arcs s.polygon) (sym surface_written))))
          (keep_each (strand_rules c) c.strands (λ i exits at.
          keep_before (rule word (same_list (map (λ e. e.side) exits) (slice_index_or (last_words c) i [])))
          (at_last c.strands i (rule drawing (is_embedded (first_drawing c)))) (word_at i exits at)
          (keep_last c.strands i (rule drawing (is_embedded (first_drawing c))) embedded))))
        where
          strand_words : last_words c ≡ map (map (λ (e : Exit). e.side)) c.strands
          strand_words = ap (λ r. result_unwrap_or r []) words_written ∙ ap (map (map (λ (e : Exit). e.side))) (sym b.strands)

          word_at : (i : ℕ) (exits : List Exit) → At c.strands i exits → same_list (map (λ e. e.side) exits) (slice_index_or (last_words c) i []) ≡ true
          word_at i exits at =
              same_as (map (λ e. e.side) exits) _ (sym (ap (λ ws. slice_index_or ws i []) strand_words
              ∙ at_index (map (map (λ (e : Exit). e.side)) c.strands) i (map (λ e. e.side) exits) [] (at_map (map (λ (e : Exit). e.side)) c.strands i exits at)))

      finger_lines : keep_all ((rule limit (leb (length c.fingers) 20000) ∷ []) ∷ each (finger_rules c) c.fingers) ≡ true
      finger_lines =
          keep_line (rule limit (leb (length c.fingers) 20000) ∷ []) (each (finger_rules c) c.fingers) (keep_one (rule limit (leb (length c.fingers) 20000)) (le-leb _ _ b.few_fingers))
          (keep_each (finger_rules c) c.fingers (λ i f at. keep_one (rule finger (is_legal (drawing_after c i) f))
          (legal_at (first_drawing c) c.fingers i f (subst (λ d. AllLegal d c.fingers) (sym first_written) b.last_is.legal) at)))

      final_lines : keep_all (each (final_rules c) c.finals) ≡ true
      final_lines =
          keep_each (final_rules c) c.finals (λ i exits at.
          keep_before (rule final (same_exits exits (strand_exits (last_drawing c) i)))
          (at_last c.finals i (rule nice (is_nice (last_drawing c)))) (final_at i exits at)
          (keep_last c.finals i (rule nice (is_nice (last_drawing c))) (test_from_nice (last_drawing c) (subst IsNice (sym last_written) b.last_is.nice))))
        where
          finals_are : c.finals ≡ (last_drawing c).strands
          finals_are = b.finals ∙ ap (λ (d : Drawing). d.strands) (sym last_written)

          final_at : (i : ℕ) (exits : List Exit) → At c.finals i exits → same_exits exits (strand_exits (last_drawing c) i) ≡ true
          final_at i exits at = same_exits_as exits _ (sym (at_index (last_drawing c).strands i exits [] (subst (λ xs. At xs i exits) finals_are at)))
