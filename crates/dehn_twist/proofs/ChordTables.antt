-- The merged chords as they are listed.
use Rattle.std.proofs.Common.{◌≡◌, ℕ, suc, ◌+◌, ◌<◌, ◌≤◌, List, [], ◌∷◌, ◌++◌, length, get_or, drop, refl, sym, ◌∙◌, ap, ap₂, subst, append_assoc, arith}
use Rattle.std.specs.List.{flat_map}
use Rattle.std.proofs.lemmas.List.{drop_all, drop_more}
use Rattle.obd_base.specs.Lists.{Mem, below}
use Rattle.obd_base.specs.declared.points.Exit.{Exit}
use Rattle.obd_base.proofs.lists.Below.{below_push}
use Rattle.obd_base.proofs.lists.Members.{mem_right}
use Rattle.page_surface.specs.Drawing.{Chord, Drawing, IsPlaced, end_of, entry, points_on, strand_exits}
use Rattle.page_surface.specs.Polygon.{arc_count, first_side, second_side, sides}
use Rattle.drawing.proofs.StrandTables.{entry_there, exit_there}
use Rattle.drawing.proofs.SweepTables.{flat_push}
use Rattle.dehn_twist.specs.Surgery.{merged_chords, merged_cut, merged_start, strand_number}
use Rattle.dehn_twist.specs.Tables.{AreTaken, merged_strand}
use Rattle.dehn_twist.proofs.Merged.{ends_within}

module _ (d : Drawing) (c : List Exit) (ok : AreTaken d c) where
  -- the drawing is placed
  pub placed : IsPlaced d
  placed = record { polygon = ok.embedded.polygon; strand_count = ok.embedded.strand_count; on_sides = ok.embedded.on_sides; places = ok.embedded.places }

  -- the strand before its first exit
  pub cut_start : (i first second : ℕ) (from : Exit) (exits : List Exit) → i < arc_count d.polygon → first ≡ first_side d.polygon i → second ≡ second_side d.polygon i
      → from ≡ end_of d second → exits ≡ strand_exits d i
      → (from.side < sides d.polygon) × (from.place ≤ points_on d from.side) × (merged_cut d c from exits (end_of d first) ≡ merged_strand d c i)
  cut_start i first second from exits l f s is es =
      let start : from ≡ end_of d (second_side d.polygon i) = is ∙ ap (end_of d) s in
      let there : (second_side d.polygon i < sides d.polygon) × (points_on d (second_side d.polygon i) ≤ points_on d (second_side d.polygon i))
      = (ok.embedded.polygon.pairs.in_range _ (ok.embedded.polygon.first_in_range i l), omega arith) in
      let h = subst (λ (y : Exit). (y.side < sides d.polygon) × (y.place ≤ points_on d y.side)) (sym start) there in
      (h.0, h.1, rw (start, es, f) refl)

  -- the ends of its two sides are there
  pub first_there : (i first : ℕ) → i < arc_count d.polygon → first ≡ first_side d.polygon i → first < sides d.polygon
  first_there i first l f = omega (arith, f, ok.embedded.polygon.first_in_range i l)

  -- an exit of a strand is there
  pub exit_at_strand : (i n : ℕ) (e : Exit) (exits : List Exit) → exits ≡ strand_exits d i → n < length exits → e ≡ get_or exits n e → (e.side < sides d.polygon) × (e.place < points_on d e.side)
  exit_at_strand i n e exits is l read = exit_there d placed i n e exits is l read

  -- and its entry
  pub entry_at_strand : (e x : Exit) → (e.side < sides d.polygon) × (e.place < points_on d e.side) → x ≡ entry d e → (x.side < sides d.polygon) × (x.place < points_on d x.side)
  entry_at_strand e x h is = entry_there d placed e x h is

  -- one chord more of a strand
  pub cut_more : (from e next z : Exit) (exits : List Exit) (i a b : ℕ) (t : Chord) (old after all : List Chord) → i < length exits → e ≡ get_or exits i e
      → a ≡ strand_number d c from → b ≡ strand_number d c e → t ≡ record { from = a; to = b } → next ≡ entry d e → after ≡ old ++ t ∷ []
      → old ++ merged_cut d c from (drop i exits) z ≡ all → after ++ merged_cut d c next (drop (i + 1) exits) z ≡ all
  cut_more from e next z exits i a b t old after all l is one two chord enters grown so_far =
      let same : t ≡ record { from = strand_number d c from; to = strand_number d c e } = chord ∙ ap₂ (λ (x y : ℕ). record { from = x; to = y }) one two in
      let rest : drop i exits ≡ e ∷ drop (i + 1) exits = drop_more exits i e l ∙ ap (λ (y : Exit). y ∷ drop (i + 1) exits) (sym is) in
      let cut : merged_cut d c from (drop i exits) z ≡ t ∷ merged_cut d c next (drop (i + 1) exits) z
      = ap (λ (es : List Exit). merged_cut d c from es z) rest ∙ ap₂ (λ (k : Chord) (y : Exit). k ∷ merged_cut d c y (drop (i + 1) exits) z) (sym same) (sym enters) in
      ap (λ (xs : List Chord). xs ++ merged_cut d c next (drop (i + 1) exits) z) grown
      ∙ (append_assoc old (t ∷ []) (merged_cut d c next (drop (i + 1) exits) z) ∙ (ap (λ (xs : List Chord). old ++ xs) (sym cut) ∙ so_far))

  -- the last chord of a strand
  pub cut_end : (from z to : Exit) (exits : List Exit) (i a b : ℕ) (t : Chord) (old after all : List Chord) → length exits ≤ i
      → a ≡ strand_number d c from → b ≡ strand_number d c to → to ≡ z → t ≡ record { from = a; to = b } → after ≡ old ++ t ∷ []
      → old ++ merged_cut d c from (drop i exits) z ≡ all → after ≡ all
  cut_end from z to exits i a b t old after all l one two here chord grown so_far =
      let same : t ≡ record { from = strand_number d c from; to = strand_number d c z } = chord ∙ ap₂ (λ (x y : ℕ). record { from = x; to = y }) one (two ∙ ap (strand_number d c) here) in
      let none : drop i exits ≡ [] = drop_all i exits l in
      grown ∙ (ap (λ (k : Chord). old ++ k ∷ []) same ∙ (sym (ap (λ (es : List Exit). old ++ merged_cut d c from es z) none) ∙ so_far))

  -- the chords of one strand more
  pub merged_more : (n i : ℕ) (old after : List Chord) → old ≡ flat_map (merged_strand d c) (below n) → i ≡ n → after ≡ old ++ merged_strand d c i
      → after ≡ flat_map (merged_strand d c) (below (n + 1))
  merged_more n i old after so_far same grown =
      let e : suc n ≡ n + 1 = omega arith in
      grown ∙ (ap₂ (λ (xs : List Chord) (k : ℕ). xs ++ merged_strand d c k) so_far same
      ∙ (sym (flat_push (merged_strand d c) (below n) n) ∙ (ap (flat_map (merged_strand d c)) (sym (below_push n)) ∙ ap (λ (k : ℕ). flat_map (merged_strand d c) (below k)) e)))

  -- they end in the merged order
  pub merged_inside : (cs : List Chord) (n : ℕ) → cs ≡ merged_chords d c → n ≡ merged_start d c (sides d.polygon) → (t : Chord) → Mem t cs → (t.from < n) × (t.to < n)
  merged_inside cs n is size t m =
      let r = ends_within d ok.embedded c ok.curve t (mem_right t _ (merged_chords d c) (subst (λ (xs : List Chord). Mem t xs) is m)) in
      (omega (arith, r.0, size), omega (arith, r.1, size))
