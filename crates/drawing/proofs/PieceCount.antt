-- Pieces by their first spans: spans lie in one piece exactly where they have one name, and there is one piece more than there are chords.
use Rattle.std.proofs.Common.{◌≡◌, ℕ, zero, suc, ◌+◌, ◌<◌, ◌≤◌, Bool, true, eqb, List, [], ◌∷◌, map, length, get_or, refl, sym, ◌∙◌, ap, subst, arith, inl, inr}
use Rattle.std.specs.List.{position_or_len}
use Rattle.std.proofs.lemmas.Bool.{cases_lt, eq-eqb, eqb-true, false≢true, false_from_ne_true}
use Rattle.std.proofs.lemmas.List.Sums.{sum_by-cons}
use Rattle.std.proofs.lemmas.List.{length-map}
use mathlib.Core.Path.{fun_ext}
use Rattle.obd_base.specs.Lists.{Mem, Once}
use Rattle.page_surface.specs.Polygon.{arc_count, sides}
use Rattle.page_surface.specs.Drawing.{Drawing, Chord, chords, all_exits, IsEmbedded}
use Rattle.drawing.specs.Pieces.{span_count, spans, same_piece, piece_of, piece_table, pieces}
use Rattle.obd_base.proofs.lists.Members.{no_longer, once_filter, mem_filter, filter_mem, mem_map}
use Rattle.drawing.proofs.Lists.{first_is, mem_to_map, none_before}
use Rattle.drawing.proofs.SamePiece.{same_piece_sym, same_piece_same, same_piece_refl, table_at, first_same}
use Rattle.drawing.proofs.ChordTree.{low, IsFirst, after_low_first, first_after_low}
use Rattle.obd_base.proofs.lists.Sums.{member_adds}
use Rattle.obd_base.proofs.lists.Below.{mem_below, below_mem, once_range}
use Rattle.drawing.proofs.Spots.{offset_rises}
use Rattle.drawing.proofs.Placed.{ends_of, ends_at}
use Rattle.drawing.proofs.Mates.{ends_from, ends_to}
use Rattle.drawing.proofs.Diagram.{is_diagram, at_most_one_end, chord_count}
use Rattle.drawing.proofs.CutAlways.{chord_spans}
use Rattle.drawing.proofs.Orbits.{same_then}

-- a chord ends at its lesser end
ends_low : (c : Chord) → 0 < ends_of c (low c)
ends_low c = elim (cases_lt c.from c.to) [
  | inl l ↦ (let e : low c ≡ c.from = omega arith in subst (λ x. 0 < ends_of c x) (sym e) (ends_from c))
  | inr l ↦ (let e : low c ≡ c.to = omega arith in subst (λ x. 0 < ends_of c x) (sym e) (ends_to c))
]

-- chords have different lesser ends
pub once_lows : (cs : List Chord) → ((x : ℕ) → ends_at cs x ≤ 1) → Once (map (λ c. suc (low c)) cs)
once_lows [] h = tt
once_lows (c ∷ cs) h = (
  (λ m.
      let (e, i, q) = mem_map (λ c. suc (low c)) (suc (low c)) cs m in
      let s = sum_by-cons (λ k. ends_of k (low c)) c cs in
      let a = member_adds (λ k. ends_of k (low c)) e cs i in
      let w : low c ≡ low e = omega arith in
      let b : 0 < ends_of e (low c) = subst (λ x. 0 < ends_of e x) (sym w) (ends_low e) in
      absurd (omega (arith, s, a, b, ends_low c, h (low c)))),
  once_lows cs (λ x. omega (arith, sum_by-cons (λ k. ends_of k x) c cs, h x)),
)

module _ (d : Drawing) where
  -- the name of a piece is its first span
  pub piece_of-same : (s : ℕ) → s < span_count d → same_piece (chords d) s (piece_of d s) ≡ true
  piece_of-same s l =
      subst (λ x. same_piece (chords d) s x ≡ true) (table_at d s l) (first_same d s l)

  -- no span of the piece comes before its name
  pub piece_of-least : (s t : ℕ) → t < span_count d → same_piece (chords d) s t ≡ true → piece_of d s ≤ t
  piece_of-least s t l h = elim (cases_lt t (piece_of d s)) [
    | inr g ↦ g
    | inl g ↦ absurd (false≢true (sym (none_before (same_piece (chords d) s) (span_count d) t l g) ∙ h))
  ]

  -- the name is a span
  pub piece_of-in : (s : ℕ) → s < span_count d → piece_of d s < span_count d
  piece_of-in s l = omega (arith, piece_of-least s s l (same_piece_refl (chords d) s))

  -- spans lie in one piece exactly where they have the same first span
  pub same_name : (s t : ℕ) → same_piece (chords d) s t ≡ true → piece_of d s ≡ piece_of d t
  same_name s t h = ap (λ (q : ℕ → Bool). position_or_len q (spans d)) (fun_ext (λ u. same_piece_same (chords d) s t u h))

  -- and spans of one name in one piece
  pub name_same : (s t : ℕ) → s < span_count d → t < span_count d → piece_of d s ≡ piece_of d t → same_piece (chords d) s t ≡ true
  name_same s t ls lt e =
      same_then (chords d) s (piece_of d s) t (piece_of-same s ls)
      (same_piece_sym (chords d) t (piece_of d s) (subst (λ x. same_piece (chords d) t x ≡ true) (sym e) (piece_of-same t lt)))

  -- a span is a name exactly where it is the first of its piece
  pub first_named : (s : ℕ) → s < span_count d → IsFirst (chords d) s → piece_of d s ≡ s
  first_named s l h = first_is (same_piece (chords d) s) (span_count d) s l (same_piece_refl (chords d) s) h

  -- and only there
  pub named_first : (s : ℕ) → s < span_count d → piece_of d s ≡ s → IsFirst (chords d) s
  named_first s l e t lt = none_before (same_piece (chords d) s) (span_count d) t (omega arith) (omega (arith, e))

  -- what is listed as a piece is a first span
  pub piece_mem : (s : ℕ) → Mem s (pieces d) → (s < span_count d) × IsFirst (chords d) s
  piece_mem s m =
      let r = mem_filter (λ s. eqb (get_or (piece_table d) s 0) s) s (spans d) m in
      let l = mem_below (span_count d) s r.0 in
      (l, named_first s l (sym (table_at d s l) ∙ eqb-true _ _ r.1))

  -- and each first span is listed
  pub mem_piece : (s : ℕ) → s < span_count d → IsFirst (chords d) s → Mem s (pieces d)
  mem_piece s l h =
      filter_mem (λ s. eqb (get_or (piece_table d) s 0) s) s (spans d) (below_mem (span_count d) s l)
      (eq-eqb _ _ (table_at d s l ∙ first_named s l h))

  -- each once
  pub once_pieces : Once (pieces d)
  once_pieces = once_filter (λ s. eqb (get_or (piece_table d) s 0) s) (spans d) (once_range 0 (span_count d))

  -- the name of each span is listed
  pub name_mem : (s : ℕ) → s < span_count d → Mem (piece_of d s) (pieces d)
  name_mem s l =
      mem_piece (piece_of d s) (piece_of-in s l) (λ t lt. false_from_ne_true _ (λ h.
      let g = piece_of-least s t (omega (arith, piece_of-in s l)) (same_then (chords d) s (piece_of d s) t (piece_of-same s l) h) in
      absurd (omega arith)))

module _ (d : Drawing) (ok : IsEmbedded d) where
  -- a polygon has a side, so there is a span
  pub some_span : 0 < span_count d
  some_span = omega (arith, offset_rises d 0 (sides d.polygon) ok.polygon.not_empty)

  -- 0, and the span after the lesser end of each chord
  abbrev pub first_spans : List ℕ
  first_spans = 0 ∷ map (λ c. suc (low c)) (chords d)

  -- these are different
  pub first_spans_once : Once first_spans
  first_spans_once =
      ((λ m. let (c, i, q) = mem_map (λ c. suc (low c)) 0 (chords d) m in absurd (omega arith)), once_lows (chords d) (at_most_one_end d ok))

  -- they name pieces
  pub first_spans_mem : (s : ℕ) → Mem s first_spans → Mem s (pieces d)
  first_spans_mem s (inl e) = mem_piece d s (omega (arith, some_span)) (λ t l. absurd (omega arith))
  first_spans_mem s (inr m) =
      let (c, i, q) = mem_map (λ c. suc (low c)) s (chords d) m in
      let r = chord_spans d ok c i in
      mem_piece d s (omega (arith, r.1, r.3)) (subst (λ x. IsFirst (chords d) x) (sym q) (after_low_first (chords d) (is_diagram d ok) c i))

  -- and all pieces
  mem_first_spans : (s : ℕ) → Mem s (pieces d) → Mem s first_spans
  mem_first_spans zero m = inl refl
  mem_first_spans (suc s) m =
      let (c, i, q) = first_after_low (chords d) (is_diagram d ok) s (piece_mem d (suc s) m).1 in
      inr (subst (λ x. Mem x (map (λ c. suc (low c)) (chords d))) (ap suc q) (mem_to_map (λ c. suc (low c)) c (chords d) i))

  -- the names of the pieces are 0 and the spans after the lesser ends of chords
  pub pieces_are_first_spans : length (pieces d) ≡ suc (length (chords d))
  pieces_are_first_spans =
      let a = no_longer (pieces d) first_spans (once_pieces d) mem_first_spans in
      let b = no_longer first_spans (pieces d) first_spans_once first_spans_mem in
      (let z : length (map (λ c. suc (low c)) (chords d)) ≡ length (chords d) = length-map (chords d) (λ c. suc (low c)) in omega (arith, a, b, z))

  -- so there are as many pieces as crossing points and arcs, and one more
  pub piece_count : length (pieces d) ≡ length (all_exits d) + arc_count d.polygon + 1
  piece_count = omega (arith, pieces_are_first_spans, chord_count d ok.strand_count)
