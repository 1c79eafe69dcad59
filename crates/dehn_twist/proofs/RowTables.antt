-- A strand with its loops, exit by exit.
use Rattle.std.proofs.Common.{◌≡◌, ℕ, ◌+◌, ◌<◌, ◌≤◌, List, [], ◌∷◌, ◌++◌, length, get_or, drop, refl, sym, ◌∙◌, ap, ap₂, subst, append_assoc, inl, inr}
use Rattle.std.proofs.lemmas.List.{drop_all, drop_more}
use Rattle.obd_base.specs.Lists.{Mem, below}
use Rattle.obd_base.specs.declared.points.Exit.{Exit}
use Rattle.obd_base.specs.declared.points.Sign.{Sign}
use Rattle.obd_base.proofs.lists.Below.{below_mem}
use Rattle.obd_base.proofs.lists.Members.{mem_flat}
use Rattle.page_surface.specs.Drawing.{Chord, Drawing, end_of, entry, points_on, strand_exits}
use Rattle.page_surface.specs.Polygon.{arc_count, first_side, second_side, sides}
use Rattle.dehn_twist.specs.Surgery.{kept_point, loops, meeting_count, merged_chords, merged_cut, strand_number, surgery_strand}
use Rattle.dehn_twist.specs.Tables.{Pair, merged_chord, merged_strand, surgery_row}

-- what is there for one call is there for another
pub there_seen : (made seen : Pair) → made ≡ seen → (e : Exit) → (e.side < sides seen.drawing.polygon) × (e.place < points_on seen.drawing e.side)
    → (e.side < sides made.drawing.polygon) × (e.place < points_on made.drawing e.side)
there_seen made seen same e there = subst (λ (p : Pair). (e.side < sides p.drawing.polygon) × (e.place < points_on p.drawing e.side)) (sym same) there

-- so are the exits of a strand
pub exits_seen : (made seen : Pair) → made ≡ seen → (i : ℕ) (exits : List Exit) → exits ≡ strand_exits made.drawing i → exits ≡ strand_exits seen.drawing i
exits_seen made seen same i exits is = is ∙ ap (λ (p : Pair). strand_exits p.drawing i) same

-- the entries
pub entry_seen : (made seen : Pair) → made ≡ seen → (e next : Exit) → next ≡ entry made.drawing e → next ≡ entry seen.drawing e
entry_seen made seen same e next is = is ∙ ap (λ (p : Pair). entry p.drawing e) same

-- and the new places
pub kept_seen : (made seen : Pair) → made ≡ seen → (e kept : Exit) (lines : ℕ) → lines ≡ meeting_count seen.drawing seen.curve → kept ≡ kept_point made.drawing made.curve lines e
    → kept ≡ kept_point seen.drawing seen.curve (meeting_count seen.drawing seen.curve) e
kept_seen made seen same e kept lines count is = is ∙ (ap (λ (p : Pair). kept_point p.drawing p.curve lines e) same ∙ ap (λ n. kept_point seen.drawing seen.curve n e) count)

-- a chord from the numbers of its ends
pub chord_seen : (made seen : Pair) → made ≡ seen → (a z : Exit) (from to : ℕ) (t : Chord) → from ≡ strand_number made.drawing made.curve a → to ≡ strand_number made.drawing made.curve z
    → t ≡ record { from = from; to = to } → t ≡ merged_chord seen.drawing seen.curve a z
chord_seen made seen same a z from to t one two is =
    is ∙ (ap₂ (λ (x y : ℕ). record { from = x; to = y }) one two ∙ ap (λ (p : Pair). merged_chord p.drawing p.curve a z) same)

module _ (d : Drawing) (c : List Exit) where
  -- the chords of a strand from here on are chords of the drawing
  abbrev pub Listed : Exit → List Exit → Exit → Type 0
  Listed a es z = (k : Chord) → Mem k (merged_cut d c a es z) → Mem k (merged_chords d c)

  -- all chords of a strand are
  pub all_listed : (i : ℕ) (from : Exit) (exits : List Exit) → i < arc_count d.polygon → from ≡ end_of d (second_side d.polygon i) → exits ≡ strand_exits d i
      → Listed from exits (end_of d (first_side d.polygon i))
  all_listed i from exits l start are k m =
      let h : Mem k (merged_strand d c i) = subst (λ (es : List Exit). Mem k (merged_cut d c (end_of d (second_side d.polygon i)) es (end_of d (first_side d.polygon i)))) are
      (subst (λ (a : Exit). Mem k (merged_cut d c a exits (end_of d (first_side d.polygon i)))) start m) in
      mem_flat (merged_strand d c) (below (arc_count d.polygon)) i k (below_mem (arc_count d.polygon) i l) h

  module _ (sign : Sign) (from z : Exit) (exits : List Exit) (i : ℕ) where
    module _ (e next : Exit) (l : i < length exits) (is : e ≡ get_or exits i e) where
      rest : drop i exits ≡ e ∷ drop (i + 1) exits
      rest = drop_more exits i e l ∙ ap (λ (y : Exit). y ∷ drop (i + 1) exits) (sym is)

      -- so is the first of them
      pub next_listed : Listed from (drop i exits) z → Mem (merged_chord d c from e) (merged_chords d c)
      next_listed listed = listed (merged_chord d c from e) (subst (λ (es : List Exit). Mem (merged_chord d c from e) (merged_cut d c from es z)) (sym rest) (inl refl))

      -- and those after it
      pub rest_listed : next ≡ entry d e → Listed from (drop i exits) z → Listed next (drop (i + 1) exits) z
      rest_listed enters listed k m =
          listed k (subst (λ (es : List Exit). Mem k (merged_cut d c from es z)) (sym rest) (inr (subst (λ (a : Exit). Mem k (merged_cut d c a (drop (i + 1) exits) z)) enters m)))

      -- one chord and one exit more
      pub row_more : (kept : Exit) (old mid after all : List Exit) → next ≡ entry d e → mid ≡ old ++ loops d c sign (meeting_count d c) from e → kept ≡ kept_point d c (meeting_count d c) e → after ≡ mid ++ kept ∷ []
          → old ++ surgery_strand d c sign (meeting_count d c) from (drop i exits) z ≡ all → after ++ surgery_strand d c sign (meeting_count d c) next (drop (i + 1) exits) z ≡ all
      row_more kept old mid after all enters looped kept_is grown so_far =
          let step : surgery_strand d c sign (meeting_count d c) from (drop i exits) z ≡ loops d c sign (meeting_count d c) from e ++ kept ∷ surgery_strand d c sign (meeting_count d c) next (drop (i + 1) exits) z
          = ap (λ (es : List Exit). surgery_strand d c sign (meeting_count d c) from es z) rest
          ∙ ap₂ (λ (x y : Exit). loops d c sign (meeting_count d c) from e ++ x ∷ surgery_strand d c sign (meeting_count d c) y (drop (i + 1) exits) z) (sym kept_is) (sym enters) in
          ap (λ (xs : List Exit). xs ++ surgery_strand d c sign (meeting_count d c) next (drop (i + 1) exits) z) (grown ∙ ap (λ (xs : List Exit). xs ++ kept ∷ []) looped)
          ∙ (append_assoc (old ++ loops d c sign (meeting_count d c) from e) (kept ∷ []) (surgery_strand d c sign (meeting_count d c) next (drop (i + 1) exits) z)
          ∙ (append_assoc old (loops d c sign (meeting_count d c) from e) (kept ∷ surgery_strand d c sign (meeting_count d c) next (drop (i + 1) exits) z)
          ∙ (ap (λ (xs : List Exit). old ++ xs) (sym step) ∙ so_far)))

    module _ (to : Exit) (l : length exits ≤ i) (same : to ≡ z) where
      -- the last chord
      pub last_listed : Listed from (drop i exits) z → Mem (merged_chord d c from to) (merged_chords d c)
      last_listed listed =
          subst (λ (y : Exit). Mem (merged_chord d c from y) (merged_chords d c)) (sym same)
          (listed (merged_chord d c from z) (subst (λ (es : List Exit). Mem (merged_chord d c from z) (merged_cut d c from es z)) (sym (drop_all i exits l)) (inl refl)))

      -- ends the row
      pub row_end : (old all : List Exit) → old ++ surgery_strand d c sign (meeting_count d c) from (drop i exits) z ≡ all → old ++ loops d c sign (meeting_count d c) from to ≡ all
      row_end old all so_far =
          ap (λ (y : Exit). old ++ loops d c sign (meeting_count d c) from y) same
          ∙ (sym (ap (λ (es : List Exit). old ++ surgery_strand d c sign (meeting_count d c) from es z) (drop_all i exits l)) ∙ so_far)

  -- the row before its first exit
  pub row_start : (sign : Sign) (i : ℕ) (from : Exit) (exits row : List Exit) → from ≡ end_of d (second_side d.polygon i) → exits ≡ strand_exits d i
      → row ++ surgery_strand d c sign (meeting_count d c) from exits (end_of d (first_side d.polygon i)) ≡ row ++ surgery_row d c sign i
  row_start sign i from exits row start are = ap₂ (λ (a : Exit) (es : List Exit). row ++ surgery_strand d c sign (meeting_count d c) a es (end_of d (first_side d.polygon i))) start are
