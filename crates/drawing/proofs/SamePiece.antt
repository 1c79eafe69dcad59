-- 'No chord separates' is an equivalence on spans, and a piece is named by its first span.
use Rattle.std.proofs.Common.{◌≡◌, ℕ, ◌+◌, ◌<◌, Bool, true, false, not, List, [], ◌∷◌, get_or, refl, sym, ◌∙◌, ap, arith, zero-add}
use Rattle.std.specs.List.{list_any, position_or_len}
use Rattle.std.proofs.lemmas.Bool.{not-true, or_parts}
use Rattle.std.proofs.lemmas.List.FromFn.{get_or-map-range_with_len}
use mathlib.Core.Path.{fun_ext}
use Rattle.obd_base.proofs.lists.Below.{first_passes}
use Rattle.page_surface.specs.Drawing.{Chord, Drawing, beyond, chords, differ}
use Rattle.drawing.specs.Pieces.{piece_table, same_piece, separates, span_count, spans}

-- tests that differ nowhere
pub differ-false : (b c : Bool) → differ b c ≡ false → b ≡ c
differ-false true true h = refl
differ-false true false h = h
differ-false false true h = sym h
differ-false false false h = refl

-- a test doesn't differ from itself
pub differ_same : (b : Bool) → differ b b ≡ false
differ_same true = refl
differ_same false = refl

-- spans of one piece lie on one side of each chord, so they lie in the same pieces
pub same_piece_same : (cs : List Chord) (s t u : ℕ) → same_piece cs s t ≡ true → same_piece cs s u ≡ same_piece cs t u
same_piece_same cs s t u h = ap not (go cs (not-true _ h))
  where
    go : (cs : List Chord) → list_any (λ c. separates c s t) cs ≡ false → list_any (λ c. separates c s u) cs ≡ list_any (λ c. separates c t u) cs
    go [] h = refl
    go (c ∷ cs) h =
        let e = or_parts _ _ h in
        let b = differ-false (beyond c s) (beyond c t) e.0 in
        rw (b, go cs e.1)

-- a span is in its own piece
pub same_piece_refl : (cs : List Chord) (s : ℕ) → same_piece cs s s ≡ true
same_piece_refl cs s = ap not (go cs)
  where
    go : (cs : List Chord) → list_any (λ c. separates c s s) cs ≡ false
    go [] = refl
    go (c ∷ cs) = rw (differ_same (beyond c s), go cs)

-- and either way
pub same_piece_sym : (cs : List Chord) (s t : ℕ) → same_piece cs s t ≡ true → same_piece cs t s ≡ true
same_piece_sym cs s t h = sym (same_piece_same cs s t s h) ∙ same_piece_refl cs s

-- the table at a span
pub table_at : (d : Drawing) (s : ℕ) → s < span_count d → get_or (piece_table d) s 0 ≡ position_or_len (same_piece (chords d) s) (spans d)
table_at d s l = get_or-map-range_with_len (λ s. position_or_len (same_piece (chords d) s) (spans d)) 0 (span_count d) s s 0 l (zero-add s)

-- spans of one piece have one entry
pub table_same : (d : Drawing) (s t : ℕ) → s < span_count d → t < span_count d → same_piece (chords d) s t ≡ true → get_or (piece_table d) s 0 ≡ get_or (piece_table d) t 0
table_same d s t ls lt h =
    table_at d s ls ∙ (ap (λ q. position_or_len q (spans d)) (fun_ext (λ u. same_piece_same (chords d) s t u h)) ∙ sym (table_at d t lt))

-- a span lies in the piece of its table entry
pub first_same : (d : Drawing) (s : ℕ) → s < span_count d → same_piece (chords d) s (get_or (piece_table d) s 0) ≡ true
first_same d s l =
    let q : same_piece (chords d) s (0 + position_or_len (same_piece (chords d) s) (spans d)) ≡ true
    = first_passes (same_piece (chords d) s) 0 (span_count d) s (omega arith) (omega arith) (same_piece_refl (chords d) s) in
    rw table_at (rw zero-add at q)
