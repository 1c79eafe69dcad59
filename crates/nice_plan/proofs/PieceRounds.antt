-- The spans of a piece that isn't base, in a circle from any of them on; and distances by pieces.
use Rattle.std.proofs.Common.{◌≡◌, ℕ, suc, ◌<◌, true, false, List, [], ◌∷◌, ◌++◌, map, filter, length, refl, sym, ◌∙◌, ap, subst, arith, inl, inr}
use Rattle.std.specs.List.{list_any}
use Rattle.std.proofs.lemmas.Bool.{cases_Bool}
use Rattle.std.proofs.lemmas.List.{length-append}
use mathlib.Core.Path.{fun_ext}
use Rattle.obd_base.specs.Lists.{Mem, Once, below}
use Rattle.obd_base.proofs.lists.Below.{below_mem, mem_below}
use Rattle.obd_base.proofs.lists.Members.{filter_mem, mem_append, mem_filter, mem_left, mem_right, once_filter, split}
use Rattle.page_surface.specs.Drawing.{Drawing, IsEmbedded, chords}
use Rattle.page_surface.specs.Polygon.{sides}
use Rattle.drawing.specs.Boundary.{InTurn, Stretch, first_segment}
use Rattle.drawing.specs.Pieces.{distance, gap, gaps, is_base, same_piece, segments_in, span_count, spans}
use Rattle.drawing.proofs.Lists.{mem_to_map}
use Rattle.drawing.proofs.SamePiece.{same_piece_refl, same_piece_same}
use Rattle.drawing.proofs.TreeLaws.{gap_of_base, inner_boundary, leads_to_next}
use Rattle.obd_base.proofs.lists.Below.{once_range}
use Rattle.finger_move.proofs.Cycles.{IsCycle, Leads, cycle_whole, head_or}
use Rattle.drawing.proofs.fingers.NewEmbedded.{arranged}
use Rattle.finger_move.proofs.PushedNext.{next}
use Rattle.finger_move.proofs.Spread.{rotate}
use Rattle.nice_plan.proofs.Distance.{dist_le, dist_same, separated_none}
use Rattle.nice_plan.proofs.Nearer.{dist_base}
use Rattle.finger_move.proofs.Segments.{some_passes}

-- spans of one piece are base or not together
pub base_same : (d : Drawing) (s t : ℕ) → same_piece (chords d) s t ≡ true → is_base d s ≡ is_base d t
base_same d s t h = go (gaps d)
  where
    go : (gs : List ℕ) → list_any (same_piece (chords d) s) gs ≡ list_any (same_piece (chords d) t) gs
    go [] = refl
    go (g ∷ gs) = rw (same_piece_same (chords d) s t g h, go gs) refl

-- they have the same segments
pub segments_same : (d : Drawing) (s t : ℕ) → same_piece (chords d) s t ≡ true → segments_in d s ≡ segments_in d t
segments_same d s t h = ap (λ p. filter p (spans d)) (fun_ext (λ u. same_piece_same (chords d) s t u h))

-- and the same distance
pub distance_same : (d : Drawing) (s t : ℕ) → same_piece (chords d) s t ≡ true → distance d s ≡ distance d t
distance_same d s t h = dist_same (chords d) (gaps d) s t h

-- there is a gap
pub some_gap : (d : Drawing) → IsEmbedded d → Mem (gap d 0) (gaps d)
some_gap d ok = mem_to_map (gap d) 0 (below (sides d.polygon)) (below_mem (sides d.polygon) 0 ok.polygon.not_empty)

-- base pieces are those at distance 0
pub base_zero : (d : Drawing) → IsEmbedded d → (s : ℕ) → is_base d s ≡ true → distance d s ≡ 0
base_zero d ok s h =
    let (k, l, same) = gap_of_base d ok s h in
    let a = dist_le (chords d) (gaps d) s (gap d k) (mem_to_map (gap d) k (below (sides d.polygon)) (below_mem (sides d.polygon) k l)) in
    omega (arith, a, separated_none (chords d) s (gap d k) same)

-- and the other way
pub zero_base : (d : Drawing) → IsEmbedded d → (s : ℕ) → distance d s ≡ 0 → is_base d s ≡ true
zero_base d ok s h =
    let (g, i, q) = dist_base (chords d) (arranged d ok) (gaps d) (gap d 0) (some_gap d ok) s h in
    some_passes (same_piece (chords d) s) g (gaps d) i q

-- a piece at a distance isn't base
pub far_inner : (d : Drawing) → IsEmbedded d → (s e : ℕ) → distance d s ≡ suc e → is_base d s ≡ false
far_inner d ok s e h = elim (cases_Bool (is_base d s)) [ inl q ↦ absurd (let z = base_zero d ok s q in let w : ⊥ = omega (arith, z, h) in w) | inr q ↦ q ]

module _ (d : Drawing) (ok : IsEmbedded d) where
  -- a boundary leads from each segment to the next
  turned : (ps : List Stretch) (z : ℕ) → ((p : Stretch) → Mem p ps → Mem p.chord (chords d)) → InTurn ps z → Leads (next (chords d)) (map (λ (p : Stretch). p.segment) ps) z
  turned [] z h t = tt
  turned (p ∷ ps) z h t =
      (sym (leads_to_next d ok p.chord p.segment (first_segment ps z) (h p (inl refl)) t.0) ∙ first ps, turned ps z (λ q m. h q (inr m)) t.1)
    where
      first : (ps : List Stretch) → first_segment ps z ≡ head_or (map (λ (p : Stretch). p.segment) ps) z
      first [] = refl
      first (p ∷ ps) = refl

  -- the segments of a piece that isn't base form a circle
  pub inner_cycle : (s : ℕ) → s < span_count d → is_base d s ≡ false → IsCycle (next (chords d)) (segments_in d s)
  inner_cycle s l h =
      let (ps, b) = inner_boundary d ok s l h in
      subst (λ xs. IsCycle (next (chords d)) xs) b.segments (record {
        leads = go ps (turned ps (first_segment ps s) b.of_drawing b.in_turn);
        once = subst (λ xs. Once xs) (sym b.segments) (once_filter (same_piece (chords d) s) (spans d) (once_range 0 (span_count d)));
      })
    where
      go : (ps : List Stretch) → Leads (next (chords d)) (map (λ (p : Stretch). p.segment) ps) (first_segment ps s)
          → Leads (next (chords d)) (map (λ (p : Stretch). p.segment) ps) (head_or (map (λ (p : Stretch). p.segment) ps) 0)
      go [] h = tt
      go (p ∷ ps) h = h

  -- from a span on
  pub record Round (x : ℕ) : Type 0 where
    pub rest : List ℕ
    pub cycle : IsCycle (next (chords d)) (x ∷ rest)
    pub inside : (z : ℕ) → Mem z (x ∷ rest) → (z < span_count d) × (same_piece (chords d) x z ≡ true)
    pub whole : (z : ℕ) → same_piece (chords d) x z ≡ true → Mem z (x ∷ rest)
    pub size : suc (length rest) ≡ length (segments_in d x)

  -- there is such a circle
  pub round_of : (x : ℕ) → x < span_count d → is_base d x ≡ false → Round x
  round_of x l h =
      let m : Mem x (segments_in d x) = filter_mem (same_piece (chords d) x) x (spans d) (below_mem (span_count d) x l) (same_piece_refl (chords d) x) in
      let (a, b, e) = split x (segments_in d x) m in
      let c = rotate (next (chords d)) a (x ∷ b) (subst (λ xs. IsCycle (next (chords d)) xs) e (inner_cycle x l h)) in
      record {
        rest = b ++ a;
        cycle = c;
        inside = λ z i. (let (j, q) = mem_filter (same_piece (chords d) x) z (spans d) (subst (λ xs. Mem z xs) (sym e) (turn a b z i)) in (mem_below (span_count d) z j, q));
        whole = λ z q. cycle_whole (chords d) (arranged d ok) (x ∷ (b ++ a)) c x z (inl refl) q;
        size = (let p = ap length e in omega (arith, p, length-append a (x ∷ b), length-append b a));
      }
    where
      turn : (a b : List ℕ) (z : ℕ) → Mem z (x ∷ (b ++ a)) → Mem z (a ++ (x ∷ b))
      turn a b z (inl q) = mem_right z a (x ∷ b) (inl q)
      turn a b z (inr m) = elim (mem_append z b a m) [ inl i ↦ mem_right z a (x ∷ b) (inr i) | inr i ↦ mem_left z a (x ∷ b) i ]
