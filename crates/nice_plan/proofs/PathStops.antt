-- The path of a burst as stops: the pieces that it passes through, each with the segment by which it is entered and left.
use Rattle.std.proofs.Common.{◌≡◌, ℕ, zero, suc, ◌+◌, ◌-◌, ◌<◌, ◌≤◌, Bool, true, false, eqb, ltb, not, ◌||◌, List, [], ◌∷◌, map, length, refl, sym, ◌∙◌, ap, subst, arith, inl, inr, ◌≢◌}
use Rattle.std.proofs.lemmas.Bool.{cases_lt, eq-eqb, lt-ltb, true≢false, or_parts}
use Rattle.obd_base.specs.Lists.{Mem, Once}
use Rattle.obd_base.proofs.lists.Members.{mem_right, split}
use Rattle.page_surface.specs.Drawing.{Chord, Drawing, IsEmbedded, chords, offset, points_on}
use Rattle.page_surface.specs.Polygon.{sides}
use Rattle.drawing.specs.Pieces.{distance, is_base, piece_of, same_piece, segments_in}
use Rattle.drawing.specs.Round.{next_segment, other_end, place_of, previous_segment, side_of}
use Rattle.drawing.proofs.Laws.{same_name}
use Rattle.drawing.proofs.SamePiece.{same_piece_sym}
use Rattle.finger_move.proofs.Cycles.{IsCycle, cycle_before, cycle_same, head_or, same_trans}
use Rattle.drawing.proofs.fingers.NewEmbedded.{arranged}
use Rattle.finger_move.proofs.PushedNext.{next, other_twice}
use Rattle.finger_move.specs.Glued.{glued_to, segment_of}
use Rattle.nice_plan.specs.Path.{before_door, leaves_by, path_from, stops_in}
use Rattle.finger_move.proofs.GluedTree.{piece_tree}
use Rattle.finger_move.proofs.Paths.{IsPath, loop_at, meets_once}
use Rattle.nice_plan.proofs.PieceRounds.{Round, base_same, distance_same, round_of}
use Rattle.nice_plan.proofs.RowLast.{Passes}
use Rattle.nice_plan.proofs.RowLegal.{Misses, Simple, Stop, Way, spans_from}
use Rattle.finger_move.proofs.Segments.{IsSegment, glued_segment_of, inner_segment, place_is, segment_in, side_is}
use Rattle.nice_plan.proofs.Stepping.{Stands}
use Rattle.nice_plan.proofs.PathSegments.{AllStand, pairs}

-- the segments by which the stops are left
abbrev pub segs : List Stop → List ℕ
segs ss = map (λ (s : Stop). s.seg) ss

-- each stop's segment is one, and leads to what it is glued to
abbrev pub Glued : Drawing → List Stop → Type 0
Glued d [] = Unit {0}
Glued d (s ∷ ss) = IsSegment d s.seg × (s.beyond ≡ glued_to d s.seg) × Glued d ss

-- no span of a stop is nearer than `far`
abbrev pub AsFar : Drawing → ℕ → ℕ → List Stop → Type 0
AsFar d far u [] = Unit {0}
AsFar d far u (s ∷ ss) = ((z : ℕ) → Mem z (spans_from u s) → far ≤ distance d z) × AsFar d far s.beyond ss

-- each stop is left as the rule says
abbrev pub Leaves : Drawing → ℕ → List Stop → Type 0
Leaves d u [] = Unit {0}
Leaves d u (s ∷ ss) = (s.seg ≡ leaves_by d u) × Leaves d s.beyond ss

module _ (d : Drawing) (ok : IsEmbedded d) where
  -- a segment isn't glued to one of its own piece
  pub glued_apart : (s : ℕ) → IsSegment d s → same_piece (chords d) s (glued_to d s) ≡ true → ⊥
  glued_apart s h q = loop_at (piece_of d) (glued_to d) (IsSegment d) (piece_tree d ok) s h (same_name d s (glued_to d s) q)

  -- where a piece has more than one segment, the path leaves it by another one than it came by
  leaves_in : (u : ℕ) (r : Round d ok u) → length (segments_in d u) ≢ 1 → Mem (leaves_by d u) r.rest
  leaves_in u r ne = go (eqb (length (segments_in d u)) 2 || not (eqb (before_door d u) u)) r.rest refl
    where
      cs : List Chord
      cs = chords d

      onward : (xs : List ℕ) → r.rest ≡ xs → Mem (next cs u) xs
      onward [] q = absurd (let z = r.size in let w = ap length q in let v : ⊥ = omega (arith, z, w, ne) in v)
      onward (y ∷ ys) q = inl (subst (λ zs. next cs u ≡ head_or zs u) q r.cycle.leads.0)

      moved : (xs : List ℕ) → r.rest ≡ xs → next cs u ≢ u
      moved xs q e = r.cycle.once.0 (subst (λ w. Mem w r.rest) e (onward r.rest refl))

      back : Mem (previous_segment d u) r.rest
      back =
          let (y, m, e) = cycle_before (next cs) (u ∷ r.rest) r.cycle u (inl refl) in
          let z : other_end cs y ≡ u - 1 = omega (arith, e) in
          let w : previous_segment d u ≡ y = ap (other_end cs) (sym z) ∙ other_twice cs (arranged d ok) y in
          elim m [
            | inl q ↦ absurd (moved r.rest refl (ap (next cs) (sym q) ∙ e))
            | inr i ↦ subst (λ x. Mem x r.rest) (sym w) i
          ]

      go : (b : Bool) (xs : List ℕ) → r.rest ≡ xs → Mem (elim b [ true ↦ next_segment d u | false ↦ previous_segment d u ]) r.rest
      go true xs q = onward r.rest refl
      go false xs q = back

  -- the stops of the path from a segment, with n more steps allowed
  pub record PathMade (far n s : ℕ) : Type 0 where
    pub stops : List Stop
    pub path_is : path_from d far (suc n) s ≡ s ∷ segs stops
    pub way : Way (next (chords d)) (glued_to d s) stops
    pub is_path : IsPath (piece_of d) (glued_to d) (IsSegment d) (s ∷ segs stops)
    pub glued : Glued d stops
    pub as_far : AsFar d far (glued_to d s) stops
    pub leaves : Leaves d (glued_to d s) stops

  -- a path has such stops
  pub path_made : (far n s : ℕ) → IsSegment d s → PathMade far n s
  path_made far zero s h = record { stops = []; path_is = go (stops_in d far (glued_to d s)); way = tt; is_path = h; glued = tt; as_far = tt; leaves = tt }
    where
      go : (b : Bool) → s ∷ (elim b [ true ↦ [] | false ↦ [] ]) ≡ s ∷ []
      go true = refl
      go false = refl
  path_made far (suc n) s h = go (stops_in d far u) refl (λ hs. path_made far n (leaves_by d u) hs)
    where
      u : ℕ
      u = glued_to d s

      su : IsSegment d u
      su = glued_segment_of d ok s h

      go : (b : Bool) → stops_in d far u ≡ b → (IsSegment d (leaves_by d u) → PathMade far n (leaves_by d u)) → PathMade far (suc n) s
      go true q ih = record { stops = []; path_is = rw q refl; way = tt; is_path = h; glued = tt; as_far = tt; leaves = tt }
      go false q ih =
          let one = or_parts (is_base d u) (eqb (length (segments_in d u)) 1 || ltb (distance d u) far) q in
          let two = or_parts (eqb (length (segments_in d u)) 1) (ltb (distance d u) far) one.1 in
          let ne : length (segments_in d u) ≢ 1 = λ e. true≢false (sym (eq-eqb (length (segments_in d u)) 1 e) ∙ two.0) in
          let near : far ≤ distance d u = elim (cases_lt (distance d u) far) [ inl l ↦ absurd (true≢false (sym (lt-ltb (distance d u) far l) ∙ two.1)) | inr l ↦ l ] in
          let lu = segment_in d u su in
          let r = round_of d ok u lu one.0 in
          let v = leaves_by d u in
          let m = leaves_in u r ne in
          let (a, b, e) = split v r.rest m in
          let vi = r.inside v (inr m) in
          let vs = inner_segment d v vi.0 (sym (base_same d u v vi.1) ∙ one.0) in
          let i = ih vs in
          record {
            stops = record { before = a; seg = v; after = b; beyond = glued_to d v } ∷ i.stops;
            path_is = (let z : path_from d far (suc (suc n)) s ≡ s ∷ path_from d far (suc n) v = rw q refl in z ∙ ap (λ w. s ∷ w) i.path_is);
            way = (
              subst (λ xs. IsCycle (next (chords d)) (u ∷ xs)) e r.cycle,
              (λ k. glued_apart v vs (same_trans (chords d) v u (glued_to d v) (same_piece_sym (chords d) u v vi.1) (r.inside (glued_to d v) (subst (λ xs. Mem (glued_to d v) (u ∷ xs)) (sym e) k)).1)),
              i.way,
            );
            is_path = (h, sym (same_name d u v vi.1), (λ k. r.cycle.once.0 (subst (λ w. Mem w r.rest) k m)), i.is_path);
            glued = (vs, refl, i.glued);
            as_far = ((λ z k. let w = distance_same d u z (r.inside z (subst (λ xs. Mem z (u ∷ xs)) (sym e) k)).1 in omega (arith, w, near)), i.as_far);
            leaves = (refl, i.leaves);
          }

  -- what lies in a piece that the path doesn't meet is in none of its stops
  missed : (z s : ℕ) (stops : List Stop) → Way (next (chords d)) (glued_to d s) stops → Glued d stops
      → (Mem (piece_of d z) (map (λ t. piece_of d (glued_to d t)) (s ∷ segs stops)) → ⊥) → Misses z (glued_to d s) stops
  missed z s [] w g n = tt
  missed z s (st ∷ stops) w g n = (
    (λ m. n (inl (same_name d z (glued_to d s) (cycle_same (chords d) (arranged d ok) (spans_from (glued_to d s) st) w.0 z (glued_to d s) m (inl refl))))),
    subst (λ x. Misses z x stops) (sym g.1) (missed z st.seg stops (subst (λ x. Way (next (chords d)) x stops) g.1 w.2) g.2 (λ m. n (inr m))),
  )

  -- the path meets no piece twice
  pub simple_path : (s : ℕ) (stops : List Stop) → Way (next (chords d)) (glued_to d s) stops → Glued d stops → IsPath (piece_of d) (glued_to d) (IsSegment d) (s ∷ segs stops)
      → Misses s (glued_to d s) stops × Simple (glued_to d s) stops
  simple_path s stops w g p =
      let once = meets_once (piece_of d) (glued_to d) (IsSegment d) (piece_tree d ok) (s ∷ segs stops) p in
      (missed s s stops w g once.0, go s stops w g once.1)
    where
      go : (s : ℕ) (stops : List Stop) → Way (next (chords d)) (glued_to d s) stops → Glued d stops
          → Once (map (λ t. piece_of d (glued_to d t)) (s ∷ segs stops)) → Simple (glued_to d s) stops
      go s [] w g o = tt
      go s (st ∷ stops) w g o =
          let u = glued_to d s in
          let w' = subst (λ x. Way (next (chords d)) x stops) g.1 w.2 in
          let same : piece_of d st.seg ≡ piece_of d u = same_name d st.seg u (cycle_same (chords d) (arranged d ok) (spans_from u st) w.0 st.seg u (inr (mem_right st.seg st.before (st.seg ∷ st.after) (inl refl))) (inl refl)) in (
            subst (λ x. Misses u x stops) (sym g.1) (missed u st.seg stops w' g.2 o.0),
            subst (λ x. Misses st.seg x stops) (sym g.1) (missed st.seg st.seg stops w' g.2 (subst (λ x. Mem x (map (λ t. piece_of d (glued_to d t)) (st.seg ∷ segs stops)) → ⊥) (sym same) o.0)),
            subst (λ x. Simple x stops) (sym g.1) (go st.seg stops w' g.2 o.1),
          )

-- what is nearer is in no stop
pub near_missed : (d : Drawing) (far z u : ℕ) (stops : List Stop) → AsFar d far u stops → distance d z < far → Misses z u stops
near_missed d far z u [] h l = tt
near_missed d far z u (s ∷ ss) h l = ((λ m. let k = h.0 z m in omega (arith, k, l)), near_missed d far z s.beyond ss h.1 l)

-- and the path passes spans that are nearer
pub near_passed : (d : Drawing) (far u : ℕ) (stops : List Stop) (zs : List ℕ) → AsFar d far u stops → ((z : ℕ) → Mem z zs → distance d z < far) → Passes u stops zs
near_passed d far u [] zs h l = tt
near_passed d far u (s ∷ ss) zs h l = (
  (λ m. let k = h.0 u (inl refl) in let i = l u m in omega (arith, k, i)),
  (λ m. let k = h.0 s.seg (inr (mem_right s.seg s.before (s.seg ∷ s.after) (inl refl))) in let i = l s.seg m in omega (arith, k, i)),
  near_passed d far s.beyond ss zs h.1 l,
)

-- by side and number it stands where it should
pub segment_stands : (d : Drawing) (s : ℕ) → IsSegment d s → Stands d (segment_of d s) s (glued_to d s)
segment_stands d s h =
    let a : side_of d s ≡ h.side = ap (side_of d) h.is ∙ side_is d h.side h.place h.side_in (omega (arith, h.place_in)) in
    let b : place_of d s ≡ h.place = ap (place_of d) h.is ∙ place_is d h.side h.place h.side_in (omega (arith, h.place_in)) in
    let e : points_on d (side_of d s) ≡ points_on d h.side = ap (points_on d) a in
    record {
      side = subst (λ k. k < sides d.polygon) (sym a) h.side_in;
      place = omega (arith, b, e, h.place_in);
      at = ap (λ k. offset d k + place_of d s) a ∙ (ap (λ p. offset d h.side + p) b ∙ sym h.is);
      beyond = refl;
    }

-- the segments by side and number
pub path_stands : (d : Drawing) (s : ℕ) (stops : List Stop) → IsSegment d s → Glued d stops → AllStand d (map (segment_of d) (s ∷ segs stops)) ((s, glued_to d s) ∷ pairs stops)
path_stands d s [] h g = (segment_stands d s h, tt)
path_stands d s (st ∷ stops) h g =
    (segment_stands d s h, subst (λ x. AllStand d (map (segment_of d) (st.seg ∷ segs stops)) ((st.seg, x) ∷ pairs stops)) (sym g.1) (path_stands d st.seg stops g.0 g.2))
