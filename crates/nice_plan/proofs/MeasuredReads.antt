-- Pieces by their names in a drawing with its table, and their segments.
use Rattle.std.proofs.Common.{◌≡◌, ℕ, ◌<◌, ◌^◌, true, false, map, length, refl, sym, ◌∙◌, ap, subst, arith}
use Rattle.std.proofs.lemmas.List.{length-map}
use Rattle.obd_base.specs.Lists.{Mem}
use Rattle.obd_base.specs.declared.points.Exit.{Exit}
use Rattle.obd_base.proofs.lists.Below.{below_mem, mem_below}
use Rattle.obd_base.proofs.lists.Members.{filter_mem, mem_filter, mem_map, no_longer}
use Rattle.page_surface.specs.Drawing.{Drawing, chords, spot}
use Rattle.drawing.specs.Boundary.{Stretch}
use Rattle.drawing.specs.Pieces.{distance, is_base, piece_of, same_piece, segments_in, span_count, spans}
use Rattle.drawing.specs.Round.{place_of, side_of}
use Rattle.drawing.proofs.Laws.{name_comes_first, name_in_piece, one_more_piece, piece_count, reflexive, same_name}
use Rattle.drawing.proofs.TreeLaws.{inner_boundary}
use Rattle.finger_move.specs.Glued.{segment_of}
use Rattle.finger_move.proofs.Segments.{IsSegment, inner_segment, place_is, segment_in, side_is}
use Rattle.region_table.specs.Table.{name_at, region}
use Rattle.region_table.proofs.EdgeWalk.{first_segment_is, mem_of_place, place_of_mem}
use Rattle.nice_plan.specs.Measured.{IsInner, IsMeasured, IsOn, Measured, home, segment_at}
use Rattle.nice_plan.proofs.PieceRounds.{base_same}

-- a segment of a side has a number
pub on_segment : (d : Drawing) (e : Exit) → IsOn d e → IsSegment d (spot d e)
on_segment d e on = record { side = e.side; place = e.place; side_in = on.side; place_in = on.place; is = refl }

-- which is a span,
pub on_span : (d : Drawing) (e : Exit) → IsOn d e → spot d e < span_count d
on_span d e on = segment_in d (spot d e) (on_segment d e on)

-- and tells it
pub spot_again : (d : Drawing) (e : Exit) → IsOn d e → segment_of d (spot d e) ≡ e
spot_again d e on =
    let a : side_of d (spot d e) ≡ e.side = side_is d e.side e.place on.side (omega (arith, on.place)) in
    let b : place_of d (spot d e) ≡ e.place = place_is d e.side e.place on.side (omega (arith, on.place)) in
    ap (λ k. record { side = k; place = place_of d (spot d e) }) a ∙ ap (λ j. record { side = e.side; place = j }) b

-- a span that is a segment has a side and a place there
pub segment_on : (d : Drawing) (s : ℕ) → IsSegment d s → IsOn d (segment_of d s)
segment_on d s h =
    let e : Exit = record { side = h.side; place = h.place } in
    let on : IsOn d e = record { side = h.side_in; place = h.place_in } in
    subst (λ x. IsOn d x) (sym (ap (segment_of d) h.is ∙ spot_again d e on)) on

-- by which it is found again
pub segment_again : (d : Drawing) (s : ℕ) → IsSegment d s → spot d (segment_of d s) ≡ s
segment_again d s h =
    let e : Exit = record { side = h.side; place = h.place } in
    let on : IsOn d e = record { side = h.side_in; place = h.place_in } in
    ap (spot d) (ap (segment_of d) h.is ∙ spot_again d e on) ∙ sym h.is

-- what a piece that isn't base has
pub record IsHome (m : Measured) (p : ℕ) : Type 0 where
  pub inside : home m p < span_count m.drawing
  pub named : name_at m.table (home m p) ≡ p
  pub inner : is_base m.drawing (home m p) ≡ false
  pub first : piece_of m.drawing (home m p) ≡ home m p
  pub size : (region m.table p).size ≡ length (segments_in m.drawing (home m p))
  pub distance : (region m.table p).distance ≡ distance m.drawing (home m p)

module _ (m : Measured) (k : IsMeasured m.drawing m.table) where
  -- distances by names
  pub distance_at : (s : ℕ) → s < span_count m.drawing → (p : ℕ) → name_at m.table s ≡ p → (region m.table p).distance ≡ distance m.drawing s
  distance_at s l p e = ap (λ q. (region m.table q).distance) (sym e) ∙ k.distances s l

  -- base pieces by names
  pub base_at : (s : ℕ) → s < span_count m.drawing → (p : ℕ) → name_at m.table s ≡ p → (region m.table p).base ≡ is_base m.drawing s
  base_at s l p e = ap (λ q. (region m.table q).base) (sym e) ∙ k.table.base s l

  -- a piece that isn't base, by one of its spans
  pub inner_at : (s : ℕ) → s < span_count m.drawing → is_base m.drawing s ≡ false → (p : ℕ) → name_at m.table s ≡ p → IsInner m p
  inner_at s l h p e = record { listed = subst (λ q. q < length m.table.regions) e (k.table.told s l); inner = base_at s l p e ∙ h }

  -- its first segment
  pub home_at : (s : ℕ) → s < span_count m.drawing → is_base m.drawing s ≡ false → (p : ℕ) → name_at m.table s ≡ p → home m p ≡ piece_of m.drawing s
  home_at s l h p e = ap (λ q. (region m.table q).first) (sym e) ∙ k.table.first s l h

  -- lies in the piece
  pub home_same : (s : ℕ) → s < span_count m.drawing → is_base m.drawing s ≡ false → (p : ℕ) → name_at m.table s ≡ p → same_piece (chords m.drawing) s (home m p) ≡ true
  home_same s l h p e = subst (λ x. same_piece (chords m.drawing) s x ≡ true) (sym (home_at s l h p e)) (name_in_piece m.drawing s l)

  -- so a name that isn't a base piece's has a piece
  pub home_is : (p : ℕ) → IsInner m p → IsHome m p
  home_is p i =
      let d = m.drawing in
      let (s, l, e) = k.table.used p i.listed in
      let h : is_base d s ≡ false = sym (base_at s l p e) ∙ i.inner in
      let f = home_at s l h p e in
      let same = home_same s l h p e in
      let inside : home m p < span_count d = omega (arith, f, name_comes_first d s s l (reflexive d s), l) in
      let named : name_at m.table (home m p) ≡ p = sym (k.table.naming.together s (home m p) l inside same) ∙ e in
      let inner : is_base d (home m p) ≡ false = sym (base_same d s (home m p) same) ∙ h in
      record {
        inside = inside;
        named = named;
        inner = inner;
        first = sym (same_name d s (home m p) same) ∙ sym f;
        size = ap (λ q. (region m.table q).size) (sym named) ∙ k.table.size (home m p) inside inner;
        distance = distance_at (home m p) inside p named;
      }

  module _ (p : ℕ) (i : IsInner m p) where
    -- a segment of it is a span of it
    pub segment_mem : (j : ℕ) → j < (region m.table p).size → Mem (segment_at m p j) (segments_in m.drawing (home m p))
    segment_mem j l = mem_of_place (segments_in m.drawing (home m p)) j 0 (omega (arith, l, (home_is p i).size))

    pub segment_inside : (j : ℕ) → j < (region m.table p).size → segment_at m p j < span_count m.drawing
    segment_inside j l = mem_below (span_count m.drawing) _ (mem_filter (same_piece (chords m.drawing) (home m p)) _ (spans m.drawing) (segment_mem j l)).0

    pub segment_same : (j : ℕ) → j < (region m.table p).size → same_piece (chords m.drawing) (home m p) (segment_at m p j) ≡ true
    segment_same j l = (mem_filter (same_piece (chords m.drawing) (home m p)) _ (spans m.drawing) (segment_mem j l)).1

    pub segment_inner : (j : ℕ) → j < (region m.table p).size → is_base m.drawing (segment_at m p j) ≡ false
    segment_inner j l = sym (base_same m.drawing (home m p) (segment_at m p j) (segment_same j l)) ∙ (home_is p i).inner

    pub segment_is : (j : ℕ) → j < (region m.table p).size → IsSegment m.drawing (segment_at m p j)
    segment_is j l = inner_segment m.drawing (segment_at m p j) (segment_inside j l) (segment_inner j l)

    -- and has its name
    pub segment_named : (j : ℕ) → j < (region m.table p).size → name_at m.table (segment_at m p j) ≡ p
    segment_named j l =
        sym (k.table.naming.together (home m p) (segment_at m p j) (home_is p i).inside (segment_inside j l) (segment_same j l)) ∙ (home_is p i).named

    -- each span of it is one of its segments
    pub segment_found : (s : ℕ) → s < span_count m.drawing → name_at m.table s ≡ p → (j : ℕ) × (j < (region m.table p).size) × (segment_at m p j ≡ s)
    segment_found s l e =
        let h = home_is p i in
        let same = k.table.naming.apart (home m p) s h.inside l (h.named ∙ sym e) in
        let (j, lj, q) = place_of_mem s (segments_in m.drawing (home m p)) 0 (filter_mem (same_piece (chords m.drawing) (home m p)) s (spans m.drawing) (below_mem (span_count m.drawing) s l) same) in
        (j, omega (arith, lj, h.size), q)

    -- it has some
    pub some_segment : 0 < (region m.table p).size
    some_segment = let h = home_is p i in let (j, l, q) = segment_found (home m p) h.inside h.named in omega (arith, l)

    -- the first one is its home
    pub first_home : segment_at m p 0 ≡ home m p
    first_home = let h = home_is p i in first_segment_is m.drawing k.embedded (home m p) h.inside ∙ h.first

    -- and at most as many as there are chords
    pub few_segments : (region m.table p).size < 2 ^ 29
    few_segments =
        let h = home_is p i in
        let (ps, b) = inner_boundary m.drawing k.embedded (home m p) h.inside h.inner in
        let n : length (map (λ (q : Stretch). q.segment) ps) ≡ length (segments_in m.drawing (home m p)) = ap length b.segments in
        let short = no_longer (map (λ (q : Stretch). q.chord) ps) (chords m.drawing) b.each_once (λ c i. let (q, j, e) = mem_map (λ (q : Stretch). q.chord) c ps i in subst (λ x. Mem x (chords m.drawing)) (sym e) (b.of_drawing q j)) in
        omega (
          arith,
          n,
          short,
          h.size,
          length-map ps (λ (q : Stretch). q.segment),
          length-map ps (λ (q : Stretch). q.chord),
          one_more_piece m.drawing k.embedded,
          piece_count m.drawing k.embedded,
          k.few,
          k.few_sides,
        )
