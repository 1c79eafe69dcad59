-- Which pieces are base, and the boundary of one that isn't: its segments in the place order, each with the chord that leads to the next.
use Rattle.std.proofs.Common.{◌≡◌, ℕ, zero, suc, ◌+◌, ◌-◌, ◌<◌, ◌≤◌, Bool, true, false, List, [], ◌∷◌, map, filter, length, get_or, refl, sym, ◌∙◌, ap, subst, arith, zero-add, ◌⊎◌, inl, inr, ◌≢◌}
use Rattle.std.specs.List.{list_any, range_with_len}
use Rattle.std.proofs.lemmas.Bool.{cases_lt, cases_eq, cases_Bool, eq-eqb, ne_eqb, false≢true, false_from_ne_true, or_cases, or_left, or_right}
use Rattle.std.proofs.lemmas.List.{length-map}
use Rattle.std.proofs.lemmas.List.Folds.{list_any_at}
use Rattle.std.proofs.lemmas.List.FromFn.{get_or-map-range_with_len, length-map-range_with_len}
use Rattle.obd_base.specs.Lists.{below, Mem, Once}
use Rattle.page_surface.specs.Polygon.{sides}
use Rattle.page_surface.specs.Drawing.{Drawing, Chord, chords, offset, points_on, IsEmbedded}
use Rattle.drawing.specs.Fingers.{borders}
use Rattle.drawing.specs.Pieces.{span_count, spans, same_piece, piece_of, is_base, gap, gaps, segments_in}
use Rattle.drawing.specs.Round.{next_segment, next_span}
use Rattle.drawing.specs.Boundary.{IsFromPoint, Leads, Stretch, first_segment, InTurn, IsBoundary}
use Rattle.obd_base.proofs.lists.Below.{below_mem, mem_below, once_range}
use Rattle.obd_base.proofs.lists.Sums.{member_adds}
use Rattle.obd_base.proofs.lists.Members.{filter_mem, mem_map, mem_filter, once_filter}
use Rattle.drawing.proofs.Lists.{mem_to_map}
use Rattle.drawing.proofs.SamePiece.{same_piece_sym, same_piece_refl}
use Rattle.drawing.proofs.ChordTree.{low, high}
use Rattle.drawing.proofs.Boundary.{next_up, next_round}
use Rattle.drawing.proofs.Spots.{offset_suc}
use Rattle.drawing.proofs.Placed.{ends_at, ends_of}
use Rattle.drawing.proofs.Ends.{no_end_at_gap}
use Rattle.drawing.proofs.Mates.{Joins, chord_cases, end_here, ends_apart, other_joins, proper}
use Rattle.drawing.proofs.Diagram.{at_most_one_end, is_diagram, mate, simple, which_place, chord_at_spot}
use Rattle.drawing.proofs.CutAlways.{across_chord, chord_spans, no_end_same}
use Rattle.drawing.proofs.PieceCount.{name_same, same_name, piece_of-same, piece_of-least, piece_of-in}
use Rattle.drawing.proofs.Orbits.{same_then, step, last_and_first, next_in, next_same}

-- a test that some member passes
some_passes : {X : Type 0} (p : X → Bool) (xs : List X) → list_any p xs ≡ true → (x : X) × Mem x xs × (p x ≡ true)
some_passes p [] h = absurd (false≢true h)
some_passes p (x ∷ xs) h = elim (or_cases (p x) (list_any p xs) h) [
  | inl q ↦ (x, inl refl, q)
  | inr q ↦ let (y, m, e) = some_passes p xs q in (y, inr m, e)
]

-- the first number of a range that passes comes first among those that do
first_passing : (p : ℕ → Bool) (a n y last : ℕ) → a ≤ y → y < a + n → p y ≡ true → ((t : ℕ) → a ≤ t → t < y → p t ≡ false) → get_or (filter p (range_with_len a n)) 0 last ≡ y
first_passing p a zero y last l h q none = absurd (omega arith)
first_passing p a (suc n) y last l h q none = elim (cases_eq a y) [
  | inl e ↦ (let r : p a ≡ true = ap p e ∙ q in rw r e)
  | inr ne ↦
      let r : p a ≡ false = none a (omega arith) (omega arith) in
      rw r (first_passing p (a + 1) n y last (omega arith) (omega arith) q (λ t b c. none t (omega arith) c))
]

-- where no number of a range passes there is no first one
no_passing : (p : ℕ → Bool) (a n last : ℕ) → ((t : ℕ) → a ≤ t → t < a + n → p t ≡ false) → get_or (filter p (range_with_len a n)) 0 last ≡ last
no_passing p a zero last none = refl
no_passing p a (suc n) last none =
    let r : p a ≡ false = none a (omega arith) (omega arith) in
    rw r (no_passing p (a + 1) n last (λ t b c. none t (omega arith) (omega arith)))

-- numbers, each with a chord that goes with it
with_chords : (P : ℕ → Chord → Type 0) (xs : List ℕ) → ((x : ℕ) → Mem x xs → (c : Chord) × P x c)
    → (ps : List Stretch) × (map (λ p. p.segment) ps ≡ xs) × ((p : Stretch) → Mem p ps → P p.segment p.chord)
with_chords P [] f = ([], refl, λ p m. absurd m)
with_chords P (x ∷ xs) f =
    let (c, h) = f x (inl refl) in
    let (ps, e, each) = with_chords P xs (λ y m. f y (inr m)) in
    (record { segment = x; chord = c } ∷ ps, ap (λ ys. x ∷ ys) e, λ p m. elim m [ inl q ↦ subst (λ (k : Stretch). P k.segment k.chord) (sym q) h | inr n ↦ each p n ])

-- where members with one first value have one second value, first values repeat no more than second ones
once_by : {X A B : Type 0} (f : X → A) (g : X → B) (xs : List X) → ((x y : X) → Mem x xs → Mem y xs → f x ≡ f y → g x ≡ g y) → Once (map g xs) → Once (map f xs)
once_by f g [] h o = tt
once_by f g (x ∷ xs) h o = (
  (λ m.
      let (y, k, e) = mem_map f (f x) xs m in
      o.0 (subst (λ w. Mem w (map g xs)) (sym (h x y (inl refl) (inr k) e)) (mem_to_map g y xs k))),
  once_by f g xs (λ y z k l e. h y z (inr k) (inr l) e) o.1,
)

-- an end of a chord is its lesser end or its greater one
which_end : (c : Chord) (x y : ℕ) → Joins c x y → (x ≡ low c) ⊎ (x ≡ high c)
which_end c x y (inl (p, q)) = elim (cases_lt c.from c.to) [ inl l ↦ inl (omega arith) | inr l ↦ inr (omega arith) ]
which_end c x y (inr (p, q)) = elim (cases_lt c.from c.to) [ inl l ↦ inr (omega arith) | inr l ↦ inl (omega arith) ]

-- two ends of a chord that are apart are its two ends
two_ends : (c : Chord) (x y u v : ℕ) → Joins c x y → Joins c u v → x ≢ u → u ≡ y
two_ends c x y u v (inl (p, q)) (inl (r, s)) ne = absurd (ne (sym p ∙ r))
two_ends c x y u v (inl (p, q)) (inr (r, s)) ne = sym r ∙ q
two_ends c x y u v (inr (p, q)) (inl (r, s)) ne = sym r ∙ q
two_ends c x y u v (inr (p, q)) (inr (r, s)) ne = absurd (ne (sym p ∙ r))

-- in a boundary each chord leads on from its segment
pub leads_from : (ps : List Stretch) (last : ℕ) → InTurn ps last → (p : Stretch) → Mem p ps → (next : ℕ) × Leads p.chord p.segment next
leads_from [] last h p m = absurd m
leads_from (q ∷ ps) last h p (inl e) = (first_segment ps last, subst (λ (k : Stretch). Leads k.chord k.segment (first_segment ps last)) (sym e) h.0)
leads_from (q ∷ ps) last h p (inr m) = leads_from ps last h.1 p m

-- a boundary has a chord for each segment
pub as_many_chords : (d : Drawing) (s : ℕ) (ps : List Stretch) → IsBoundary d s ps → length (map (λ p. p.chord) ps) ≡ length (segments_in d s)
as_many_chords d s ps b = length-map ps (λ p. p.chord) ∙ (sym (length-map ps (λ p. p.segment)) ∙ ap length b.segments)

-- a chord that joins two numbers leads from the segment that ends at the one to the segment that begins at the other
leads_on : (c : Chord) (s x t : ℕ) → Joins c s x → suc x ≡ t → Leads c s t
leads_on c s x t (inl (p, q)) e = inl (p, ap suc q ∙ e)
leads_on c s x t (inr (p, q)) e = inr (p, ap suc q ∙ e)

module _ (d : Drawing) (ok : IsEmbedded d) where
  -- a piece with a gap is base
  pub base_gap : (s k : ℕ) → k < sides d.polygon → same_piece (chords d) s (gap d k) ≡ true → is_base d s ≡ true
  base_gap s k l h =
      let e : get_or (gaps d) k 0 ≡ gap d k = get_or-map-range_with_len (gap d) 0 (sides d.polygon) k k 0 l (zero-add k) in
      list_any_at (same_piece (chords d) s) (gaps d) k 0 (rw length-map-range_with_len l) (rw e h)

  -- and a base piece has one
  pub gap_of_base : (s : ℕ) → is_base d s ≡ true → (k : ℕ) × (k < sides d.polygon) × (same_piece (chords d) s (gap d k) ≡ true)
  gap_of_base s h =
      let (g, m, e) = some_passes (same_piece (chords d) s) (gaps d) h in
      let (k, i, q) = mem_map (gap d) g (below (sides d.polygon)) m in
      (k, mem_below (sides d.polygon) k i, subst (λ x. same_piece (chords d) s x ≡ true) q e)

  -- spans of one piece are base together
  base_together : (s t : ℕ) → same_piece (chords d) s t ≡ true → is_base d t ≡ true → is_base d s ≡ true
  base_together s t h b = let (k, l, e) = gap_of_base t b in base_gap s k l (same_then (chords d) s t (gap d k) h e)

  -- no chord ends at a gap
  gap_free : (k : ℕ) → ends_at (chords d) (gap d k) ≡ 0
  gap_free k = let g : gap d k ≡ offset d k + (points_on d k + 1) = omega arith in subst (λ y. ends_at (chords d) y ≡ 0) (sym g) (no_end_at_gap d ok k)

  -- so a chord has neither end there
  pub no_end_there : (c : Chord) (k : ℕ) → Mem c (chords d) → (c.from ≢ gap d k) × (c.to ≢ gap d k)
  no_end_there c k m = end_here c (gap d k) (omega (arith, member_adds (λ c. ends_of c (gap d k)) c (chords d) m, gap_free k))

  -- the first segment of a side lies in the piece of the gap before it
  start_base : (k : ℕ) → k < sides d.polygon → is_base d (offset d k) ≡ true
  start_base zero l =
      let n = sides d.polygon - 1 in
      let e : suc n ≡ sides d.polygon = omega arith in
      let w : suc (gap d n) ≡ span_count d = omega (arith, offset_suc d n, ap (offset d) e) in
      base_gap 0 n (omega arith) (same_piece_sym (chords d) (gap d n) 0 (last_and_first d ok (gap d n) w))
  start_base (suc k) l =
      let w : suc (gap d k) ≡ offset d (suc k) = omega (arith, offset_suc d k) in
      base_gap (offset d (suc k)) k (omega arith)
      (same_piece_sym (chords d) (gap d k) (offset d (suc k)) (subst (λ x. same_piece (chords d) (gap d k) x ≡ true) w (no_end_same (chords d) (gap d k) (gap_free k))))

  -- the spans on the two sides of a chord's end lie in two pieces
  end_parts : (c : Chord) (x y : ℕ) → Mem c (chords d) → Joins c x y → same_piece (chords d) x (suc x) ≡ true → ⊥
  end_parts c x y m j h =
      let cs = chords d in
      let ne = proper cs (simple d ok) c m in
      elim (which_end c x y j) [
        | inl e ↦ false≢true (sym ((next_up cs (is_diagram d ok) c m).1 (suc (low c)) (omega arith) (omega (arith, ne))) ∙ subst (λ z. same_piece cs z (suc z) ≡ true) e h)
        | inr e ↦
            let w = (next_round cs (is_diagram d ok) c m).1 (suc (high c)) (subst (λ z. same_piece cs z (suc z) ≡ true) e h) in
            absurd (omega (arith, w.1))
      ]

  -- the two sides of a chord are two pieces
  pub two_sides : (c : Chord) → Mem c (chords d) → piece_of d c.from ≢ piece_of d (suc c.from)
  two_sides c m e =
      let spans = chord_spans d ok c m in
      end_parts c c.from c.to m (inl (refl, refl)) (name_same d c.from (suc c.from) spans.0 spans.1 e)

  -- they change places from its first end to its other end
  pub other_sides : (c : Chord) → Mem c (chords d) → (piece_of d c.from ≡ piece_of d (suc c.to)) × (piece_of d (suc c.from) ≡ piece_of d c.to)
  other_sides c m = let at = across_chord (chords d) (is_diagram d ok) c m in (same_name d c.from (suc c.to) at.0, same_name d (suc c.from) c.to at.1)

  -- chords that share an end are one
  shared_end : (e c : Chord) (x : ℕ) → Mem e (chords d) → Mem c (chords d) → (e.from ≡ x) ⊎ (e.to ≡ x) → (c.from ≡ x) ⊎ (c.to ≡ x) → e ≡ c
  shared_end e c x m n p q = elim (chord_cases e c) [
    | inl same ↦ same
    | inr ne ↦
        let apart = ends_apart (chords d) (simple d ok) e c m n ne in
        elim p [
          | inl a ↦ elim q [ inl b ↦ absurd (apart.0 (a ∙ sym b)) | inr b ↦ absurd (apart.1 (a ∙ sym b)) ]
          | inr a ↦ elim q [ inl b ↦ absurd (apart.2 (a ∙ sym b)) | inr b ↦ absurd (apart.3 (a ∙ sym b)) ]
        ]
  ]

  -- the chords of a boundary border the piece
  pub met_borders : (s : ℕ) (ps : List Stretch) → IsBoundary d s ps → (p : Stretch) → Mem p ps → borders d p.chord s ≡ true
  met_borders s ps b p m =
      let cs = chords d in
      let c = p.chord in
      let of_piece = mem_filter (same_piece cs s) p.segment (spans d) (subst (λ xs. Mem p.segment xs) b.segments (mem_to_map (λ (p : Stretch). p.segment) p ps m)) in
      let inside : same_piece cs p.segment s ≡ true = same_piece_sym cs s p.segment of_piece.1 in
      let (next, leads) = leads_from ps (first_segment ps s) b.in_turn p m in
      elim leads [
        | inl l ↦ or_left (same_piece cs c.from s) (same_piece cs (suc c.from) s) (subst (λ x. same_piece cs x s ≡ true) (sym l.0) inside)
        | inr l ↦
            let across = (across_chord cs (is_diagram d ok) c (b.of_drawing p m)).1 in
            or_right (same_piece cs c.from s) (same_piece cs (suc c.from) s) (same_then cs (suc c.from) c.to s across (subst (λ x. same_piece cs x s ≡ true) (sym l.0) inside))
      ]

  -- each chord that borders a piece is one of those of its boundary
  pub bordering_met : (s : ℕ) (ps : List Stretch) → IsBoundary d s ps → (c : Chord) → Mem c (chords d) → borders d c s ≡ true → Mem c (map (λ p. p.chord) ps)
  bordering_met s ps b c m h = elim (or_cases (same_piece cs c.from s) (same_piece cs (suc c.from) s) h) [
    | inl q ↦ met c.from (inl refl) around.0 (same_piece_sym cs c.from s q)
    | inr q ↦ met c.to (inr refl) around.2 (same_then cs s (suc c.from) c.to (same_piece_sym cs (suc c.from) s q) (across_chord cs (is_diagram d ok) c m).1)
  ]
    where
      cs : List Chord
      cs = chords d

      around : (c.from < span_count d) × (suc c.from < span_count d) × (c.to < span_count d) × (suc c.to < span_count d)
      around = chord_spans d ok c m

      met : (t : ℕ) → (c.from ≡ t) ⊎ (c.to ≡ t) → t < span_count d → same_piece (chords d) s t ≡ true → Mem c (map (λ p. p.chord) ps)
      met t end lt k =
          let of_piece = filter_mem (same_piece (chords d) s) t (spans d) (below_mem (span_count d) t lt) k in
          let (p, n, e) = mem_map (λ (p : Stretch). p.segment) t ps (subst (λ xs. Mem t xs) (sym b.segments) of_piece) in
          let (next, leads) = leads_from ps (first_segment ps s) b.in_turn p n in
          let ends_there : (p.chord.from ≡ p.segment) ⊎ (p.chord.to ≡ p.segment) = elim leads [ inl l ↦ inl l.0 | inr l ↦ inr l.0 ] in
          let same = shared_end p.chord c p.segment (b.of_drawing p n) m ends_there (subst (λ x. (c.from ≡ x) ⊎ (c.to ≡ x)) e end) in
          subst (λ x. Mem x (map (λ (p : Stretch). p.chord) ps)) same (mem_to_map (λ (p : Stretch). p.chord) p ps n)

  -- a chord that leads on from a segment leads to the next one
  pub leads_to_next : (c : Chord) (s t : ℕ) → Mem c (chords d) → Leads c s t → t ≡ next_segment d s
  leads_to_next c s t m (inl (p, q)) = sym q ∙ ap suc (sym (other_joins (chords d) (at_most_one_end d ok) c s c.to m (inl (p, refl))))
  leads_to_next c s t m (inr (p, q)) = sym q ∙ ap suc (sym (other_joins (chords d) (at_most_one_end d ok) c s c.from m (inr (p, refl))))

  -- the spans of a piece that isn't base are segments that begin at points
  inner_from_point : (t : ℕ) → t < span_count d → is_base d t ≡ false → IsFromPoint d t
  inner_from_point t lt inner = elim (which_place d ok t lt) [
    | inr w ↦
        let (k, lk, e) = w in
        absurd (false≢true (sym inner ∙ base_gap t k lk (subst (λ x. same_piece (chords d) t x ≡ true) e (same_piece_refl (chords d) t))))
    | inl w ↦
        let (k, j, lk, lj, e) = w in
        elim (cases_eq j 0) [
          | inl z ↦ absurd (let q : t ≡ offset d k = omega arith in false≢true (sym inner ∙ subst (λ x. is_base d x ≡ true) (sym q) (start_base k lk)))
          | inr nz ↦ record { side = k; place = j - 1; side_in_range = lk; place_in_range = omega arith; ends_at = omega arith }
        ]
  ]

  -- and a chord begins at the end of each
  chord_behind : (t : ℕ) → IsFromPoint d t → (c : Chord) × (Mem c (chords d) × Joins c t (mate d ok t))
  chord_behind t at =
      let (c, m, join) = chord_at_spot d ok at.side (suc at.place) at.side_in_range at.place_in_range in
      (c, (m, subst (λ x. Joins c x (mate d ok x)) (sym at.ends_at) join))

  -- the next span is the next segment
  next_behind : (t : ℕ) → t < span_count d → is_base d t ≡ false → next_span d t ≡ next_segment d t
  next_behind t lt inner = elim (cases_eq (next_segment d t) (span_count d)) [
    | inr ne ↦ rw (ne_eqb (next_segment d t) (span_count d) ne) refl
    | inl q ↦
        let n : next_span d t ≡ 0 = rw (eq-eqb (next_segment d t) (span_count d) q) refl in
        let s : same_piece (chords d) t 0 ≡ true = subst (λ x. same_piece (chords d) t x ≡ true) n (next_same d ok t lt) in
        absurd (false≢true (sym inner ∙ base_together t 0 s (start_base 0 ok.polygon.not_empty)))
  ]

  -- which lies in the piece
  same_behind : (t : ℕ) → t < span_count d → is_base d t ≡ false → same_piece (chords d) t (next_segment d t) ≡ true
  same_behind t lt inner = subst (λ x. same_piece (chords d) t x ≡ true) (next_behind t lt inner) (next_same d ok t lt)

  -- and so is one of its segments
  pub next_in_piece : (t : ℕ) → t < span_count d → is_base d t ≡ false → Mem (next_segment d t) (segments_in d t)
  next_in_piece t lt inner =
      let within : next_segment d t < span_count d = subst (λ x. x < span_count d) (next_behind t lt inner) (next_in d ok t lt) in
      filter_mem (same_piece (chords d) t) (next_segment d t) (spans d) (below_mem (span_count d) (next_segment d t) within) (same_behind t lt inner)

  module _ (s : ℕ) (ls : s < span_count d) (inner : is_base d s ≡ false) where
    -- in the piece
    abbrev inside : ℕ → Bool
    inside t = same_piece (chords d) s t

    -- what lies in the piece isn't base
    inside_inner : (t : ℕ) → inside t ≡ true → is_base d t ≡ false
    inside_inner t h = false_from_ne_true _ (λ b. false≢true (sym inner ∙ base_together s t h b))

    -- a segment of the piece
    listed : (t : ℕ) → Mem t (segments_in d s) → (t < span_count d) × (inside t ≡ true)
    listed t m = let r = mem_filter inside t (spans d) m in (mem_below (span_count d) t r.0, r.1)

    -- segments, each followed by the next one, and the last of them by the segment 'last'
    abbrev AreRound : List ℕ → ℕ → Type 0
    AreRound [] last = Unit {0}
    AreRound (t ∷ ts) last = (next_segment d t ≡ get_or ts 0 last) × AreRound ts last

    -- the segments from a number on, where the first one of all comes last
    round_from : (n a : ℕ) → a + n ≡ span_count d → AreRound (filter inside (range_with_len a n)) (piece_of d s)
    round_from zero a e = tt
    round_from (suc n) a e = elim (cases_Bool (inside a)) [
      | inr z ↦ rw z (round_from n (a + 1) (omega arith))
      | inl z ↦ rw z (sym (next_behind a (omega arith) (inside_inner a z)) ∙ after z, round_from n (a + 1) (omega arith))
    ]
      where
        after : inside a ≡ true → next_span d a ≡ get_or (filter inside (range_with_len (a + 1) n)) 0 (piece_of d s)
        after h = elim (step d ok a (omega arith)) [
          | inl c ↦
              sym (first_passing inside (a + 1) n (next_span d a) (piece_of d s) (omega (arith, c.later)) (omega (arith, c.inside)) (same_then (chords d) s a (next_span d a) h c.same)
              (λ t b k. false_from_ne_true _ (λ q. false≢true (sym (c.none t (omega arith) k) ∙ same_then (chords d) a s t (same_piece_sym (chords d) s a h) q))))
          | inr r ↦
              let name = piece_of-same d s ls in
              let down = (r.within (piece_of d s) (piece_of-in d s ls) (same_then (chords d) a s (piece_of d s) (same_piece_sym (chords d) s a h) name)).0 in
              let up = piece_of-least d s (next_span d a) r.inside (same_then (chords d) s a (next_span d a) h r.same) in
              let is : next_span d a ≡ piece_of d s = omega (arith, down, up) in
              is ∙ sym (no_passing inside (a + 1) n (piece_of d s) (λ t b k. false_from_ne_true _ (λ q.
              let w = (r.within t (omega arith) (same_then (chords d) a s t (same_piece_sym (chords d) s a h) q)).1 in
              absurd (omega (arith, w)))))
        ]

    -- the first one is the name of the piece
    first_is_name : get_or (segments_in d s) 0 s ≡ piece_of d s
    first_is_name =
        first_passing inside 0 (span_count d) (piece_of d s) s (omega arith) (omega (arith, piece_of-in d s ls)) (piece_of-same d s ls)
        (λ t b k. false_from_ne_true _ (λ q. absurd (omega (arith, piece_of-least d s t (omega (arith, piece_of-in d s ls)) q))))

    -- the first segment, as one of a list
    first_of : (ps : List Stretch) (last : ℕ) → get_or (map (λ p. p.segment) ps) 0 last ≡ first_segment ps last
    first_of [] last = refl
    first_of (p ∷ ps) last = refl

    -- a round of segments, with the chords at their ends
    in_turn : (ps : List Stretch) (last : ℕ) → ((p : Stretch) → Mem p ps → Joins p.chord p.segment (mate d ok p.segment)) → AreRound (map (λ p. p.segment) ps) last → InTurn ps last
    in_turn [] last h r = tt
    in_turn (p ∷ ps) last h r = (
      leads_on p.chord p.segment (mate d ok p.segment) (first_segment ps last) (h p (inl refl)) (r.0 ∙ first_of ps last),
      in_turn ps last (λ q m. h q (inr m)) r.1,
    )

    -- a chord is met at one segment of the piece alone: at its other end the piece lies on the other side
    met_once : (c : Chord) (t u : ℕ) → Mem c (chords d) → (t < span_count d) × (inside t ≡ true) → inside u ≡ true → Joins c t (mate d ok t) → Joins c u (mate d ok u) → t ≡ u
    met_once c t u m (lt, h) k join other = elim (cases_eq t u) [
      | inl e ↦ e
      | inr ne ↦
          let w = two_ends c t (mate d ok t) u (mate d ok u) join other ne in
          let on : same_piece (chords d) t (suc u) ≡ true = subst (λ x. same_piece (chords d) t (suc x) ≡ true) (sym w) (same_behind t lt (inside_inner t h)) in
          let over : same_piece (chords d) u t ≡ true = same_then (chords d) u s t (same_piece_sym (chords d) s u k) h in
          absurd (end_parts c u (mate d ok u) m other (same_then (chords d) u t (suc u) over on))
    ]

    -- the segments of the piece with the chords at their ends
    bounds : (ps : List Stretch) → map (λ p. p.segment) ps ≡ segments_in d s
        → ((p : Stretch) → Mem p ps → Mem p.chord (chords d) × Joins p.chord p.segment (mate d ok p.segment)) → IsBoundary d s ps
    bounds ps e each = record {
      segments = e;
      from_points = λ p m. inner_from_point p.segment (of_piece p m).0 (inside_inner p.segment (of_piece p m).1);
      of_drawing = λ p m. (each p m).0;
      each_once = once_by (λ p. p.chord) (λ p. p.segment) ps
          (λ p q m n same. met_once p.chord p.segment q.segment (each p m).0 (of_piece p m) (of_piece q n).1 (each p m).1 (subst (λ c. Joins c q.segment (mate d ok q.segment)) (sym same) (each q n).1))
          (subst (λ xs. Once xs) (sym e) (once_filter inside (spans d) (once_range 0 (span_count d))));
      in_turn = subst (λ x. InTurn ps x) (sym first) (in_turn ps (piece_of d s) (λ p m. (each p m).1) (subst (λ xs. AreRound xs (piece_of d s)) (sym e) (round_from (span_count d) 0 (zero-add _))));
    }
      where
        of_piece : (p : Stretch) → Mem p ps → (p.segment < span_count d) × (inside p.segment ≡ true)
        of_piece p m = listed p.segment (subst (λ xs. Mem p.segment xs) e (mem_to_map (λ (p : Stretch). p.segment) p ps m))

        first : first_segment ps s ≡ piece_of d s
        first = sym (first_of ps s) ∙ (ap (λ xs. get_or xs 0 s) e ∙ first_is_name)

    -- a piece that isn't base has a boundary
    pub inner_boundary : (stretches : List Stretch) × IsBoundary d s stretches
    inner_boundary =
        let (ps, e, each) = with_chords (λ t c. Mem c (chords d) × Joins c t (mate d ok t)) (segments_in d s)
        (λ t m. chord_behind t (inner_from_point t (listed t m).0 (inside_inner t (listed t m).1))) in
        (ps, bounds ps e each)
