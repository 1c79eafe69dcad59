-- A piece at a distance above 0 has a door: a chord behind which the distance is one less; a piece at distance 0 is base.
use Rattle.std.proofs.Common.{◌≡◌, ℕ, zero, suc, ◌+◌, ◌-◌, ◌<◌, ◌≤◌, Bool, true, false, ltb, not, List, [], ◌∷◌, refl, sym, ◌∙◌, ap, subst, arith, le_refl, ◌⊎◌, inl, inr, ◌≢◌}
use Rattle.std.specs.List.{list_any}
use Rattle.std.proofs.lemmas.Bool.{cases_lt, cases_order, cases_Bool, lt-ltb, le-ltb, false≢true}
use Rattle.std.proofs.lemmas.List.Sums.{sum_by-cons}
use Rattle.obd_base.specs.Lists.{Mem}
use Rattle.obd_base.proofs.lists.Below.{bit}
use Rattle.page_surface.specs.Polygon.{sides}
use Rattle.page_surface.specs.Drawing.{Chord, Drawing, IsEmbedded, beyond, chords, differ, offset, points_on}
use Rattle.drawing.specs.Pieces.{distance, gap, is_base, same_piece, separated_by, separates, span_count}
use Rattle.drawing.proofs.SamePiece.{same_piece_refl, same_piece_sym}
use Rattle.drawing.proofs.Placed.{ends_at}
use Rattle.drawing.proofs.Ends.{no_end_at_gap}
use Rattle.drawing.proofs.Mates.{Joins, proper}
use Rattle.drawing.proofs.Diagram.{chord_at_spot, is_diagram, mate, mate_gap, simple, spot_in, which_place}
use Rattle.drawing.proofs.CutAlways.{across_chord, no_end_same}
use Rattle.drawing.proofs.Orbits.{same_then}
use Rattle.drawing.proofs.RoundPiece.{base_gap, gap_of_base}
use Rattle.region_table.proofs.Distances.{crossed, distance_crossed, distance_le, distance_same, nearest_gap, separated_same}

-- two tests differ either way round
differ_comm : (b c : Bool) → differ b c ≡ differ c b
differ_comm true true = refl
differ_comm true false = refl
differ_comm false true = refl
differ_comm false false = refl

-- whether a number lies beyond a chord, by the two numbers that it joins
beyond_joins : (c : Chord) (x y z : ℕ) → Joins c x y → beyond c z ≡ differ (ltb x z) (ltb y z)
beyond_joins c x y z (inl (p, q)) = ap (λ a. differ (ltb a z) (ltb c.to z)) p ∙ ap (λ b. differ (ltb x z) (ltb b z)) q
beyond_joins c x y z (inr (p, q)) = differ_comm (ltb c.from z) (ltb c.to z) ∙ (ap (λ a. differ (ltb a z) (ltb c.from z)) p ∙ ap (λ b. differ (ltb x z) (ltb b z)) q)

-- the other end of a chord joins back
pub turned : (c : Chord) (x y : ℕ) → Joins c x y → Joins c y x
turned c x y (inl (p, q)) = inr (q, p)
turned c x y (inr (p, q)) = inl (q, p)

-- a chord separates a span before its one end from those up to its other end
separates_between : (c : Chord) (x y g : ℕ) → Joins c x y → x < g → g ≤ y → separates c x g ≡ true
separates_between c x y g j a b = rw (beyond_joins c x y x j, beyond_joins c x y g j, le-ltb x x (le_refl x), le-ltb y x (omega arith), lt-ltb x g a, le-ltb y g b) refl

-- from those after its one end, where the other end comes before
separates_outside_above : (c : Chord) (x y g : ℕ) → Joins c x y → y < x → x < g → separates c x g ≡ true
separates_outside_above c x y g j a b = rw (beyond_joins c x y x j, beyond_joins c x y g j, le-ltb x x (le_refl x), lt-ltb y x a, lt-ltb x g b, lt-ltb y g (omega arith)) refl

-- and from those up to that other end
separates_outside_below : (c : Chord) (x y g : ℕ) → Joins c x y → y < x → g ≤ y → separates c x g ≡ true
separates_outside_below c x y g j a b = rw (beyond_joins c x y x j, beyond_joins c x y g j, le-ltb x x (le_refl x), lt-ltb y x a, le-ltb x g (omega arith), le-ltb y g b) refl

-- what no chord separates lies in one piece
none_separates : (cs : List Chord) (s g : ℕ) → separated_by cs s g ≡ 0 → same_piece cs s g ≡ true
none_separates cs s g h = ap not (go cs h)
  where
    go : (cs : List Chord) → separated_by cs s g ≡ 0 → list_any (λ c. separates c s g) cs ≡ false
    go [] h = refl
    go (c ∷ cs) h =
        let k = sum_by-cons (λ c. bit (separates c s g)) c cs in
        let z : bit (separates c s g) ≡ 0 = omega (arith, k, h) in
        rw (nothing (separates c s g) z) (go cs (omega (arith, k, h)))
      where
        nothing : (b : Bool) → bit b ≡ 0 → b ≡ false
        nothing true h = absurd (omega arith)
        nothing false h = refl

module _ (d : Drawing) (ok : IsEmbedded d) where
  -- the chords
  abbrev cs : List Chord
  cs = chords d

  -- a chord at the end of a span of the piece of s, with g on its other side
  pub record Gate (s g : ℕ) : Type 0 where
    pub span : ℕ
    pub chord : Chord
    pub far_end : ℕ
    pub chord_of : Mem chord (chords d)
    pub ends : Joins chord span far_end
    pub same : same_piece (chords d) s span ≡ true
    pub parts : separates chord span g ≡ true

  -- a gate of a span is one of each span of its piece
  Gate-moves : (s t g : ℕ) → same_piece cs s t ≡ true → Gate t g → Gate s g
  Gate-moves s t g h r = record { span = r.span; chord = r.chord; far_end = r.far_end; chord_of = r.chord_of; ends = r.ends; same = same_then cs s t r.span h r.same; parts = r.parts }

  -- a gap and the span after it lie in one piece
  pub gap_same : (k x : ℕ) → x ≡ gap d k → same_piece cs x (suc x) ≡ true
  gap_same k x e =
      let g : x ≡ offset d k + (points_on d k + 1) = omega arith in
      no_end_same cs x (subst (λ y. ends_at cs y ≡ 0) (sym g) (no_end_at_gap d ok k))

  -- across a chord from its end x to its end y
  pub over : (c : Chord) (x y : ℕ) → Mem c cs → Joins c x y → same_piece cs x (suc y) ≡ true
  over c x y m (inl (p, q)) = subst (λ b. same_piece cs x (suc b) ≡ true) q (subst (λ a. same_piece cs a (suc c.to) ≡ true) p (across_chord cs (is_diagram d ok) c m).0)
  over c x y m (inr (p, q)) = subst (λ b. same_piece cs x (suc b) ≡ true) q (subst (λ a. same_piece cs a (suc c.from) ≡ true) p (same_piece_sym cs _ _ (across_chord cs (is_diagram d ok) c m).1))

  -- the two numbers that a chord joins are apart
  pub apart : (c : Chord) (x y : ℕ) → Mem c cs → Joins c x y → y ≢ x
  apart c x y m (inl (p, q)) e = proper cs (simple d ok) c m (p ∙ (sym e ∙ sym q))
  apart c x y m (inr (p, q)) e = proper cs (simple d ok) c m (q ∙ (e ∙ sym p))

  -- at each number ends a chord, or it is a gap
  pub chord_or_gap : (x : ℕ) → x < span_count d → ((k : ℕ) × (x ≡ gap d k) × (mate d ok x ≡ x)) ⊎ ((c : Chord) × Mem c cs × Joins c x (mate d ok x) × (mate d ok x ≢ x))
  chord_or_gap x l = elim (which_place d ok x l) [
    | inl w ↦ (let (k, j, lk, lj, e) = w in
        let (c, m, join) = chord_at_spot d ok k j lk lj in
        inr (c, m, subst (λ x. Joins c x (mate d ok x)) (sym e) join, apart c x (mate d ok x) m (subst (λ x. Joins c x (mate d ok x)) (sym e) join)))
    | inr w ↦ (let (k, lk, e) = w in inl (k, e, subst (λ y. mate d ok y ≡ y) (sym e) (mate_gap d ok k)))
  ]

  -- a later span of the piece, before g
  rest_apart : (t t' g : ℕ) → same_piece cs t t' ≡ true → same_piece cs t g ≡ false → (t' ≢ g) × (same_piece cs t' g ≡ false)
  rest_apart t t' g s h = (
    (λ q. false≢true (sym h ∙ subst (λ x. same_piece cs t x ≡ true) q s)),
    elim (cases_Bool (same_piece cs t' g)) [ inl q ↦ absurd (false≢true (sym h ∙ same_then cs t t' g s q)) | inr q ↦ q ],
  )

  -- going up to a span outside the piece one comes to a gate
  gate_up : (n t g : ℕ) → t < g → g < span_count d → g - t ≤ n → same_piece cs t g ≡ false → Gate t g
  gate_up zero t g l lg f h = absurd (omega arith)
  gate_up (suc n) t g l lg f h = elim (chord_or_gap t (omega arith)) [
    | inl w ↦
        (let (k, e, stays) = w in
        let s = gap_same k t e in
        let r = rest_apart t (suc t) g s h in
        let far = r.0 in
        Gate-moves t (suc t) g s (gate_up n (suc t) g (omega (arith, far)) lg (omega arith) r.1))
    | inr w ↦
        (let (c, m, join, ne) = w in
        let y = mate d ok t in
        elim (cases_lt y t) [
          | inl a ↦ record { span = t; chord = c; far_end = y; chord_of = m; ends = join; same = same_piece_refl cs t; parts = separates_outside_above c t y g join a l }
          | inr a ↦ elim (cases_lt y g) [
            | inr b ↦ record { span = t; chord = c; far_end = y; chord_of = m; ends = join; same = same_piece_refl cs t; parts = separates_between c t y g join l b }
            | inl b ↦
                (let s = over c t y m join in
                let r = rest_apart t (suc y) g s h in
                let far = r.0 in
                Gate-moves t (suc y) g s (gate_up n (suc y) g (omega (arith, far)) lg (omega arith) r.1))
          ]
        ])
  ]

  -- and going down
  gate_down : (n t g : ℕ) → g < t → t < span_count d → t - g ≤ n → same_piece cs t g ≡ false → Gate t g
  gate_down n zero g l lt f h = absurd (omega arith)
  gate_down zero (suc x) g l lt f h = absurd (omega arith)
  gate_down (suc n) (suc x) g l lt f h = elim (chord_or_gap x (omega arith)) [
    | inl w ↦
        (let (k, e, stays) = w in
        let s = same_piece_sym cs x (suc x) (gap_same k x e) in
        let r = rest_apart (suc x) x g s h in
        let far = r.0 in
        Gate-moves (suc x) x g s (gate_down n x g (omega (arith, far)) (omega arith) (omega arith) r.1))
    | inr w ↦
        (let (c, m, join, ne) = w in
        let y = mate d ok x in
        let back = turned c x y join in
        let s = same_piece_sym cs y (suc x) (over c y x m back) in
        elim (cases_lt x y) [
          | inl a ↦ record { span = y; chord = c; far_end = x; chord_of = m; ends = back; same = s; parts = separates_outside_below c y x g back a (omega arith) }
          | inr a ↦ elim (cases_lt y g) [
            | inl b ↦ record { span = y; chord = c; far_end = x; chord_of = m; ends = back; same = s; parts = separates_between c y x g back b (omega arith) }
            | inr b ↦
                (let r = rest_apart (suc x) y g s h in
                let far = r.0 in
                Gate-moves (suc x) y g s (gate_down n y g (omega (arith, far)) (omega (arith, a)) (omega (arith, ne)) r.1))
          ]
        ])
  ]

  -- from a piece towards a span outside it leads a chord of the piece
  pub gate : (s g : ℕ) → s < span_count d → g < span_count d → same_piece (chords d) s g ≡ false → Gate s g
  gate s g ls lg h = elim (cases_order s g) [
    | inl q ↦ absurd (false≢true (sym h ∙ subst (λ x. same_piece cs s x ≡ true) q (same_piece_refl cs s)))
    | inr o ↦ elim o [
      | inl l ↦ gate_up (span_count d) s g l lg (omega arith) h
      | inr l ↦ gate_down (span_count d) s g l ls (omega arith) h
    ]
  ]

  -- a piece at distance e + 1 has a chord behind which the distance is e
  pub record Door (s e : ℕ) : Type 0 where
    pub span : ℕ
    pub chord : Chord
    pub far_end : ℕ
    pub chord_of : Mem chord (chords d)
    pub ends : Joins chord span far_end
    pub same : same_piece (chords d) s span ≡ true
    pub nearer : distance d (suc span) ≡ e

  -- it is there
  pub door : 0 < sides d.polygon → (s e : ℕ) → s < span_count d → distance d s ≡ suc e → Door s e
  door pos s e ls q =
      let (k, lk, near) = nearest_gap d ok pos s in
      let lg : gap d k < span_count d = omega (arith, spot_in d ok k (points_on d k + 1) lk (le_refl _)) in
      let apart : same_piece cs s (gap d k) ≡ false = elim (cases_Bool (same_piece cs s (gap d k))) [
        | inr f ↦ f
        | inl t ↦ absurd (let z : separated_by cs (gap d k) (gap d k) ≡ 0 = self cs (gap d k) in omega (arith, near, q, separated_same cs s (gap d k) (gap d k) t, z))
      ] in
      let r = gate s (gap d k) ls lg apart in
      let moved = separated_same cs s r.span (gap d k) r.same in
      let less : separated_by cs (suc r.span) (gap d k) ≡ e = elim (crossed d ok r.chord r.span r.far_end (gap d k) r.chord_of r.ends) [
        | inl w ↦ omega (arith, w.1, moved, near, q)
        | inr w ↦ absurd (false≢true (sym w.0 ∙ r.parts))
      ] in
      let low = distance_le d ok (suc r.span) k lk in
      let high = (distance_crossed d ok pos r.chord r.span r.far_end r.chord_of r.ends).0 in
      record {
        span = r.span;
        chord = r.chord;
        far_end = r.far_end;
        chord_of = r.chord_of;
        ends = r.ends;
        same = r.same;
        nearer = omega (arith, less, low, high, q, distance_same d ok pos s r.span r.same);
      }
    where
      self : (cs : List Chord) (g : ℕ) → separated_by cs g g ≡ 0
      self [] g = refl
      self (c ∷ cs) g = let z : bit (separates c g g) ≡ 0 = ap bit (twice (beyond c g)) in omega (arith, sum_by-cons (λ c. bit (separates c g g)) c cs, z, self cs g)
        where
          twice : (b : Bool) → differ b b ≡ false
          twice true = refl
          twice false = refl

  -- distance 0 is base
  pub base_from_zero : 0 < sides d.polygon → (s : ℕ) → distance d s ≡ 0 → is_base d s ≡ true
  base_from_zero pos s q =
      let (k, lk, near) = nearest_gap d ok pos s in
      base_gap d ok s k lk (none_separates cs s (gap d k) (omega (arith, near, q)))

  -- and base is distance 0
  pub zero_from_base : 0 < sides d.polygon → (s : ℕ) → is_base d s ≡ true → distance d s ≡ 0
  zero_from_base pos s h =
      let (k, lk, same) = gap_of_base d ok s h in
      let l = distance_le d ok s k lk in
      let z = self cs (gap d k) in
      omega (arith, l, separated_same cs s (gap d k) (gap d k) same, z)
    where
      self : (cs : List Chord) (g : ℕ) → separated_by cs g g ≡ 0
      self [] g = refl
      self (c ∷ cs) g = let z : bit (separates c g g) ≡ 0 = ap bit (twice (beyond c g)) in omega (arith, sum_by-cons (λ c. bit (separates c g g)) c cs, z, self cs g)
        where
          twice : (b : Bool) → differ b b ≡ false
          twice true = refl
          twice false = refl
