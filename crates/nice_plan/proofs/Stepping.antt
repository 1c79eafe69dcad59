-- One finger of a burst on a drawing: it is legal, and what it leaves, with chords by their names and segments by side and number.
use Rattle.std.proofs.Common.{◌≡◌, ℕ, suc, ◌+◌, ◌-◌, ◌<◌, ◌≤◌, Bool, true, false, cond, leb, List, ◌*◌, [], ◌∷◌, ◌++◌, map, length, refl, sym, ◌∙◌, ap, subst, arith, ◌⊎◌, inl, inr, ◌≢◌}
use Rattle.std.proofs.lemmas.Bool.{cases_Bool, cases_eq, cases_lt, eq-eqb, ne_eqb, lt-ltb, le-ltb, lt-leb, le-leb}
use Rattle.obd_base.specs.Lists.{Mem, below}
use Rattle.obd_base.specs.declared.points.Exit.{Exit}
use Rattle.obd_base.proofs.lists.Below.{bit}
use Rattle.obd_base.proofs.lists.Sums.{bit-le}
use Rattle.obd_base.proofs.lists.Members.{mem_append, mem_left, mem_right}
use Rattle.page_surface.specs.Drawing.{Chord, Drawing, IsEmbedded, chords, exit, offset, points_on, spot, strand_exits}
use Rattle.page_surface.specs.Polygon.{arc_count, partner, sides}
use Rattle.page_surface.proofs.Partners.{points_partner}
use Rattle.drawing.specs.declared.finger.Finger.{Finger}
use Rattle.drawing.specs.Fingers.{InRange, IsLegal, borders, chord_at, entered, entered_beyond, finger, pushed, with_letters}
use Rattle.drawing.specs.Pieces.{gap, gaps, same_piece}
use Rattle.drawing.proofs.fingers.Shift.{shift, early}
use Rattle.drawing.proofs.fingers.Arranged.{Arranged, map_in}
use Rattle.drawing.proofs.fingers.Finger.{carry, onto, turn, back}
use Rattle.drawing.proofs.fingers.InPlace.{in_first, in_place, put_first}
use Rattle.drawing.proofs.fingers.OneEffect.{IsOpen, never_both}
use Rattle.drawing.proofs.fingers.NewPlaces.{far_segment, far_side, sides_apart}
use Rattle.drawing.proofs.fingers.NewSpots.{after_else, after_far, after_near, by_side, gap_kept}
use Rattle.drawing.proofs.fingers.NewChords.{listed}
use Rattle.drawing.proofs.fingers.NewEmbedded.{arranged}
use Rattle.finger_move.proofs.NewNames.{chord_after, chord_before, chord_other, chord_turn, glued_after, length_other, length_own, middle_glued, middle_in, middle_spot, segment_after, segment_in, segment_spot}
use Rattle.drawing.proofs.fingers.Effects.{effect_embedded, later_first, pushed_is, same_pieces}
use Rattle.nice_plan.specs.declared.chord_name.ChordName.{ChordName}
use Rattle.nice_plan.specs.Burst.{carried_chord, carried_segment}
use Rattle.finger_move.specs.Glued.{glued_segment}
use Rattle.nice_plan.proofs.Pushing.{SameChords, others}

-- the name of a chord of the drawing
pub record IsName (d : Drawing) (n : ChordName) (c : Chord) : Type 0 where
  pub strand : n.strand < arc_count d.polygon
  pub chord : n.chord ≤ length (strand_exits d n.strand)
  pub is : chord_at d n.strand n.chord ≡ c

-- a segment by side and number has one number in the place order, and the one that it is glued to another
pub record Stands (d : Drawing) (e : Exit) (v w : ℕ) : Type 0 where
  pub side : e.side < sides d.polygon
  pub place : e.place ≤ points_on d e.side
  pub at : spot d e ≡ v
  pub beyond : spot d (glued_segment d e) ≡ w

-- what a finger that enters span t, glued to u, leaves
pub record Stepped (d : Drawing) (n : ChordName) (s : Exit) (c : Chord) (es : List Chord) (out : Bool) (t u : ℕ) : Type 0 where
  pub legal : IsLegal d (finger n.strand n.chord s.side s.place)
  pub embedded : IsEmbedded (pushed d (finger n.strand n.chord s.side s.place))
  pub same : SameChords (chords (pushed d (finger n.strand n.chord s.side s.place))) (turn t u out ∷ others t u out c es)
  pub turned : IsName (pushed d (finger n.strand n.chord s.side s.place)) (record { strand = n.strand; chord = n.chord + 1 }) (turn t u out)
  pub named : (m : ChordName) (x : Chord) → IsName d m x → x ≢ c → IsName (pushed d (finger n.strand n.chord s.side s.place)) (carried_chord (finger n.strand n.chord s.side s.place) m) (carry t u x)
  pub stood : (e : Exit) (v w : ℕ) → Stands d e v w → v ≢ t → v ≢ u
      → Stands (pushed d (finger n.strand n.chord s.side s.place)) (carried_segment d (finger n.strand n.chord s.side s.place) e) (shift t u v) (shift t u w)
  pub gaps_are : gaps (pushed d (finger n.strand n.chord s.side s.place)) ≡ map (shift t u) (gaps d)
  pub middle : Stands (pushed d (finger n.strand n.chord s.side s.place)) (exit s.side (s.place + 1)) (suc (early t u)) (suc (early u t))

-- of chords with different ends the first is none of the others
not_first : (c : Chord) (es : List Chord) → Arranged (c ∷ es) → Mem c es → ⊥
not_first c es ok m = (ok.1 c m).apart.0 refl

module _ (d : Drawing) (ok : IsEmbedded d) (n : ChordName) (c : Chord) (name : IsName d n c) (s : Exit) (side : s.side < sides d.polygon) (place : s.place ≤ points_on d s.side)
    (es : List Chord) (out : Bool) (arr : Arranged (c ∷ es)) (same : SameChords (chords d) (c ∷ es)) (open' : IsOpen (spot d s) out c es) where
  abbrev f : Finger
  f = finger n.strand n.chord s.side s.place

  abbrev t : ℕ
  t = entered d f

  abbrev u : ℕ
  u = entered_beyond d f

  abbrev after : Drawing
  after = with_letters d f (bit out)

  r : InRange d f
  r = record { strand = name.strand; chord = name.chord; side = side; segment = place }

  pieces : (x y : ℕ) → same_piece (chords d) x y ≡ same_piece (c ∷ es) x y
  pieces = same_pieces (chords d) (c ∷ es) same.into same.from

  -- the chord borders the piece of the segment
  borders_it : borders d (chord_at d f.strand f.chord) t ≡ true
  borders_it = ap (λ x. borders d x t) name.is ∙ go out open'
    where
      go : (out : Bool) → IsOpen t out c es → borders d c t ≡ true
      go true h = let q : same_piece (chords d) c.from t ≡ true = pieces c.from t ∙ h in rw q refl
      go false h = let q : same_piece (chords d) (suc c.from) t ≡ true = pieces (suc c.from) t ∙ h in
          elim (cases_Bool (same_piece (chords d) c.from t)) [ inl z ↦ rw z refl | inr z ↦ rw z q ]

  legal' : IsLegal d f
  legal' = record { strand = name.strand; chord = name.chord; side = side; segment = place; borders_it = borders_it }

  order_is : later_first d f ≡ out
  order_is = ap (λ (x : Chord). same_piece (chords d) x.from t) name.is ∙ (pieces c.from t ∙ go out open')
    where
      go : (out : Bool) → IsOpen t out c es → same_piece (c ∷ es) c.from t ≡ out
      go true h = h
      go false h = elim (cases_Bool (same_piece (c ∷ es) c.from t)) [ inl q ↦ absurd (never_both t c es arr q h) | inr q ↦ q ]

  pushed_after : pushed d f ≡ after
  pushed_after = pushed_is d ok f legal' ∙ ap (λ b. with_letters d f (bit b)) order_is

  -- the chords
  abbrev a : List Chord
  a = (listed d ok f r).before

  abbrev b : List Chord
  b = (listed d ok f r).behind

  old_is : chords d ≡ a ++ (c ∷ b)
  old_is = (listed d ok f r).old ∙ ap (λ x. a ++ (x ∷ b)) name.is

  new_is : chords after ≡ map (carry t u) a ++ (onto t u out c ∷ turn t u out ∷ back t u out c ∷ map (carry t u) b)
  new_is = (listed d ok f r).new out ∙ ap (λ x. map (carry t u) a ++ (onto t u out x ∷ turn t u out ∷ back t u out x ∷ map (carry t u) b)) name.is

  first_arranged : Arranged (c ∷ (a ++ b))
  first_arranged = put_first c a b (subst Arranged old_is (arranged d ok))

  -- the others are the same
  other_into : (x : Chord) → Mem x (a ++ b) → Mem x es
  other_into x m = elim (same.into x (subst (λ cs. Mem x cs) (sym old_is) (in_place x c a b (inr m)))) [
    | inl q ↦ absurd (not_first c (a ++ b) first_arranged (subst (λ y. Mem y (a ++ b)) q m))
    | inr i ↦ i
  ]

  other_from : (x : Chord) → Mem x es → Mem x (a ++ b)
  other_from x m = elim (in_first x c a b (subst (λ cs. Mem x cs) old_is (same.from x (inr m)))) [
    | inl q ↦ absurd (not_first c es arr (subst (λ y. Mem y es) q m))
    | inr i ↦ i
  ]

  map_out : (x : Chord) (xs : List Chord) → Mem x (map (carry t u) xs) → (y : Chord) × Mem y xs × (x ≡ carry t u y)
  map_out x [] m = absurd m
  map_out x (y ∷ xs) (inl q) = (y, inl refl, q)
  map_out x (y ∷ xs) (inr m) = let (z, i, q) = map_out x xs m in (z, inr i, q)

  carried_in : (x : Chord) (xs : List Chord) → ((y : Chord) → Mem y xs → Mem y es) → Mem x (map (carry t u) xs) → Mem x (map (carry t u) es)
  carried_in x xs h m = let (y, i, q) = map_out x xs m in subst (λ z. Mem z (map (carry t u) es)) (sym q) (map_in (carry t u) y es (h y i))

  same_after : SameChords (chords after) (turn t u out ∷ others t u out c es)
  same_after = record { into = λ x m. into x (subst (λ cs. Mem x cs) new_is m); from = λ x m. subst (λ cs. Mem x cs) (sym new_is) (from x m) }
    where
      into : (x : Chord) → Mem x (map (carry t u) a ++ (onto t u out c ∷ turn t u out ∷ back t u out c ∷ map (carry t u) b)) → Mem x (turn t u out ∷ others t u out c es)
      into x m = elim (mem_append x (map (carry t u) a) (onto t u out c ∷ turn t u out ∷ back t u out c ∷ map (carry t u) b) m) [
        | inl i ↦ inr (inr (inr (carried_in x a (λ y k. other_into y (mem_left y a b k)) i)))
        | inr (inl q) ↦ inr (inl q)
        | inr (inr (inl q)) ↦ inl q
        | inr (inr (inr (inl q))) ↦ inr (inr (inl q))
        | inr (inr (inr (inr i))) ↦ inr (inr (inr (carried_in x b (λ y k. other_into y (mem_right y a b k)) i)))
      ]

      whole : (x : Chord) → Mem x (onto t u out c ∷ turn t u out ∷ back t u out c ∷ map (carry t u) b) → Mem x (map (carry t u) a ++ (onto t u out c ∷ turn t u out ∷ back t u out c ∷ map (carry t u) b))
      whole x m = mem_right x (map (carry t u) a) (onto t u out c ∷ turn t u out ∷ back t u out c ∷ map (carry t u) b) m

      from : (x : Chord) → Mem x (turn t u out ∷ others t u out c es) → Mem x (map (carry t u) a ++ (onto t u out c ∷ turn t u out ∷ back t u out c ∷ map (carry t u) b))
      from x (inl q) = whole x (inr (inl q))
      from x (inr (inl q)) = whole x (inl q)
      from x (inr (inr (inl q))) = whole x (inr (inr (inl q)))
      from x (inr (inr (inr i))) =
          let (y, k, q) = map_out x es i in
          let put : (y : Chord) → Mem y a ⊎ Mem y b → Mem (carry t u y) (map (carry t u) a ++ (onto t u out c ∷ turn t u out ∷ back t u out c ∷ map (carry t u) b))
          = λ y w. elim w [
            | inl j ↦ mem_left (carry t u y) (map (carry t u) a) (onto t u out c ∷ turn t u out ∷ back t u out c ∷ map (carry t u) b) (map_in (carry t u) y a j)
            | inr j ↦ whole (carry t u y) (inr (inr (inr (map_in (carry t u) y b j))))
          ] in
          subst (λ z. Mem z (map (carry t u) a ++ (onto t u out c ∷ turn t u out ∷ back t u out c ∷ map (carry t u) b))) (sym q) (put y (mem_append y a b (other_from y k)))

  -- names of chords
  turn_named : IsName after (record { strand = n.strand; chord = n.chord + 1 }) (turn t u out)
  turn_named =
      let q : n.chord + 1 ≡ suc n.chord = omega arith in
      record {
        strand = name.strand;
        chord = omega (arith, length_own d ok f out r, name.chord);
        is = ap (λ i. chord_at after n.strand i) q ∙ chord_turn d ok f out r;
      }

  other_named : (m : ChordName) (x : Chord) → IsName d m x → x ≢ c → IsName after (carried_chord f m) (carry t u x)
  other_named m x w ne = elim (cases_eq m.strand n.strand) [
    | inr away ↦
        let z : carried_chord f m ≡ m = rw (ne_eqb m.strand n.strand away) refl in
        subst (λ y. IsName after y (carry t u x)) (sym z) (record {
          strand = w.strand;
          chord = omega (arith, length_other d ok f out r m.strand w.strand away, w.chord);
          is = chord_other d ok f out r m.strand m.chord w.strand away w.chord ∙ ap (carry t u) w.is;
        })
    | inl q ↦
        let len : length (strand_exits d m.strand) ≡ length (strand_exits d n.strand) = ap (λ i. length (strand_exits d i)) q in
        let lef : length (strand_exits after m.strand) ≡ length (strand_exits after n.strand) = ap (λ i. length (strand_exits after i)) q in
        elim (cases_lt n.chord m.chord) [
          | inl l ↦
              let z : carried_chord f m ≡ record { strand = m.strand; chord = m.chord + 2 } = rw (eq-eqb m.strand n.strand q, lt-ltb n.chord m.chord l) refl in
              let e : m.chord + 2 ≡ suc (suc m.chord) = omega arith in
              subst (λ y. IsName after y (carry t u x)) (sym z) (record {
                strand = w.strand;
                chord = omega (arith, length_own d ok f out r, w.chord, len, lef);
                is = ap (λ i. chord_at after m.strand i) e
                    ∙ (ap (λ i. chord_at after i (suc (suc m.chord))) q
                    ∙ (chord_after d ok f out r m.chord l (omega (arith, w.chord, len)) ∙ ap (carry t u) (ap (λ i. chord_at d i m.chord) (sym q) ∙ w.is)));
              })
          | inr l ↦
              let lt : m.chord < n.chord = elim (cases_eq m.chord n.chord) [
                | inl e ↦ absurd (ne (sym w.is ∙ (ap (λ i. chord_at d i m.chord) q ∙ (ap (λ i. chord_at d n.strand i) e ∙ name.is))))
                | inr k ↦ omega (arith, l, k)
              ] in
              let z : carried_chord f m ≡ m = rw (eq-eqb m.strand n.strand q, le-ltb n.chord m.chord l) refl in
              subst (λ y. IsName after y (carry t u x)) (sym z) (record {
                strand = w.strand;
                chord = omega (arith, length_own d ok f out r, w.chord, len, lef);
                is = ap (λ i. chord_at after i m.chord) q ∙ (chord_before d ok f out r m.chord lt ∙ ap (carry t u) (ap (λ i. chord_at d i m.chord) (sym q) ∙ w.is));
              })
        ]
  ]

  -- segments by side and number
  carried_is : (l p : ℕ) → offset d l + p ≢ t → offset d l + p ≢ u → (carried_segment d f (exit l p)).place ≡ segment_after d ok f out r l p
  carried_is l p x y = by_side d ok f (bit out) (bit-le out) r
      (λ l. offset d l + p ≢ t → offset d l + p ≢ u → (carried_segment d f (exit l p)).place ≡ segment_after d ok f out r l p)
      (λ x y. let z : (carried_segment d f (exit s.side p)).place ≡ p + cond (leb p s.place) 0 2 = rw (eq-eqb s.side s.side refl) refl in
      z ∙ (jump s.place p (λ q. x (ap (λ w. offset d s.side + w) q)) ∙ sym (after_near d ok f (bit out) (bit-le out) r p)))
      (λ x y.
      let e = far_side d ok f (bit out) (bit-le out) r in
      let g = far_segment d ok f (bit out) (bit-le out) r in
      let z : (carried_segment d f (exit e p)).place ≡ p + cond (leb p g) 0 2 = rw (ne_eqb e s.side (sides_apart d ok f (bit out) (bit-le out) r), eq-eqb e e refl) refl in
      z ∙ (jump g p (λ q. y (ap (λ w. offset d e + w) q)) ∙ sym (after_far d ok f (bit out) (bit-le out) r p)))
      (λ l a b x y. let z : (carried_segment d f (exit l p)).place ≡ p + 0 = rw (ne_eqb l s.side a, ne_eqb l (far_side d ok f (bit out) (bit-le out) r) b) refl in
      z ∙ (let y : p + 0 ≡ p = omega arith in y ∙ sym (after_else d ok f (bit out) (bit-le out) r l p a b)))
      l x y
    where
      jump : (j p : ℕ) → p ≢ j → p + cond (leb p j) 0 2 ≡ p + 2 * bit (leb j p)
      jump j p n = elim (cases_lt p j) [
        | inl l ↦ rw (le-leb p j (omega arith), lt-leb j p l) refl
        | inr l ↦ (let k : j < p = omega (arith, l, n) in rw (lt-leb p j k, le-leb j p (omega arith)) refl)
      ]

  old_stands : (e : Exit) (v w : ℕ) → Stands d e v w → v ≢ t → v ≢ u → Stands after (carried_segment d f e) (shift t u v) (shift t u w)
  old_stands e v w h x y =
      let x' : offset d e.side + e.place ≢ t = λ q. x (sym h.at ∙ q) in
      let y' : offset d e.side + e.place ≢ u = λ q. y (sym h.at ∙ q) in
      let z = carried_is e.side e.place x' y' in
      let g = partner d.polygon e.side in
      let q : points_on d e.side - e.place ≤ points_on d g = omega (arith, points_partner d ok.polygon e.side) in
      record {
        side = h.side;
        place = omega (arith, z, segment_in d ok f out r e.side e.place h.place);
        at = ap (λ p. offset after e.side + p) z ∙ (segment_spot d ok f out r e.side e.place h.place ∙ ap (shift t u) h.at);
        beyond = ap (λ p. offset after g + (points_on after e.side - p)) z
            ∙ (ap (λ p. offset after g + p) (sym (glued_after d ok f out r e.side e.place h.place x' y'))
            ∙ (segment_spot d ok f out r g (points_on d e.side - e.place) q ∙ ap (shift t u) h.beyond));
      }

  middle_stands : Stands after (exit s.side (s.place + 1)) (suc (early t u)) (suc (early u t))
  middle_stands = record { side = side; place = middle_in d ok f out r; at = middle_spot d ok f out r; beyond = middle_glued d ok f out r }

  -- gaps
  gaps_after : gaps after ≡ map (shift t u) (gaps d)
  gaps_after = go (below (sides d.polygon))
    where
      go : (ls : List ℕ) → map (gap after) ls ≡ map (shift t u) (map (gap d) ls)
      go [] = refl
      go (l ∷ ls) = ap (λ x. x ∷ map (gap after) ls) (gap_kept d ok f (bit out) (bit-le out) r l) ∙ ap (λ xs. shift t u (gap d l) ∷ xs) (go ls)

  stepped : Stepped d n s c es out t u
  stepped = record {
    legal = legal';
    embedded = subst IsEmbedded (sym pushed_after) (subst (λ b. IsEmbedded (with_letters d f (bit b))) order_is (effect_embedded d ok f legal'));
    same = subst (λ x. SameChords (chords x) (turn t u out ∷ others t u out c es)) (sym pushed_after) same_after;
    turned = subst (λ x. IsName x (record { strand = n.strand; chord = n.chord + 1 }) (turn t u out)) (sym pushed_after) turn_named;
    named = λ m x w ne. subst (λ y. IsName y (carried_chord f m) (carry t u x)) (sym pushed_after) (other_named m x w ne);
    stood = λ e v w h x y. subst (λ z. Stands z (carried_segment d f e) (shift t u v) (shift t u w)) (sym pushed_after) (old_stands e v w h x y);
    gaps_are = subst (λ x. gaps x ≡ map (shift t u) (gaps d)) (sym pushed_after) gaps_after;
    middle = subst (λ z. Stands z (exit s.side (s.place + 1)) (suc (early t u)) (suc (early u t))) (sym pushed_after) middle_stands;
  }

-- the same with the spans' numbers named
pub step : (d : Drawing) → IsEmbedded d → (n : ChordName) (c : Chord) → IsName d n c → (s : Exit) (t u : ℕ) → Stands d s t u
    → (es : List Chord) (out : Bool) → Arranged (c ∷ es) → SameChords (chords d) (c ∷ es) → IsOpen t out c es → Stepped d n s c es out t u
step d ok n c name s t u st es out arr same open' =
    let one = stepped d ok n c name s st.side st.place es out arr same (subst (λ x. IsOpen x out c es) (sym st.at) open') in
    subst (λ x. Stepped d n s c es out t x) st.beyond (subst (λ x. Stepped d n s c es out x (spot d (glued_segment d s))) st.at one)
