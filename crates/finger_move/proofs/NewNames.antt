-- Chords by strand and number after a finger, and segments by side and number.
use Rattle.std.proofs.Common.{◌≡◌, ℕ, zero, suc, ◌+◌, ◌-◌, ◌*◌, ◌<◌, ◌≤◌, Bool, leb, List, [], ◌∷◌, ◌++◌, map, length, get_or, take, drop, refl, sym, ◌∙◌, ap, arith, inl, inr, ◌≢◌}
use Rattle.std.proofs.lemmas.Bool.{cases_lt, le-leb, lt-leb}
use Rattle.std.proofs.lemmas.List.{get_or-map, length-append, length-map, take-append-drop}
use Rattle.obd_base.specs.declared.points.Exit.{Exit}
use Rattle.obd_base.proofs.lists.Below.{bit}
use Rattle.obd_base.proofs.lists.Sums.{bit-le}
use Rattle.page_surface.specs.Drawing.{Chord, Drawing, IsEmbedded, end_of, exit, offset, points_on, strand_chords, strand_exits}
use Rattle.page_surface.specs.Polygon.{arc_count, first_side, partner, second_side}
use Rattle.page_surface.proofs.Partners.{points_partner}
use Rattle.drawing.specs.declared.finger.Finger.{Finger}
use Rattle.drawing.specs.Fingers.{InRange, carried, chord_at, entered, entered_beyond, with_letters}
use Rattle.drawing.proofs.fingers.Shift.{shift, early}
use Rattle.drawing.proofs.fingers.Finger.{carry, turn}
use Rattle.drawing.proofs.fingers.NewChords.{chords_other, chords_own, length_cut, no_chord}
use Rattle.drawing.proofs.fingers.NewPlaces.{far_segment, far_side, partner_back, points_else, points_far, points_near, put_in, strand_other, strand_own}
use Rattle.drawing.proofs.fingers.NewSpots.{after_else, after_far, after_near, by_side, out_spot, back_spot, place_after, spot_after}

-- a list of chords in which one is cut in three
abbrev cut_three : (g : Chord → Chord) (x y z : Chord) → ℕ → List Chord → List Chord
cut_three g x y z c cs = map g (take c cs) ++ (x ∷ y ∷ z ∷ map g (drop (suc c) cs))

cut_before : (g : Chord → Chord) (x y z : Chord) (c : ℕ) (cs : List Chord) (i : ℕ) → c < length cs → i < c → get_or (cut_three g x y z c cs) i no_chord ≡ g (get_or cs i no_chord)
cut_before g x y z zero cs i l h = absurd (let w : ⊥ = omega (arith, h) in w)
cut_before g x y z (suc c) [] i l h = absurd (let w : ⊥ = omega (arith, l) in w)
cut_before g x y z (suc c) (e ∷ cs) zero l h = refl
cut_before g x y z (suc c) (e ∷ cs) (suc i) l h = cut_before g x y z c cs i (omega (arith, l)) (omega (arith, h))

cut_middle : (g : Chord → Chord) (x y z : Chord) (c : ℕ) (cs : List Chord) → c < length cs → get_or (cut_three g x y z c cs) (suc c) no_chord ≡ y
cut_middle g x y z zero cs l = refl
cut_middle g x y z (suc c) [] l = absurd (let w : ⊥ = omega (arith, l) in w)
cut_middle g x y z (suc c) (e ∷ cs) l = cut_middle g x y z c cs (omega (arith, l))

cut_after : (g : Chord → Chord) (x y z : Chord) (c : ℕ) (cs : List Chord) (i : ℕ) → i < length cs → c < i → get_or (cut_three g x y z c cs) (suc (suc i)) no_chord ≡ g (get_or cs i no_chord)
cut_after g x y z c [] i l h = absurd (let w : ⊥ = omega (arith, l) in w)
cut_after g x y z c (e ∷ cs) zero l h = absurd (let w : ⊥ = omega (arith, h) in w)
cut_after g x y z zero (e ∷ cs) (suc i) l h = get_or-map g cs i no_chord no_chord (omega (arith, l))
cut_after g x y z (suc c) (e ∷ cs) (suc i) l h = cut_after g x y z c cs i (omega (arith, l)) (omega (arith, h))

-- a segment and the one it is glued to stay such when both are moved past two places that are the same
opposite_segments : (a b m p : ℕ) → a + b ≡ m → p ≤ m → p ≢ a → (m - p) + 2 * bit (leb b (m - p)) ≡ m + 2 - (p + 2 * bit (leb a p))
opposite_segments a b m p h l n = elim (cases_lt p a) [
  | inl q ↦ rw (lt-leb a p q, le-leb b (m - p) (omega arith)) (omega arith)
  | inr q ↦ (let k : a < p = omega (arith, q, n) in rw (le-leb a p q, lt-leb b (m - p) (omega (arith, k, h, l))) (omega arith))
]

module _ (d : Drawing) (ok : IsEmbedded d) (f : Finger) (out : Bool) (r : InRange d f) where
  abbrev after : Drawing
  after = with_letters d f (bit out)

  abbrev t : ℕ
  t = entered d f

  abbrev u : ℕ
  u = entered_beyond d f

  -- a strand has one chord more than exits
  pub count_chords : (i : ℕ) → length (strand_chords d i) ≡ suc (length (strand_exits d i))
  count_chords i = length_cut d (end_of d (second_side d.polygon i)) (end_of d (first_side d.polygon i)) (strand_exits d i)

  -- another strand has as many exits, and its chords are carried
  pub length_other : (i : ℕ) → i < arc_count d.polygon → i ≢ f.strand → length (strand_exits after i) ≡ length (strand_exits d i)
  length_other i l ne = ap length (strand_other d ok f (bit out) (bit-le out) r i l ne) ∙ length-map (strand_exits d i) (carried d f)

  -- and its chords are carried
  pub chord_other : (i c : ℕ) → i < arc_count d.polygon → i ≢ f.strand → c ≤ length (strand_exits d i) → chord_at after i c ≡ carry t u (chord_at d i c)
  chord_other i c l ne h = ap (λ cs. get_or cs c no_chord) (chords_other d ok f out r i l ne) ∙ get_or-map (carry t u) (strand_chords d i) c no_chord no_chord (omega (arith, count_chords i, h))

  -- the finger's strand has two more
  pub length_own : length (strand_exits after f.strand) ≡ length (strand_exits d f.strand) + 2
  length_own =
      let xs = map (carried d f) (strand_exits d f.strand) in
      let a = ap length (strand_own d ok f (bit out) (bit-le out) r) in
      let b = put_length xs in
      omega (arith, a, b, length-map (strand_exits d f.strand) (carried d f))
    where
      put_length : (xs : List Exit) → length (put_in d ok f (bit out) (bit-le out) r xs) ≡ length xs + 2
      put_length xs =
          let a = length-append (take f.chord xs) (drop f.chord xs) in
          let b = ap length (take-append-drop f.chord xs) in
          let c = length-append (take f.chord xs) (exit f.side (f.segment + bit out) ∷ exit (far_side d ok f (bit out) (bit-le out) r) (far_segment d ok f (bit out) (bit-le out) r + bit out) ∷ drop f.chord xs) in
          omega (arith, a, b, c)

  own_in : f.chord < length (strand_chords d f.strand)
  own_in = omega (arith, count_chords f.strand, r.chord)

  -- its chords before the pushed one keep their numbers
  pub chord_before : (c : ℕ) → c < f.chord → chord_at after f.strand c ≡ carry t u (chord_at d f.strand c)
  chord_before c h = ap (λ cs. get_or cs c no_chord) (chords_own d ok f out r) ∙ cut_before (carry t u) _ _ _ f.chord (strand_chords d f.strand) c own_in h

  -- the chord beyond the segment
  pub chord_turn : chord_at after f.strand (suc f.chord) ≡ turn t u out
  chord_turn = ap (λ cs. get_or cs (suc f.chord) no_chord) (chords_own d ok f out r) ∙ cut_middle (carry t u) _ (turn t u out) _ f.chord (strand_chords d f.strand) own_in

  -- and those after the pushed one have numbers two higher
  pub chord_after : (c : ℕ) → f.chord < c → c ≤ length (strand_exits d f.strand) → chord_at after f.strand (suc (suc c)) ≡ carry t u (chord_at d f.strand c)
  chord_after c h l = ap (λ cs. get_or cs (suc (suc c)) no_chord) (chords_own d ok f out r)
      ∙ cut_after (carry t u) _ _ _ f.chord (strand_chords d f.strand) c (omega (arith, count_chords f.strand, l)) h

  -- where a place of a side is afterwards
  abbrev pub segment_after : ℕ → ℕ → ℕ
  segment_after = place_after d ok f (bit out) (bit-le out) r

  -- a segment that isn't entered, and the one it is glued to
  pub glued_after : (l p : ℕ) → p ≤ points_on d l → offset d l + p ≢ t → offset d l + p ≢ u
      → segment_after (partner d.polygon l) (points_on d l - p) ≡ points_on after l - segment_after l p
  glued_after l p h a b = by_side d ok f (bit out) (bit-le out) r
      (λ l. p ≤ points_on d l → offset d l + p ≢ t → offset d l + p ≢ u → segment_after (partner d.polygon l) (points_on d l - p) ≡ points_on after l - segment_after l p)
      (λ h a b.
      let one = after_far d ok f (bit out) (bit-le out) r (points_on d f.side - p) in
      let two = opposite_segments f.segment (far_segment d ok f (bit out) (bit-le out) r) (points_on d f.side) p (omega (arith, r.segment)) h (λ q. a (ap (λ w. offset d f.side + w) q)) in
      one ∙ (two ∙ (let c = points_near d ok f (bit out) (bit-le out) r in let e = after_near d ok f (bit out) (bit-le out) r p in omega (arith, c, e))))
      (λ h a b.
      let e = far_side d ok f (bit out) (bit-le out) r in
      let q = points_partner d ok.polygon f.side in
      let one = after_near d ok f (bit out) (bit-le out) r (points_on d e - p) in
      let two = opposite_segments (far_segment d ok f (bit out) (bit-le out) r) f.segment (points_on d e) p (omega (arith, r.segment, q)) h (λ z. b (ap (λ w. offset d e + w) z)) in
      ap (λ w. segment_after w (points_on d e - p)) (partner_back d ok f (bit out) (bit-le out) r) ∙ (one ∙ (two ∙ (let c = points_far d ok f (bit out) (bit-le out) r in let e = after_far d ok f (bit out) (bit-le out) r p in omega (arith, c, e)))))
      (λ l a b h x y.
      let p1 : partner d.polygon l ≢ f.side = λ q. b (sym (ok.polygon.pairs.twice l) ∙ ap (partner d.polygon) q) in
      let p2 : partner d.polygon l ≢ far_side d ok f (bit out) (bit-le out) r = λ q. a (sym (ok.polygon.pairs.twice l) ∙ (ap (partner d.polygon) q ∙ partner_back d ok f (bit out) (bit-le out) r)) in
      after_else d ok f (bit out) (bit-le out) r (partner d.polygon l) (points_on d l - p) p1 p2
      ∙ (let x = points_else d ok f (bit out) (bit-le out) r l a b in let y = after_else d ok f (bit out) (bit-le out) r l p a b in omega (arith, x, y)))
      l h a b

  -- an old segment stays on its side
  pub segment_in : (l p : ℕ) → p ≤ points_on d l → segment_after l p ≤ points_on after l
  segment_in l p h = by_side d ok f (bit out) (bit-le out) r (λ l. p ≤ points_on d l → segment_after l p ≤ points_on after l)
      (λ h. let a = after_near d ok f (bit out) (bit-le out) r p in omega (arith, a, h, points_near d ok f (bit out) (bit-le out) r, bit-le (leb f.segment p)))
      (λ h. let a = after_far d ok f (bit out) (bit-le out) r p in omega (arith, a, h, points_far d ok f (bit out) (bit-le out) r, bit-le (leb (far_segment d ok f (bit out) (bit-le out) r) p)))
      (λ l a b h. let x = after_else d ok f (bit out) (bit-le out) r l p a b in omega (arith, x, h, points_else d ok f (bit out) (bit-le out) r l a b))
      l h

  -- its number
  pub segment_spot : (l p : ℕ) → p ≤ points_on d l → offset after l + segment_after l p ≡ shift t u (offset d l + p)
  segment_spot l p h = sym (spot_after d ok f (bit out) (bit-le out) r l p (omega (arith, h)))

  -- the segment between the two new points, and the one it is glued to
  pub middle_spot : offset after f.side + (f.segment + 1) ≡ suc (early t u)
  middle_spot = let z = out_spot d ok f (bit out) (bit-le out) r in omega (arith, z)

  -- it is a segment
  pub middle_in : f.segment + 1 ≤ points_on after f.side
  middle_in = omega (arith, r.segment, points_near d ok f (bit out) (bit-le out) r)

  -- and this is what it is glued to
  pub middle_glued : offset after (partner d.polygon f.side) + (points_on after f.side - (f.segment + 1)) ≡ suc (early u t)
  middle_glued = let z = back_spot d ok f (bit out) (bit-le out) r in omega (arith, z, r.segment, points_near d ok f (bit out) (bit-le out) r)
