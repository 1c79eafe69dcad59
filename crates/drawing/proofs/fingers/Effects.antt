-- A legal finger has exactly one effect: of the two orders of the new points one is embedded. The words keep their reduced forms.
use Rattle.std.proofs.Common.{◌≡◌, ℕ, suc, ◌+◌, ◌<◌, Bool, true, false, not, ◌||◌, List, [], ◌∷◌, ◌++◌, length, map, take, drop, refl, sym, ◌∙◌, ap, subst, arith, ◌⊎◌, inl, inr, ◌≢◌}
use Rattle.std.proofs.lemmas.Bool.{cases_Bool, cases_eq, true≢false}
use Rattle.std.proofs.lemmas.List.{map-append, take-append-drop}
use Rattle.obd_base.specs.Lists.{Mem}
use Rattle.obd_base.specs.declared.points.Exit.{Exit}
use Rattle.obd_base.proofs.lists.Below.{bit}
use Rattle.obd_base.proofs.lists.Sums.{bit-le}
use Rattle.page_surface.specs.Drawing.{Chord, Drawing, IsEmbedded, all_exits, chords, is_embedded, strand_exits}
use Rattle.page_surface.specs.Polygon.{arc_count}
use Rattle.page_surface.specs.Words.{Step, reduced}
use Rattle.page_surface.proofs.EmbeddedTest.{embedded_from_test, test_from_embedded}
use Rattle.page_surface.proofs.WordLaws.{reduced_step}
use Rattle.drawing.specs.declared.finger.Finger.{Finger}
use Rattle.drawing.specs.Fingers.{InRange, IsEffect, IsLegal, borders, carried, chord_at, entered, entered_beyond, pushed, with_letters}
use Rattle.drawing.specs.Pieces.{same_piece}
use Rattle.drawing.proofs.ChordTree.{same_from_each}
use Rattle.drawing.proofs.Lists.{length_sum}
use Rattle.drawing.proofs.fingers.Arranged.{Arranged, alike}
use Rattle.drawing.proofs.fingers.InPlace.{effect_legal_in, in_first, in_place, one_effect_in, pushed_in}
use Rattle.drawing.proofs.fingers.OneEffect.{order}
use Rattle.drawing.proofs.fingers.NewChords.{listed}
use Rattle.drawing.proofs.fingers.NewEmbedded.{arranged, embedded_after}
use Rattle.drawing.proofs.fingers.NewPlaces.{strand_other, strand_own, sum_new, way_back, way_out}
use Rattle.drawing.proofs.fingers.NewSpots.{entered_apart}

-- pieces depend on which chords there are, and not on their order
pub same_pieces : (cs es : List Chord) → ((c : Chord) → Mem c cs → Mem c es) → ((c : Chord) → Mem c es → Mem c cs) → (s t : ℕ) → same_piece cs s t ≡ same_piece es s t
same_pieces cs es into from s t = elim (cases_Bool (same_piece cs s t)) [
  | inl q ↦ q ∙ sym (same_from_each es s t (λ c m. alike cs s t q c (from c m)))
  | inr q ↦ elim (cases_Bool (same_piece es s t)) [
    | inl p ↦ absurd (true≢false (sym (same_from_each cs s t (λ c m. alike es s t p c (into c m))) ∙ q))
    | inr p ↦ q ∙ sym p
  ]
]

-- a legal finger's numbers are in range
pub range_of : (d : Drawing) (f : Finger) → IsLegal d f → InRange d f
range_of d f l = record { strand = l.strand; chord = l.chord; side = l.side; segment = l.segment }

-- the strand passes the later one of the two new points first where the segment lies in the piece just before the chord's first end
abbrev pub later_first : Drawing → Finger → Bool
later_first d f = same_piece (chords d) (chord_at d f.strand f.chord).from (entered d f)

-- the drawing that this order gives
abbrev pub effect : Drawing → Finger → Drawing
effect d f = with_letters d f (bit (later_first d f))

module _ (d : Drawing) (ok : IsEmbedded d) (f : Finger) where
  -- the pushed chord
  abbrev pub own : Chord
  own = chord_at d f.strand f.chord

  module _ (r : InRange d f) where
    -- all other chords, in order
    abbrev pub others : List Chord
    others = (listed d ok f r).before ++ (listed d ok f r).behind

    -- the pushed chord put first changes no piece
    pub first_pieces : (s t : ℕ) → same_piece (chords d) s t ≡ same_piece (own ∷ others) s t
    first_pieces s t =
        let w = listed d ok f r in
        ap (λ cs. same_piece cs s t) w.old
        ∙ same_pieces (w.before ++ (own ∷ w.behind)) (own ∷ others) (λ c m. in_first c own w.before w.behind m) (λ c m. in_place c own w.before w.behind m) s t

    -- the order is that of the chords
    pub order_is : order (entered d f) own others ≡ later_first d f
    order_is = sym (first_pieces own.from (entered d f))

    -- the chord borders the piece as the definition says
    pub borders_is : borders d own (entered d f) ≡ (same_piece (own ∷ others) own.from (entered d f) || same_piece (own ∷ others) (suc own.from) (entered d f))
    borders_is = rw (first_pieces own.from (entered d f), first_pieces (suc own.from) (entered d f)) refl

    -- the chords, in the drawing's order
    pub parts_arranged : Arranged ((listed d ok f r).before ++ (own ∷ (listed d ok f r).behind))
    parts_arranged = subst Arranged (listed d ok f r).old (arranged d ok)

    apart : entered d f ≢ entered_beyond d f
    apart = entered_apart d ok f 0 (omega arith) r

    -- where one order has no crossing the finger is legal
    pub legal_from : (out : Bool) → is_embedded (with_letters d f (bit out)) ≡ true → IsLegal d f
    legal_from out h =
        let w = listed d ok f r in
        let e = embedded_from_test (with_letters d f (bit out)) ok.polygon h in
        let a : Arranged (pushed_in (entered d f) (entered_beyond d f) out w.before own w.behind) = subst Arranged (w.new out) (arranged (with_letters d f (bit out)) e) in
        let b = effect_legal_in (entered d f) (entered_beyond d f) out w.before own w.behind parts_arranged a in
        record { strand = r.strand; chord = r.chord; side = r.side; segment = r.segment; borders_it = borders_is ∙ b }

    -- an effect exists only for a legal finger
    pub effect_legal : (e : Drawing) → IsEffect d f e → IsLegal d f
    effect_legal e h = elim h.points [
      | inl q ↦ legal_from false (subst (λ x. is_embedded x ≡ true) q h.embedded)
      | inr q ↦ legal_from true (subst (λ x. is_embedded x ≡ true) q h.embedded)
    ]

  module _ (l : IsLegal d f) where
    abbrev r' : InRange d f
    r' = range_of d f l

    one : Arranged (pushed_in (entered d f) (entered_beyond d f) (later_first d f) (listed d ok f r').before own (listed d ok f r').behind)
        × (Arranged (pushed_in (entered d f) (entered_beyond d f) (not (later_first d f)) (listed d ok f r').before own (listed d ok f r').behind) → ⊥)
    one =
        let w = listed d ok f r' in
        let both = one_effect_in (entered d f) (entered_beyond d f) w.before own w.behind (apart r') (parts_arranged r') (sym (borders_is r') ∙ l.borders_it) in
        subst (λ b. Arranged (pushed_in (entered d f) (entered_beyond d f) b w.before own w.behind) × (Arranged (pushed_in (entered d f) (entered_beyond d f) (not b) w.before own w.behind) → ⊥)) (order_is r') both

    -- one order of a legal finger is embedded
    pub effect_embedded : IsEmbedded (effect d f)
    effect_embedded = embedded_after d ok f (bit (later_first d f)) (bit-le (later_first d f)) r' (subst Arranged (sym ((listed d ok f r').new (later_first d f))) one.0)

    -- and the other isn't
    pub other_crosses : is_embedded (with_letters d f (bit (not (later_first d f)))) ≡ false
    other_crosses = elim (cases_Bool (is_embedded (with_letters d f (bit (not (later_first d f)))))) [
      | inl q ↦ absurd (one.1 (subst Arranged ((listed d ok f r').new (not (later_first d f)))
          (arranged (with_letters d f (bit (not (later_first d f)))) (embedded_from_test (with_letters d f (bit (not (later_first d f)))) ok.polygon q))))
      | inr q ↦ q
    ]

    -- the effect, as it computes, is the embedded one
    pub pushed_is : pushed d f ≡ effect d f
    pushed_is = go (later_first d f) (test_from_embedded (effect d f) effect_embedded) other_crosses
      where
        go : (b : Bool) → is_embedded (with_letters d f (bit b)) ≡ true → is_embedded (with_letters d f (bit (not b))) ≡ false → pushed d f ≡ with_letters d f (bit b)
        go true p q = rw q refl
        go false p q = rw p refl

    -- it is embedded
    pub pushed_embedded : IsEmbedded (pushed d f)
    pushed_embedded = subst IsEmbedded (sym pushed_is) effect_embedded

    -- its polygon is the drawing's
    pub pushed_polygon : (pushed d f).polygon ≡ d.polygon
    pushed_polygon = ap (λ (x : Drawing). x.polygon) pushed_is

    -- it is an effect
    pub pushed_effect : IsEffect d f (pushed d f)
    pushed_effect = record { points = go (later_first d f) pushed_is; embedded = test_from_embedded (pushed d f) pushed_embedded }
      where
        go : (b : Bool) → pushed d f ≡ with_letters d f (bit b) → (pushed d f ≡ with_letters d f 0) ⊎ (pushed d f ≡ with_letters d f 1)
        go true q = inr q
        go false q = inl q

    -- and the only one
    pub one_effect : (e : Drawing) → IsEffect d f e → e ≡ pushed d f
    one_effect e h = elim h.points [
      | inl q ↦ at false q (subst (λ x. is_embedded x ≡ true) q h.embedded)
      | inr q ↦ at true q (subst (λ x. is_embedded x ≡ true) q h.embedded)
    ]
      where
        at : (b : Bool) → e ≡ with_letters d f (bit b) → is_embedded (with_letters d f (bit b)) ≡ true → e ≡ pushed d f
        at b q h = q ∙ (go b (later_first d f) h other_crosses ∙ sym pushed_is)
          where
            go : (b c : Bool) → is_embedded (with_letters d f (bit b)) ≡ true → is_embedded (with_letters d f (bit (not c))) ≡ false → with_letters d f (bit b) ≡ with_letters d f (bit c)
            go true true h k = refl
            go false false h k = refl
            go true false h k = absurd (true≢false (sym h ∙ k))
            go false true h k = absurd (true≢false (sym h ∙ k))

    -- the exits of the finger's strand
    pub own_exits : strand_exits (pushed d f) f.strand ≡ take f.chord (map (carried d f) (strand_exits d f.strand))
        ++ (way_out d ok f (bit (later_first d f)) (bit-le (later_first d f)) r' ∷ way_back d ok f (bit (later_first d f)) (bit-le (later_first d f)) r' ∷ drop f.chord (map (carried d f) (strand_exits d f.strand)))
    own_exits = ap (λ x. strand_exits x f.strand) pushed_is ∙ strand_own d ok f (bit (later_first d f)) (bit-le (later_first d f)) r'

    -- and of another strand
    pub other_exits : (i : ℕ) → i < arc_count d.polygon → i ≢ f.strand → strand_exits (pushed d f) i ≡ map (carried d f) (strand_exits d i)
    other_exits i li ne = ap (λ x. strand_exits x i) pushed_is ∙ strand_other d ok f (bit (later_first d f)) (bit-le (later_first d f)) r' i li ne

-- the letters of some exits
abbrev pub letters : List Exit → List ℕ
letters xs = map (λ e. e.side) xs

letters_carried : (d : Drawing) (f : Finger) (xs : List Exit) → letters (map (carried d f) xs) ≡ letters xs
letters_carried d f [] = refl
letters_carried d f (x ∷ xs) = ap (λ w. x.side ∷ w) (letters_carried d f xs)

module _ (d : Drawing) (ok : IsEmbedded d) (f : Finger) (l : IsLegal d f) where
  -- a step takes the finger's letters out of its strand's word
  pub word_steps : Step d.polygon (letters (strand_exits (pushed d f) f.strand)) (letters (strand_exits d f.strand))
  word_steps =
      let xs = map (carried d f) (strand_exits d f.strand) in (
        letters (take f.chord xs),
        letters (drop f.chord xs),
        f.side,
        ap letters (own_exits d ok f l) ∙ map-append (λ (e : Exit). e.side) (take f.chord xs) _,
        sym (letters_carried d f (strand_exits d f.strand)) ∙ (ap letters (sym (take-append-drop f.chord xs)) ∙ map-append (λ (e : Exit). e.side) (take f.chord xs) (drop f.chord xs)),
      )

  -- all other words stay
  pub other_words : (i : ℕ) → i < arc_count d.polygon → i ≢ f.strand → letters (strand_exits (pushed d f) i) ≡ letters (strand_exits d i)
  other_words i li ne = ap letters (other_exits d ok f l i li ne) ∙ letters_carried d f (strand_exits d i)

  -- so all words keep their reduced forms
  pub reduced_kept : (i : ℕ) → i < arc_count d.polygon → reduced d.polygon (letters (strand_exits (pushed d f) i)) ≡ reduced d.polygon (letters (strand_exits d i))
  reduced_kept i li = elim (cases_eq i f.strand) [
    | inl e ↦ subst (λ i. reduced d.polygon (letters (strand_exits (pushed d f) i)) ≡ reduced d.polygon (letters (strand_exits d i))) (sym e)
        (reduced_step d.polygon ok.polygon.pairs _ _ word_steps)
    | inr n ↦ ap (reduced d.polygon) (other_words i li n)
  ]

  -- two exits more
  pub exits_more : length (all_exits (pushed d f)) ≡ length (all_exits d) + 2
  exits_more =
      let o = bit (later_first d f) in
      let e = ap (λ x. length (all_exits x)) (pushed_is d ok f l) in
      let a = sum_new d ok f o (bit-le (later_first d f)) (range_of d f l) (λ x. 1) in
      omega (arith, e, a, length_sum (all_exits d), length_sum (all_exits (with_letters d f o)))
