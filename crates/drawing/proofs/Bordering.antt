-- Which chords border the piece of a span, and on which side of one the span lies: no other chord separates it from the start of the chord.
use Rattle.std.proofs.Common.{◌≡◌, ℕ, suc, Bool, true, false, cond, eqb, ltb, not, ◌||◌, List, refl, sym, ◌∙◌, ap, ◌⊎◌, inl, inr, ◌≢◌, subst}
use Rattle.std.specs.List.{list_any}
use Rattle.std.proofs.lemmas.Bool.{and_parts, cases_Bool, cases_eq, eq-eqb, ne_eqb, false≢true}
use Rattle.obd_base.specs.Lists.{Mem}
use Rattle.page_surface.specs.Drawing.{Chord, Drawing, IsEmbedded, beyond, chords, differ}
use Rattle.drawing.specs.declared.finger.Finger.{Finger}
use Rattle.drawing.specs.Fingers.{InRange, IsLegal, borders, chord_at, entered}
use Rattle.drawing.specs.Pieces.{between, parts_from, same_piece, separates}
use Rattle.drawing.proofs.ChordTree.{IsDiagram, any_in, beyond-suc, same_from_each}
use Rattle.drawing.proofs.Diagram.{is_diagram}
use Rattle.drawing.proofs.SamePiece.{differ-false}
use Rattle.drawing.proofs.StrandTables.{any_found}
use Rattle.drawing.proofs.fingers.Arranged.{alike}
use Rattle.drawing.proofs.fingers.Effects.{range_of}
use Rattle.drawing.proofs.fingers.InPlace.{in_place}
use Rattle.drawing.proofs.fingers.NewChords.{listed}
use Rattle.drawing.proofs.fingers.OneEffect.{differ_same, start_apart}

-- a test that differs from two others is alike on them
third : (a b c : Bool) → a ≢ b → differ b c ≡ true → a ≡ c
third true true c ne h = absurd (ne refl)
third true false c ne h = sym h
third false true true ne h = absurd (false≢true h)
third false true false ne h = refl
third false false c ne h = absurd (ne refl)

-- two tests apart, the other way round
cross : (a b c d : Bool) → differ (differ a b) (differ c d) ≡ differ (differ a c) (differ b d)
cross true true true true = refl
cross true true true false = refl
cross true true false true = refl
cross true true false false = refl
cross true false true true = refl
cross true false true false = refl
cross true false false true = refl
cross true false false false = refl
cross false true true true = refl
cross false true true false = refl
cross false true false true = refl
cross false true false false = refl
cross false false true true = refl
cross false false true false = refl
cross false false false true = refl
cross false false false false = refl

-- a chord separates two spans where just one of its ends is between them
pub separates_told : (c : Chord) (s t : ℕ) → separates c s t ≡ differ (between s t c.from) (between s t c.to)
separates_told c s t = cross (ltb c.from s) (ltb c.to s) (ltb c.from t) (ltb c.to t)

module _ (cs : List Chord) (ok : IsDiagram cs) (c : Chord) (m : Mem c cs) (t : ℕ) where
  -- another chord lies alike to both spans at the start
  start_same : (e : Chord) → Mem e cs → e.from ≢ c.from → beyond e (suc c.from) ≡ beyond e c.from
  start_same e i ne = elim (ok.clear c e m i) [
    | inl q ↦ absurd (ne (ap (λ (k : Chord). k.from) q))
    | inr q ↦ beyond-suc e c.from q.apart.0 q.apart.2
  ]

  -- where the span is in the piece of one of them, no other chord parts it from the start
  none_parts : (same_piece cs c.from t ≡ true) ⊎ (same_piece cs (suc c.from) t ≡ true) → list_any (parts_from c.from t) cs ≡ false
  none_parts h = elim (cases_Bool (list_any (parts_from c.from t) cs)) [
    | inr q ↦ q
    | inl q ↦
        let (e, i, p) = any_found (parts_from c.from t) cs q in
        let b = and_parts (separates e c.from t) (not (eqb e.from c.from)) p in
        let ne : e.from ≢ c.from = λ z. absurd (false≢true (let w : not (eqb e.from c.from) ≡ false = rw (eq-eqb e.from c.from z) refl in sym w ∙ b.1)) in
        let same : beyond e c.from ≡ beyond e t = elim h [ inl k ↦ alike cs c.from t k e i | inr k ↦ sym (start_same e i ne) ∙ alike cs (suc c.from) t k e i ] in
        absurd (false≢true (sym (differ_same (beyond e c.from) (beyond e t) same) ∙ b.0))
  ]

  module _ (none : list_any (parts_from c.from t) cs ≡ false) where
    -- then each other chord lies alike to both
    others_alike : (e : Chord) → Mem e cs → e.from ≢ c.from → beyond e c.from ≡ beyond e t
    others_alike e i ne = elim (cases_Bool (separates e c.from t)) [
      | inl q ↦ absurd (false≢true (sym none ∙ any_in (parts_from c.from t) e cs i (let w : parts_from c.from t e ≡ true = rw (q, ne_eqb e.from c.from ne) refl in w)))
      | inr q ↦ differ-false (beyond e c.from) (beyond e t) q
    ]

    -- and the span lies in the piece on that side of the chord on which it is
    lies_beside : (b : Bool) → separates c c.from t ≡ b → (same_piece cs c.from t || same_piece cs (suc c.from) t) ≡ true
    lies_beside false h =
        let w : same_piece cs c.from t ≡ true = same_from_each cs c.from t (λ e i. elim (cases_eq e.from c.from) [
          | inr ne ↦ others_alike e i ne
          | inl q ↦ elim (ok.clear c e m i) [
            | inl k ↦ subst (λ (x : Chord). beyond x c.from ≡ beyond x t) (sym k) (differ-false (beyond c c.from) (beyond c t) h)
            | inr k ↦ absurd (k.apart.0 q)
          ]
        ]) in
        rw w refl
    lies_beside true h =
        let w : same_piece cs (suc c.from) t ≡ true = same_from_each cs (suc c.from) t (λ e i. elim (cases_eq e.from c.from) [
          | inr ne ↦ start_same e i ne ∙ others_alike e i ne
          | inl q ↦ elim (ok.clear c e m i) [
            | inl k ↦ subst (λ (x : Chord). beyond x (suc c.from) ≡ beyond x t) (sym k) (third (beyond c (suc c.from)) (beyond c c.from) (beyond c t) (start_apart c (ok.proper c m)) h)
            | inr k ↦ absurd (k.apart.0 q)
          ]
        ]) in
        right (same_piece cs c.from t) w
      where
        right : {b : Bool} (a : Bool) → b ≡ true → (a || b) ≡ true
        right true h = refl
        right false h = h

  -- the chord borders the piece of the span where no other chord parts it from the start
  pub borders_told : (same_piece cs c.from t || same_piece cs (suc c.from) t) ≡ not (list_any (parts_from c.from t) cs)
  borders_told = elim (cases_Bool (list_any (parts_from c.from t) cs)) [
    | inr q ↦ lies_beside q (separates c c.from t) refl ∙ ap not (sym q)
    | inl q ↦ neither (same_piece cs c.from t) (same_piece cs (suc c.from) t)
        (λ h. absurd (false≢true (sym (none_parts (inl h)) ∙ q))) (λ h. absurd (false≢true (sym (none_parts (inr h)) ∙ q))) ∙ ap not (sym q)
  ]
    where
      neither : (a b : Bool) → (a ≡ true → ⊥) → (b ≡ true → ⊥) → (a || b) ≡ false
      neither true b h k = absurd (h refl)
      neither false true h k = absurd (k refl)
      neither false false h k = refl

  -- where it does, the span lies in the piece just before its first end where the chord itself doesn't separate them
  pub side_told : (same_piece cs c.from t || same_piece cs (suc c.from) t) ≡ true → same_piece cs c.from t ≡ not (separates c c.from t)
  side_told h = elim (cases_Bool (same_piece cs c.from t)) [
    | inl q ↦ q ∙ ap not (sym (differ_same (beyond c c.from) (beyond c t) (alike cs c.from t q c m)))
    | inr q ↦
        let after : same_piece cs (suc c.from) t ≡ true = rw q at h in
        let same = alike cs (suc c.from) t after c m in
        q ∙ ap not (sym (elim (cases_Bool (separates c c.from t)) [
          | inl p ↦ p
          | inr p ↦ absurd (start_apart c (ok.proper c m) (same ∙ sym (differ-false (beyond c c.from) (beyond c t) p)))
        ]))
  ]

module _ (d : Drawing) (ok : IsEmbedded d) (f : Finger) (r : InRange d f) where
  -- a finger's chord is one of all
  own_there : Mem (chord_at d f.strand f.chord) (chords d)
  own_there =
      let w = listed d ok f r in
      let own = chord_at d f.strand f.chord in
      subst (Mem own) (sym w.old) (in_place own own w.before w.behind (inl refl))

  -- so the test of all other chords is that of the definition,
  pub borders_by : not (list_any (parts_from (chord_at d f.strand f.chord).from (entered d f)) (chords d)) ≡ borders d (chord_at d f.strand f.chord) (entered d f)
  borders_by = sym (borders_told (chords d) (is_diagram d ok) (chord_at d f.strand f.chord) own_there (entered d f))

  -- by the numbers of the two
  pub borders_from : (start segment : ℕ) → start ≡ (chord_at d f.strand f.chord).from → segment ≡ entered d f
      → not (list_any (parts_from start segment) (chords d)) ≡ borders d (chord_at d f.strand f.chord) (entered d f)
  borders_from start segment is at =
      ap (λ x. not (list_any (parts_from x segment) (chords d))) is
      ∙ (ap (λ x. not (list_any (parts_from (chord_at d f.strand f.chord).from x) (chords d))) at ∙ borders_by)

-- and the order of a legal finger's new points is told by its chord
pub order_by : (d : Drawing) → IsEmbedded d → (f : Finger) → IsLegal d f
    → not (separates (chord_at d f.strand f.chord) (chord_at d f.strand f.chord).from (entered d f)) ≡ same_piece (chords d) (chord_at d f.strand f.chord).from (entered d f)
order_by d ok f l =
    sym (side_told (chords d) (is_diagram d ok) (chord_at d f.strand f.chord) (own_there d ok f (range_of d f l)) (entered d f) l.borders_it)

-- the order as a number, from what is tested
pub order_from : (d : Drawing) → IsEmbedded d → (f : Finger) → IsLegal d f → (c : Chord) (start segment : ℕ) (apart : Bool) → c ≡ chord_at d f.strand f.chord → start ≡ c.from
    → segment ≡ entered d f → apart ≡ separates c start segment → (b : Bool) → apart ≡ b → ◌≡◌ {A = ℕ} (cond b 0 1) (cond (same_piece (chords d) (chord_at d f.strand f.chord).from (entered d f)) 1 0)
order_from d ok f l c start segment apart is starts at test b h =
    let own = chord_at d f.strand f.chord in
    let same : separates c start segment ≡ separates own own.from (entered d f)
    = ap (λ x. separates c x segment) starts ∙ (ap (separates c c.from) at ∙ ap (λ (k : Chord). separates k k.from (entered d f)) is) in
    let told : separates own own.from (entered d f) ≡ b = sym same ∙ (sym test ∙ h) in
    let piece = sym (order_by d ok f l) ∙ ap not told in
    rw piece (go b)
  where
    go : (b : Bool) → ◌≡◌ {A = ℕ} (cond b 0 1) (cond (not b) 1 0)
    go true = refl
    go false = refl
