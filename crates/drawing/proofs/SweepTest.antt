-- Where places are right the sweep says whether a drawing is embedded.
use Rattle.std.proofs.Common.{◌≡◌, ℕ, ◌+◌, ◌<◌, ◌≤◌, Bool, true, false, ltb, not, ◌⊎◌, List, [], ◌∷◌, refl, sym, ◌∙◌, ap, subst, arith, inl, inr, ◌≢◌}
use Rattle.std.specs.List.{list_all}
use Rattle.std.proofs.lemmas.Bool.{cases_lt, cases_eq, lt-ltb, le-ltb, eq-eqb, and_from, true≢false}
use Rattle.std.proofs.lemmas.List.Sums.{sum_by-cons}
use Rattle.page_surface.specs.Drawing.{Drawing, IsEmbedded, IsPlaced, Chord, beyond, chords, differ, offset, points_on, crosses, no_two_cross}
use Rattle.page_surface.specs.Polygon.{sides}
use Rattle.drawing.specs.Pieces.{span_count}
use Rattle.drawing.specs.Round.{other_end}
use Rattle.obd_base.specs.Lists.{Mem}
use Rattle.drawing.specs.Sweep.{swept}
use Rattle.obd_base.proofs.lists.Sums.{member_adds}
use Rattle.drawing.proofs.Placed.{ends_of, ends_at, at_most_one_end-placed, ends_past-placed}
use Rattle.drawing.proofs.Ends.{placed}
use Rattle.drawing.proofs.Mates.{Joins, end_here, ends_from, ends_to, other_from, other_to, other_twice, other_stays}
use Rattle.drawing.proofs.Diagram.{chord_at_spot, is_diagram, mate, mate_twice, mate_gap, which_place}
use Rattle.drawing.proofs.ChordTree.{Clear}
use Rattle.drawing.proofs.StackSweep.{Crossing, sweep_decides, sweep_passes}

-- the order of two tests is the same to `differ`
differ_comm : (b c : Bool) → differ b c ≡ differ c b
differ_comm true true = refl
differ_comm true false = refl
differ_comm false true = refl
differ_comm false false = refl

-- a chord by its two ends
abbrev pub chord : ℕ → ℕ → Chord
chord x y = record { from = x; to = y }

-- a chord read the other way crosses the same
pub crosses_turn_first : (x y : ℕ) (c : Chord) → crosses (chord x y) c ≡ crosses (chord y x) c
crosses_turn_first x y c = rw (differ_comm (ltb x c.from) (ltb y c.from), differ_comm (ltb x c.to) (ltb y c.to)) refl

-- and is crossed by the same
pub crosses_turn_second : (x y : ℕ) (c : Chord) → crosses c (chord x y) ≡ crosses c (chord y x)
crosses_turn_second x y c = differ_comm (beyond c x) (beyond c y)

-- a chord between two numbers is read in one of the two ways
as_chord : (c : Chord) (x y : ℕ) → Joins c x y → (c ≡ chord x y) ⊎ (c ≡ chord y x)
as_chord c x y (inl (p, q)) = inl (rw (p, q) refl)
as_chord c x y (inr (p, q)) = inr (rw (p, q) refl)

module _ (d : Drawing) (ok : IsEmbedded d) where
  -- chords from two different places that are not each other's ends don't cross, whichever way they are read
  pub mates_uncrossed : (k j l i : ℕ) → k < sides d.polygon → j ≤ points_on d k → l < sides d.polygon → i ≤ points_on d l
      → offset d k + j ≢ offset d l + i → mate d ok (offset d k + j) ≢ offset d l + i
      → crosses (chord (offset d k + j) (mate d ok (offset d k + j))) (chord (offset d l + i) (mate d ok (offset d l + i))) ≡ false
  mates_uncrossed k j l i lk lj ll li ne nm =
      let (c, m, join) = chord_at_spot d ok k j lk lj in
      let (e, n, join') = chord_at_spot d ok l i ll li in
      turned c e _ _ _ _ join join' ne nm ((is_diagram d ok).clear e c n m)
    where
      turned : (c e : Chord) (x y u v : ℕ) → Joins c x y → Joins e u v → x ≢ u → y ≢ u → (c ≡ e) ⊎ Clear c e → crosses (chord x y) (chord u v) ≡ false
      turned c e x y u v join join' ne nm (inl q) = absurd (elim join [
        | inl w ↦ elim join' [ inl r ↦ ne (sym w.0 ∙ (ap (λ (k : Chord). k.from) q ∙ r.0)) | inr r ↦ nm (sym w.1 ∙ (ap (λ (k : Chord). k.to) q ∙ r.0)) ]
        | inr w ↦ elim join' [ inl r ↦ nm (sym w.1 ∙ (ap (λ (k : Chord). k.from) q ∙ r.0)) | inr r ↦ ne (sym w.0 ∙ (ap (λ (k : Chord). k.to) q ∙ r.0)) ]
      ])
      turned c e x y u v join join' ne nm (inr clear) =
          let base : crosses c e ≡ false = clear.uncrossed in
          elim (as_chord c x y join) [
            | inl q ↦ elim (as_chord e u v join') [
              | inl r ↦ subst (λ f. crosses (chord x y) f ≡ false) r (subst (λ f. crosses f e ≡ false) q base)
              | inr r ↦ crosses_turn_second u v (chord x y) ∙ subst (λ f. crosses (chord x y) f ≡ false) r (subst (λ f. crosses f e ≡ false) q base)
            ]
            | inr q ↦ elim (as_chord e u v join') [
              | inl r ↦ crosses_turn_first x y (chord u v) ∙ subst (λ f. crosses (chord y x) f ≡ false) r (subst (λ f. crosses f e ≡ false) q base)
              | inr r ↦ crosses_turn_first x y (chord u v) ∙ (crosses_turn_second u v (chord y x) ∙ subst (λ f. crosses (chord y x) f ≡ false) r (subst (λ f. crosses f e ≡ false) q base))
            ]
          ]

-- chords whose ends don't interleave don't cross
apart_pairs : (p q r s : ℕ) → p < q → r < s → p ≢ r → p ≢ s → q ≢ r → q ≢ s → ((p < r) × (r < q) × (q < s) → ⊥) → ((r < p) × (p < s) × (s < q) → ⊥)
    → crosses (chord p q) (chord r s) ≡ false
apart_pairs p q r s a b n1 n2 n3 n4 no1 no2 = elim (cases_lt p s) [
  | inr h ↦ rw (le-ltb p r (omega arith), le-ltb q r (omega arith), le-ltb p s h, le-ltb q s (omega arith)) refl
  | inl h ↦ elim (cases_lt p r) [
    | inr g ↦ elim (cases_lt q s) [
      | inl f ↦ rw (le-ltb p r g, le-ltb q r (omega arith), lt-ltb p s h, lt-ltb q s f) refl
      | inr f ↦ absurd (no2 (omega arith, h, omega arith))
    ]
    | inl g ↦ elim (cases_lt q r) [
      | inl f ↦ rw (lt-ltb p r g, lt-ltb q r f, lt-ltb p s h, lt-ltb q s (omega arith)) refl
      | inr f ↦ elim (cases_lt q s) [
        | inl e ↦ absurd (no1 (g, omega arith, e))
        | inr e ↦ rw (lt-ltb p r g, le-ltb q r f, lt-ltb p s h, le-ltb q s e) refl
      ]
    ]
  ]
]

-- chords of which each two with four ends don't cross
pairs_uncrossed : (cs : List Chord) → ((x : ℕ) → ends_at cs x ≤ 1)
    → ((c e : Chord) → Mem c cs → Mem e cs → (c.from ≢ e.from) × (c.to ≢ e.from) × (c.from ≢ e.to) × (c.to ≢ e.to) → crosses c e ≡ false) → no_two_cross cs ≡ true
pairs_uncrossed [] once h = refl
pairs_uncrossed (c ∷ cs) once h =
    and_from (list_all (λ e. not (crosses c e)) cs) (no_two_cross cs) (each cs (λ e m. m))
    (pairs_uncrossed cs (λ x. omega (arith, sum_by-cons (λ k. ends_of k x) c cs, once x)) (λ a b m n. h a b (inr m) (inr n)))
  where
    apart : (e : Chord) → Mem e cs → (c.from ≢ e.from) × (c.to ≢ e.from) × (c.from ≢ e.to) × (c.to ≢ e.to)
    apart e m =
        let a = end_here c e.from (omega (arith, sum_by-cons (λ k. ends_of k e.from) c cs, member_adds (λ k. ends_of k e.from) e cs m, ends_from e, once e.from)) in
        let b = end_here c e.to (omega (arith, sum_by-cons (λ k. ends_of k e.to) c cs, member_adds (λ k. ends_of k e.to) e cs m, ends_to e, once e.to)) in
        (a.0, a.1, b.0, b.1)

    each : (es : List Chord) → ((e : Chord) → Mem e es → Mem e cs) → list_all (λ e. not (crosses c e)) es ≡ true
    each [] k = refl
    each (e ∷ es) k =
        let f : crosses c e ≡ false = h c e (inl refl) (inr (k e (inl refl))) (apart e (k e (inl refl))) in
        and_from (not (crosses c e)) (list_all (λ e. not (crosses c e)) es) (ap not f) (each es (λ x m. k x (inr m)))

module _ (d : Drawing) (ok : IsPlaced d) where
  -- the chords
  abbrev cs : List Chord
  cs = chords d

  -- the other end of the chord at a number
  abbrev other : ℕ → ℕ
  other x = other_end (chords d) x

  -- which is its own inverse
  twice : (x : ℕ) → other (other x) ≡ x
  twice x = other_twice cs (at_most_one_end-placed d ok) x

  -- the two ends of a chord are apart
  proper : (c : Chord) → Mem c cs → c.from ≢ c.to
  proper c m e =
      let k = member_adds (λ k. ends_of k c.from) c cs m in
      absurd (omega (arith, k, at_most_one_end-placed d ok c.from, two c e))
    where
      two : (c : Chord) → c.from ≡ c.to → 2 ≤ ends_of c c.from
      two c e = elim (cases_eq (ends_of c c.from) 1) [
        | inl q ↦ absurd (let a = ends_from c in elim (cases_lt (ends_of c c.from) 2) [ inl l ↦ both c e l | inr l ↦ omega (arith, l, q) ])
        | inr n ↦ omega (arith, ends_from c, n)
      ]
        where
          both : (c : Chord) → c.from ≡ c.to → ends_of c c.from < 2 → ⊥
          both c e l = absurd (let z : ends_of c c.from ≡ 2 = rw (eq-eqb c.from c.from refl, eq-eqb c.to c.from (sym e)) refl in omega (arith, z, l))

  -- a sweep that comes to its end shows that no two chords cross
  pub sweep_uncrossed : swept (other_end (chords d)) (span_count d) [] 0 ≡ true → no_two_cross (chords d) ≡ true
  sweep_uncrossed s =
      let none = sweep_decides other twice (span_count d) (λ x l. other_stays cs x (ends_past-placed d ok x l)) s in
      pairs_uncrossed cs (at_most_one_end-placed d ok) (λ c e m n apart.
      let a = other_from cs c (at_most_one_end-placed d ok) m in
      let b = other_from cs e (at_most_one_end-placed d ok) n in
      go none c.from c.to e.from e.to a b (other_to cs c (at_most_one_end-placed d ok) m) (other_to cs e (at_most_one_end-placed d ok) n) (proper c m) (proper e n) apart.0 apart.2 apart.1 apart.3)
    where
      up : ((a c : ℕ) → Crossing other twice a c → ⊥) → (p q r s : ℕ) → other p ≡ q → other r ≡ s → p < q → r < s → p ≢ r → p ≢ s → q ≢ r → q ≢ s → crosses (chord p q) (chord r s) ≡ false
      up none p q r s a b l k n1 n2 n3 n4 = apart_pairs p q r s l k n1 n2 n3 n4
          (λ w. none p r (w.0, omega (arith, w, a), omega (arith, w, a, b)))
          (λ w. none r p (w.0, omega (arith, w, b), omega (arith, w, a, b)))

      go : ((a c : ℕ) → Crossing other twice a c → ⊥) → (p q r s : ℕ) → other p ≡ q → other r ≡ s → other q ≡ p → other s ≡ r → p ≢ q → r ≢ s → p ≢ r → p ≢ s → q ≢ r → q ≢ s
          → crosses (chord p q) (chord r s) ≡ false
      go none p q r s a b a' b' np nr n1 n2 n3 n4 = elim (cases_lt p q) [
        | inl l ↦ elim (cases_lt r s) [
          | inl k ↦ up none p q r s a b l k n1 n2 n3 n4
          | inr k ↦ crosses_turn_second r s (chord p q) ∙ up none p q s r a b' l (omega (arith, k, nr)) n2 n1 n4 n3
        ]
        | inr l ↦ crosses_turn_first p q (chord r s) ∙ elim (cases_lt r s) [
          | inl k ↦ up none q p r s a' b (omega (arith, l, np)) k n3 n4 n1 n2
          | inr k ↦ crosses_turn_second r s (chord q p) ∙ up none q p s r a' b' (omega (arith, l, np)) (omega (arith, k, nr)) n4 n3 n2 n1
        ]
      ]

-- and in an embedded drawing it comes to its end
pub uncrossed_sweep : (d : Drawing) → IsEmbedded d → swept (other_end (chords d)) (span_count d) [] 0 ≡ true
uncrossed_sweep d ok = sweep_passes (λ x. other_end (chords d) x) (mate_twice d ok) (span_count d) none
  where
    end_of_chord : (x : ℕ) → x < span_count d → mate d ok x ≢ x → (k : ℕ) × (j : ℕ) × (k < sides d.polygon) × (j ≤ points_on d k) × (x ≡ offset d k + j)
    end_of_chord x l ne = elim (which_place d ok x l) [
      | inl w ↦ w
      | inr w ↦ (let (k, lk, e) = w in absurd (ne (subst (λ x. mate d ok x ≡ x) (sym e) (mate_gap d ok k))))
    ]

    inside : (x : ℕ) → mate d ok x ≢ x → x < span_count d
    inside x ne = elim (cases_lt x (span_count d)) [ inl l ↦ l | inr l ↦ absurd (ne (other_stays (chords d) x (ends_past-placed d (placed d ok) x l))) ]

    none : (a c : ℕ) → Crossing (λ x. other_end (chords d) x) (mate_twice d ok) a c → ⊥
    none a c w =
        let na : mate d ok a ≢ a = λ q. absurd (omega (arith, w, q)) in
        let nc : mate d ok c ≢ c = λ q. absurd (omega (arith, w, q)) in
        let (k, j, lk, lj, e) = end_of_chord a (inside a na) na in
        let (l, i, ll, li, f) = end_of_chord c (inside c nc) nc in
        crossed a c (mate d ok a) (mate d ok c) w.0 w.1 w.2
        (subst (λ c. crosses (chord a (mate d ok a)) (chord c (mate d ok c)) ≡ false) (sym f)
        (subst (λ a. crosses (chord a (mate d ok a)) (chord (offset d l + i) (mate d ok (offset d l + i))) ≡ false) (sym e)
        (mates_uncrossed d ok k j l i lk lj ll li (λ q. absurd (let z : a ≡ c = e ∙ (q ∙ sym f) in omega (arith, w, z)))
        (λ q. absurd (let z : mate d ok a ≡ c = ap (mate d ok) e ∙ (q ∙ sym f) in omega (arith, w, z))))))
      where
        crossed : (a c x y : ℕ) → a < c → c < x → x < y → crosses (chord a x) (chord c y) ≡ false → ⊥
        crossed a c x y p q r h = true≢false (rw (lt-ltb a c p, le-ltb x c (omega arith), lt-ltb a y (omega arith), lt-ltb x y r) at h)
