-- Where places are right every point of the place order, ends included and gaps not, is the end of exactly one chord.
use Rattle.std.proofs.Common.{◌≡◌, ℕ, suc, ◌+◌, ◌-◌, ◌<◌, ◌≤◌, Bool, true, false, eqb, ltb, ◌&&◌, List, [], ◌∷◌, length, refl, sym, ◌∙◌, ap, subst, arith, ◌⊎◌, inl, inr, ◌≢◌}
use Rattle.std.specs.List.{sum_by}
use Rattle.std.proofs.lemmas.Bool.{eqb-true, eq-eqb, ne_eqb, lt-ltb, ltb-true, cases_lt, cases_eq}
use Rattle.std.proofs.lemmas.List.Sums.{sum_by-cons}
use Rattle.page_surface.specs.Polygon.{Polygon, partner, sides, arc, arc_count, first_side, second_side, IsPolygon}
use Rattle.obd_base.specs.Lists.{below, Mem}
use Rattle.page_surface.specs.Drawing.{Drawing, all_exits, entry, spot, offset, points_on, stands_at, Chord, chords, strand_chords, strand_exits, cut_strand, end_of, IsPlaced}
use Rattle.obd_base.specs.declared.points.Exit.{Exit}
use Rattle.drawing.specs.Pieces.{span_count, gap}
use Rattle.page_surface.proofs.EmbeddedTest.{all_in}
use Rattle.page_surface.proofs.Partners.{points_partner}
use Rattle.obd_base.proofs.lists.Sums.{sum_same, sum_add, sum_none, sum_flat, sum_rows, count_below}
use Rattle.obd_base.proofs.lists.Below.{bit, mem_below}
use Rattle.drawing.proofs.Spots.{spot_apart, place_in_range, offset_rises, find_place}

-- how many ends of a chord have a number
abbrev pub ends_of : Chord → ℕ → ℕ
ends_of c x = bit (eqb c.from x) + bit (eqb c.to x)

-- and how many ends of all chords of a list
abbrev pub ends_at : List Chord → ℕ → ℕ
ends_at cs x = sum_by (λ c. ends_of c x) cs

-- how many of an exit and its entry have a number
abbrev pub exit_at : Drawing → ℕ → Exit → ℕ
exit_at d x e = bit (eqb (spot d e) x) + bit (eqb (spot d (entry d e)) x)

-- the chords of a strand end at its two ends, at its exits and at their entries
pub cut_ends : (d : Drawing) (x : ℕ) (a z : Exit) (es : List Exit)
    → ends_at (cut_strand d a es z) x ≡ bit (eqb (spot d a) x) + bit (eqb (spot d z) x) + sum_by (exit_at d x) es
cut_ends d x a z [] = omega (arith, sum_by-cons (λ c. ends_of c x) (record { from = spot d a; to = spot d z }) [])
cut_ends d x a z (e ∷ es) =
    omega (arith, sum_by-cons (λ c. ends_of c x) (record { from = spot d a; to = spot d e }) (cut_strand d (entry d e) es z), sum_by-cons (exit_at d x) e es, cut_ends d x (entry d e) z es)

-- the ends of strands at a number
abbrev pub arc_at : Drawing → ℕ → ℕ → ℕ
arc_at d x i = bit (eqb (spot d (end_of d (second_side d.polygon i))) x) + bit (eqb (spot d (end_of d (first_side d.polygon i))) x)

-- and so do the chords of a drawing
pub chord_ends : (d : Drawing) → length d.strands ≡ arc_count d.polygon → (x : ℕ)
    → ends_at (chords d) x ≡ sum_by (arc_at d x) (below (arc_count d.polygon)) + sum_by (exit_at d x) (all_exits d)
chord_ends d count x =
    let n = arc_count d.polygon in
    let one = sum_flat (λ c. ends_of c x) (strand_chords d) (below n) in
    let two = sum_same (λ i. ends_at (strand_chords d i) x) (λ i. arc_at d x i + sum_by (exit_at d x) (strand_exits d i)) (below n)
    (λ i m. cut_ends d x (end_of d (second_side d.polygon i)) (end_of d (first_side d.polygon i)) (strand_exits d i)) in
    let three = sum_add (arc_at d x) (λ i. sum_by (exit_at d x) (strand_exits d i)) (below n) in
    let four = sum_rows (exit_at d x) d.strands n count in
    omega (arith, one, two, three, four)

-- a number names a place where side and place are the same
pub spot_test : (d : Drawing) (l i k j : ℕ) → i ≤ points_on d l + 1 → j ≤ points_on d k + 1 → eqb (offset d l + i) (offset d k + j) ≡ (eqb l k && eqb i j)
spot_test d l i k j hi hj = elim (cases_eq (offset d l + i) (offset d k + j)) [
  | inl e ↦ (let r = spot_apart d l i k j hi hj e in rw (eq-eqb _ _ e, eq-eqb l k r.0, eq-eqb i j r.1) refl)
  | inr ne ↦ elim (cases_eq l k) [
    | inr n ↦ rw (ne_eqb _ _ ne, ne_eqb l k n) refl
    | inl q ↦ elim (cases_eq i j) [
      | inl p ↦ absurd (ne (let w : offset d l ≡ offset d k = ap (offset d) q in omega arith))
      | inr n ↦ rw (ne_eqb _ _ ne, eq-eqb l k q, ne_eqb i j n) refl
    ]
  ]
]

-- two tests that agree where a first one passes
bit_both : (a b c : Bool) → (a ≡ true → b ≡ c) → bit (a && b) ≡ bit (a && c)
bit_both true b c h = ap bit (h refl)
bit_both false b c h = refl

-- a test that fails where a first one passes
bit_never : (a b : Bool) → (a ≡ true → b ≡ false) → bit (a && b) ≡ 0
bit_never true b h = ap bit (h refl)
bit_never false b h = refl

-- an exit with a place on its side stands at a place of a side as often as it and its entry have the number of the place
pub exit_stands : (d : Drawing) → IsPolygon d.polygon → (k j : ℕ) → j < points_on d k → (e : Exit) → e.place < points_on d e.side → exit_at d (offset d k + j) e ≡ stands_at d e k j
exit_stands d ok k j l e pe =
    let p = d.polygon in
    let m = points_on d in
    let same = points_partner d ok e.side in
    let one : bit (eqb (spot d e) (offset d k + j)) ≡ bit (eqb e.side k && eqb e.place j)
    = ap bit (spot_test d e.side e.place k j (omega arith) (omega arith)) in
    let here : (eqb (partner p e.side) k ≡ true) → eqb (m e.side - 1 - e.place) j ≡ eqb (suc (e.place + j)) (m k) = λ q.
    let w : m e.side ≡ m k = sym same ∙ ap m (eqb-true _ _ q) in
    elim (cases_eq (suc (e.place + j)) (m k)) [
      | inl r ↦ rw (eq-eqb (suc (e.place + j)) (m k) r, eq-eqb (m e.side - 1 - e.place) j (omega arith)) refl
      | inr r ↦ rw (ne_eqb (suc (e.place + j)) (m k) r, ne_eqb (m e.side - 1 - e.place) j (λ z. r (omega arith))) refl
    ] in
    let two : bit (eqb (spot d (entry d e)) (offset d k + j)) ≡ bit (eqb (partner p e.side) k && eqb (suc (e.place + j)) (m k))
    = ap bit (spot_test d (partner p e.side) (m e.side - 1 - e.place) k j (omega (arith, same)) (omega arith)) ∙ bit_both _ _ _ here in
    omega (arith, one, two)

-- a side is one of the two sides of one arc
pub one_arc : (p : Polygon) → IsPolygon p → (k i : ℕ) → k < sides p → i < arc_count p → bit (eqb (second_side p i) k) + bit (eqb (first_side p i) k) ≡ bit (eqb (arc p k) i)
one_arc p ok k i lk li = elim (cases_eq (arc p k) i) [
  | inr ne ↦ (let a : eqb (second_side p i) k ≡ false = ne_eqb _ _ (λ q. ne (ap (arc p) (sym q) ∙ (ok.shared (first_side p i) (ok.first_in_range i li) ∙ ok.first_named i li))) in
      let b : eqb (first_side p i) k ≡ false = ne_eqb _ _ (λ q. ne (ap (arc p) (sym q) ∙ ok.first_named i li)) in
      rw (a, b, ne_eqb _ _ ne) refl)
  | inl e ↦
      let moves : second_side p i ≢ first_side p i = ok.pairs.moves (first_side p i) (ok.first_in_range i li) in
      let which : (k ≡ first_side p i) ⊎ (k ≡ second_side p i) = subst (λ a. (k ≡ first_side p a) ⊎ (k ≡ second_side p a)) e (ok.ends k lk).is_end in
      elim which [
        | inl q ↦ rw (eq-eqb (first_side p i) k (sym q), ne_eqb (second_side p i) k (λ z. moves (z ∙ q)), eq-eqb (arc p k) i e) refl
        | inr q ↦ rw (eq-eqb (second_side p i) k (sym q), ne_eqb (first_side p i) k (λ z. moves (sym q ∙ sym z)), eq-eqb (arc p k) i e) refl
      ]
]

module _ (d : Drawing) (ok : IsPlaced d) where
  -- the polygon
  abbrev p : Polygon
  p = d.polygon

  -- how many points a side has
  abbrev m : ℕ → ℕ
  m = points_on d

  -- each exit stands on a side
  pub side_in-placed : (e : Exit) → Mem e (all_exits d) → e.side < sides d.polygon
  side_in-placed e i = ltb-true _ _ (all_in (λ e. ltb e.side (sides d.polygon)) e (all_exits d) ok.on_sides i)

  -- at a place of it
  pub place_in-placed : (e : Exit) → Mem e (all_exits d) → e.place < points_on d e.side
  place_in-placed e i = place_in_range d ok.polygon ok.places e i (side_in-placed e i)

  -- a side has as many points as its partner
  pub same_count-placed : (k : ℕ) → points_on d (partner d.polygon k) ≡ points_on d k
  same_count-placed k = points_partner d ok.polygon k

  -- an exit has the number of a point as often as it stands there
  exit_at_point : (k j : ℕ) → j < m k → (e : Exit) → Mem e (all_exits d) → exit_at d (offset d k + j) e ≡ stands_at d e k j
  exit_at_point k j l e i = exit_stands d ok.polygon k j l e (place_in-placed e i)

  -- no exit at the end of a side or at its gap
  exit_not_at : (k j : ℕ) → m k ≤ j → j ≤ m k + 1 → (e : Exit) → Mem e (all_exits d) → exit_at d (offset d k + j) e ≡ 0
  exit_not_at k j l h e i =
      let one : bit (eqb (spot d e) (offset d k + j)) ≡ 0
      = ap bit (spot_test d e.side e.place k j (omega (arith, place_in-placed e i)) h)
      ∙ bit_never _ _ (λ q. ne_eqb e.place j (λ z. let w : m e.side ≡ m k = ap m (eqb-true _ _ q) in omega (arith, place_in-placed e i))) in
      let two : bit (eqb (spot d (entry d e)) (offset d k + j)) ≡ 0
      = ap bit (spot_test d (partner p e.side) (m e.side - 1 - e.place) k j (omega (arith, same_count-placed e.side)) h)
      ∙ bit_never _ _ (λ q. ne_eqb (m e.side - 1 - e.place) j (λ z. let w : m e.side ≡ m k = sym (same_count-placed e.side) ∙ ap m (eqb-true _ _ q) in omega (arith, place_in-placed e i))) in
      omega (arith, one, two)

  -- one strand has an end at the end of a side
  arcs_at_end : (k : ℕ) → k < sides p → sum_by (arc_at d (offset d k + m k)) (below (arc_count p)) ≡ 1
  arcs_at_end k l =
      let term : (i : ℕ) → Mem i (below (arc_count p)) → arc_at d (offset d k + m k) i ≡ bit (eqb (arc p k) i) = λ i im.
      let at : (s : ℕ) → bit (eqb (offset d s + m s) (offset d k + m k)) ≡ bit (eqb s k) = λ s.
      ap bit (spot_test d s (m s) k (m k) (omega arith) (omega arith)) ∙ (bit_both _ _ true (λ q. eq-eqb _ _ (ap m (eqb-true _ _ q))) ∙ drop_true (eqb s k)) in
      omega (arith, at (second_side p i), at (first_side p i), one_arc p ok.polygon k i l (mem_below _ _ im)) in
      let in_range : bit (ltb (arc p k) (arc_count p)) ≡ 1 = ap bit (lt-ltb _ _ (ok.polygon.ends k l).arc_in_range) in
      sum_same _ _ _ term ∙ (count_below (arc p k) (arc_count p) ∙ in_range)
    where
      drop_true : (b : Bool) → bit (b && true) ≡ bit b
      drop_true true = refl
      drop_true false = refl

  -- and none at another number of the side
  arcs_not_at : (k j : ℕ) → j ≤ m k + 1 → j ≢ m k → sum_by (arc_at d (offset d k + j)) (below (arc_count p)) ≡ 0
  arcs_not_at k j l ne = sum_none _ (below (arc_count p)) (λ i im.
      let at : (s : ℕ) → bit (eqb (offset d s + m s) (offset d k + j)) ≡ 0 = λ s.
      ap bit (spot_test d s (m s) k j (omega arith) l) ∙ bit_never (eqb s k) (eqb (m s) j) (λ q. ne_eqb (m s) j (λ z. ne (sym z ∙ ap m (eqb-true s k q)))) in
      omega (arith, at (second_side p i), at (first_side p i)))

  -- each point and each end of a side is the end of exactly one chord
  pub one_end-placed : (k j : ℕ) → k < sides p → j ≤ points_on d k → ends_at (chords d) (offset d k + j) ≡ 1
  one_end-placed k j lk lj =
      let all = chord_ends d ok.strand_count (offset d k + j) in
      elim (cases_eq j (m k)) [
        | inl e ↦
            (let a : sum_by (arc_at d (offset d k + j)) (below (arc_count p)) ≡ 1 = rw e (arcs_at_end k lk) in
            let b = sum_none (exit_at d (offset d k + j)) (all_exits d) (λ x i. exit_not_at k j (omega arith) (omega arith) x i) in
            omega (arith, all, a, b))
        | inr ne ↦
            (let a = arcs_not_at k j (omega arith) ne in
            let b = sum_same (exit_at d (offset d k + j)) (λ x. stands_at d x k j) (all_exits d) (λ x i. exit_at_point k j (omega arith) x i) in
            omega (arith, all, a, b, ok.places k lk j (omega arith)))
      ]

  -- no chord ends at a gap
  pub no_end_at_gap-placed : (k : ℕ) → ends_at (chords d) (offset d k + (points_on d k + 1)) ≡ 0
  no_end_at_gap-placed k =
      let j = m k + 1 in
      let all = chord_ends d ok.strand_count (offset d k + j) in
      let a = arcs_not_at k j (omega arith) (λ q. absurd (omega arith)) in
      let b = sum_none (exit_at d (offset d k + j)) (all_exits d) (λ x i. exit_not_at k j (omega arith) (omega arith) x i) in
      omega (arith, all, a, b)

module _ (d : Drawing) (ok : IsPlaced d) where
  -- a point of a side, its end and its gap have numbers of the place order
  pub inside : (k j : ℕ) → k < sides d.polygon → j ≤ points_on d k + 1 → offset d k + j < span_count d
  inside k j lk lj = omega (arith, offset_rises d k (sides d.polygon) lk)

  -- no chord ends past the place order
  pub ends_past-placed : (x : ℕ) → span_count d ≤ x → ends_at (chords d) x ≡ 0
  ends_past-placed x h =
      let far : (s i : ℕ) → s < sides d.polygon → i ≤ points_on d s + 1 → bit (eqb (offset d s + i) x) ≡ 0 = λ s i l g. ap bit (ne_eqb (offset d s + i) x (λ q. omega (arith, inside s i l g))) in
      let a = sum_none (arc_at d x) (below (arc_count d.polygon)) (λ i im.
      let f = ok.polygon.first_in_range i (mem_below _ _ im) in
      omega (
        arith,
        far (first_side d.polygon i) (points_on d (first_side d.polygon i)) f (omega arith),
        far (second_side d.polygon i) (points_on d (second_side d.polygon i)) (ok.polygon.pairs.in_range _ f) (omega arith),
      )) in
      let b = sum_none (exit_at d x) (all_exits d) (λ e em.
      let p = place_in-placed d ok e em in
      omega (
        arith,
        far e.side e.place (side_in-placed d ok e em) (omega arith),
        far (partner d.polygon e.side) (points_on d e.side - 1 - e.place) (ok.polygon.pairs.in_range _ (side_in-placed d ok e em)) (omega (arith, same_count-placed d ok e.side)),
      )) in
      omega (arith, chord_ends d ok.strand_count x, a, b)

  -- each number of the place order is that of a point or the end of a side, or a gap
  pub which_place-placed : (x : ℕ) → x < span_count d →
      ((k : ℕ) × (j : ℕ) × (k < sides d.polygon) × (j ≤ points_on d k) × (x ≡ offset d k + j)) ⊎ ((k : ℕ) × (k < sides d.polygon) × (x ≡ gap d k))
  which_place-placed x l =
      let (k, j, lk, lj, e) = find_place d (sides d.polygon) x l in
      elim (cases_eq j (points_on d k + 1)) [
        | inl q ↦ inr (k, lk, omega arith)
        | inr ne ↦ inl (k, j, lk, omega arith, e)
      ]

  -- each number is the end of at most one chord
  pub at_most_one_end-placed : (x : ℕ) → ends_at (chords d) x ≤ 1
  at_most_one_end-placed x = elim (cases_lt x (span_count d)) [
    | inr h ↦ omega (arith, ends_past-placed x h)
    | inl l ↦ elim (which_place-placed x l) [
      | inl w ↦ (let (k, j, lk, lj, e) = w in subst (λ y. ends_at (chords d) y ≤ 1) (sym e) (omega (arith, one_end-placed d ok k j lk lj)))
      | inr w ↦ (let (k, lk, e) = w in
          let g : x ≡ offset d k + (points_on d k + 1) = omega arith in
          subst (λ y. ends_at (chords d) y ≤ 1) (sym g) (omega (arith, no_end_at_gap-placed d ok k)))
    ]
  ]
