-- A set of inner pieces marks spans: the mark is the same on the two sides of a chord's end, and no base span is marked.
use Rattle.std.proofs.Common.{◌≡◌, ℕ, zero, suc, ◌+◌, ◌-◌, ◌≤◌, ◌<◌, inl, inr, ◌≢◌, Bool, true, cond, List, get_or, map, refl, sym, ap, arith, ◌∙◌}
use Rattle.std.specs.List.{list_any, position_or_len, range_with_len}
use Rattle.std.proofs.lemmas.Bool.{cases_eq, cases_lt, cases_Bool, lt-ltb, le-ltb, or_right}
use Rattle.std.proofs.lemmas.List.{get_or_past}
use Rattle.std.proofs.lemmas.List.FromFn.{length-map-range_with_len}
use mathlib.Core.Path.{fun_ext}
use Rattle.drawing.proofs.ChordTree.{IsDiagram, ends, outside_same, same_from_each, beyond-suc}
use Rattle.drawing.proofs.SamePiece.{table_at, same_piece_same, same_piece_sym, same_piece_refl}
use Rattle.drawing.proofs.Spots.{offset_suc}
use Rattle.drawing.specs.Pieces.{piece_table, same_piece, spans, span_count, gap, is_base, inner_pieces}
use Rattle.empty_domains.proofs.Circle.{IsMark}
use Rattle.empty_domains.proofs.Diagram.{other_from, other_to, IsCross, IsEnd, IsPoint, other_of, of_point}
use Rattle.empty_domains.proofs.Places.{place_unique, place_exists, offset_up}
use Rattle.empty_domains.proofs.Strands.{ended_at, chord_points}
use Rattle.drawing.proofs.Boundary.{inside_same}
use Rattle.hkm_diagram.proofs.ContactColumn.{mark}
use Rattle.hkm_diagram.proofs.ContactLaw.{base_unmarked, member_marked}
use Rattle.drawing.proofs.Diagram.{is_diagram}
use Rattle.obd_base.specs.Lists.{has, Mem}
use Rattle.page_surface.specs.Drawing.{Drawing, offset, points_on, Chord, chords, beyond, IsEmbedded}
use Rattle.page_surface.specs.Polygon.{sides}

-- from the span before one end of a chord the piece goes on after the other end
pub round_from : (cs : List Chord) → IsDiagram cs → (c : Chord) → Mem c cs → same_piece cs (suc c.to) c.from ≡ true
round_from cs ok c i = elim (ends c) [
  | inl e ↦ same_piece_sym cs c.from (suc c.to) (let h = outside_same cs ok c i in rw (e.0, e.1) at h)
  | inr e ↦ (let h = inside_same cs ok c i in rw (e.0, e.1) at h)
]

-- and from the other end likewise
pub round_to : (cs : List Chord) → IsDiagram cs → (c : Chord) → Mem c cs → same_piece cs (suc c.from) c.to ≡ true
round_to cs ok c i = elim (ends c) [
  | inl e ↦ (let h = inside_same cs ok c i in rw (e.0, e.1) at h)
  | inr e ↦ same_piece_sym cs c.to (suc c.from) (let h = outside_same cs ok c i in rw (e.0, e.1) at h)
]

-- a test that a number below a bound passes
pub any_below : (p : ℕ → Bool) (f : ℕ → ℕ) (a n k : ℕ) → a ≤ k → k < a + n → p (f k) ≡ true → list_any p (map f (range_with_len a n)) ≡ true
any_below p f a zero k l h q = absurd (omega arith)
any_below p f a (suc n) k l h q = elim (cases_eq a k) [
  | inl e ↦ (let q' : p (f a) ≡ true = rw e q in rw q' refl)
  | inr e ↦ or_right (p (f a)) _ (any_below p f (a + 1) n k (omega arith) (omega arith) q)
]

module _ (d : Drawing) (ok : IsEmbedded d) where
  -- a side lies in the place order
  pub side_under : (k : ℕ) → k < sides d.polygon → offset d k + (points_on d k + 2) ≤ span_count d
  side_under k l = offset_up d k (sides d.polygon) l

  -- the span behind a point is one of the place order
  pub point_under : (x : ℕ) → IsPoint d x → suc x < span_count d
  point_under x p = let (k, j, lk, lj, e) = of_point d x p in omega (arith, side_under k lk)

  -- the piece of a span goes on after the other end of the chord at the span's end
  pub next_same : (x : ℕ) → IsPoint d x → same_piece (chords d) (suc (other_of d x)) x ≡ true
  next_same x p =
      let (c, m, h) = ended_at d ok x p in
      elim h [
        | inl e ↦ (let f = other_from d ok c m in rw (← e, f) (round_from (chords d) (is_diagram d ok) c m))
        | inr e ↦ (let f = other_to d ok c m in rw (← e, f) (round_to (chords d) (is_diagram d ok) c m))
      ]

  -- a span in the piece of a gap is base
  pub base_by_gap : (s k : ℕ) → k < sides d.polygon → same_piece (chords d) s (gap d k) ≡ true → is_base d s ≡ true
  base_by_gap s k l h = any_below (same_piece (chords d) s) (gap d) 0 (sides d.polygon) k (omega arith) (omega arith) h

  not_gap : (x k : ℕ) → IsPoint d x → x ≢ gap d k
  not_gap x k p e =
      let (l, j, ll, lj, q) = of_point d x p in
      let u = place_unique d l k j (points_on d k + 1) (omega arith) (omega arith) (omega arith) in
      let v : points_on d l ≡ points_on d k = ap (points_on d) u.0 in
      omega (arith, u.1)

  -- the first segment of a side lies in the piece of the gap before it
  start_base : (k : ℕ) → suc k < sides d.polygon → is_base d (offset d (suc k)) ≡ true
  start_base k l = base_by_gap (offset d (suc k)) k (omega arith) (same_from_each (chords d) _ _ each)
    where
      e : offset d (suc k) ≡ suc (gap d k)
      e = omega (arith, offset_suc d k)

      each : (c : Chord) → Mem c (chords d) → beyond c (offset d (suc k)) ≡ beyond c (gap d k)
      each c i =
          let p = chord_points d ok c i in
          rw e (beyond-suc c (gap d k) (not_gap c.from k p.0) (not_gap c.to k p.1))

  -- the first segment of all lies in the piece of the last gap
  zero_base : (n : ℕ) → sides d.polygon ≡ suc n → is_base d 0 ≡ true
  zero_base n e = base_by_gap 0 n (omega arith) (same_from_each (chords d) _ _ each)
    where
      early : (x : ℕ) → IsPoint d x → x < gap d n
      early x p =
          let (k, j, lk, lj, q) = of_point d x p in
          elim (cases_eq k n) [
            | inl h ↦ (let u : points_on d k ≡ points_on d n = ap (points_on d) h in let v : offset d k ≡ offset d n = ap (offset d) h in omega arith)
            | inr h ↦ omega (arith, offset_up d k n (omega arith))
          ]

      each : (c : Chord) → Mem c (chords d) → beyond c 0 ≡ beyond c (gap d n)
      each c i =
          let p = chord_points d ok c i in
          rw (le-ltb c.from 0 (omega arith), le-ltb c.to 0 (omega arith), lt-ltb c.from (gap d n) (early c.from p.0), lt-ltb c.to (gap d n) (early c.to p.1)) refl

  -- a gap is base
  pub gap_base : (k : ℕ) → k < sides d.polygon → is_base d (gap d k) ≡ true
  gap_base k l = base_by_gap (gap d k) k l (same_piece_refl (chords d) (gap d k))

  module _ (set : List ℕ) (inner : (s : ℕ) → has set s ≡ true → has (inner_pieces d) s ≡ true) where
    pub mark_same : (s t : ℕ) → s < span_count d → t < span_count d → same_piece (chords d) s t ≡ true → mark d set s ≡ mark d set t
    mark_same s t ls lt h =
        let e : get_or (piece_table d) s 0 ≡ get_or (piece_table d) t 0
        = table_at d s ls ∙ (ap (λ q. position_or_len q (spans d)) (fun_ext (λ u. same_piece_same (chords d) s t u h)) ∙ sym (table_at d t lt)) in
        ap (λ n. cond {A = ℕ} (has set n) 1 0) e

    mark_bit : (s : ℕ) → mark d set s ≤ 1
    mark_bit s = elim (cases_Bool (has set (get_or (piece_table d) s 0))) [ inl q ↦ rw q (omega arith) | inr q ↦ rw q (omega arith) ]

    mark_follows : (x : ℕ) → IsPoint d x → mark d set (suc (other_of d x)) ≡ mark d set x
    mark_follows x p =
        let h = next_same x p in
        let (c, m, w) = ended_at d ok x p in
        let l : suc (other_of d x) < span_count d = elim w [
          | inl e ↦ (let f = other_from d ok c m in rw (← e, f) (point_under c.to (chord_points d ok c m).1))
          | inr e ↦ (let f = other_to d ok c m in rw (← e, f) (point_under c.from (chord_points d ok c m).0))
        ] in
        mark_same (suc (other_of d x)) x l (let u = point_under x p in omega arith) h

    base_zero : (s : ℕ) → s < span_count d → is_base d s ≡ true → mark d set s ≡ 0
    base_zero = base_unmarked d set inner

    start_zero : (k : ℕ) → k < sides d.polygon → mark d set (offset d k) ≡ 0
    start_zero zero l = base_zero 0 (let h = side_under 0 l in omega arith) (go (sides d.polygon - 1) (omega arith))
      where
        go : (n : ℕ) → sides d.polygon ≡ suc n → is_base d 0 ≡ true
        go n e = zero_base n e
    start_zero (suc k) l = base_zero (offset d (suc k)) (let h = side_under (suc k) l in omega arith) (start_base k l)

    zero_unmarked : mark d set 0 ≡ 0
    zero_unmarked = elim (cases_eq (sides d.polygon) 0) [
      | inl e ↦ elim (cases_Bool (has set (get_or (piece_table d) 0 0))) [
        | inl q ↦ absurd (let m = member_marked d set inner _ q in let z : span_count d ≡ 0 = ap (offset d) e in omega (arith, m.0, z))
        | inr q ↦ rw q refl
      ]
      | inr n ↦ start_zero 0 (omega arith)
    ]

    past_zero : (s : ℕ) → span_count d ≤ s → mark d set s ≡ 0
    past_zero s l =
        let e : get_or (piece_table d) s 0 ≡ 0 = get_or_past (piece_table d) s 0 (rw length-map-range_with_len l) in
        elim (cases_Bool (has set 0)) [
          | inl q ↦ absurd (let m = member_marked d set inner 0 q in omega (arith, m.1, zero_unmarked))
          | inr q ↦ rw (e, q) refl
        ]

    mark_inner : (s : ℕ) → mark d set s ≡ 1 → (x : ℕ) × (s ≡ suc x) × IsCross d x
    mark_inner s e = elim (cases_lt s (span_count d)) [
      | inr l ↦ absurd (omega (arith, past_zero s l, e))
      | inl l ↦ at (place_exists d (sides d.polygon) s l)
    ]
      where
        at : (k : ℕ) × (j : ℕ) × (k < sides d.polygon) × (j < points_on d k + 2) × (s ≡ offset d k + j) → (x : ℕ) × (s ≡ suc x) × IsCross d x
        at (k, zero, lk, lj, q) = absurd (let z : s ≡ offset d k = omega arith in let u : mark d set s ≡ 0 = rw z (start_zero k lk) in omega arith)
        at (k, suc j, lk, lj, q) = elim (cases_eq j (points_on d k)) [
          | inl h ↦ absurd (
              let z : s ≡ gap d k = omega arith in
              let u : mark d set s ≡ 0 = rw z (base_zero (gap d k) (let w = side_under k lk in omega arith) (gap_base k lk)) in
              omega arith)
          | inr h ↦ (offset d k + j, omega arith, record { side = k; place = j; on = lk; under = omega arith; number = refl })
        ]

    -- a set of inner pieces is a mark on the circle
    pub set_mark : IsMark (other_of d) (IsCross d) (IsEnd d) (mark d set)
    set_mark = record { bit = mark_bit; follows = mark_follows; inner = mark_inner }
