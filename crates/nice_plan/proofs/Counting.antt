-- Counts by rows: what one more at a place changes, and what stands before a segment or a chord.
use Rattle.std.proofs.Common.{◌≡◌, ℕ, suc, ◌+◌, ◌-◌, ◌*◌, ◌<◌, ◌≤◌, ◌^◌, List, [], ◌∷◌, ◌++◌, length, get_or, take, drop, sum, refl, sym, ◌∙◌, ap, subst, arith, ◌≢◌, inl, inr}
use Rattle.std.specs.List.{sum_by}
use Rattle.std.proofs.Math.Nat.{mul-le-mul_left}
use Rattle.std.proofs.Math.Seq.{get_or-append_seam, take-set-lt, take-suc}
use Rattle.std.proofs.lemmas.Bool.{cases_eq, cases_lt, eq-eqb, ne_eqb, le-leb, le-ltb, lt-leb, lt-ltb}
use Rattle.std.proofs.lemmas.List.{get_or_append_left, get_or-set_other, get_or-set_same, get_or-take, length-append, length-set, length-take, take-append-le, take-set-le}
use Rattle.std.proofs.Math.ListN.{get_or-eq_default}
use Rattle.std.proofs.lemmas.List.Folds.{sum_by-replicate}
use Rattle.std.proofs.lemmas.List.Sums.{sum_by-append, sum_by-cons, sum_by-set, sum_by-take-le}
use Rattle.obd_base.specs.declared.points.Exit.{Exit}
use Rattle.page_surface.specs.Drawing.{Drawing, all_exits, points_on, strand_exits}
use Rattle.page_surface.specs.Polygon.{IsPolygon, arc_count, partner, sides}
use Rattle.page_surface.proofs.Partners.{points_partner}
use Rattle.nice_plan.specs.declared.chord_name.ChordName.{ChordName}
use Rattle.nice_plan.specs.Counted.{AreChordsCounted, HasRows, IsCounted, IsEmpty, before, both_marked, marked, row}
use Rattle.nice_plan.specs.Counts.{one_more, zeros}
use Rattle.nice_plan.specs.Measured.{IsChordOn, IsOn}
use Rattle.nice_plan.specs.Numbers.{chord_lift, lift}
use Rattle.nice_plan.proofs.PlanSteps.{strand_few}
use Rattle.nice_plan.proofs.RaisedRows.{chord_small, take_whole}

-- one more at a place of a list
more_sum : (xs : List ℕ) (x : ℕ) → x < length xs → sum (one_more xs x) ≡ sum xs + 1
more_sum xs x l = let a = sum_by-set (λ x. x) xs x (get_or xs x 0 + 1) 0 l in omega (arith, a)

more_behind : (xs : List ℕ) (x y : ℕ) → y ≤ x → sum (take y (one_more xs x)) ≡ sum (take y xs)
more_behind xs x y l = ap sum (take-set-le y xs x (get_or xs x 0 + 1) l)

more_before : (xs : List ℕ) (x y : ℕ) → x < length xs → x < y → sum (take y (one_more xs x)) ≡ sum (take y xs) + 1
more_before xs x y l b =
    let a = sum_by-set (λ x. x) (take y xs) x (get_or xs x 0 + 1) 0 (omega (arith, length-take y xs, l, b)) in
    let c = get_or-take y xs x 0 b in
    ap sum (take-set-lt y xs x (get_or xs x 0 + 1) b) ∙ omega (arith, a, c)

module _ (rows : List (List ℕ)) (k x : ℕ) (there : k < length rows) where
  row_same : row (marked rows k x) k ≡ one_more (row rows k) x
  row_same = get_or-set_same rows k (one_more (row rows k) x) [] there

  row_other : (j : ℕ) → j ≢ k → row (marked rows k x) j ≡ row rows j
  row_other j o = get_or-set_other rows k j (one_more (row rows k) x) [] o

  -- a row keeps its places
  row_long : (j : ℕ) → length (row (marked rows k x) j) ≡ length (row rows j)
  row_long j = elim (cases_eq j k) [
    | inl e ↦ ap (λ i. length (row (marked rows k x) i)) e ∙ (ap length row_same ∙ (length-set (row rows k) x _ ∙ ap (λ i. length (row rows i)) (sym e)))
    | inr o ↦ ap length (row_other j o)
  ]

  pub marked_rows : {n : ℕ} {places : ℕ → ℕ} → HasRows n places rows → HasRows n places (marked rows k x)
  marked_rows h = record { count = length-set rows k _ ∙ h.count; room = λ j l. let a = h.room j l in omega (arith, a, row_long j) }

  module _ (inside : x < length (row rows k)) where
    -- and gets one more at most
    pub row_sum : (j : ℕ) → sum (row (marked rows k x) j) ≤ sum (row rows j) + 1
    row_sum j = elim (cases_eq j k) [
      | inl e ↦ (let a = more_sum (row rows k) x inside in let b = ap (λ i. sum (row (marked rows k x) i)) e in let c = ap (λ i. sum (row rows i)) e in omega (arith, a, b, c, ap sum row_same))
      | inr o ↦ (let a = ap sum (row_other j o) in omega (arith, a))
    ]

    pub before_other : (j y : ℕ) → j ≢ k → before (marked rows k x) j y ≡ before rows j y
    before_other j y o = ap (λ xs. sum (take y xs)) (row_other j o)

    pub before_low : (j y : ℕ) → j ≡ k → y ≤ x → before (marked rows k x) j y ≡ before rows j y
    before_low j y e l = ap (λ i. before (marked rows k x) i y) e ∙ (ap (λ xs. sum (take y xs)) row_same ∙ (more_behind (row rows k) x y l ∙ ap (λ i. before rows i y) (sym e)))

    pub before_high : (j y : ℕ) → j ≡ k → x < y → before (marked rows k x) j y ≡ before rows j y + 1
    before_high j y e l =
        let a = more_before (row rows k) x y inside l in
        let b = ap (λ i. before rows i y) e in
        let c = ap (λ xs. sum (take y xs)) row_same in
        ap (λ i. before (marked rows k x) i y) e ∙ omega (arith, a, b, c)

pub row_put : (n : ℕ) (places : ℕ → ℕ) (rows : List (List ℕ)) (r : List ℕ) → IsEmpty n places rows → places n < length r → r ≡ zeros (length r) → IsEmpty (n + 1) places (rows ++ (r ∷ []))
row_put n places rows r h room none = record {
  shape = record {
    count = length-append rows (r ∷ []) ∙ omega (arith, h.shape.count);
    room = λ k l. elim (cases_lt k n) [
      | inl b ↦ subst (λ xs. places k < length xs) (sym (old k b)) (h.shape.room k b)
      | inr b ↦ (let e : k ≡ n = omega (arith, b, l) in subst (λ xs. places k < length xs) (sym (new k e)) (subst (λ i. places i < length r) (sym e) room))
    ];
  };
  none = λ k. elim (cases_lt k n) [
    | inl b ↦ ap sum (old k b) ∙ h.none k
    | inr b ↦ elim (cases_eq k n) [
      | inl e ↦ (let a = sum_by-replicate (λ (x : ℕ). x) (length r) 0 in ap sum (new k e ∙ none) ∙ omega (arith, a))
      | inr o ↦ ap sum (get_or-eq_default (rows ++ (r ∷ [])) [] (omega (arith, length-append rows (r ∷ []), h.shape.count, b, o)))
    ]
  ];
}
  where
    old : (k : ℕ) → k < n → row (rows ++ (r ∷ [])) k ≡ row rows k
    old k b = get_or_append_left rows (r ∷ []) [] k (omega (arith, b, h.shape.count))

    new : (k : ℕ) → k ≡ n → row (rows ++ (r ∷ [])) k ≡ r
    new k e = ap (row (rows ++ (r ∷ []))) (e ∙ sym h.shape.count) ∙ get_or-append_seam rows r [] []

-- a sum over one more
sum_last : {X : Type 0} (f : X → ℕ) (xs : List X) (x : X) → sum_by f (xs ++ (x ∷ [])) ≡ sum_by f xs + f x
sum_last f xs x = let a = sum_by-append f xs (x ∷ []) in let b = sum_by-cons f x [] in omega (arith, a, b)

-- one segment more
module _ (d : Drawing) (ok : IsPolygon d.polygon) (s : Exit) (on : IsOn d s) (rows : List (List ℕ)) (shape : HasRows (sides d.polygon) (points_on d) rows) where
  abbrev glued : ℕ
  glued = partner d.polygon s.side

  abbrev glued_place : ℕ
  glued_place = points_on d s.side - s.place

  abbrev once : List (List ℕ)
  once = marked rows s.side s.place

  first_row : s.side < length rows
  first_row = omega (arith, shape.count, on.side)

  pub first_place : s.place < length (row rows s.side)
  first_place = let a = shape.room s.side on.side in omega (arith, a, on.place)

  shape_once : HasRows (sides d.polygon) (points_on d) once
  shape_once = marked_rows rows s.side s.place first_row shape

  second_row : glued < length once
  second_row = omega (arith, shape_once.count, ok.pairs.in_range s.side on.side)

  pub second_place : glued_place < length (row once glued)
  second_place = let a = shape_once.room glued (ok.pairs.in_range s.side on.side) in omega (arith, a, points_partner d ok s.side)

  -- what stands before another one then
  lifted_then : (e : Exit) → before (both_marked d rows s) e.side e.place + before (both_marked d rows s) e.side e.place ≡ before rows e.side e.place + before rows e.side e.place + lift d s e
  lifted_then e = elim (cases_eq e.side s.side) [
    | inl q ↦ (
        let o : e.side ≢ glued = λ r. ok.pairs.moves s.side on.side (sym r ∙ q) in
        let a = before_other once glued glued_place second_row second_place e.side e.place o in
        elim (cases_lt s.place e.place) [
          | inl l ↦ (
              let b = before_high rows s.side s.place first_row first_place e.side e.place q l in
              let c : lift d s e ≡ 2 = rw (eq-eqb _ _ q, lt-leb _ _ l) refl in
              omega (arith, a, b, c))
          | inr l ↦ (
              let b = before_low rows s.side s.place first_row first_place e.side e.place q l in
              let c : lift d s e ≡ 0 = rw (eq-eqb _ _ q, le-leb _ _ l) refl in
              omega (arith, a, b, c))
        ])
    | inr n ↦ (
        let b = before_other rows s.side s.place first_row first_place e.side e.place n in
        elim (cases_eq e.side glued) [
          | inl q ↦ elim (cases_lt glued_place e.place) [
            | inl l ↦ (
                let a = before_high once glued glued_place second_row second_place e.side e.place q l in
                let c : lift d s e ≡ 2 = rw (ne_eqb _ _ n, eq-eqb _ _ q, lt-leb _ _ l) refl in
                omega (arith, a, b, c))
            | inr l ↦ (
                let a = before_low once glued glued_place second_row second_place e.side e.place q l in
                let c : lift d s e ≡ 0 = rw (ne_eqb _ _ n, eq-eqb _ _ q, le-leb _ _ l) refl in
                omega (arith, a, b, c))
          ]
          | inr o ↦ (
              let a = before_other once glued glued_place second_row second_place e.side e.place o in
              let c : lift d s e ≡ 0 = rw (ne_eqb _ _ n, ne_eqb _ _ o) refl in
              omega (arith, a, b, c))
        ])
  ]

  counted_more : (segments : List Exit) → IsCounted d segments rows → IsCounted d (segments ++ (s ∷ [])) (both_marked d rows s)
  counted_more segments h = record {
    shape = marked_rows once glued glued_place second_row shape_once;
    few = λ k. let a = row_sum rows s.side s.place first_row first_place k in let b = row_sum once glued glued_place second_row second_place k in
        omega (arith, a, b, h.few k, length-append segments (s ∷ []));
    lifts = λ e. let a = lifted_then e in let b = sum_last (λ s. lift d s e) segments s in omega (arith, a, b, h.lifts e);
  }

-- one item more of a list
take_more : {X : Type 0} (xs : List X) (i : ℕ) (x z : X) → i < length xs → x ≡ get_or xs i z → take (i + 1) xs ≡ take i xs ++ (x ∷ [])
take_more xs i x z l is = let e : i + 1 ≡ suc i = omega arith in ap (λ n. take n xs) e ∙ (take-suc xs i z l ∙ ap (λ w. take i xs ++ (w ∷ [])) (sym is))

-- a slice of a whole vector that is written back
pub written_back : {X : Type 0} (n : ℕ) (new old : List X) → length new ≡ n → take n (new ++ drop (length new) old) ≡ new
written_back n new old e = take-append-le n new (drop (length new) old) (omega (arith, e)) ∙ take_whole new n (omega (arith, e))

pub counted_at : (d : Drawing) (ok : IsPolygon d.polygon) (segments : List Exit) (i : ℕ) (s z : Exit) (rows : List (List ℕ)) → i < length segments → s ≡ get_or segments i z → IsOn d s
    → IsCounted d (take i segments) rows → IsCounted d (take (i + 1) segments) (both_marked d rows s)
counted_at d ok segments i s z rows l is on h = subst (λ xs. IsCounted d xs (both_marked d rows s)) (sym (take_more segments i s z l is)) (counted_more d ok s on rows h.shape (take i segments) h)

-- one chord more
module _ (d : Drawing) (n : ℕ) (c : ChordName) (on : IsChordOn d c) (rows : List (List ℕ)) (shape : HasRows (arc_count d.polygon) (λ i. length (strand_exits d i)) rows) where
  pub chord_row : c.strand < length rows
  chord_row = omega (arith, shape.count, on.strand)

  pub chord_place : c.chord < length (row rows c.strand)
  chord_place = let a = shape.room c.strand on.strand in omega (arith, a, on.chord)

  chord_then : (e : ChordName) → (n + n) * before (marked rows c.strand c.chord) e.strand e.chord ≡ (n + n) * before rows e.strand e.chord + chord_lift n c e
  chord_then e = elim (cases_eq e.strand c.strand) [
    | inl q ↦ elim (cases_lt c.chord e.chord) [
      | inl l ↦ (
          let a = before_high rows c.strand c.chord chord_row chord_place e.strand e.chord q l in
          let b : chord_lift n c e ≡ n + n = rw (eq-eqb _ _ q, lt-ltb _ _ l) refl in
          let m : (n + n) * (before rows e.strand e.chord + 1) ≡ (n + n) * before rows e.strand e.chord + (n + n) = omega arith in
          ap (λ x. (n + n) * x) a ∙ omega (arith, b, m))
      | inr l ↦ (
          let a = before_low rows c.strand c.chord chord_row chord_place e.strand e.chord q l in
          let b : chord_lift n c e ≡ 0 = rw (eq-eqb _ _ q, le-ltb _ _ l) refl in
          ap (λ x. (n + n) * x) a ∙ omega (arith, b))
    ]
    | inr o ↦ (
        let a = before_other rows c.strand c.chord chord_row chord_place e.strand e.chord o in
        let b : chord_lift n c e ≡ 0 = rw (ne_eqb _ _ o) refl in
        ap (λ x. (n + n) * x) a ∙ omega (arith, b))
  ]

  chords_more : (chords : List ChordName) → AreChordsCounted d n chords rows → AreChordsCounted d n (chords ++ (c ∷ [])) (marked rows c.strand c.chord)
  chords_more chords h = record {
    shape = marked_rows rows c.strand c.chord chord_row shape;
    few = λ k. let a = row_sum rows c.strand c.chord chord_row chord_place k in omega (arith, a, h.few k, length-append chords (c ∷ []));
    lifts = λ e. let a = chord_then e in let b = sum_last (λ b. chord_lift n b e) chords c in omega (arith, a, b, h.lifts e);
  }

pub chords_at : (d : Drawing) (n : ℕ) (chords : List ChordName) (i : ℕ) (c z : ChordName) (rows : List (List ℕ)) → i < length chords → c ≡ get_or chords i z → IsChordOn d c
    → AreChordsCounted d n (take i chords) rows → AreChordsCounted d n (take (i + 1) chords) (marked rows c.strand c.chord)
chords_at d n chords i c z rows l is on h = subst (λ xs. AreChordsCounted d n xs (marked rows c.strand c.chord)) (sym (take_more chords i c z l is)) (chords_more d n c on rows h.shape (take i chords) h)

-- a segment has a row and a place there, and what stands before it tells by how much it is raised
module _ (d : Drawing) (segments : List Exit) (rows now : List (List ℕ)) (same : now ≡ rows) (h : IsCounted d segments rows) (e : Exit) (on : IsOn d e) where
  pub lift_side : e.side < length now
  lift_side = let a = ap length same in omega (arith, a, h.shape.count, on.side)

  pub lift_place : e.place < length (row now e.side)
  lift_place = let a = ap (λ rs. length (row rs e.side)) same in let b = h.shape.room e.side on.side in omega (arith, a, b, on.place)

  pub lift_value : before now e.side e.place + before now e.side e.place ≡ sum_by (λ s. lift d s e) segments
  lift_value = ap (λ rs. before rs e.side e.place + before rs e.side e.place) same ∙ h.lifts e

-- so have a chord and its row
module _ (d : Drawing) (n : ℕ) (chords : List ChordName) (i : ℕ) (rows now : List (List ℕ)) (same : now ≡ rows) (h : AreChordsCounted d n (take i chords) rows) (c : ChordName) (on : IsChordOn d c) where
  pub strand_there : c.strand < length now
  strand_there = let a = ap length same in omega (arith, a, h.shape.count, on.strand)

  pub chord_there : c.chord < length (row now c.strand)
  chord_there = let a = ap (λ rs. length (row rs c.strand)) same in let b = h.shape.room c.strand on.strand in omega (arith, a, b, on.chord)

  pub chord_value : (n + n) * before now c.strand c.chord ≡ sum_by (λ b. chord_lift n b c) (take i chords)
  chord_value = ap (λ rs. (n + n) * before rs c.strand c.chord) same ∙ h.lifts c

  -- few stand on its row
  pub row_few : sum (row now c.strand) ≤ i
  row_few = let a = ap (λ rs. sum (row rs c.strand)) same in omega (arith, a, h.few c.strand, length-take i chords)

  pub before_few : before now c.strand c.chord ≤ i
  before_few = omega (arith, row_few, sum_by-take-le (λ x. x) (row now c.strand) c.chord)

-- a chord's number stays small
pub chord_few : (d : Drawing) (c : ChordName) → IsChordOn d c → c.chord ≤ length (all_exits d)
chord_few d c on = omega (arith, on.chord, strand_few d.strands c.strand)

pub lifted_few : (points chords n q chord count : ℕ) → chord ≤ points → count ≤ q → q < chords → points + 2 * (chords * n) < 2 ^ 28 → chord + (n + n) * count + n < 2 ^ 30
lifted_few points chords n q chord count hc hq l few = chord_small points chords n q chord ((n + n) * count) hc (mul-le-mul_left (n + n) hq) l few

pub next_few : (points chords n q chord count : ℕ) → chord ≤ points → count ≤ q → q < chords → points + 2 * (chords * n) < 2 ^ 28 → chord + (n + n) * (count + 1) < 2 ^ 31
next_few points chords n q chord count hc hq l few =
    let a = lifted_few points chords n q chord count hc hq l few in
    let b : (n + n) * (count + 1) ≡ (n + n) * count + (n + n) = omega arith in
    omega (arith, a, b)
