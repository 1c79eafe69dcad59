-- How often points are met, counted by the numbers of the place order, and the first side that is wrong.
use Rattle.std.proofs.Common.{◌≡◌, ℕ, suc, ◌+◌, ◌*◌, ◌-◌, ◌<◌, ◌≤◌, ◌^◌, Bool, true, false, cond, eqb, ltb, ◌&&◌, List, [], ◌∷◌, length, get_or, set, take, refl, sym, ◌∙◌, ap, subst, arith, inl, inr}
use Rattle.std.specs.List.{list_all, sum_by}
use Rattle.std.proofs.lemmas.Bool.{cases_Bool, cases_eq, cases_lt, eq-eqb, ne_eqb, lt-ltb, le-ltb, false≢true}
use Rattle.std.proofs.lemmas.List.{get_or_read, length-take-le, take_all}
use Rattle.std.proofs.lemmas.List.Sums.{sum_by-cons, sum_by_more}
use Rattle.obd_base.specs.Lists.{below}
use Rattle.obd_base.specs.declared.points.Exit.{Exit}
use Rattle.obd_base.proofs.lists.Below.{all_below, bit, mem_below}
use Rattle.obd_base.proofs.lists.Sums.{bit-le, sum_same}
use Rattle.page_surface.specs.Drawing.{Drawing, HasRightPlaces, all_exits, entry, offset, points_on, right_on, spot, stands_at}
use Rattle.page_surface.specs.Polygon.{IsPolygon, partner, sides}
use Rattle.page_surface.proofs.EmbeddedTest.{all_from, right_places}
use Rattle.page_surface.proofs.Partners.{points_partner}
use Rattle.drawing.specs.Counted.{IsFilled}
use Rattle.drawing.specs.Layout.{IsWritten}
use Rattle.drawing.specs.Pieces.{span_count}
use Rattle.drawing.specs.Reading.{IsFirstWrong, IsHitTable}
use Rattle.drawing.proofs.Filled.{raised, side_there}
use Rattle.drawing.proofs.Placed.{exit_at, exit_stands}
use Rattle.drawing.proofs.Spots.{offset_rises}

-- how often an exit with a place on its side, or its entry, has a number
abbrev pub hit : Drawing → ℕ → Exit → ℕ
hit d x e = cond (ltb e.place (points_on d e.side)) (exit_at d x e) 0

-- and some exits
abbrev pub hits_of : Drawing → List Exit → ℕ → ℕ
hits_of d exits x = sum_by (hit d x) exits

-- an exit is met at most twice
hit_within : (d : Drawing) (x : ℕ) (e : Exit) → hit d x e ≤ 2
hit_within d x e = elim (cases_Bool (ltb e.place (points_on d e.side))) [
  | inl t ↦ rw t (omega (arith, bit-le (eqb (spot d e) x), bit-le (eqb (spot d (entry d e)) x)))
  | inr f ↦ rw f (omega arith)
]

-- so are some exits
hits_within : (d : Drawing) (x : ℕ) (exits : List Exit) → hits_of d exits x ≤ 2 * length exits
hits_within d x [] = omega arith
hits_within d x (e ∷ exits) = omega (arith, sum_by-cons (hit d x) e exits, hit_within d x e, hits_within d x exits)

-- at a point an exit is met as often as it stands there
hit_stands : (d : Drawing) → IsPolygon d.polygon → (k j : ℕ) → j < points_on d k → (e : Exit) → hit d (offset d k + j) e ≡ stands_at d e k j
hit_stands d ok k j l e = elim (cases_lt e.place (points_on d e.side)) [
  | inl h ↦ rw (lt-ltb _ _ h) (exit_stands d ok k j l e h)
  | inr h ↦
      let one : bit (eqb e.side k && eqb e.place j) ≡ 0 = elim (cases_eq e.side k) [
        | inl q ↦ (let w : points_on d e.side ≡ points_on d k = ap (points_on d) q in rw (eq-eqb e.side k q, ne_eqb e.place j (λ z. omega (arith, h, w, l, z))) refl)
        | inr n ↦ rw (ne_eqb e.side k n) refl
      ] in
      let two : bit (eqb (partner d.polygon e.side) k && eqb (suc (e.place + j)) (points_on d k)) ≡ 0 = elim (cases_eq (partner d.polygon e.side) k) [
        | inl q ↦
            let w : points_on d e.side ≡ points_on d k = sym (points_partner d ok e.side) ∙ ap (points_on d) q in
            rw (eq-eqb _ _ q, ne_eqb (suc (e.place + j)) (points_on d k) (λ z. omega (arith, h, w, z))) refl
        | inr n ↦ rw (ne_eqb _ _ n) refl
      ] in
      rw (le-ltb _ _ h) (sym (omega (arith, one, two)))
]

-- the table of all exits
pub hit_table : (d : Drawing) (exits : List Exit) (i : ℕ) (hits : List ℕ) → IsPolygon d.polygon → exits ≡ all_exits d → length exits ≤ i
    → IsFilled (hits_of d (take i exits)) (span_count d) hits → IsHitTable d hits
hit_table d exits i hits ok is l filled = record {
  size = filled.size;
  each = λ k j lk lj.
      filled.each (offset d k + j) (omega (arith, offset_rises d k (sides d.polygon) lk))
      ∙ (ap (λ (xs : List Exit). hits_of d xs (offset d k + j)) (take_all i exits l ∙ is)
      ∙ sum_same (hit d (offset d k + j)) (λ e. stands_at d e k j) (all_exits d) (λ e m. hit_stands d ok k j lj e));
}

-- the exits are those of the drawing, so one is on a side
pub exit_side : (d : Drawing) (exits : List Exit) (i : ℕ) (e : Exit) → IsWritten d → exits ≡ all_exits d → i < length exits → e ≡ get_or exits i e → e.side < sides d.polygon
exit_side d exits i e ok is l read = side_there d.polygon exits i e (subst (λ (xs : List Exit). list_all (λ e. ltb e.side (sides d.polygon)) xs ≡ true) (sym is) ok.on_sides) l read

-- the entry of an exit on its side is on a side
pub entry_place : (d : Drawing) (e x : Exit) → IsPolygon d.polygon → e.side < sides d.polygon → e.place < points_on d e.side → x ≡ entry d e
    → (x.side < sides d.polygon) × (x.place ≤ points_on d x.side)
entry_place d e x ok ls lp is =
    let there : (partner d.polygon e.side < sides d.polygon) × (points_on d e.side - 1 - e.place ≤ points_on d (partner d.polygon e.side))
    = (ok.pairs.in_range _ ls, omega (arith, lp, points_partner d ok e.side)) in
    subst (λ (y : Exit). (y.side < sides d.polygon) × (y.place ≤ points_on d y.side)) (sym is) there

module _ (d : Drawing) (exits : List Exit) (i : ℕ) (e : Exit) (hits : List ℕ) (l : i < length exits) (is : e ≡ get_or exits i e)
    (filled : IsFilled (hits_of d (take i exits)) (span_count d) hits) where
  -- one exit more
  more : (x : ℕ) → hits_of d (take (i + 1) exits) x ≡ hits_of d (take i exits) x + hit d x e
  more x = sum_by_more (hit d x) exits i e l ∙ ap (λ (y : Exit). hits_of d (take i exits) x + hit d x y) (sym is)

  -- one without a place on its side changes nothing
  pub off_side : points_on d e.side ≤ e.place → IsFilled (hits_of d (take (i + 1) exits)) (span_count d) hits
  off_side h = record {
    size = filled.size;
    each = λ x lx. let none : hit d x e ≡ 0 = rw (le-ltb _ _ h) refl in omega (arith, filled.each x lx, more x, none);
  }

  module _ (h : e.place < points_on d e.side) (a x : ℕ) (at : a ≡ spot d e) (la : a < span_count d) (read : x ≡ get_or hits a x) where
    -- the table with the exit, and not yet its entry
    abbrev pub with_exit : ℕ → ℕ
    with_exit y = hits_of d (take i exits) y + bit (eqb (spot d e) y)

    pub exit_hit : IsFilled with_exit (span_count d) (set hits a (x + 1))
    exit_hit = raised (hits_of d (take i exits)) with_exit (span_count d) a x hits filled la read (λ y ly. ap (λ (s : ℕ). hits_of d (take i exits) y + bit (eqb s y)) (sym at))

    -- which fits
    pub exit_hit_fits : length exits < 2 ^ 28 → x < 2 ^ 30
    exit_hit_fits few =
        let was : x ≡ hits_of d (take i exits) a = get_or_read hits a x (omega (arith, filled.size, la)) read 0 ∙ filled.each a la in
        omega (arith, was, hits_within d a (take i exits), length-take-le i exits (omega arith), few)

    module _ (b y : ℕ) (bt : b ≡ spot d (entry d e)) (lb : b < span_count d) (back : y ≡ get_or (set hits a (x + 1)) b y) where
      -- and with both
      pub entry_hit : IsFilled (hits_of d (take (i + 1) exits)) (span_count d) (set (set hits a (x + 1)) b (y + 1))
      entry_hit =
          raised with_exit (hits_of d (take (i + 1) exits)) (span_count d) b y (set hits a (x + 1)) exit_hit lb back (λ z lz.
          let on : hit d z e ≡ bit (eqb (spot d e) z) + bit (eqb (spot d (entry d e)) z) = rw (lt-ltb _ _ h) refl in
          let second : bit (eqb b z) ≡ bit (eqb (spot d (entry d e)) z) = ap (λ (s : ℕ). bit (eqb s z)) bt in
          omega (arith, more z, on, second))

      -- which fits too
      pub entry_hit_fits : length exits < 2 ^ 28 → y < 2 ^ 30
      entry_hit_fits few =
          let was : y ≡ with_exit b = get_or_read (set hits a (x + 1)) b y (omega (arith, exit_hit.size, lb)) back 0 ∙ exit_hit.each b lb in
          omega (arith, was, hits_within d b (take i exits), length-take-le i exits (omega arith), few, bit-le (eqb (spot d e) b))

-- a test passes below a number and at it
pub all_below_more : (p : ℕ → Bool) (n : ℕ) → list_all p (below n) ≡ true → p n ≡ true → list_all p (below (n + 1)) ≡ true
all_below_more p n h k = all_from p (below (n + 1)) (λ x m. elim (cases_eq x n) [
  | inl e ↦ ap p e ∙ k
  | inr ne ↦ all_below p n h x (let l = mem_below (n + 1) x m in omega (arith, l, ne))
])

-- a test that fails at a number fails below a greater one
pub not_all_below : (p : ℕ → Bool) (n k : ℕ) → k < n → p k ≡ false → list_all p (below n) ≡ false
not_all_below p n k l f = elim (cases_Bool (list_all p (below n))) [
  | inl t ↦ absurd (false≢true (sym f ∙ all_below p n t k l))
  | inr e ↦ e
]

-- the test of a point
abbrev pub met_once : Drawing → ℕ → ℕ → Bool
met_once d k j = eqb (sum_by (λ e. stands_at d e k j) (all_exits d)) 1

-- what is read of the table is how often the point is met
pub hit_read : (d : Drawing) (hits : List ℕ) (k j n : ℕ) → IsHitTable d hits → k < sides d.polygon → j < points_on d k → n ≡ offset d k + j
    → get_or hits n 0 ≡ sum_by (λ e. stands_at d e k j) (all_exits d)
hit_read d hits k j n table lk lj e = ap (λ (i : ℕ). get_or hits i 0) e ∙ table.each k j lk lj

-- the first side that is wrong
pub first_wrong_is : (d : Drawing) (k : ℕ) → k < sides d.polygon → list_all (right_on d) (below k) ≡ true → right_on d k ≡ false → IsFirstWrong d k
first_wrong_is d k l h f = record { side = l; wrong = f; right_before = λ i li. all_below (right_on d) k h i li }

-- where no side is wrong places are right
pub all_right : (d : Drawing) (n : ℕ) → sides d.polygon ≤ n → list_all (right_on d) (below n) ≡ true → HasRightPlaces d
all_right d n l h = right_places d (all_from (right_on d) (below (sides d.polygon)) (λ k m. all_below (right_on d) n h k (let lk = mem_below _ k m in omega (arith, lk, l))))
