-- The places of the surgery: the two names of a copied point and of a kept point, the lines at an exit, and which places there are.
use Rattle.std.proofs.Common.{◌≡◌, ℕ, ◌+◌, ◌-◌, ◌*◌, ◌%◌, ◌<◌, ◌≤◌, Bool, true, false, cond, eqb, not, List, refl, sym, ◌∙◌, ap, inl, inr, arith}
use Rattle.std.specs.List.{count_by}
use Rattle.std.proofs.lemmas.Bool.{lt-ltb, le-ltb, cases_lt, cases_order}
use Rattle.std.proofs.Math.Nat.{add-mul, mod-eq_of_lt, add-mod_right}
use mathlib.Core.Path.{fun_ext}
use Rattle.curve_paths.specs.Curves.{IsCurve, curve_entry, curve_points}
use Rattle.dehn_twist.specs.Surgery.{copy_of, is_lower, kept_point, line_index}
use Rattle.obd_base.specs.declared.points.Exit.{Exit}
use Rattle.obd_base.specs.declared.points.Sign.{Sign}
use Rattle.obd_base.specs.declared.points.Sign.TheVariants.{Minus, Plus}
use Rattle.page_surface.specs.Drawing.{Drawing, all_exits, entry, points_on}
use Rattle.page_surface.specs.Polygon.{Pairs, Polygon, partner, sides}
use Rattle.curve_paths.proofs.CurvePoints.{In, exit_same, points_partner, twice_eqb}

-- rows before a row, the row, and rows after it
pub rows_split : (total mc j : ℕ) → j < mc → mc * total ≡ (mc - 1 - j) * total + (total + j * total)
rows_split total mc j l =
    let e : mc ≡ (mc - 1 - j) + (1 + j) = omega (arith, l) in
    let o : 1 * total ≡ total = omega arith in
    ap (λ z. z * total) e ∙ (add-mul (mc - 1 - j) (1 + j) total ∙ ap (λ z. (mc - 1 - j) * total + z) (add-mul 1 j total ∙ ap (λ z. z + j * total) o))

copy_across_low : (total mc ms j x : ℕ) → j < mc → x < total → (mc * total + ms) - 1 - (j * total + x) ≡ ms + (mc - 1 - j) * total + (total - 1 - x)
copy_across_low total mc ms j x l h = let e = rows_split total mc j l in omega (arith, e, h)

copy_across_high : (total mc ms j x : ℕ) → j < mc → x < total → (mc * total + ms) - 1 - (ms + j * total + x) ≡ (mc - 1 - j) * total + (total - 1 - x)
copy_across_high total mc ms j x l h = let e = rows_split total mc j l in omega (arith, e, h)

-- the sides of a pair: one is lower, the other isn't
pub lower_across : (p : Polygon) (ok : Pairs p) (k : ℕ) → k < sides p → is_lower p (partner p k) ≡ not (is_lower p k)
lower_across p ok k l =
    let t = ok.twice k in
    elim (cases_order k (partner p k)) [
      | inl e ↦ absurd (ok.moves k l (sym e))
      | inr o ↦ elim o [
        | inl u ↦ (let h : partner p (partner p k) ≤ partner p k = omega (arith, t, u) in rw (lt-ltb k (partner p k) u, le-ltb (partner p k) (partner p (partner p k)) h) refl)
        | inr u ↦ (let h : partner p k ≤ k = omega (arith, u) in let v : partner p k < partner p (partner p k) = omega (arith, t, u) in
            rw (le-ltb k (partner p k) h, lt-ltb (partner p k) (partner p (partner p k)) v) refl)
      ]
    ]

module _ (d : Drawing) (ok : Pairs d.polygon) (c : List Exit) (curve : IsCurve d.polygon c) where
  abbrev p : Polygon
  p = d.polygon

  -- both sides of a pair have as many strands' points
  pub strand_points_partner : (k : ℕ) → points_on d (partner d.polygon k) ≡ points_on d k
  strand_points_partner k =
      let xs = all_exits d in
      let a : count_by (λ e. eqb e.side (partner p k)) xs ≡ count_by (λ e. eqb (partner p e.side) k) xs =
      ap (λ t. count_by t xs) (fun_ext (λ (e : Exit). twice_eqb p ok e.side k)) in
      let b : count_by (λ e. eqb (partner p e.side) (partner p k)) xs ≡ count_by (λ e. eqb e.side k) xs =
      ap (λ t. count_by t xs) (fun_ext (λ (e : Exit). twice_eqb p ok (partner p e.side) k ∙ ap (λ z. eqb z k) (ok.twice e.side))) in
      omega (arith, a, b)

  module _ (total : ℕ) (new : Drawing) (same : new.polygon ≡ d.polygon)
      (counts : (k : ℕ) → k < sides d.polygon → points_on new k ≡ curve_points d.polygon c k * total + points_on d k) where
    -- the other name of a copied point is the copy of its other name
    pub entry_copy : (e : Exit) (x : ℕ) → In d.polygon ok c curve e → x < total
        → entry new (copy_of d c total e x) ≡ copy_of d c total (curve_entry d.polygon c e) (total - 1 - x)
    entry_copy e x h l =
        exit_same (entry new (copy_of d c total e x)) (partner p e.side) (copy_of d c total (curve_entry p c e) (total - 1 - x)).place
        (ap (λ z. partner z e.side) same) (go (is_lower p e.side) refl)
      where
        places : (b b' : Bool) → b' ≡ not b
            → (curve_points p c e.side * total + points_on d e.side) - 1 - cond b (e.place * total + x) (points_on d e.side + e.place * total + x)
            ≡ cond b' ((curve_points p c e.side - 1 - e.place) * total + (total - 1 - x)) (points_on d e.side + (curve_points p c e.side - 1 - e.place) * total + (total - 1 - x))
        places true b' q = rw q (copy_across_low total (curve_points p c e.side) (points_on d e.side) e.place x h.1 l)
        places false b' q = rw q (copy_across_high total (curve_points p c e.side) (points_on d e.side) e.place x h.1 l)

        go : (b : Bool) → is_lower p e.side ≡ b → (entry new (copy_of d c total e x)).place ≡ (copy_of d c total (curve_entry p c e) (total - 1 - x)).place
        go b q =
            ap (λ z. z - 1 - (copy_of d c total e x).place) (counts e.side h.0)
            ∙ (places (is_lower p e.side) (is_lower p (partner p e.side)) (lower_across p ok e.side h.0)
            ∙ ap (λ z. cond (is_lower p (partner p e.side)) ((curve_points p c e.side - 1 - e.place) * total + (total - 1 - x)) (z + (curve_points p c e.side - 1 - e.place) * total + (total - 1 - x)))
            (sym (strand_points_partner e.side)))

    -- the other name of a kept point is the kept point of its other name
    pub entry_kept : (e : Exit) → e.side < sides d.polygon → e.place < points_on d e.side
        → entry new (kept_point d c total e) ≡ kept_point d c total (entry d e)
    entry_kept e h l =
        exit_same (entry new (kept_point d c total e)) (partner p e.side) (kept_point d c total (entry d e)).place (ap (λ z. partner z e.side) same)
        (ap (λ z. z - 1 - (kept_point d c total e).place) (counts e.side h)
        ∙ (places (is_lower p e.side) (is_lower p (partner p e.side)) (lower_across p ok e.side h)
        ∙ ap (λ z. cond (is_lower p (partner p e.side)) (z * total + (points_on d e.side - 1 - e.place)) (points_on d e.side - 1 - e.place))
        (sym (points_partner p ok c curve e.side))))
      where
        places : (b b' : Bool) → b' ≡ not b
            → (curve_points p c e.side * total + points_on d e.side) - 1 - cond b (curve_points p c e.side * total + e.place) e.place
            ≡ cond b' (curve_points p c e.side * total + (points_on d e.side - 1 - e.place)) (points_on d e.side - 1 - e.place)
        places true b' q = rw q (omega (arith, l))
        places false b' q = rw q (omega (arith, l))

-- the index of a line: below the curve chord's own meetings counted down, then the others counted down
pub around_low : (total upto mu : ℕ) → mu < upto → upto ≤ total → (upto + total - 1 - mu) % total ≡ upto - 1 - mu
around_low total upto mu l h =
    let e : upto + total - 1 - mu ≡ (upto - 1 - mu) + total = omega (arith, l) in
    ap (λ z. z % total) e ∙ (add-mod_right (upto - 1 - mu) total ∙ mod-eq_of_lt (let z : upto - 1 - mu < total = omega (arith, l, h) in z))

-- from the own meetings on it counts down from the last line
pub around_high : (total upto mu : ℕ) → upto ≤ mu → mu < total → (upto + total - 1 - mu) % total ≡ upto + total - 1 - mu
around_high total upto mu l h = mod-eq_of_lt (let z : upto + total - 1 - mu < total = omega (arith, l, h) in z)

-- it is the index of a line
pub around_less : (total upto mu : ℕ) → mu < total → upto ≤ total → (upto + total - 1 - mu) % total < total
around_less total upto mu l h = elim (cases_lt mu upto) [
  | inl u ↦ (let e = around_low total upto mu u h in omega (arith, e, u, h))
  | inr u ↦ (let e = around_high total upto mu u l in omega (arith, e, u, l))
]

-- taking the index twice gives the line back
pub around_twice : (total upto mu : ℕ) → mu < total → upto ≤ total → (upto + total - 1 - (upto + total - 1 - mu) % total) % total ≡ mu
around_twice total upto mu l h = elim (cases_lt mu upto) [
  | inl u ↦ (let e = around_low total upto mu u h in
      ap (λ z. (upto + total - 1 - z) % total) e ∙ (around_low total upto (upto - 1 - mu) (omega (arith, u)) h ∙ (let z : upto - 1 - (upto - 1 - mu) ≡ mu = omega (arith, u) in z)))
  | inr u ↦ (let e = around_high total upto mu u l in
      ap (λ z. (upto + total - 1 - z) % total) e ∙ (around_high total upto (upto + total - 1 - mu) (omega (arith, u, l)) (omega (arith, u, l)) ∙ (let z : upto + total - 1 - (upto + total - 1 - mu) ≡ mu = omega (arith, u, l) in z)))
]

-- the line with an index
abbrev pub line_with : Sign → ℕ → ℕ → ℕ → ℕ
line_with Plus total upto x = (upto + total - 1 - x) % total
line_with Minus total upto x = (upto + total - 1 - (total - 1 - x)) % total

-- each index belongs to one line: the lines at an exit are numbered without gap
pub line_index-less : (g : Sign) (total upto mu : ℕ) → mu < total → upto ≤ total → line_index g total upto mu < total
line_index-less Plus total upto mu l h = around_less total upto mu l h
line_index-less Minus total upto mu l h = omega (arith, l)

-- the line with the index of a line is that line
pub line_with-index : (g : Sign) (total upto mu : ℕ) → mu < total → upto ≤ total → line_with g total upto (line_index g total upto mu) ≡ mu
line_with-index Plus total upto mu l h = around_twice total upto mu l h
line_with-index Minus total upto mu l h =
    let less = around_less total upto mu l h in
    let e : total - 1 - (total - 1 - (upto + total - 1 - mu) % total) ≡ (upto + total - 1 - mu) % total = omega (arith, less) in
    ap (λ z. (upto + total - 1 - z) % total) e ∙ around_twice total upto mu l h

-- and the index of the line with an index is that index
pub line_index-with : (g : Sign) (total upto x : ℕ) → x < total → upto ≤ total → line_index g total upto (line_with g total upto x) ≡ x
line_index-with Plus total upto x l h = around_twice total upto x l h
line_index-with Minus total upto x l h =
    let e = around_twice total upto (total - 1 - x) (omega (arith, l)) h in
    ap (λ z. total - 1 - z) e ∙ (let z : total - 1 - (total - 1 - x) ≡ x = omega (arith, l) in z)

-- it is a line
pub line_with-less : (sign : Sign) (total upto x : ℕ) → x < total → upto ≤ total → line_with sign total upto x < total
line_with-less Plus total upto x l h = around_less total upto x l h
line_with-less Minus total upto x l h = around_less total upto (total - 1 - x) (omega (arith, l)) h
