-- A finger puts two points more on the side of its segment, and two on the partner.
use Rattle.std.proofs.Common.{◌≡◌, ℕ, suc, ◌+◌, ◌-◌, ◌<◌, ◌≤◌, Bool, true, false, cond, eqb, List, [], ◌∷◌, ◌++◌, map, length, take, drop, refl, sym, ◌∙◌, ap, arith, inl, inr}
use Rattle.std.specs.List.{count_by, flat_map, enumerate_from}
use Rattle.std.proofs.lemmas.Bool.{cases_eq, eq-eqb, ne_eqb}
use Rattle.std.proofs.lemmas.List.{take-append-drop}
use Rattle.std.proofs.lemmas.List.Sums.{sum_by-append, sum_by-cons}
use Rattle.page_surface.specs.Polygon.{partner}
use Rattle.obd_base.specs.declared.points.Exit.{Exit}
use Rattle.page_surface.specs.Drawing.{exit, Drawing, points_on, is_embedded}
use Rattle.drawing.specs.declared.finger.Finger.{Finger}
use Rattle.drawing.specs.Fingers.{carried, with_letters, pushed}

-- the finger's effect is one of two
pub pushed_is : (d : Drawing) (f : Finger) → (out : ℕ) × (pushed d f ≡ with_letters d f out)
pushed_is d f = go (is_embedded (with_letters d f 0))
  where
    go : (b : Bool) → (out : ℕ) × (cond b (with_letters d f 0) (with_letters d f 1) ≡ with_letters d f out)
    go true = (0, refl)
    go false = (1, refl)

-- the polygon stays
pub pushed_polygon : (d : Drawing) (f : Finger) → (pushed d f).polygon ≡ d.polygon
pushed_polygon d f = let (out, e) = pushed_is d f in ap (λ (v : Drawing). v.polygon) e

length_enumerated : {A B : Type 0} (g : ℕ × A → B) (j : ℕ) (xs : List A) → length (map g (enumerate_from j xs)) ≡ length xs
length_enumerated g j [] = refl
length_enumerated g j (x ∷ xs) = ap suc (length_enumerated g (j + 1) xs)

-- there are as many strands
pub pushed_strands : (d : Drawing) (f : Finger) → length (pushed d f).strands ≡ length d.strands
pushed_strands d f = let (out, e) = pushed_is d f in ap (λ (v : Drawing). length v.strands) e ∙ length_enumerated _ 0 d.strands

-- how many exits are on sides that pass a test
abbrev tested : (ℕ → Bool) → List Exit → ℕ
tested test es = count_by (λ e. test e.side) es

tested_append : (test : ℕ → Bool) (us vs : List Exit) → tested test (us ++ vs) ≡ tested test us + tested test vs
tested_append test us vs = sum_by-append (λ e. cond (test e.side) 1 0) us vs

tested_cons : (test : ℕ → Bool) (a : Exit) (us : List Exit) → tested test (a ∷ us) ≡ cond (test a.side) 1 0 + tested test us
tested_cons test a us = sum_by-cons (λ e. cond (test e.side) 1 0) a us

tested_carried : (test : ℕ → Bool) (d : Drawing) (f : Finger) (es : List Exit) → tested test (map (carried d f) es) ≡ tested test es
tested_carried test d f [] = refl
tested_carried test d f (e ∷ es) = tested_cons test (carried d f e) (map (carried d f) es) ∙ ap (λ n. cond (test e.side) 1 0 + n) (tested_carried test d f es) ∙ sym (tested_cons test e es)

abbrev row_after : Drawing → Finger → ℕ → ℕ × List Exit → List Exit
row_after d f out s =
    let old = map (carried d f) s.1 in
    cond (eqb s.0 f.strand)
    (take f.chord old ++ (exit f.side (f.segment + out) ∷ exit (partner d.polygon f.side) (points_on d f.side - f.segment + out) ∷ drop f.chord old))
    old

abbrev new_ones : (ℕ → Bool) → Drawing → Finger → ℕ
new_ones test d f = cond (test f.side) 1 0 + cond (test (partner d.polygon f.side)) 1 0

row_tested : (test : ℕ → Bool) (d : Drawing) (f : Finger) (out j : ℕ) (es : List Exit) → tested test (row_after d f out (j, es)) ≡ tested test es + cond (eqb j f.strand) (new_ones test d f) 0
row_tested test d f out j es = go (eqb j f.strand)
  where
    old : List Exit
    old = map (carried d f) es

    a : Exit
    a = exit f.side (f.segment + out)

    b : Exit
    b = exit (partner d.polygon f.side) (points_on d f.side - f.segment + out)

    whole : tested test (take f.chord old) + tested test (drop f.chord old) ≡ tested test es
    whole = sym (tested_append test (take f.chord old) (drop f.chord old)) ∙ ap (tested test) (take-append-drop f.chord old) ∙ tested_carried test d f es

    go : (q : Bool) → tested test (cond q (take f.chord old ++ (a ∷ b ∷ drop f.chord old)) old) ≡ tested test es + cond q (new_ones test d f) 0
    go true = omega (arith, whole, tested_append test (take f.chord old) (a ∷ b ∷ drop f.chord old), tested_cons test a (b ∷ drop f.chord old), tested_cons test b (drop f.chord old))
    go false = omega (arith, tested_carried test d f es)

-- over all strands from number j on
rows_rest : (test : ℕ → Bool) (d : Drawing) (f : Finger) (out j : ℕ) (ss : List (List Exit)) → f.strand < j
    → tested test (flat_map (λ s. s) (map (row_after d f out) (enumerate_from j ss))) ≡ tested test (flat_map (λ s. s) ss)
rows_rest test d f out j [] l = refl
rows_rest test d f out j (s ∷ ss) l =
    let r = rows_rest test d f out (j + 1) ss (omega (arith, l)) in
    let a = tested_append test (row_after d f out (j, s)) (flat_map (λ s. s) (map (row_after d f out) (enumerate_from (j + 1) ss))) in
    let b = tested_append test s (flat_map (λ s. s) ss) in
    let c = row_tested test d f out j s in
    let k : cond (eqb j f.strand) (new_ones test d f) 0 ≡ 0 = ap (λ v. cond v (new_ones test d f) 0) (ne_eqb j f.strand (λ q. absurd {A = ⊥} (omega (arith, q, l)))) in
    a ∙ omega (arith, r, c, k, b)

rows_tested : (test : ℕ → Bool) (d : Drawing) (f : Finger) (out j : ℕ) (ss : List (List Exit)) → j ≤ f.strand → f.strand < j + length ss
    → tested test (flat_map (λ s. s) (map (row_after d f out) (enumerate_from j ss))) ≡ tested test (flat_map (λ s. s) ss) + new_ones test d f
rows_tested test d f out j [] l h = absurd (let v : ⊥ = omega (arith, l, h) in v)
rows_tested test d f out j (s ∷ ss) l h =
    let a = tested_append test (row_after d f out (j, s)) (flat_map (λ s. s) (map (row_after d f out) (enumerate_from (j + 1) ss))) in
    let b = tested_append test s (flat_map (λ s. s) ss) in
    let c = row_tested test d f out j s in
    elim (cases_eq j f.strand) [
      | inl q ↦ (
          let r = rows_rest test d f out (j + 1) ss (omega (arith, q)) in
          let k : cond (eqb j f.strand) (new_ones test d f) 0 ≡ new_ones test d f = ap (λ v. cond v (new_ones test d f) 0) (eq-eqb j f.strand q) in
          a ∙ omega (arith, r, c, k, b))
      | inr q ↦ (
          let r = rows_tested test d f out (j + 1) ss (omega (arith, q, l)) (omega (arith, h)) in
          let k : cond (eqb j f.strand) (new_ones test d f) 0 ≡ 0 = ap (λ v. cond v (new_ones test d f) 0) (ne_eqb j f.strand q) in
          a ∙ omega (arith, r, c, k, b))
    ]

-- a finger's new points
pub points_pushed : (d : Drawing) (f : Finger) → f.strand < length d.strands → ((k : ℕ) → partner d.polygon (partner d.polygon k) ≡ k) → (k : ℕ)
    → points_on (pushed d f) k ≡ points_on d k + (cond (eqb f.side k) 2 0 + cond (eqb (partner d.polygon f.side) k) 2 0)
points_pushed d f l twice k =
    let (out, e) = pushed_is d f in
    ap (λ (v : Drawing). points_on v k) e ∙ (
    let a = rows_tested (λ s. eqb s k) d f out 0 d.strands (omega arith) (omega (arith, l)) in
    let b = rows_tested (λ s. eqb (partner d.polygon s) k) d f out 0 d.strands (omega arith) (omega (arith, l)) in
    let c : eqb (partner d.polygon (partner d.polygon f.side)) k ≡ eqb f.side k = ap (λ v. eqb v k) (twice f.side) in
    let c' : cond {A = ℕ} (eqb (partner d.polygon (partner d.polygon f.side)) k) 1 0 ≡ cond (eqb f.side k) 1 0 = ap (λ v. cond {A = ℕ} v 1 0) c in
    let x = double (eqb f.side k) in
    let y = double (eqb (partner d.polygon f.side) k) in
    omega (arith, a, b, c', x, y))
  where
    double : (b : Bool) → cond {A = ℕ} b 2 0 ≡ cond b 1 0 + cond b 1 0
    double true = refl
    double false = refl
