-- The numbers of a burst's fingers, as code makes them: sums once a segment, then row after row.
use Rattle.std.proofs.Common.{◌≡◌, ℕ, zero, suc, ◌+◌, ◌*◌, ◌<◌, ◌≤◌, ◌^◌, Bool, true, false, cond, eqb, List, [], ◌∷◌, ◌++◌, length, get_or, take, drop, refl, sym, ◌∙◌, ap, ap₂, subst, arith, inl, inr}
use Rattle.std.specs.List.{sum_by}
use Rattle.std.proofs.Math.Nat.{mul-le-mul_left, mul-le-mul_right}
use Rattle.std.proofs.Math.Seq.{drop-cons, take-suc}
use Rattle.std.proofs.lemmas.List.{append_assoc, length-append, take-append-drop}
use Rattle.std.proofs.lemmas.List.Sums.{count_by-le-length, sum_by-cons}
use Rattle.obd_base.specs.Lists.{Mem}
use Rattle.obd_base.proofs.lists.Members.{mem_left}
use Rattle.obd_base.specs.declared.points.Exit.{Exit}
use Rattle.page_surface.specs.Drawing.{Drawing, all_exits, points_on}
use Rattle.page_surface.specs.Polygon.{partner}
use Rattle.drawing.specs.declared.finger.Finger.{Finger}
use Rattle.drawing.specs.Fingers.{finger}
use Rattle.nice_plan.specs.declared.chord_name.ChordName.{ChordName}
use Rattle.nice_plan.specs.declared.raised.Raised.{Raised}
use Rattle.nice_plan.specs.Numbers.{burst_fingers, chord_lift, lift, row_fingers, rows_fingers}
use Rattle.nice_plan.specs.Raised.{raised, raised_from, raised_row, row_place}

-- a side has at most two points for each exit
pub points_few : (d : Drawing) (k : ℕ) → points_on d k ≤ length (all_exits d) + length (all_exits d)
points_few d k = omega (arith, count_by-le-length (λ e. eqb e.side k) (all_exits d), count_by-le-length (λ e. eqb (partner d.polygon e.side) k) (all_exits d))

-- a segment raises another by at most two
pub lift_small : (d : Drawing) (s e : Exit) → lift d s e ≤ 2
lift_small d s e = two (eqb e.side s.side) (eqb e.side (partner d.polygon s.side)) _ _
  where
    low : (b : Bool) → cond b 0 2 ≤ 2
    low true = omega arith
    low false = omega arith

    two : (a b c e : Bool) → cond a (cond c 0 2) (cond b (cond e 0 2) 0) ≤ 2
    two true b c e = low c
    two false true c e = low e
    two false false c e = omega arith

-- so some raise it by at most twice their number
pub lifts_small : (d : Drawing) (before : List Exit) (s : Exit) → sum_by (λ e. lift d e s) before ≤ length before + length before
lifts_small d [] s = omega arith
lifts_small d (e ∷ es) s = omega (arith, sum_by-cons (λ e. lift d e s) e es, lift_small d e s, lifts_small d es s)

-- the sums so far, and what is left of them
pub raised_more : (d : Drawing) (path : List Exit) (done : List Raised) (at : ℕ) (s z : Exit) → at < length path → s ≡ get_or path at z
    → done ++ raised_from d path (take at path) (drop at path) ≡ raised_from d path [] path
    → (done ++ (raised d path (take at path) s ∷ [])) ++ raised_from d path (take (suc at) path) (drop (suc at) path) ≡ raised_from d path [] path
raised_more d path done at s z l is h =
    let x = get_or path at z in
    let a : raised_from d path (take at path) (drop at path) ≡ raised d path (take at path) x ∷ raised_from d path (take at path ++ (x ∷ [])) (drop (suc at) path) = ap (raised_from d path (take at path)) (drop-cons path at z l) in
    let b : raised_from d path (take (suc at) path) (drop (suc at) path) ≡ raised_from d path (take at path ++ (x ∷ [])) (drop (suc at) path) = ap (λ w. raised_from d path w (drop (suc at) path)) (take-suc path at z l) in
    append_assoc done (raised d path (take at path) s ∷ []) (raised_from d path (take (suc at) path) (drop (suc at) path))
    ∙ (ap (λ w. done ++ (raised d path (take at path) w ∷ raised_from d path (take (suc at) path) (drop (suc at) path))) is
    ∙ (ap (λ w. done ++ (raised d path (take at path) x ∷ w)) b
    ∙ (ap (λ w. done ++ w) (sym a) ∙ h)))

-- a row by its sums is the row of the closed form
pub row_by_sums : (d : Drawing) (all : List Exit) (q i c : ℕ) (before ss : List Exit) → row_fingers d all q i c before ss ≡ raised_row q i c (raised_from d all before ss)
row_by_sums d all q i c before [] = refl
row_by_sums d all q i c before (s ∷ ss) = ap (λ w. finger i c s.side (row_place q (raised d all before s)) ∷ w) (row_by_sums d all q i (c + 1) (before ++ (s ∷ [])) ss)

-- one row more
pub rows_more : (d : Drawing) (all : List Exit) (cs : List ChordName) (done : List Finger) (at : ℕ) (c z : ChordName) → at < length cs → c ≡ get_or cs at z
    → done ++ rows_fingers d all at (take at cs) (drop at cs) ≡ burst_fingers d cs all
    → (done ++ raised_row at c.strand (c.chord + sum_by (λ b. chord_lift (length all) b c) (take at cs)) (raised_from d all [] all)) ++ rows_fingers d all (suc at) (take (suc at) cs) (drop (suc at) cs) ≡ burst_fingers d cs all
rows_more d all cs done at c z l is h =
    let x = get_or cs at z in
    let row = λ (c : ChordName). row_fingers d all at c.strand (c.chord + sum_by (λ b. chord_lift (length all) b c) (take at cs)) [] all in
    let rest = rows_fingers d all (suc at) (take (suc at) cs) (drop (suc at) cs) in
    let a : rows_fingers d all at (take at cs) (drop at cs) ≡ row x ++ rows_fingers d all (suc at) (take at cs ++ (x ∷ [])) (drop (suc at) cs) = ap (rows_fingers d all at (take at cs)) (drop-cons cs at z l) in
    let b : rest ≡ rows_fingers d all (suc at) (take at cs ++ (x ∷ [])) (drop (suc at) cs) = ap (λ w. rows_fingers d all (suc at) w (drop (suc at) cs)) (take-suc cs at z l) in
    ap (λ w. (done ++ w) ++ rest) (sym (row_by_sums d all at c.strand _ [] all))
    ∙ (append_assoc done (row c) rest
    ∙ (ap (λ w. done ++ (row w ++ rest)) is
    ∙ (ap (λ w. done ++ (row x ++ w)) b
    ∙ (ap (λ w. done ++ w) (sym a) ∙ h))))

-- the sums of a segment are at most twice the segments
pub record IsSmall (ss all : List Exit) (r : Raised) : Type 0 where
  pub listed : Mem r.segment ss
  pub all_small : r.all ≤ length all + length all
  pub before_small : r.before ≤ length all + length all

pub raised_small : (d : Drawing) (all before ss : List Exit) → length before + length ss ≤ length all → (r : Raised) → Mem r (raised_from d all before ss) → IsSmall ss all r
raised_small d all before [] l r m = absurd m
raised_small d all before (s ∷ ss) l r (inl e) = record {
  listed = inl (ap (λ w. w.segment) e);
  all_small = (let q = ap (λ (w : Raised). w.all) e in omega (arith, q, lifts_small d all s));
  before_small = (let q = ap (λ (w : Raised). w.before) e in omega (arith, q, lifts_small d before s, l));
}
raised_small d all before (s ∷ ss) l r (inr m) =
    let h = raised_small d all (before ++ (s ∷ [])) ss (omega (arith, l, length-append before (s ∷ []))) r m in
    record { listed = inr h.listed; all_small = h.all_small; before_small = h.before_small }

-- so numbers stay small where the fingers do
pub place_small : (points chords n q place : ℕ) (all before : ℕ) → place ≤ points + points → all ≤ n + n → before ≤ n + n → q < chords → 0 < n → points + 2 * (chords * n) < 2 ^ 28
    → place + (q + (q * all + before)) < 2 ^ 30
place_small points chords n q place all before hp ha hb hq pos few =
    let a = mul-le-mul_left q ha in
    let b : suc q * (n + n) ≤ chords * (n + n) = mul-le-mul_right (n + n) hq in
    let c : suc q * (n + n) ≡ (n + n) + q * (n + n) = omega arith in
    let e : chords * (n + n) ≡ chords * n + chords * n = omega arith in
    let f : chords * 1 ≤ chords * n = mul-le-mul_left chords pos in
    let g : chords * 1 ≡ chords = omega arith in
    omega (arith, hp, a, b, c, e, f, g, hb, hq, few)

-- those of chords too
pub chord_small : (points chords n q chord lifts : ℕ) → chord ≤ points → lifts ≤ (n + n) * q → q < chords → points + 2 * (chords * n) < 2 ^ 28 → chord + lifts + n < 2 ^ 30
chord_small points chords n q chord lifts hc hl hq few =
    let b : (n + n) * suc q ≤ (n + n) * chords = mul-le-mul_left (n + n) hq in
    let c : (n + n) * suc q ≡ (n + n) + (n + n) * q = omega arith in
    let e : (n + n) * chords ≡ chords * n + chords * n = omega arith in
    omega (arith, hc, hl, b, c, e, few)

-- a member of a beginning is a member
pub mem_take : {X : Type 0} (n : ℕ) (xs : List X) (x : X) → Mem x (take n xs) → Mem x xs
mem_take n xs x m = subst (λ ys. Mem x ys) (take-append-drop n xs) (mem_left x (take n xs) (drop n xs) m)

-- a beginning as long as the list is the list
pub take_whole : {X : Type 0} (xs : List X) (n : ℕ) → length xs ≤ n → take n xs ≡ xs
take_whole [] zero l = refl
take_whole [] (suc n) l = refl
take_whole (x ∷ xs) zero l = absurd (let w : ⊥ = omega (arith, l) in w)
take_whole (x ∷ xs) (suc n) l = ap (λ w. x ∷ w) (take_whole xs n (omega (arith, l)))

-- as many sums as segments
pub length_raised : (d : Drawing) (all before ss : List Exit) → length (raised_from d all before ss) ≡ length ss
length_raised d all before [] = refl
length_raised d all before (s ∷ ss) = ap suc (length_raised d all (before ++ (s ∷ [])) ss)

-- an entry by its sums
pub raised_is : (d : Drawing) (all before : List Exit) (s : Exit) (a b : ℕ) → a ≡ sum_by (λ e. lift d e s) all → b ≡ sum_by (λ e. lift d e s) before
    → record { segment = s; all = a; before = b } ≡ raised d all before s
raised_is d all before s a b p q = ap₂ (λ a b. record { segment = s; all = a; before = b }) p q

-- and few segments
pub segments_small : (points chords n : ℕ) → 1 ≤ chords → points + 2 * (chords * n) < 2 ^ 28 → n < 2 ^ 28
segments_small points chords n pos few =
    let f : 1 * n ≤ chords * n = mul-le-mul_right n pos in
    let g : 1 * n ≡ n = omega arith in
    omega (arith, f, g, few)
