-- The tables of the meetings: what is counted along each chord of the curve, and the numbers that follow.
use Rattle.std.proofs.Common.{◌≡◌, ℕ, suc, ◌+◌, ◌<◌, ◌≤◌, ◌^◌, Bool, true, false, cond, not, ◌&&◌, List, [], ◌∷◌, ◌++◌, map, length, get_or, refl, sym, ◌∙◌, ap, ap₂, inl, inr, arith, zero-add}
use Rattle.std.specs.List.{count_by, sum_by}
use Rattle.std.proofs.lemmas.Bool.{cases_eq, ne_eqb}
use Rattle.std.proofs.lemmas.List.{get_or-map, get_or_read, length-map}
use Rattle.std.proofs.lemmas.List.FromFn.{get_or-map-range_with_len, length-map-range_with_len, length-range_with_len}
use Rattle.std.proofs.lemmas.List.Sums.{count_by-le-length, sum_by-append, sum_by-cons}
use Rattle.obd_base.specs.Lists.{Mem, below}
use Rattle.obd_base.specs.declared.points.Exit.{Exit}
use Rattle.obd_base.proofs.lists.Below.{bit, count_suc, mem_below}
use Rattle.obd_base.proofs.lists.Sums.{sum_same}
use Rattle.page_surface.specs.Drawing.{Chord, Drawing, beyond}
use Rattle.page_surface.specs.Polygon.{sides}
use Rattle.drawing.specs.Round.{other_end}
use Rattle.drawing.proofs.Mates.{end_here, other_stays}
use Rattle.drawing.proofs.Placed.{ends_at, ends_of}
use Rattle.dehn_twist.specs.Surgery.{chord_end, chord_start, curve_number, curve_ring, meetings_upto, merged_chords, merged_curve, merged_start}
use Rattle.dehn_twist.specs.declared.ring.CurvePoint.{CurvePoint}
use Rattle.obd_base.proofs.lists.Maps.{map_same}
use Rattle.dehn_twist.specs.Tables.{AreMeetings, AreTaken, crossed_of, curve_point, merged_mates, parts}
use Rattle.dehn_twist.proofs.Merged.{one_end_each}
use Rattle.dehn_twist.proofs.MeetingSums.{crossings, crossings_are, parted}
use Rattle.dehn_twist.proofs.TwoLists.{end_is, is_end, no_end_is}
use Rattle.dehn_twist.proofs.OrderTables.{map_push, size_few}

-- one number more is counted
pub crossed_more : (mates : List ℕ) (a : Chord) (n count step next : ℕ) (counts after : List ℕ) → count ≡ count_by (parts mates a) (below n)
    → counts ≡ map (λ z. count_by (parts mates a) (below z)) (below (suc n)) → step ≡ cond (parts mates a n) 1 0 → next ≡ count + step → after ≡ counts ++ next ∷ []
    → (next ≡ count_by (parts mates a) (below (n + 1))) × (after ≡ map (λ z. count_by (parts mates a) (below z)) (below (suc (n + 1)))) × (step ≤ 1)
crossed_more mates a n count step next counts after here so_far one is grown =
    let f = λ (z : ℕ). count_by (parts mates a) (below z) in
    let e : suc n ≡ n + 1 = omega arith in
    let b : step ≡ bit (parts mates a n) = one in
    let now : next ≡ f (n + 1) = (let k = ap f e in omega (arith, here, b, is, count_suc (parts mates a) n, k)) in
    (now, map_push f (suc n) counts after next so_far (now ∙ ap f (sym e)) grown ∙ ap (λ k. map f (below k)) (let z : suc n + 1 ≡ suc (n + 1) = omega arith in z), small (parts mates a n) one)
  where
    small : (b : Bool) → step ≡ cond b 1 0 → step ≤ 1
    small true e = omega (arith, e)
    small false e = omega (arith, e)

-- a number of a row, as it is read
pub cell_read : (rows : List (List ℕ)) (a n : ℕ) (row : List ℕ) (x : ℕ) → a < length rows → row ≡ get_or rows a row → x ≡ get_or row n x → n < length (get_or rows a [])
    → x ≡ get_or (get_or rows a []) n 0
cell_read rows a n row x l is read inside =
    let e : row ≡ get_or rows a [] = get_or_read rows a row l is [] in
    let h : n < length row = omega (arith, inside, ap length e) in
    get_or_read row n x h read 0 ∙ ap (λ r. get_or r n 0) e

-- a chord of the curve from the numbers of its ends
pub curve_chord_is : (d : Drawing) (c : List Exit) (a : ℕ) (start end : Exit) (from to : ℕ) (t : Chord) → start ≡ chord_start d.polygon c a → end ≡ chord_end c a → from ≡ curve_number d c start
    → to ≡ curve_number d c end → t ≡ record { from = from; to = to } → t ≡ merged_curve d c a
curve_chord_is d c a start end from to t s e f g is = is ∙ ap₂ (λ (x y : ℕ). record { from = x; to = y }) (f ∙ ap (curve_number d c) s) (g ∙ ap (curve_number d c) e)

-- chords before others that don't end at a number
other_behind : (ks ss : List Chord) (x : ℕ) → ends_at ks x ≡ 0 → other_end (ks ++ ss) x ≡ other_end ss x
other_behind [] ss x h = refl
other_behind (k ∷ ks) ss x h =
    let s = sum_by-cons (λ k. ends_of k x) k ks in
    let r = end_here k x (omega (arith, s, h)) in
    rw (ne_eqb k.from x r.0, ne_eqb k.to x r.1) (other_behind ks ss x (omega (arith, s, h)))

-- counts of tests that agree
counts_same : (p q : ℕ → Bool) (xs : List ℕ) → ((x : ℕ) → Mem x xs → p x ≡ q x) → count_by p xs ≡ count_by q xs
counts_same p q xs h = sum_same (λ x. bit (p x)) (λ x. bit (q x)) xs (λ x m. ap bit (h x m))

module _ (d : Drawing) (c : List Exit) (ok : AreTaken d c) where
  abbrev ss : List Chord
  ss = merged_chords d c

  abbrev ks : List Chord
  ks = map (merged_curve d c) (below (length c))

  abbrev size' : ℕ
  size' = merged_start d c (sides d.polygon)

  abbrev mates' : List ℕ
  mates' = merged_mates d c

  -- as many mates as numbers
  pub mates_size : length (merged_mates d c) ≡ merged_start d c (sides d.polygon)
  mates_size = length-map-range_with_len (other_end (merged_chords d c)) 0 (merged_start d c (sides d.polygon))

  -- the mates tell which points a chord of the curve parts from their mates
  parts_are : (a x : ℕ) → x < size' → parts mates' (merged_curve d c a) x ≡ parted d ok.embedded c ok.curve a x
  parts_are a x l =
      let read : get_or mates' x x ≡ other_end ss x = get_or-map-range_with_len (other_end ss) 0 size' x x x l (zero-add x) in
      let split : ends_at (ks ++ ss) x ≡ ends_at ks x + ends_at ss x = sum_by-append (λ c. ends_of c x) ks ss in
      ap (λ z. beyond (merged_curve d c a) x && not (beyond (merged_curve d c a) z)) read ∙ elim (cases_eq (ends_at ss x) 0) [
        | inl n ↦ (let s = other_stays ss x n in let o = no_end_is ss x n in rw (s, o) (none (beyond (merged_curve d c a) x)))
        | inr y ↦ (let o = one_end_each d ok.embedded c ok.curve x in
            let b = other_behind ks ss x (omega (arith, split, o, y)) in
            let e : is_end ss x ≡ true = end_is ss x y in rw (e, b) refl)
      ]
    where
      none : (b : Bool) → (b && not b) ≡ false
      none true = refl
      none false = refl

  -- so the counts are those of the meetings' numbers
  pub counts_are : (a x : ℕ) → x ≤ size' → count_by (parts mates' (merged_curve d c a)) (below x) ≡ count_by (parted d ok.embedded c ok.curve a) (below x)
  counts_are a x l = counts_same (parts mates' (merged_curve d c a)) (parted d ok.embedded c ok.curve a) (below x) (λ z m. parts_are a z (let h = mem_below x z m in omega (arith, h, l)))

  -- there are few numbers
  pub mates_few : length (merged_mates d c) < 2 ^ 18
  mates_few = omega (arith, mates_size, size_few d c ok)

  module _ (chords : List Chord) (crossed : List (List ℕ)) (mates : List ℕ) (n : ℕ) (mates_is : mates ≡ merged_mates d c) (size_is : n ≡ length mates) (chords_is : chords ≡ map (merged_curve d c) (below (length c)))
      (crossed_is : crossed ≡ map (crossed_of mates) chords) where
    -- one row a chord
    pub rows_count : length crossed ≡ length c
    rows_count = ap length crossed_is ∙ (length-map chords (crossed_of mates) ∙ (ap length chords_is ∙ length-map-range_with_len (merged_curve d c) 0 (length c)))

    -- at most 32
    pub rows_few : length crossed ≤ 32
    rows_few = omega (arith, rows_count, ok.few_exits)

    -- a row
    pub row_is : (a : ℕ) → a < length c → get_or crossed a [] ≡ crossed_of (merged_mates d c) (merged_curve d c a)
    row_is a l =
        let r : length chords ≡ length c = ap length chords_is ∙ length-map-range_with_len (merged_curve d c) 0 (length c) in
        let t : Chord = record { from = 0; to = 0 } in
        ap (λ xs. get_or xs a []) crossed_is ∙ (get_or-map (crossed_of mates) chords a t [] (omega (arith, r, l))
        ∙ ap₂ crossed_of mates_is (ap (λ xs. get_or xs a t) chords_is ∙ get_or-map-range_with_len (merged_curve d c) 0 (length c) a a t l (zero-add a)))

    -- has an entry for each number and one for all
    pub row_long : (a : ℕ) → a < length crossed → n < length (get_or crossed a [])
    row_long a l =
        let k : a < length c = omega (arith, rows_count, l) in
        let e = ap length (row_is a k) ∙ length-map-range_with_len (λ z. count_by (parts (merged_mates d c) (merged_curve d c a)) (below z)) 0 (suc (length (merged_mates d c))) in
        omega (arith, e, size_is, ap length mates_is)

    -- the last one counts the meetings of the chord
    row_last : (a : ℕ) → a < length c → get_or (get_or crossed a []) n 0 ≡ crossings d ok.embedded c ok.curve a
    row_last a l =
        let f = λ (z : ℕ). count_by (parts (merged_mates d c) (merged_curve d c a)) (below z) in
        let m : n ≡ merged_start d c (sides d.polygon) = size_is ∙ (ap length mates_is ∙ mates_size) in
        let h : merged_start d c (sides d.polygon) < suc (length (merged_mates d c)) = omega (arith, mates_size) in
        ap₂ (λ xs i. get_or xs i 0) (row_is a l) m
        ∙ (get_or-map-range_with_len f 0 (suc (length (merged_mates d c))) (merged_start d c (sides d.polygon)) (merged_start d c (sides d.polygon)) 0 h (zero-add (merged_start d c (sides d.polygon)))
        ∙ (counts_are a (merged_start d c (sides d.polygon)) (let z : merged_start d c (sides d.polygon) ≤ merged_start d c (sides d.polygon) = omega arith in z) ∙ sym (crossings_are d ok.embedded c ok.curve a)))

    -- which are few
    pub row_small : (a : ℕ) → a < length crossed → get_or (get_or crossed a []) n 0 ≤ 2 ^ 18
    row_small a l =
        let k : a < length c = omega (arith, rows_count, l) in
        let p = parted d ok.embedded c ok.curve a in
        omega (arith, row_last a k, crossings_are d ok.embedded c ok.curve a, count_by-le-length p (below (merged_start d c (sides d.polygon))), length-range_with_len 0 (merged_start d c (sides d.polygon)), size_few d c ok)

    -- so the sums are the meetings before each chord
    uptos_is : (a : ℕ) → a ≤ length c → sum_by (λ b. get_or (get_or crossed b []) n 0) (below a) ≡ meetings_upto d c a
    uptos_is a l = sum_same _ (crossings d ok.embedded c ok.curve) (below a) (λ b m. row_last b (let h = mem_below a b m in omega (arith, h, l)))

    -- all of them
    pub uptos_made : (uptos : List ℕ) → uptos ≡ map (λ a. sum_by (λ b. get_or (get_or crossed b []) n 0) (below a)) (below (suc (length crossed)))
        → uptos ≡ map (meetings_upto d c) (below (suc (length c)))
    uptos_made uptos is =
        let f = λ (a : ℕ). sum_by (λ b. get_or (get_or crossed b []) n 0) (below a) in
        is ∙ (ap (λ k. map f (below (suc k))) rows_count
        ∙ map_same f (meetings_upto d c) (below (suc (length c))) (λ a m. uptos_is a (let h = mem_below (suc (length c)) a m in omega (arith, h))))

    -- the tables
    pub meetings_made : (uptos : List ℕ) (ring : List CurvePoint) → uptos ≡ map (λ a. sum_by (λ b. get_or (get_or crossed b []) n 0) (below a)) (below (suc (length crossed)))
        → ring ≡ map (curve_point d c) (curve_ring d.polygon c) → AreMeetings d c chords crossed uptos ring
    meetings_made uptos ring u r = record {
      chords_are = chords_is;
      crossed_are = crossed_is ∙ ap (λ ms. map (crossed_of ms) chords) mates_is;
      uptos_are = uptos_made uptos u;
      ring_are = r;
    }
