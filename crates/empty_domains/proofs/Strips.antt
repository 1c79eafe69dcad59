-- A strip reads off each try that takes a set apart row by row, and what it reads off are tries.
use Rattle.std.proofs.Common.{◌≡◌, ℕ, zero, suc, ◌+◌, ◌-◌, ◌≤◌, ◌<◌, ◌⊎◌, inl, inr, Bool, true, false, cond, eqb, ltb, leb, not, ◌&&◌, List, [], ◌∷◌, get_or, length, map, set, refl, sym, ap, subst, arith, ◌∙◌, zero-add}
use Rattle.std.specs.List.{prefix_len, range_with_len}
use Rattle.std.proofs.lemmas.Bool.{cases_eq, cases_lt, cases_Bool, lt-ltb, le-leb, eq-eqb, ne_eqb, and_from, false≢true, not_from_false}
use Rattle.std.proofs.lemmas.List.Sums.{prefix_len-le-length, prefix_len_stops}
use Rattle.std.proofs.lemmas.List.FromFn.{length-range_with_len, get_or-range_with_len}
use Rattle.drawing.specs.Pieces.{inner_pieces, is_base, span_count}
use Rattle.drawing.specs.Round.{opposite, side_of}
use Rattle.empty_domains.proofs.Along.{room_is}
use Rattle.empty_domains.proofs.Begins.{IsChoice}
use Rattle.empty_domains.proofs.Diagram.{IsCross, IsPoint, other_of, opp_twice}
use Rattle.empty_domains.proofs.DomainGeneral.{Rules}
use Rattle.empty_domains.proofs.NiceSets.{marked_under, marked_is_point}
use Rattle.empty_domains.proofs.Stands.{no_stand}
use Rattle.empty_domains.proofs.ArcPoints.{opp_point}
use Rattle.empty_domains.proofs.Swept.{row_some, row_less}
use Rattle.empty_domains.proofs.Total.{total}
use Rattle.empty_domains.proofs.Trace.{IsRow, Trace, final, further}
use Rattle.empty_domains.proofs.Without.{without, row_or_not, gone, at_most}
use Rattle.hkm_diagram.proofs.ContactColumn.{mark}
use Rattle.hkm_diagram.proofs.ContactLaw.{base_unmarked}
use Rattle.empty_domains.specs.Strip.{step, stand, stands, row_goes, widest, bigon_at, rectangle_at, strip_ends, strip, spacing, no_rows}
use Rattle.empty_domains.specs.Sweep.{sweep}
use Rattle.empty_domains.specs.Walk.{Try, try, is_last, room}
use Rattle.obd_base.proofs.lists.Members.{mem_left, mem_right}
use Rattle.obd_base.specs.Lists.{below, has, Mem}
use Rattle.page_surface.specs.Drawing.{Drawing, points_on, IsEmbedded}
use Rattle.page_surface.specs.Polygon.{arc, sides}

-- a row is as wide as the pieces that may be taken
wide : (p : ℕ → Bool) (most r : ℕ) → r ≤ most → ((i : ℕ) → i < r → p i ≡ true) → r ≤ prefix_len p (below most)
wide p most r l h = elim (cases_lt (prefix_len p (below most)) r) [
  | inr k ↦ k
  | inl k ↦ absurd (
      let n = length-range_with_len 0 most in
      let s = prefix_len_stops p (below most) 0 (omega (arith, n)) in
      let e : get_or (below most) (prefix_len p (below most)) 0 ≡ prefix_len p (below most) = get_or-range_with_len 0 most (prefix_len p (below most)) 0 (omega arith) ∙ zero-add _ in
      let f : p (prefix_len p (below most)) ≡ false = subst (λ i. p i ≡ false) e s in
      false≢true (sym f ∙ h (prefix_len p (below most)) k))
]

-- a row is no wider than its bound
pub widest-le : (d : Drawing) (y : List ℕ) (c most : ℕ) → widest d y c most ≤ most
widest-le d y c most = omega (arith, prefix_len-le-length (row_goes d y c) (below most), length-range_with_len 0 most)

-- nor does the table widen it
pub spacing-le : (lasts : List ℕ) (side c most : ℕ) → spacing lasts side c most ≤ most
spacing-le lasts side c most = elim (cases_eq (get_or lasts side 0) 0) [
  | inl e ↦ (let q : eqb (get_or lasts side 0) 0 ≡ true = eq-eqb _ _ e in rw q (omega arith))
  | inr n ↦ (let q : eqb (get_or lasts side 0) 0 ≡ false = ne_eqb _ _ n in rw q (omega arith))
]

-- an entry of a changed list is the new one or the old one
set_either : (xs : List ℕ) (j v k : ℕ) → (get_or (set xs j v) k 0 ≡ v) ⊎ (get_or (set xs j v) k 0 ≡ get_or xs k 0)
set_either [] j v k = inr refl
set_either (x ∷ xs) zero v zero = inl refl
set_either (x ∷ xs) zero v (suc k) = inr refl
set_either (x ∷ xs) (suc j) v zero = inr refl
set_either (x ∷ xs) (suc j) v (suc k) = set_either xs j v k

-- at first nothing stands in the table
none_yet : (n k a : ℕ) → (let zeros : List ℕ = map (λ i. 0) (range_with_len a n) in get_or zeros k 0) ≡ 0
none_yet zero k a = refl
none_yet (suc n) zero a = refl
none_yet (suc n) (suc k) a = none_yet n k (a + 1)

-- the rows of width r that the table tells of are gone from the set
abbrev pub AreGone : List ℕ → ℕ → (ℕ → ℕ) → Type 0
AreGone lasts r f = (k b : ℕ) → get_or lasts k 0 ≡ suc b → (i : ℕ) → i < r → f (suc (b + i)) ≡ 0

-- at first there are none
pub none_gone : (d : Drawing) (r : ℕ) (f : ℕ → ℕ) → AreGone (no_rows d) r f
none_gone d r f k b e i l = absurd (let z = none_yet (sides d.polygon) k 0 in omega arith)

-- so a row of the set is no wider than the table allows
apart : (lasts : List ℕ) (side c r most : ℕ) (f : ℕ → ℕ) → AreGone lasts r f → ((i : ℕ) → i < r → f (suc (c + i)) ≡ 1) → r ≤ most → r ≤ spacing lasts side c most
apart lasts side c r most f gone near l = elim (cases_eq (get_or lasts side 0) 0) [
  | inl e ↦ (let q : eqb (get_or lasts side 0) 0 ≡ true = eq-eqb _ _ e in rw q l)
  | inr n ↦ (
      let b = get_or lasts side 0 - 1 in
      let q : eqb (get_or lasts side 0) 0 ≡ false = ne_eqb _ _ n in
      let e : get_or lasts side 0 ≡ suc b = omega arith in
      let far : r ≤ (c - b) + (b - c) = elim (cases_lt c b) [
        | inl k ↦ elim (cases_lt (b - c) r) [
          | inr u ↦ omega arith
          | inl u ↦ absurd (
              let z : f (suc (b + 0)) ≡ 0 = gone side b e 0 (omega arith) in
              let o : f (suc (c + (b - c))) ≡ 1 = near (b - c) u in
              let w : suc (c + (b - c)) ≡ suc (b + 0) = omega arith in
              let o' : f (suc (b + 0)) ≡ 1 = rw w at o in
              omega arith)
        ]
        | inr k ↦ elim (cases_lt (c - b) r) [
          | inr u ↦ omega arith
          | inl u ↦ absurd (
              let z : f (suc (b + (c - b))) ≡ 0 = gone side b e (c - b) u in
              let o : f (suc (c + 0)) ≡ 1 = near 0 (omega arith) in
              let w : suc (b + (c - b)) ≡ suc (c + 0) = omega arith in
              let z' : f (suc (c + 0)) ≡ 0 = rw w at z in
              omega arith)
        ]
      ] in
      rw q (omega arith))
]

module _ (d : Drawing) where
  -- a bigon's width is read off where the row's first chord leads back to the row
  pub bigon_read : (i a c width h r : ℕ) → other_of d c ≡ c + r → 0 < r → r ≤ width → Mem (step (try i a r i a) h) (bigon_at d i a c width h)
  bigon_read i a c width h r e p l = go (other_of d c) e
    where
      go : (b : ℕ) → b ≡ c + r → Mem (step (try i a r i a) h) (cond (ltb c b && leb (b - c) width) (step (try i a (b - c) i a) h ∷ []) [])
      go b q =
          let w : b - c ≡ r = omega arith in
          rw (lt-ltb c b (omega arith), w, le-leb r width l) (inl refl)

  -- a rectangle's, where it leads to a side with y's point before
  pub rectangle_read : (y : List ℕ) (i a c width h r k p : ℕ) → other_of d c ≡ p + r → 0 < r → r ≤ width → stand d y (side_of d (other_of d c)) ≡ p
      → arc d.polygon (side_of d (other_of d c)) ≡ k → i < k → Mem (step (try i a r k p) h) (rectangle_at d y i a c width h)
  rectangle_read y i a c width h r k p e q l s t u = go (other_of d c) (stand d y (side_of d (other_of d c))) (arc d.polygon (side_of d (other_of d c))) e s t
    where
      go : (b z m : ℕ) → b ≡ p + r → z ≡ p → m ≡ k
          → Mem (step (try i a r k p) h) (cond (ltb i m && (ltb z b && leb (b - z) width)) (step (try i a (b - z) m z) h ∷ []) [])
      go b z m e s t =
          let w : b - p ≡ r = omega arith in
          rw (t, s, lt-ltb i k u, lt-ltb p b (omega arith), w, le-leb r width l) (inl refl)

module _ (d : Drawing) (ok : IsEmbedded d) (area : List ℕ) (inner : (s : ℕ) → has area s ≡ true → has (inner_pieces d) s ≡ true)
    (y x : List ℕ) (rules : Rules d y x area) (choice : IsChoice d y) (t : Try) where
  -- the marks of the whole set
  abbrev all : ℕ → ℕ
  all = mark d area

  -- the set taken apart from a row on
  abbrev Cut : (ℕ → ℕ) → ℕ → Type 0
  Cut f c = Trace (other_of d) (opposite d) (IsCross d) (is_last t) t.width f c

  -- each piece of a row of the set may be taken
  goes : (f : ℕ → ℕ) (c : ℕ) → IsRow (other_of d) (opposite d) (IsCross d) f c t.width → ((s : ℕ) → f s ≡ 1 → all s ≡ 1)
      → (i : ℕ) → i < t.width → row_goes d y c i ≡ true
  goes f c row sub i l =
      let one : all (suc (c + i)) ≡ 1 = sub (suc (c + i)) (row.edge.near i l) in
      let under = marked_under d ok area inner (suc (c + i)) one in
      let not_base : is_base d (suc (c + i)) ≡ false = elim (cases_Bool (is_base d (suc (c + i)))) [
        | inl b ↦ absurd (let z = base_unmarked d area inner (suc (c + i)) under b in omega arith)
        | inr b ↦ b
      ] in
      let e : c + suc i ≡ suc (c + i) = omega arith in
      let side_by_side : other_of d (c + suc i) + suc i ≡ other_of d c = row.near_back (suc i) (omega arith) in
      let point : IsPoint d (c + suc i) = subst (λ n. IsPoint d n) (sym e) (marked_is_point d ok area inner (suc (c + i)) one) in
      let one' : all (c + suc i) ≡ 1 = subst (λ n. all n ≡ 1) (sym e) one in
      let free : stands d y (c + suc i) ≡ false = no_stand d ok y choice area inner x rules (c + suc i) point (omega arith) in
      and_from (not (is_base d (suc (c + i)))) _ (not_from_false _ not_base) (and_from (eqb (other_of d (c + suc i) + suc i) (other_of d c)) _ (eq-eqb _ _ side_by_side) (not_from_false _ free))

  -- the try is read off at the row at which the sweep ends
  pub record Read (n c most h : ℕ) (lasts : List ℕ) : Type 0 where
    pub steps : ℕ
    pub listed : Mem (step t steps) (strip d y t.first t.start n c most h lasts)
    pub count : length (sweep (other_of d) (opposite d) (is_last t) t.width n c) + h ≡ suc steps

  module _ (under : (z : ℕ) → IsCross d z → suc z < span_count d)
      (last_read : (c width h : ℕ) → is_last t c (other_of d (c + t.width)) ≡ true → other_of d c ≡ other_of d (c + t.width) + t.width → t.width ≤ width
      → Mem (step t h) (bigon_at d t.first t.start c width h) ⊎ Mem (step t h) (rectangle_at d y t.first t.start c width h)) where
    pub strip_reads : (n : ℕ) (f : ℕ → ℕ) (c most h : ℕ) (lasts : List ℕ) → Cut f c → ((s : ℕ) → f s ≡ 1 → all s ≡ 1) → AreGone lasts t.width f
        → t.width ≤ most → total f (span_count d) ≤ n → Read n c most h lasts
    strip_reads zero f c most h lasts (final row e whole) sub away w l = absurd (omega (arith, row_some (other_of d) (opposite d) (IsCross d) (is_last t) t.width (span_count d) under f c row))
    strip_reads zero f c most h lasts (further row e x p cut) sub away w l = absurd (omega (arith, row_some (other_of d) (opposite d) (IsCross d) (is_last t) t.width (span_count d) under f c row))
    strip_reads (suc n) f c most h lasts (final row e whole) sub away w l =
        let m = widest d y c (spacing lasts (side_of d c) c most) in
        let fits = wide (row_goes d y c) (spacing lasts (side_of d c) c most) t.width (apart lasts (side_of d c) c t.width most f away row.edge.near w) (goes f c row sub) in
        let back = sym (row.near_back t.width (omega arith)) in
        let rest = cond (strip_ends d y (other_of d c) m) [] (strip d y t.first t.start n (opposite d (other_of d c)) m (suc h) (set lasts (side_of d c) (suc c))) in
        record {
          steps = h;
          listed = elim (last_read c m h e back fits) [
            | inl k ↦ mem_left (step t h) (bigon_at d t.first t.start c m h) _ k
            | inr k ↦ mem_right (step t h) (bigon_at d t.first t.start c m h) _ (mem_left (step t h) (rectangle_at d y t.first t.start c m h) rest k)
          ];
          count = rw e (omega arith);
        }
    strip_reads (suc n) f c most h lasts (further row e cross p cut) sub away w l =
        let m = widest d y c (spacing lasts (side_of d c) c most) in
        let fits = wide (row_goes d y c) (spacing lasts (side_of d c) c most) t.width (apart lasts (side_of d c) c t.width most f away row.edge.near w) (goes f c row sub) in
        let b = other_of d c in
        let lower = row_less (other_of d) (opposite d) (IsCross d) (is_last t) t.width (span_count d) under f c row in
        let later = strip_reads n (without f c (other_of d (c + t.width)) t.width) (opposite d b) m (suc h) (set lasts (side_of d c) (suc c)) cut (smaller f c sub) (still lasts f c away) fits (omega arith) in
        let ends : strip_ends d y b m ≡ false = no_end f c row sub cross m fits in
        let later_steps = strip d y t.first t.start n (opposite d b) m (suc h) (set lasts (side_of d c) (suc c)) in
        let tail : cond (strip_ends d y b m) [] later_steps ≡ later_steps = rw ends refl in
        record {
          steps = later.steps;
          listed = mem_right (step t later.steps) (bigon_at d t.first t.start c m h) _ (mem_right (step t later.steps) (rectangle_at d y t.first t.start c m h) _
              (subst (λ zs. Mem (step t later.steps) zs) (sym tail) later.listed));
          count = (let k = later.count in rw e (omega arith));
        }
      where
        smaller : (f : ℕ → ℕ) (c : ℕ) → ((s : ℕ) → f s ≡ 1 → all s ≡ 1) → (s : ℕ) → without f c (other_of d (c + t.width)) t.width s ≡ 1 → all s ≡ 1
        smaller f c sub s q = elim (row_or_not f c (other_of d (c + t.width)) t.width s) [ inl k ↦ absurd (omega (arith, k.1, q)) | inr k ↦ sub s (sym k.2 ∙ q) ]

        still : (lasts : List ℕ) (f : ℕ → ℕ) (c : ℕ) → AreGone lasts t.width f → AreGone (set lasts (side_of d c) (suc c)) t.width (without f c (other_of d (c + t.width)) t.width)
        still lasts f c old k b e i l = elim (set_either lasts (side_of d c) (suc c) k) [
          | inl q ↦ (
              let z : b ≡ c = omega arith in
              subst (λ n. without f c (other_of d (c + t.width)) t.width (suc (n + i)) ≡ 0) (sym z) (gone f c (other_of d (c + t.width)) t.width (suc (c + i)) (inl (omega arith, omega arith))))
          | inr q ↦ (
              let z = old k b (sym q ∙ e) i l in
              let u = at_most f c (other_of d (c + t.width)) t.width (suc (b + i)) in
              omega arith)
        ]

        no_end : (f : ℕ → ℕ) (c : ℕ) → IsRow (other_of d) (opposite d) (IsCross d) f c t.width → ((s : ℕ) → f s ≡ 1 → all s ≡ 1) → IsCross d (other_of d c)
            → (m : ℕ) → t.width ≤ m → strip_ends d y (other_of d c) m ≡ false
        no_end f c row sub cross m fits =
            let b = other_of d c in
            let some : 0 < t.width = row.edge.positive in
            let one : eqb m 0 ≡ false = ne_eqb m 0 (λ q. omega arith) in
            let roomy : room d b ≡ points_on d cross.side - cross.place = ap (room d) cross.number ∙ room_is d ok cross.side cross.place cross.on (let u = cross.under in omega arith) in
            let two : eqb (room d b) 0 ≡ false = ne_eqb (room d b) 0 (λ q. let u = cross.under in omega (arith, roomy, q, u)) in
            let back : other_of d (c + t.width) + t.width ≡ b = row.near_back t.width (omega arith) in
            let last : f b ≡ 1 = row.marked b (inr (omega arith, omega arith)) in
            let t2 = opp_twice d ok b (inl cross) in
            let lead : all (opposite d (opposite d b)) ≡ 1 = subst (λ z. all z ≡ 1) (sym t2) (sub b last) in
            let three : stands d y (opposite d b) ≡ false = no_stand d ok y choice area inner x rules (opposite d b) (opp_point d ok b (inl cross)) (omega arith) in
            rw (one, two, three) refl
