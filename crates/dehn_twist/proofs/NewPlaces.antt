-- The surgery has right places: each new place is that of one copied point, or of one kept point.
use Rattle.std.proofs.Common.{◌≡◌, ◌≢◌, ℕ, suc, ◌+◌, ◌-◌, ◌*◌, ◌<◌, Bool, true, false, cond, eqb, ◌&&◌, List, length, refl, sym, ◌∙◌, ap, ap₂, inl, inr, arith}
use Rattle.std.specs.List.{sum_by}
use Rattle.std.proofs.lemmas.Bool.{cases_eq, cases_lt, eq-eqb, eqb-true, lt-ltb, ne_eqb}
use Rattle.obd_base.specs.Lists.{Mem, below}
use Rattle.obd_base.specs.declared.points.Exit.{Exit}
use Rattle.obd_base.specs.declared.points.Sign.{Sign}
use Rattle.obd_base.proofs.lists.Below.{bit, mem_below}
use Rattle.obd_base.proofs.lists.Sums.{by_entries, sum_add, sum_map, sum_none, sum_same, sum_swap}
use Rattle.page_surface.specs.Drawing.{Drawing, HasRightPlaces, IsEmbedded, all_exits, entry, exit, points_on, stands_at}
use Rattle.page_surface.specs.Polygon.{Polygon, partner, sides}
use Rattle.page_surface.proofs.Partners.{points_partner as drawing_partner}
use Rattle.curve_paths.specs.Curves.{IsCurve, curve_entry, curve_points, curve_stands, exit_at}
use Rattle.dehn_twist.specs.Surgery.{copy_of, is_lower, kept_point, meeting_count, surgery}
use Rattle.dehn_twist.proofs.CopyPlaces.{entry_copy, entry_kept}
use Rattle.dehn_twist.proofs.CopySums.{all_sum}
use Rattle.dehn_twist.proofs.CurveRing.{entry_test}
use Rattle.dehn_twist.proofs.Merged.{is_placed'}
use Rattle.dehn_twist.proofs.Opens.{sum_down}
use Rattle.curve_paths.proofs.CurvePoints.{In, entry-entry, entry_in, exit_in, exit_same}
use Rattle.drawing.proofs.Placed.{place_in-placed, same_count-placed, side_in-placed}
use Rattle.drawing.proofs.Spots.{out_below}
use Rattle.dehn_twist.proofs.Rows.{same, same_cases, same_of, not_same, sum_const, in_rows, rows_same, row_of}

module _ (d : Drawing) (dok : IsEmbedded d) (c : List Exit) (curve : IsCurve d.polygon c) (sign : Sign) where
  abbrev p : Polygon
  p = d.polygon

  abbrev total : ℕ
  total = meeting_count d c

  abbrev new : Drawing
  new = surgery d c sign

  abbrev copy : Exit → ℕ → Exit
  copy q x = copy_of d c (meeting_count d c) q x

  abbrev kept : Exit → Exit
  kept e = kept_point d c (meeting_count d c) e

  abbrev In' : Exit → Type 0
  In' q = In d.polygon dok.polygon.pairs c curve q

  -- how many points a side has
  pub points_new : (k : ℕ) → points_on (surgery d c sign) k ≡ curve_points d.polygon c k * meeting_count d c + points_on d k
  points_new k =
      let u = λ (e : Exit). bit (eqb e.side k) + bit (eqb (partner p e.side) k) in
      let all = all_sum d dok c curve sign u (λ q x i l. let t : bit (eqb (partner p (partner p q.side)) k) ≡ bit (eqb q.side k) = ap (λ z. bit (eqb z k)) (dok.polygon.pairs.twice q.side) in omega (arith, t)) in
      let here = sum_add (λ e. bit (eqb e.side k)) (λ e. bit (eqb (partner p e.side) k)) in
      let swap = sum_swap (λ (b x : ℕ). u (exit_at c b)) (below (length c)) (below total) in
      let each : sum_by (λ (x : ℕ). sum_by (λ b. u (exit_at c b)) (below (length c))) (below total) ≡ sum_by (λ (x : ℕ). curve_points p c k) (below total)
      = sum_same (λ (x : ℕ). sum_by (λ b. u (exit_at c b)) (below (length c))) (λ (x : ℕ). curve_points p c k) (below total) (λ x m. sym (sum_map u (exit_at c) (below (length c))) ∙ (ap (sum_by u) (sym (by_entries (exit 0 0) c (length c) refl)) ∙ here c)) in
      omega (arith, all, here (all_exits new), here (all_exits d), swap, each, sum_const (curve_points p c k) total)

  -- a copied point has a place on its side
  pub copy_inside : (q : Exit) (x : ℕ) → In' q → x < total → (copy q x).place < points_on new q.side
  copy_inside q x h l = let r = in_rows (curve_points p c q.side) total q.place x h.1 l in let e = points_new q.side in go (is_lower p q.side) r e
    where
      go : (b : Bool) → q.place * total + x < curve_points p c q.side * total → points_on new q.side ≡ curve_points p c q.side * total + points_on d q.side
          → cond b (q.place * total + x) (points_on d q.side + q.place * total + x) < points_on new q.side
      go true r e = omega (arith, r, e)
      go false r e = omega (arith, r, e)

  -- so has a kept one
  pub kept_inside : (e : Exit) → e.place < points_on d e.side → (kept_point d c (meeting_count d c) e).place < points_on (surgery d c sign) e.side
  kept_inside e l = let r = points_new e.side in go (is_lower p e.side) r
    where
      go : (b : Bool) → points_on new e.side ≡ curve_points p c e.side * total + points_on d e.side → cond b (curve_points p c e.side * total + e.place) e.place < points_on new e.side
      go true r = omega (arith, r, l)
      go false r = omega (arith, r, l)

  -- the other name of a copied point, and of a kept point
  pub copy_across : (q : Exit) (x : ℕ) → In' q → x < meeting_count d c → entry (surgery d c sign) (copy q x) ≡ copy_of d c (meeting_count d c) (curve_entry d.polygon c q) (meeting_count d c - 1 - x)
  copy_across q x h l = entry_copy d dok.polygon.pairs c curve total new refl (λ k lk. points_new k) q x h l

  -- and of a kept point
  pub kept_across : (e : Exit) → Mem e (all_exits d) → entry (surgery d c sign) (kept e) ≡ kept_point d c (meeting_count d c) (entry d e)
  kept_across e m = entry_kept d dok.polygon.pairs c curve total new refl (λ k lk. points_new k) e (side_in-placed d (is_placed' d dok c curve) e m) (place_in-placed d (is_placed' d dok c curve) e m)

  -- an exit stands where it or its entry is
  stands_two : (e : Exit) (t : Exit) → e.place < points_on new e.side → stands_at new e t.side t.place ≡ bit (same e t) + bit (same (entry new e) t)
  stands_two e t l = ap (λ z. bit (same e t) + bit z) (sym (go (eqb (partner p e.side) t.side) refl))
    where
      go : (b : Bool) → eqb (partner p e.side) t.side ≡ b
          → (eqb (partner p e.side) t.side && eqb (points_on new e.side - 1 - e.place) t.place) ≡ (eqb (partner p e.side) t.side && eqb (suc (e.place + t.place)) (points_on new t.side))
      go false q = rw q refl
      go true q =
          let w : points_on new t.side ≡ points_on new e.side = ap (points_on new) (sym (eqb-true _ _ q)) ∙ drawing_partner new dok.polygon e.side in
          rw q (elim (cases_eq (suc (e.place + t.place)) (points_on new t.side)) [
            | inl r ↦ rw (eq-eqb _ _ r) (eq-eqb (points_on new e.side - 1 - e.place) t.place (omega (arith, w, r)))
            | inr r ↦ rw (ne_eqb _ _ r) (ne_eqb (points_on new e.side - 1 - e.place) t.place (λ z. r (omega (arith, w, z, l))))
          ])

  stands_copy : (t q : Exit) (x : ℕ) → In' q → x < total → stands_at new (copy q x) t.side t.place ≡ bit (same (copy q x) t) + bit (same (copy (curve_entry p c q) (total - 1 - x)) t)
  stands_copy t q x h l = stands_two (copy q x) t (copy_inside q x h l) ∙ ap (λ z. bit (same (copy q x) t) + bit (same z t)) (copy_across q x h l)

  stands_kept : (t e : Exit) → Mem e (all_exits d) → stands_at new (kept e) t.side t.place ≡ bit (same (kept e) t) + bit (same (kept (entry d e)) t)
  stands_kept t e m = stands_two (kept e) t (kept_inside e (place_in-placed d (is_placed' d dok c curve) e m)) ∙ ap (λ z. bit (same (kept e) t) + bit (same z t)) (kept_across e m)

  -- both names of a copied point stand alike
  even : (t q : Exit) (x : ℕ) → In' q → x < total → stands_at new (copy (curve_entry p c q) (total - 1 - x)) t.side t.place ≡ stands_at new (copy q x) t.side t.place
  even t q x h l =
      let a = stands_copy t (curve_entry p c q) (total - 1 - x) (entry_in p dok.polygon.pairs c curve q h) (omega (arith, l)) in
      let b = stands_copy t q x h l in
      let e : copy (curve_entry p c (curve_entry p c q)) (total - 1 - (total - 1 - x)) ≡ copy q x
      = ap₂ (λ z y. copy z y) (entry-entry p dok.polygon.pairs c curve q h) (let z : total - 1 - (total - 1 - x) ≡ x = omega (arith, l) in z) in
      let f : bit (same (copy (curve_entry p c (curve_entry p c q)) (total - 1 - (total - 1 - x))) t) ≡ bit (same (copy q x) t) = ap (λ z. bit (same z t)) e in
      omega (arith, a, b, f)

  -- new places tell points apart
  copy_apart : (q r : Exit) (x y : ℕ) → x < total → y < total → copy q x ≡ copy r y → (q ≡ r) × (x ≡ y)
  copy_apart q r x y lx ly e =
      let s : q.side ≡ r.side = ap (λ z. z.side) e in
      let f : (copy q x).place ≡ (copy r y).place = ap (λ z. z.place) e in
      let g : (copy r y).place ≡ cond (is_lower p q.side) (r.place * total + y) (points_on d q.side + r.place * total + y) = ap (λ k. cond (is_lower p k) (r.place * total + y) (points_on d k + r.place * total + y)) (sym s) in
      let h = rows_same total q.place r.place x y lx ly (go (is_lower p q.side) (f ∙ g)) in
      (exit_same q r.side r.place s h.0, h.1)
    where
      go : (b : Bool) → cond b (q.place * total + x) (points_on d q.side + q.place * total + x) ≡ cond b (r.place * total + y) (points_on d q.side + r.place * total + y)
          → q.place * total + x ≡ r.place * total + y
      go true w = w
      go false w = omega (arith, w)

  kept_apart : (e f : Exit) → kept e ≡ kept f → e ≡ f
  kept_apart e f q =
      let s : e.side ≡ f.side = ap (λ z. z.side) q in
      let g : (kept e).place ≡ (kept f).place = ap (λ z. z.place) q in
      let h : (kept f).place ≡ cond (is_lower p e.side) (curve_points p c e.side * total + f.place) f.place = ap (λ k. cond (is_lower p k) (curve_points p c k * total + f.place) f.place) (sym s) in
      exit_same e f.side f.place s (go (is_lower p e.side) (g ∙ h))
    where
      go : (b : Bool) → cond b (curve_points p c e.side * total + e.place) e.place ≡ cond b (curve_points p c e.side * total + f.place) f.place → e.place ≡ f.place
      go true w = omega (arith, w)
      go false w = w

  never_both : (e q : Exit) (x : ℕ) → e.place < points_on d e.side → In' q → x < total → kept e ≢ copy q x
  never_both e q x le h l w =
      let s : e.side ≡ q.side = ap (λ z. z.side) w in
      let g : (kept e).place ≡ (copy q x).place = ap (λ z. z.place) w in
      let k : (kept e).place ≡ cond (is_lower p q.side) (curve_points p c q.side * total + e.place) e.place = ap (λ k. cond (is_lower p k) (curve_points p c k * total + e.place) e.place) s in
      go (is_lower p q.side) (sym k ∙ g) (ap (points_on d) s) (in_rows (curve_points p c q.side) total q.place x h.1 l)
    where
      go : (b : Bool) → cond b (curve_points p c q.side * total + e.place) e.place ≡ cond b (q.place * total + x) (points_on d q.side + q.place * total + x)
          → points_on d e.side ≡ points_on d q.side → q.place * total + x < curve_points p c q.side * total → ⊥
      go true w m r = omega (arith, w, r)
      go false w m r = omega (arith, w, m, le)

  -- what stands at a new place
  data Target (t : Exit) : Type 0 where
    copied : (q : Exit) (x : ℕ) → In' q → x < total → t ≡ copy q x → Target t
    old : (e : Exit) → e.side < sides d.polygon → e.place < points_on d e.side → t ≡ kept e → Target t

  target : (k j : ℕ) → k < sides p → j < points_on new k → Target (exit k j)
  target k j lk l = go (is_lower p k) refl
    where
      m : ℕ
      m = curve_points p c k

      at : j < m * total + points_on d k
      at = let e = points_new k in omega (arith, e, l)

      low_place : (q x : ℕ) → is_lower p k ≡ true → cond (is_lower p k) (q * total + x) (points_on d k + q * total + x) ≡ q * total + x
      low_place q x e = rw e refl

      high_place : (q x : ℕ) → is_lower p k ≡ false → cond (is_lower p k) (q * total + x) (points_on d k + q * total + x) ≡ points_on d k + q * total + x
      high_place q x e = rw e refl

      low_kept : (i : ℕ) → is_lower p k ≡ true → cond (is_lower p k) (curve_points p c k * total + i) i ≡ curve_points p c k * total + i
      low_kept i e = rw e refl

      high_kept : (i : ℕ) → is_lower p k ≡ false → cond (is_lower p k) (curve_points p c k * total + i) i ≡ i
      high_kept i e = rw e refl

      go : (b : Bool) → is_lower p k ≡ b → Target (exit k j)
      go true e = elim (cases_lt j (m * total)) [
        | inl h ↦ (let (a, x, la, lx, q) = row_of m total j h in copied (exit k a) x (lk, la) lx (ap (exit k) (q ∙ sym (low_place a x e))))
        | inr h ↦ old (exit k (j - m * total)) lk (let w = at in omega (arith, w, h)) (ap (exit k) (let z : j ≡ m * total + (j - m * total) = omega (arith, h) in z ∙ sym (low_kept (j - m * total) e)))
      ]
      go false e = elim (cases_lt j (points_on d k)) [
        | inl h ↦ old (exit k j) lk h (ap (exit k) (sym (high_kept j e)))
        | inr h ↦
            let (a, x, la, lx, q) = row_of m total (j - points_on d k) (let w = at in omega (arith, w, h)) in
            copied (exit k a) x (lk, la) lx (ap (exit k) (let z : j ≡ points_on d k + a * total + x = omega (arith, q, h) in z ∙ sym (high_place a x e)))
      ]

  -- a copied point is there once
  copied_once : (r : Exit) (y : ℕ) → In' r → y < total → sum_by (λ e. stands_at new e (copy r y).side (copy r y).place) (all_exits new) ≡ 1
  copied_once r y hr ly =
      let t = copy r y in
      let f = λ (e : Exit). stands_at new e t.side t.place in
      let all = all_sum d dok c curve sign f (λ q x h l. even t q x h l) in
      let none : sum_by (λ e. f (kept e)) (all_exits d) ≡ 0
      = sum_none _ (all_exits d) (λ e m.
      let l = place_in-placed d (is_placed' d dok c curve) e m in
      let l' : (entry d e).place < points_on d (entry d e).side = (let w = same_count-placed d (is_placed' d dok c curve) e.side in omega (arith, w, l)) in
      stands_kept t e m ∙ ap₂ (λ a b. bit a + bit b) (not_same (kept e) t (never_both e r y l hr ly)) (not_same (kept (entry d e)) t (never_both (entry d e) r y l' hr ly))) in
      let row : (q : Exit) → In' q → sum_by (λ x. bit (same (copy q x) t)) (below total) ≡ bit (same q r)
      = λ q h.
      sum_same _ (λ x. bit (same q r && eqb y x)) (below total) (λ x m. ap bit (test q x (mem_below total x m)))
      ∙ (out_below (same q r) y total ∙ (let z = lt-ltb y total ly in rw z (ap bit (and_true (same q r))))) in
      let back : (q : Exit) → In' q → sum_by (λ x. bit (same (copy q (total - 1 - x)) t)) (below total) ≡ bit (same q r)
      = λ q h. sum_down (λ x. bit (same (copy q x) t)) total ∙ row q h in
      let each : (b : ℕ) → b < length c → sum_by (λ x. f (copy (exit_at c b) x)) (below total) ≡ curve_stands p c (exit_at c b) r.side r.place
      = λ b l.
      let h = exit_in p dok.polygon.pairs c curve b l in
      sum_same _ _ (below total) (λ x m. stands_copy t (exit_at c b) x h (mem_below total x m))
      ∙ (sum_add (λ x. bit (same (copy (exit_at c b) x) t)) (λ x. bit (same (copy (curve_entry p c (exit_at c b)) (total - 1 - x)) t)) (below total)
      ∙ (ap₂ (λ a z. a + z) (row (exit_at c b) h) (back (curve_entry p c (exit_at c b)) (entry_in p dok.polygon.pairs c curve (exit_at c b) h))
      ∙ ap (λ z. bit (same (exit_at c b) r) + bit z) (entry_test p dok.polygon.pairs c curve (exit_at c b) r h))) in
      let whole : sum_by (λ b. sum_by (λ x. f (copy (exit_at c b) x)) (below total)) (below (length c)) ≡ sum_by (λ e. curve_stands p c e r.side r.place) c
      = sum_same _ _ (below (length c)) (λ b m. each b (mem_below (length c) b m))
      ∙ sym (ap (sum_by (λ e. curve_stands p c e r.side r.place)) (by_entries (exit 0 0) c (length c) refl) ∙ sum_map (λ e. curve_stands p c e r.side r.place) (exit_at c) (below (length c))) in
      omega (arith, all, none, whole, curve.right r.side r.place hr.0 hr.1)
    where
      and_true : (b : Bool) → (b && true) ≡ b
      and_true true = refl
      and_true false = refl

      test : (q : Exit) (x : ℕ) → x < total → same (copy q x) (copy r y) ≡ (same q r && eqb y x)
      test q x l = elim (same_cases q r) [
        | inr h ↦ not_same (copy q x) (copy r y) (λ e. h.0 (copy_apart q r x y l ly e).0) ∙ sym (rw (h.1) refl)
        | inl h ↦ elim (cases_eq y x) [
          | inl e ↦ same_of (copy q x) (copy r y) (ap₂ (λ a b. copy a b) h.0 (sym e)) ∙ sym (rw (h.1) (eq-eqb y x e))
          | inr n ↦ not_same (copy q x) (copy r y) (λ e. n (sym (copy_apart q r x y l ly e).1)) ∙ sym (rw (h.1) (ne_eqb y x n))
        ]
      ]

  -- so is a kept point
  kept_once : (r : Exit) → r.side < sides d.polygon → r.place < points_on d r.side → sum_by (λ e. stands_at new e (kept r).side (kept r).place) (all_exits new) ≡ 1
  kept_once r lr hr =
      let t = kept r in
      let f = λ (e : Exit). stands_at new e t.side t.place in
      let all = all_sum d dok c curve sign f (λ q x h l. even t q x h l) in
      let none : sum_by (λ b. sum_by (λ x. f (copy (exit_at c b) x)) (below total)) (below (length c)) ≡ 0
      = sum_none _ (below (length c)) (λ b m. sum_none _ (below total) (λ x k.
      let h = exit_in p dok.polygon.pairs c curve b (mem_below (length c) b m) in
      let l = mem_below total x k in
      stands_copy t (exit_at c b) x h l
      ∙ ap₂ (λ a z. bit a + bit z) (not_same (copy (exit_at c b) x) t (λ e. never_both r (exit_at c b) x hr h l (sym e)))
      (not_same (copy (curve_entry p c (exit_at c b)) (total - 1 - x)) t
      (λ e. never_both r (curve_entry p c (exit_at c b)) (total - 1 - x) hr (entry_in p dok.polygon.pairs c curve (exit_at c b) h) (omega (arith, l)) (sym e))))) in
      let whole : sum_by (λ e. f (kept e)) (all_exits d) ≡ sum_by (λ e. stands_at d e r.side r.place) (all_exits d)
      = sum_same _ _ (all_exits d) (λ e m. stands_kept t e m ∙ (ap₂ (λ a z. bit a + bit z) (test e) (test (entry d e)) ∙ sym (stands_old e m))) in
      omega (arith, all, none, whole, dok.places r.side lr r.place hr)
    where
      test : (e : Exit) → same (kept e) (kept r) ≡ same e r
      test e = elim (same_cases e r) [
        | inl h ↦ same_of (kept e) (kept r) (ap kept h.0) ∙ sym (h.1)
        | inr h ↦ not_same (kept e) (kept r) (λ q. h.0 (kept_apart e r q)) ∙ sym (h.1)
      ]

      stands_old : (e : Exit) → Mem e (all_exits d) → stands_at d e r.side r.place ≡ bit (same e r) + bit (same (entry d e) r)
      stands_old e m = ap (λ z. bit (same e r) + bit z) (sym (go (eqb (partner p e.side) r.side) refl))
        where
          l : e.place < points_on d e.side
          l = place_in-placed d (is_placed' d dok c curve) e m

          go : (b : Bool) → eqb (partner p e.side) r.side ≡ b
              → (eqb (partner p e.side) r.side && eqb (points_on d e.side - 1 - e.place) r.place) ≡ (eqb (partner p e.side) r.side && eqb (suc (e.place + r.place)) (points_on d r.side))
          go false q = rw q refl
          go true q =
              let w : points_on d r.side ≡ points_on d e.side = ap (points_on d) (sym (eqb-true _ _ q)) ∙ drawing_partner d dok.polygon e.side in
              let h = l in
              rw q (elim (cases_eq (suc (e.place + r.place)) (points_on d r.side)) [
                | inl z ↦ rw (eq-eqb _ _ z) (eq-eqb (points_on d e.side - 1 - e.place) r.place (omega (arith, w, z)))
                | inr z ↦ rw (ne_eqb _ _ z) (ne_eqb (points_on d e.side - 1 - e.place) r.place (λ y. z (omega (arith, w, y, h))))
              ])

  -- the places of the surgery are right
  pub places_new : HasRightPlaces (surgery d c sign)
  places_new k lk j lj = go (target k j lk lj)
    where
      go : Target (exit k j) → sum_by (λ e. stands_at new e k j) (all_exits new) ≡ 1
      go (copied q x h l e) = ap (λ t. sum_by (λ e. stands_at new e t.side t.place) (all_exits new)) e ∙ copied_once q x h l
      go (old e le he q) = ap (λ t. sum_by (λ e. stands_at new e t.side t.place) (all_exits new)) q ∙ kept_once e le he
