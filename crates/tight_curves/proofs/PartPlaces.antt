-- The places of a part by itself: how many there are on a side, and that they match across a pair of sides.
use Rattle.std.proofs.Common.{◌≡◌, ℕ, zero, suc, ◌+◌, ◌-◌, ◌<◌, ◌≤◌, Bool, true, eqb, ltb, ◌&&◌, List, refl, sym, ◌∙◌, ap, ap₂, subst, inl, inr, arith}
use Rattle.std.specs.List.{sum_by, count_by}
use Rattle.std.proofs.lemmas.Bool.{cases_eq, cases_lt, eq-eqb, ne_eqb, lt-ltb, le-ltb}
use Rattle.obd_base.specs.Lists.{below}
use Rattle.obd_base.specs.declared.points.Exit.{Exit}
use Rattle.obd_base.proofs.lists.Below.{bit, count_less, count_suc, mem_below}
use Rattle.obd_base.proofs.lists.Counts.{count_by-map}
use Rattle.obd_base.proofs.lists.Sums.{count_below, sum_add, sum_same, sum_swap, sum_none}
use Rattle.page_surface.specs.Drawing.{exit, is_at}
use Rattle.page_surface.specs.Polygon.{Pairs, Polygon, partner, sides}
use Rattle.curve_paths.specs.Curves.{IsCurve, curve_entry, curve_points, curve_stands}
use Rattle.tight_curves.specs.Parts.{IsPart, has_point, part_exits, place_among}
use Rattle.tight_curves.proofs.PartPoints.{In, has_across, other}
use Rattle.curve_paths.proofs.CurvePoints.{points_partner}

-- equations that hold together are told alike
pub same_test : (a b x y : ℕ) → (a ≡ b → x ≡ y) → (x ≡ y → a ≡ b) → eqb a b ≡ eqb x y
same_test a b x y f g = elim (cases_eq a b) [
  | inl e ↦ eq-eqb a b e ∙ sym (eq-eqb x y (f e))
  | inr ne ↦ ne_eqb a b ne ∙ sym (ne_eqb x y (λ q. ne (g q)))
]

-- how many numbers pass, counted from the other end
pub count_back : (h t : ℕ → Bool) (m : ℕ) → ((j : ℕ) → j < m → t j ≡ h (m - 1 - j)) → (a : ℕ) → a ≤ m → count_by t (below a) + count_by h (below (m - a)) ≡ count_by h (below m)
count_back h t m same zero l = let z : m - 0 ≡ m = omega arith in let y : count_by h (below (m - 0)) ≡ count_by h (below m) = ap (λ k. count_by h (below k)) z in omega arith
count_back h t m same (suc a) l =
    let e : m - a ≡ suc (m - suc a) = omega arith in
    let f : m - 1 - a ≡ m - suc a = omega arith in
    let g : bit (t a) ≡ bit (h (m - suc a)) = ap bit (same a l ∙ ap h f) in
    let x : count_by h (below (m - a)) ≡ count_by h (below (suc (m - suc a))) = ap (λ k. count_by h (below k)) e in
    omega (arith, g, x, count_suc t a, count_suc h (m - suc a), count_back h t m same a (omega arith))

module _ (p : Polygon) (ok : Pairs p) (c : List Exit) (curve : IsCurve p c) (s : List Exit) (part : IsPart p c s) where
  abbrev m : ℕ → ℕ
  m k = curve_points p c k

  -- the part by itself
  abbrev pub alone : List Exit
  alone = part_exits p c s

  -- whether the part has a point there
  abbrev pub has : ℕ → ℕ → Bool
  has k j = has_point p c s k j

  -- its place in the part
  abbrev pub pl : ℕ → ℕ → ℕ
  pl k j = count_by (has_point p c s k) (below j)

  -- a point of the part where the part has it
  abbrev pub moved : Exit → Exit
  moved e = exit e.side (place_among p c s e.side e.place)

  -- each point is met as often as the part has it
  pub met : (k j : ℕ) → k < sides p → j < curve_points p c k → sum_by (λ e. curve_stands p c e k j) s ≡ bit (has_point p c s k j)
  met k j lk lj =
      let x = sum_by (λ e. curve_stands p c e k j) s in
      elim (cases_lt 0 x) [
        | inl l ↦ (let z : bit (ltb 0 x) ≡ 1 = rw (lt-ltb 0 x l) refl in omega (arith, l, z, part.once k j lk lj))
        | inr l ↦ (let z : bit (ltb 0 x) ≡ 0 = rw (le-ltb 0 x l) refl in omega (arith, l, z))
      ]

  -- an exit stands once on its side, and once on the partner
  stands_once : (e : Exit) (k : ℕ) → In p ok c curve e → sum_by (λ j. curve_stands p c e k j) (below (curve_points p c k)) ≡ bit (eqb e.side k) + bit (eqb (partner p e.side) k)
  stands_once e k h =
      sum_add (λ j. bit (is_at e k j)) (λ j. bit (eqb (partner p e.side) k && eqb (suc (e.place + j)) (curve_points p c k))) (below (curve_points p c k))
      ∙ ap₂ (λ a b. a + b) out into
    where
      out : sum_by (λ j. bit (is_at e k j)) (below (curve_points p c k)) ≡ bit (eqb e.side k)
      out = elim (cases_eq e.side k) [
        | inl q ↦
            (let l : e.place < curve_points p c k = subst (λ z. e.place < curve_points p c z) q h.1 in
            let t = eq-eqb e.side k q in
            sum_same (λ j. bit (is_at e k j)) (λ j. bit (eqb e.place j)) (below (curve_points p c k)) (λ j i. rw t refl)
            ∙ (count_below e.place (curve_points p c k) ∙ rw (lt-ltb e.place (curve_points p c k) l, t) refl))
        | inr n ↦ (let t = ne_eqb e.side k n in sum_none (λ j. bit (is_at e k j)) (below (curve_points p c k)) (λ j i. rw t refl) ∙ rw t refl)
      ]

      into : sum_by (λ j. bit (eqb (partner p e.side) k && eqb (suc (e.place + j)) (curve_points p c k))) (below (curve_points p c k)) ≡ bit (eqb (partner p e.side) k)
      into = elim (cases_eq (partner p e.side) k) [
        | inl q ↦
            (let n : curve_points p c k ≡ curve_points p c e.side = ap (curve_points p c) (sym q) ∙ points_partner p ok c curve e.side in
            let t = eq-eqb (partner p e.side) k q in
            let x : ℕ = curve_points p c k - 1 - e.place in
            sum_same (λ j. bit (eqb (partner p e.side) k && eqb (suc (e.place + j)) (curve_points p c k))) (λ j. bit (eqb x j)) (below (curve_points p c k))
            (λ j i. rw t (ap bit (same_test (suc (e.place + j)) (curve_points p c k) x j (λ r. omega (arith, r)) (λ r. omega (arith, r, n, h.1)))))
            ∙ (count_below x (curve_points p c k) ∙ rw (lt-ltb x (curve_points p c k) (omega (arith, n, h.1)), t) refl))
        | inr n ↦ (let t = ne_eqb (partner p e.side) k n in
            sum_none (λ j. bit (eqb (partner p e.side) k && eqb (suc (e.place + j)) (curve_points p c k))) (below (curve_points p c k)) (λ j i. rw t refl) ∙ rw t refl)
      ]

  -- the part by itself has as many points on a side as the part has there
  pub points_alone : (k : ℕ) → k < sides p → curve_points p (part_exits p c s) k ≡ count_by (has_point p c s k) (below (curve_points p c k))
  points_alone k lk =
      let a : count_by (λ (e : Exit). eqb e.side k) alone ≡ sum_by (λ (e : Exit). bit (eqb e.side k)) s = count_by-map (λ (e : Exit). eqb e.side k) moved s in
      let b : count_by (λ (e : Exit). eqb (partner p e.side) k) alone ≡ sum_by (λ (e : Exit). bit (eqb (partner p e.side) k)) s = count_by-map (λ (e : Exit). eqb (partner p e.side) k) moved s in
      let both = sum_add (λ (e : Exit). bit (eqb e.side k)) (λ (e : Exit). bit (eqb (partner p e.side) k)) s in
      let each = sum_same (λ e. sum_by (λ j. curve_stands p c e k j) (below (curve_points p c k))) (λ (e : Exit). bit (eqb e.side k) + bit (eqb (partner p e.side) k)) s (λ e i. stands_once e k (part.inside e i)) in
      let swap = sum_swap (λ e j. curve_stands p c e k j) s (below (curve_points p c k)) in
      let last = sum_same (λ j. sum_by (λ e. curve_stands p c e k j) s) (λ j. bit (has_point p c s k j)) (below (curve_points p c k)) (λ j i. met k j lk (mem_below (curve_points p c k) j i)) in
      omega (arith, a, b, both, each, swap, last)

  -- places of the part across a pair of sides
  pub place_across : (k q : ℕ) → k < sides p → q < curve_points p c k → has_point p c s k q ≡ true
      → pl (partner p k) (curve_points p c k - 1 - q) + (pl k q + 1) ≡ count_by (has_point p c s k) (below (curve_points p c k))
  place_across k q lk lq t =
      let n : curve_points p c (partner p k) ≡ curve_points p c k = points_partner p ok c curve k in
      let r = count_back (has_point p c s k) (has_point p c s (partner p k)) (curve_points p c k)
      (λ j lj. has_across p ok c curve s part (partner p k) j (ok.in_range k lk) (omega (arith, lj, n)) ∙ ap₂ (λ x y. has_point p c s x (y - 1 - j)) (ok.twice k) n)
      (curve_points p c k - 1 - q) (omega arith) in
      let e : curve_points p c k - (curve_points p c k - 1 - q) ≡ suc q = omega (arith, lq) in
      let f : count_by (has_point p c s k) (below (curve_points p c k - (curve_points p c k - 1 - q))) ≡ count_by (has_point p c s k) (below (suc q)) = ap (λ x. count_by (has_point p c s k) (below x)) e in
      let g : bit (has_point p c s k q) ≡ 1 = ap bit t in
      omega (arith, r, f, g, count_suc (has_point p c s k) q)

  -- both sides of a pair have as many
  pub alone_partner : (k : ℕ) → curve_points p (part_exits p c s) (partner p k) ≡ curve_points p (part_exits p c s) k
  alone_partner k =
      let a = sum_same (λ (e : Exit). bit (eqb e.side (partner p k))) (λ (e : Exit). bit (eqb (partner p e.side) k)) alone (λ e i. ap bit (twice e.side)) in
      let b = sum_same (λ (e : Exit). bit (eqb (partner p e.side) (partner p k))) (λ (e : Exit). bit (eqb e.side k)) alone (λ e i. ap bit (back e.side)) in
      omega (arith, a, b)
    where
      twice : (x : ℕ) → eqb x (partner p k) ≡ eqb (partner p x) k
      twice x = same_test x (partner p k) (partner p x) k (λ e. ap (partner p) e ∙ ok.twice k) (λ e. sym (ok.twice x) ∙ ap (partner p) e)

      back : (x : ℕ) → eqb (partner p x) (partner p k) ≡ eqb x k
      back x = same_test (partner p x) (partner p k) x k (λ e. sym (ok.twice x) ∙ (ap (partner p) e ∙ ok.twice k)) (ap (partner p))

  -- a point of the part has a place in it
  pub moved_in : (e : Exit) → In p ok c curve e → has_point p c s e.side e.place ≡ true → (e.side < sides p) × (place_among p c s e.side e.place < curve_points p (part_exits p c s) e.side)
  moved_in e h t = (h.0, let l = count_less (has_point p c s e.side) e.place (curve_points p c e.side) t h.1 in omega (arith, l, points_alone e.side h.0))

  -- its other name in the part is where the part has its other name
  pub moved_other : (e : Exit) → In p ok c curve e → has_point p c s e.side e.place ≡ true → curve_entry p (part_exits p c s) (moved e) ≡ moved (other p ok c curve e)
  moved_other e h t =
      let x = place_across e.side e.place h.0 h.1 t in
      ap (exit (partner p e.side)) (let y = points_alone e.side h.0 in omega (arith, x, y))
