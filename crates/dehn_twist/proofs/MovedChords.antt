-- The ends of chords whose numbers are moved in order.
use Rattle.std.proofs.Common.{◌≡◌, ◌≢◌, ℕ, zero, suc, ◌+◌, ◌<◌, ◌≤◌, true, false, eqb, not, List, map, refl, sym, ◌∙◌, ap, ap₂, subst, inl, inr, arith}
use Rattle.std.specs.List.{list_all, range_with_len}
use Rattle.std.proofs.lemmas.Bool.{and_from, cases_eq, cases_lt, eq-eqb, ne_eqb}
use Rattle.obd_base.proofs.lists.Below.{bit, mem_range}
use Rattle.obd_base.proofs.lists.Members.{mem_map}
use Rattle.obd_base.proofs.lists.Sums.{sum_map, sum_same}
use Rattle.page_surface.specs.Drawing.{Chord, crosses, no_two_cross}
use Rattle.dehn_twist.proofs.TwoLists.{from_counts, to_counts}
use Rattle.drawing.proofs.Mates.{chord_here}
use Rattle.drawing.proofs.Moved.{moved}
use Rattle.drawing.proofs.Placed.{ends_at, ends_of}
use Rattle.page_surface.proofs.EmbeddedTest.{all_from}

-- chords by number, of which no two cross
pub pairs_uncrossed : (f : ℕ → Chord) (a n : ℕ) → ((i k : ℕ) → a ≤ i → i < k → k < a + n → crosses (f i) (f k) ≡ false) → no_two_cross (map f (range_with_len a n)) ≡ true
pairs_uncrossed f a zero h = refl
pairs_uncrossed f a (suc n) h =
    and_from (list_all (λ e. not (crosses (f a) e)) (map f (range_with_len (a + 1) n))) (no_two_cross (map f (range_with_len (a + 1) n)))
    (all_from (λ e. not (crosses (f a) e)) (map f (range_with_len (a + 1) n)) (λ e m.
    let r = mem_map f e (range_with_len (a + 1) n) m in
    let b = mem_range (a + 1) n r.0 r.1 in
    ap not (ap (crosses (f a)) r.2 ∙ h a r.0 (omega arith) (omega (arith, b)) (omega (arith, b)))))
    (pairs_uncrossed f (a + 1) n (λ i k x y z. h i k (omega (arith, x)) y (omega (arith, z))))

module _ (f : ℕ → ℕ) (rises : (x y : ℕ) → x < y → f x < f y) where
  -- numbers moved in order stay apart
  pub injective : (x y : ℕ) → f x ≡ f y → x ≡ y
  injective x y e = elim (cases_lt x y) [
    | inl l ↦ absurd (let r = rises x y l in omega (arith, r, e))
    | inr l ↦ elim (cases_eq x y) [ inl q ↦ q | inr n ↦ absurd (let r = rises y x (omega (arith, l, n)) in omega (arith, r, e)) ]
  ]

  -- the ends of moved chords
  pub moved_ends : (cs : List Chord) (y : ℕ) → ends_at (map (moved f) cs) (f y) ≡ ends_at cs y
  moved_ends cs y = sum_map (λ c. ends_of c (f y)) (moved f) cs ∙ sum_same (λ c. ends_of (moved f c) (f y)) (λ c. ends_of c y) cs (λ c m. ap₂ (λ a b. bit a + bit b) (test c.from) (test c.to))
    where
      test : (x : ℕ) → eqb (f x) (f y) ≡ eqb x y
      test x = elim (cases_eq x y) [
        | inl e ↦ rw (eq-eqb x y e, eq-eqb (f x) (f y) (ap f e)) refl
        | inr n ↦ rw (ne_eqb x y n, ne_eqb (f x) (f y) (λ q. n (injective x y q))) refl
      ]

  -- an end of a moved chord is an end of the chord, moved
  pub moved_end_of : (cs : List Chord) (x : ℕ) → ends_at (map (moved f) cs) x ≢ 0 → (y : ℕ) × (x ≡ f y) × (ends_at cs y ≢ 0)
  moved_end_of cs x n =
      let (c, m, j) = chord_here (map (moved f) cs) x n in
      let (e, k, q) = mem_map (moved f) c cs m in
      elim j [
        | inl (a, b) ↦ (e.from, sym a ∙ ap (λ z. z.from) q, from_counts e cs k)
        | inr (a, b) ↦ (e.to, sym a ∙ ap (λ z. z.to) q, to_counts e cs k)
      ]

  -- no two ends at one number stay so
  pub moved_once : (cs : List Chord) → ((y : ℕ) → ends_at cs y ≤ 1) → (x : ℕ) → ends_at (map (moved f) cs) x ≤ 1
  moved_once cs h x = elim (cases_eq (ends_at (map (moved f) cs) x) 0) [
    | inl e ↦ omega (arith, e)
    | inr n ↦ (let (y, q, k) = moved_end_of cs x n in subst (λ z. ends_at (map (moved f) cs) z ≤ 1) (sym q) (let e = moved_ends cs y in omega (arith, e, h y)))
  ]
