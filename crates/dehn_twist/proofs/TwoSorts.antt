-- Two kinds of points on each side of a circle of sides: new slots before the old points on some sides, after them on the
-- others, and the end of the side last. The numbers that all of them have.
use Rattle.std.proofs.Common.{◌≡◌, ℕ, zero, suc, ◌+◌, ◌<◌, ◌≤◌, Bool, true, false, cond, eqb, leb, ◌||◌, refl, sym, ◌∙◌, ap, inl, inr, ◌≢◌, arith}
use Rattle.std.specs.List.{sum_by}
use Rattle.std.proofs.lemmas.Bool.{cases_lt, cases_eq, eq-eqb, ne_eqb, le-leb, lt-leb}
use Rattle.obd_base.specs.Lists.{below}
use Rattle.obd_base.specs.declared.points.Exit.{Exit}
use Rattle.obd_base.proofs.lists.Sums.{sum_below_push}
use Rattle.page_surface.specs.Drawing.{exit}
use Rattle.curve_paths.proofs.PointPlaces.{number_same, start_of, starts_rise}

module _ (slots olds : ℕ → ℕ) (low : ℕ → Bool) where
  -- how many a side has of both
  abbrev pub both : ℕ → ℕ
  both k = slots k + olds k

  -- the place of an old point, or of the end, among both kinds
  abbrev pub old_place : ℕ → ℕ → ℕ
  old_place k j = cond (low k || eqb j (olds k)) (slots k + j) j

  -- the place of a slot
  abbrev pub slot_place : ℕ → ℕ → ℕ
  slot_place k i = cond (low k) i (olds k + i)

  -- on a side of the first kind
  pub old_low : (k j : ℕ) → low k ≡ true → old_place k j ≡ slots k + j
  old_low k j e = rw e refl

  -- on a side of the second kind
  pub old_high : (k j : ℕ) → low k ≡ false → j < olds k → old_place k j ≡ j
  old_high k j e l = rw (e, ne_eqb j (olds k) (λ q. omega (arith, q, l))) refl

  -- the three cases of an old place
  data Old (k j : ℕ) : Type 0 where
    lower : low k ≡ true → old_place k j ≡ slots k + j → Old k j
    upper : low k ≡ false → j < olds k → old_place k j ≡ j → Old k j
    last : low k ≡ false → j ≡ olds k → old_place k j ≡ slots k + j → Old k j

  which_old : (k j : ℕ) → j ≤ olds k → Old k j
  which_old k j l = go (low k) refl
    where
      go : (b : Bool) → low k ≡ b → Old k j
      go true e = lower e (old_low k j e)
      go false e = elim (cases_eq j (olds k)) [
        | inl q ↦ last e q (rw (e, eq-eqb j (olds k) q) refl)
        | inr n ↦ upper e (omega (arith, l, n)) (old_high k j e (omega (arith, l, n)))
      ]

  -- it is a place
  pub old_within : (k j : ℕ) → j ≤ olds k → old_place k j ≤ slots k + olds k
  old_within k j l = go (which_old k j l)
    where
      go : Old k j → old_place k j ≤ slots k + olds k
      go (lower e q) = omega (arith, q, l)
      go (upper e h q) = omega (arith, q, h)
      go (last e h q) = omega (arith, q, h)

  -- so is that of a slot
  pub slot_within : (k i : ℕ) → i < slots k → slot_place k i < slots k + olds k
  slot_within k i l = go (low k)
    where
      go : (b : Bool) → cond b i (olds k + i) < slots k + olds k
      go true = omega (arith, l)
      go false = omega (arith, l)

  -- the places are different
  pub slot_not_old : (k i j : ℕ) → i < slots k → j ≤ olds k → slot_place k i ≢ old_place k j
  slot_not_old k i j l h e = go (which_old k j h)
    where
      at_low : low k ≡ true → slot_place k i ≡ i
      at_low q = rw q refl

      at_high : low k ≡ false → slot_place k i ≡ olds k + i
      at_high q = rw q refl

      go : Old k j → ⊥
      go (lower q f) = omega (arith, at_low q, f, e, l)
      go (upper q a f) = omega (arith, at_high q, f, e, a)
      go (last q a f) = omega (arith, at_high q, f, e, a, l)

  -- the number of an old point, and of a slot
  abbrev pub old_number : Exit → ℕ
  old_number e = start_of (λ i. slots i + olds i) e.side + old_place e.side e.place

  -- and of a slot
  abbrev pub slot_number : ℕ → ℕ → ℕ
  slot_number k i = start_of (λ i. slots i + olds i) k + slot_place k i

  -- a slot and an old point have different numbers
  pub numbers_apart : (k i : ℕ) (e : Exit) → i < slots k → e.place ≤ olds e.side → slot_number k i ≢ old_number e
  numbers_apart k i e l h q =
      let a = slot_within k i l in
      let b = old_within e.side e.place h in
      let s = number_same (λ i. slots i + olds i) (exit k (slot_place k i)) (exit e.side (old_place e.side e.place)) (omega (arith, a)) b q in
      let sides : k ≡ e.side = ap (λ x. x.side) s in
      let places : slot_place k i ≡ old_place e.side e.place = ap (λ x. x.place) s in
      slot_not_old k i e.place l (let z : olds e.side ≡ olds k = ap olds (sym sides) in omega (arith, h, z)) (places ∙ ap (λ z. old_place z e.place) (sym sides))

  -- the number after which the slots of a side come
  abbrev pub slots_from : ℕ → ℕ
  slots_from k = start_of olds k + cond (low k) 0 (olds k)

  -- how many slots on the first sides come before an old number
  abbrev pub slots_before : ℕ → ℕ → ℕ
  slots_before x n = sum_by (λ k. cond (leb (slots_from k) x) (slots k) 0) (below n)

  -- numbers of the old points, moved
  abbrev pub moved_number : ℕ → ℕ → ℕ
  moved_number n x = x + slots_before x n

  before_rises : (x y n : ℕ) → x ≤ y → slots_before x n ≤ slots_before y n
  before_rises x y zero l = omega arith
  before_rises x y (suc n) l =
      let ih = before_rises x y n l in
      let one = sum_below_push (λ k. cond (leb (slots_from k) x) (slots k) 0) n in
      let two = sum_below_push (λ k. cond (leb (slots_from k) y) (slots k) 0) n in
      omega (arith, ih, one, two, step)
    where
      step : cond (leb (slots_from n) x) (slots n) 0 ≤ cond (leb (slots_from n) y) (slots n) 0
      step = elim (cases_lt x (slots_from n)) [
        | inl h ↦ rw (lt-leb (slots_from n) x h) (omega arith)
        | inr h ↦ rw (le-leb (slots_from n) x h, le-leb (slots_from n) y (omega (arith, h, l))) (omega arith)
      ]

  -- they keep their order
  pub moved_rises : (n x y : ℕ) → x < y → moved_number n x < moved_number n y
  moved_rises n x y l = let h = before_rises x y n (omega (arith, l)) in omega (arith, h, l)

  starts_apart : (k : ℕ) → start_of (λ i. slots i + olds i) k ≡ start_of olds k + sum_by slots (below k)
  starts_apart zero = refl
  starts_apart (suc k) =
      let a = sum_below_push (λ i. slots i + olds i + 2) k in
      let b = sum_below_push (λ i. olds i + 2) k in
      let e = sum_below_push slots k in
      omega (arith, a, b, e, starts_apart k)

  module _ (k j : ℕ) (l : j ≤ olds k) where
    abbrev x : ℕ
    x = start_of olds k + j

    -- on the sides before all slots come before
    all_before : (n : ℕ) → n ≤ k → slots_before x n ≡ sum_by slots (below n)
    all_before zero h = refl
    all_before (suc n) h =
        let r = starts_rise olds n k (omega (arith, h)) in
        let e : leb (slots_from n) x ≡ true = le-leb (slots_from n) x (from (low n) r) in
        let t : cond (leb (slots_from n) x) (slots n) 0 ≡ slots n = rw e refl in
        omega (arith, sum_below_push (λ k. cond (leb (slots_from k) x) (slots k) 0) n, sum_below_push slots n, all_before n (omega (arith, h)), t)
      where
        from : (b : Bool) → start_of olds n + olds n + 2 ≤ start_of olds k → start_of olds n + cond b 0 (olds n) ≤ start_of olds k + j
        from true r = omega (arith, r)
        from false r = omega (arith, r)

    -- on the later sides none
    none_after : (n : ℕ) → k < n → slots_before x n ≡ slots_before x (suc k)
    none_after zero h = absurd (omega (arith, h))
    none_after (suc n) h = elim (cases_eq k n) [
      | inl q ↦ ap (λ z. slots_before x (suc z)) (sym q)
      | inr ne ↦
          let r = starts_rise olds k n (omega (arith, h, ne)) in
          let e : leb (slots_from n) x ≡ false = lt-leb (slots_from n) x (to (low n) r) in
          let t : cond (leb (slots_from n) x) (slots n) 0 ≡ 0 = rw e refl in
          omega (arith, sum_below_push (λ k. cond (leb (slots_from k) x) (slots k) 0) n, none_after n (omega (arith, h, ne)), t)
    ]
      where
        to : (b : Bool) → start_of olds k + olds k + 2 ≤ start_of olds n → start_of olds k + j < start_of olds n + cond b 0 (olds n)
        to true r = omega (arith, r, l)
        to false r = omega (arith, r, l)

    -- on the side itself as the old place says
    here : cond (leb (slots_from k) (start_of olds k + j)) (slots k) 0 + j ≡ old_place k j
    here = go (which_old k j l)
      where
        go : Old k j → cond (leb (slots_from k) (start_of olds k + j)) (slots k) 0 + j ≡ old_place k j
        go (lower e q) = (let t : leb (slots_from k) (start_of olds k + j) ≡ true = rw e (le-leb (start_of olds k + 0) (start_of olds k + j) (omega arith)) in rw t (sym q))
        go (upper e a q) = (let t : leb (slots_from k) (start_of olds k + j) ≡ false = rw e (lt-leb (start_of olds k + olds k) (start_of olds k + j) (omega (arith, a))) in let z : 0 + j ≡ j = omega arith in rw t (z ∙ sym q))
        go (last e a q) = (let t : leb (slots_from k) (start_of olds k + j) ≡ true = rw e (le-leb (start_of olds k + olds k) (start_of olds k + j) (omega (arith, a))) in rw t (sym q))

  -- the moved number of an old point is its number among both kinds
  pub moved_is : (n k j : ℕ) → k < n → j ≤ olds k → moved_number n (start_of olds k + j) ≡ old_number (exit k j)
  moved_is n k j h l =
      omega (
        arith,
        none_after k j l n h,
        sum_below_push (λ i. cond (leb (slots_from i) (start_of olds k + j)) (slots i) 0) k,
        all_before k j l k (omega arith),
        here k j l,
        starts_apart k,
      )
