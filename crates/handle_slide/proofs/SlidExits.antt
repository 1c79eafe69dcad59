-- The exits after a slide: which exits of the curve they come from, and where they stand.
use Rattle.std.proofs.Common.{◌≡◌, ℕ, zero, suc, ◌+◌, ◌-◌, ◌<◌, ◌≤◌, Bool, true, false, cond, eqb, ◌&&◌, ◌||◌, not, List, [], ◌∷◌, ◌++◌, length, get_or, refl, sym, ap, ◌∙◌, ◌⊎◌, inl, inr, arith}
use Rattle.std.specs.List.{sum_by}
use Rattle.obd_base.specs.Lists.{below}
use Rattle.obd_base.specs.declared.points.Exit.{Exit}
use Rattle.obd_base.proofs.lists.Below.{bit}
use Rattle.page_surface.specs.Drawing.{exit}
use Rattle.page_surface.specs.Polygon.{Polygon, partner}
use Rattle.curve_paths.specs.Curves.{curve_entry, exit_at}
use Rattle.handle_slide.specs.Slide.{is_inside, is_slid, new_number, new_place, new_side_points, slid_exit, slid_exits}
use Rattle.handle_slide.proofs.Steps.{base_more, base_suc, flat_at, flat_of, length-flat}
use Rattle.curve_paths.proofs.CurvePoints.{following}

-- up to three items
module _ {X : Type 0} (x y z : X) where
  abbrev three : Bool → Bool → Bool → List X
  three a b c = cond a (x ∷ []) [] ++ (cond b [] (y ∷ []) ++ cond c (z ∷ []) [])

  length-three : (a b c : Bool) → length (three a b c) ≡ bit a + bit (not b) + bit c
  length-three true true true = refl
  length-three true true false = refl
  length-three true false true = refl
  length-three true false false = refl
  length-three false true true = refl
  length-three false true false = refl
  length-three false false true = refl
  length-three false false false = refl

  first_of : (a b c : Bool) (d : X) → a ≡ true → get_or (three a b c) 0 d ≡ x
  first_of true b c d e = refl
  first_of false b c d e = absurd (let bad = e in cc)

  middle_of : (a b c : Bool) (d : X) → b ≡ false → get_or (three a b c) (bit a) d ≡ y
  middle_of true false c d e = refl
  middle_of false false c d e = refl
  middle_of a true c d e = absurd (let bad = e in cc)

  last_of : (a b c : Bool) (d : X) → c ≡ true → get_or (three a b c) (bit a + bit (not b)) d ≡ z
  last_of true true true d e = refl
  last_of true false true d e = refl
  last_of false true true d e = refl
  last_of false false true d e = refl
  last_of a b false d e = absurd (let bad = e in cc)

  which_of : (a b c : Bool) (j : ℕ) → j < length (three a b c)
      → ((a ≡ true) × (j ≡ 0)) ⊎ (((b ≡ false) × (j ≡ bit a)) ⊎ ((c ≡ true) × (j ≡ bit a + bit (not b))))
  which_of true b c zero l = inl (refl, refl)
  which_of true false c (suc zero) l = inr (inl (refl, refl))
  which_of true false true (suc (suc zero)) l = inr (inr (refl, refl))
  which_of true false true (suc (suc (suc j))) l = absurd (omega arith)
  which_of true false false (suc (suc j)) l = absurd (omega arith)
  which_of true true true (suc zero) l = inr (inr (refl, refl))
  which_of true true true (suc (suc j)) l = absurd (omega arith)
  which_of true true false (suc j) l = absurd (omega arith)
  which_of false false c zero l = inr (inl (refl, refl))
  which_of false false true (suc zero) l = inr (inr (refl, refl))
  which_of false false true (suc (suc j)) l = absurd (omega arith)
  which_of false false false (suc j) l = absurd (omega arith)
  which_of false true true zero l = inr (inr (refl, refl))
  which_of false true true (suc j) l = absurd (omega arith)
  which_of false true false j l = absurd (omega arith)

module _ (p : Polygon) (k : ℕ) (c : List Exit) where
  abbrev pub n : ℕ
  n = length c

  abbrev pub letter : ℕ → ℕ
  letter i = (exit_at c i).side

  -- the curve leaves through the new side, through its own side, through the partner of the new side
  abbrev pub pre : ℕ → Bool
  pre i = is_slid p k (exit_at c i).side && not (is_inside p k c i)

  abbrev pub gone : ℕ → Bool
  gone i = eqb (exit_at c i).side k || eqb (exit_at c i).side (partner p k)

  abbrev pub post : ℕ → Bool
  post i = is_slid p k (partner p (exit_at c i).side) && not (is_inside p k c (following (length c) i))

  abbrev pub pre_exit : ℕ → Exit
  pre_exit i = exit (new_number p k k) (new_place p k c (exit_at c i))

  abbrev pub own_exit : ℕ → Exit
  own_exit i = exit (new_number p k (exit_at c i).side) (exit_at c i).place

  abbrev pub post_exit : ℕ → Exit
  post_exit i = exit (new_number p k (partner p k)) (length (new_side_points p k c) - 1 - new_place p k c (curve_entry p c (exit_at c i)))

  -- how many exits come before those of exit i, and how many there are
  abbrev pub start : ℕ → ℕ
  start i = sum_by (λ j. length (slid_exit p k c j)) (below i)

  parts : (i : ℕ) → slid_exit p k c i ≡ three (pre_exit i) (own_exit i) (post_exit i) (pre i) (gone i) (post i)
  parts i = refl

  pub size_of : (i : ℕ) → length (slid_exit p k c i) ≡ bit (pre i) + bit (not (gone i)) + bit (post i)
  size_of i = length-three (pre_exit i) (own_exit i) (post_exit i) (pre i) (gone i) (post i)

  pub start_suc : (i : ℕ) → start (suc i) ≡ start i + (bit (pre i) + bit (not (gone i)) + bit (post i))
  start_suc i = let a = base_suc (length c) (λ j. length (slid_exit p k c j)) i in omega (arith, a, size_of i)

  pub length-slid_exits : length (slid_exits p k c) ≡ start (length c)
  length-slid_exits = length-flat (slid_exit p k c) (length c)

  pub start_more : (a b : ℕ) → a ≤ b → start a ≤ start b
  start_more a b l = base_more (length c) (λ j. length (slid_exit p k c j)) a b l

  at_item : (i j : ℕ) → i < length c → j < length (slid_exit p k c i)
      → (start i + j < start (length c)) × (exit_at (slid_exits p k c) (start i + j) ≡ get_or (slid_exit p k c i) j (exit 0 0))
  at_item i j l h =
      let a = start_more (suc i) (length c) l in
      let b = base_suc (length c) (λ j. length (slid_exit p k c j)) i in
      (omega (arith, a, b, h), flat_at (slid_exit p k c) (length c) i j (exit 0 0) l h)

  pub pre_at : (i : ℕ) → i < length c → pre i ≡ true → (start i < start (length c)) × (exit_at (slid_exits p k c) (start i) ≡ pre_exit i)
  pre_at i l t =
      let r = at_item i 0 l (omega (arith, size_of i, ap bit t)) in
      let e : start i + 0 ≡ start i = omega arith in
      (omega (arith, r.0), ap (exit_at (slid_exits p k c)) (sym e) ∙ (r.1 ∙ first_of (pre_exit i) (own_exit i) (post_exit i) (pre i) (gone i) (post i) (exit 0 0) t))

  pub own_at : (i : ℕ) → i < length c → gone i ≡ false
      → (start i + bit (pre i) < start (length c)) × (exit_at (slid_exits p k c) (start i + bit (pre i)) ≡ own_exit i)
  own_at i l f =
      let some : bit (not (gone i)) ≡ 1 = ap (λ b. bit (not b)) f in
      let r = at_item i (bit (pre i)) l (omega (arith, size_of i, some)) in
      (r.0, r.1 ∙ middle_of (pre_exit i) (own_exit i) (post_exit i) (pre i) (gone i) (post i) (exit 0 0) f)

  pub post_at : (i : ℕ) → i < length c → post i ≡ true
      → (1 ≤ start (suc i)) × (start (suc i) - 1 < start (length c)) × (exit_at (slid_exits p k c) (start (suc i) - 1) ≡ post_exit i)
  post_at i l t =
      let r = at_item i (bit (pre i) + bit (not (gone i))) l (omega (arith, size_of i, ap bit t)) in
      let s = start_suc i in
      let e : start i + (bit (pre i) + bit (not (gone i))) ≡ start (suc i) - 1 = omega (arith, s, ap bit t) in (
        omega (arith, s, ap bit t),
        omega (arith, r.0, e),
        ap (exit_at (slid_exits p k c)) (sym e) ∙ (r.1 ∙ last_of (pre_exit i) (own_exit i) (post_exit i) (pre i) (gone i) (post i) (exit 0 0) t),
      )

  -- each exit is one of the three of some exit
  pub data Made (r : ℕ) : Type 0 where
    by_pre : (i : ℕ) → i < length c → pre i ≡ true → start i ≡ r → Made r
    by_own : (i : ℕ) → i < length c → gone i ≡ false → start i + bit (pre i) ≡ r → Made r
    by_post : (i : ℕ) → i < length c → post i ≡ true → start (suc i) - 1 ≡ r → Made r

  pub made_by : (r : ℕ) → r < start (length c) → Made r
  made_by r l =
      let (i, j, li, lj, e) = flat_of (slid_exit p k c) (length c) r l in
      elim (which_of (pre_exit i) (own_exit i) (post_exit i) (pre i) (gone i) (post i) j lj) [
        | inl u ↦ by_pre i li u.0 (omega (arith, u.1, e))
        | inr v ↦ elim v [
          | inl u ↦ by_own i li u.0 (omega (arith, u.1, e))
          | inr u ↦ by_post i li u.0 (let s = start_suc i in omega (arith, u.1, e, s, ap bit u.0))
        ]
      ]
