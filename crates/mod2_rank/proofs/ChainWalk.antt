-- The written chain by one walk from the last pivot to the first: where a pivot is flagged, its column is in and the pivots added to it are toggled.
use Rattle.std.proofs.Common.{◌≡◌, ℕ, zero, suc, ◌-◌, ◌<◌, Bool, true, false, cond, List, [], ◌∷◌, ◌++◌, append_assoc, append-nil, refl, sym, ◌∙◌, ap, subst, arith}
use Rattle.std.proofs.lemmas.Bool.{eq-eqb, ne_eqb}
use Rattle.mod2_rank.specs.Rows.{Rows, only, differ, plus}
use Rattle.mod2_rank.proofs.Vectors.{differ_false}
use Rattle.mod2_rank.specs.Written.{chosen, expand}
use Rattle.mod2_rank.proofs.Expanding.{expand_high}

-- tests that agree below n choose the same columns
chosen_same : (c : ℕ → ℕ) (x y : Rows) (n : ℕ) → ((l : ℕ) → l < n → x l ≡ y l) → chosen c x n ≡ chosen c y n
chosen_same c x y zero h = refl
chosen_same c x y (suc n) h = rw (chosen_same c x y n (λ l k. h l (omega arith)), h n (omega arith)) refl

module _ (c : ℕ → ℕ) (added : ℕ → Rows) where
  -- the walk before pivot m: the columns that the flags below m lead to, and those that are in already
  abbrev pub Walked : List ℕ → ℕ → Rows → List ℕ → Type 0
  Walked whole m flags done = whole ≡ chosen c (expand added m flags) m ++ done

  -- at the start
  pub walk_first : (m : ℕ) (flags : Rows) → Walked (chosen c (expand added m flags) m) m flags []
  walk_first m flags = sym (append-nil (chosen c (expand added m flags) m))

  -- at a flagged pivot
  pub walk_on : (whole : List ℕ) (m : ℕ) (flags : Rows) (done : List ℕ) → Walked whole (suc m) flags done → flags m ≡ true → Walked whole m (plus flags (added m)) (c m ∷ done)
  walk_on whole m flags done w on = w ∙ (ap (λ (xs : List ℕ). xs ++ done) (split (flags m) on) ∙ append_assoc (chosen c rest m) (c m ∷ []) done)
    where
      rest : Rows
      rest = expand added m (plus flags (added m))

      last : plus rest (only m) m ≡ true
      last = rw (expand_high added m (plus flags (added m)) m (omega arith), eq-eqb m m refl) refl

      before : (l : ℕ) → l < m → plus rest (only m) l ≡ rest l
      before l h = ap (differ (rest l)) (ne_eqb l m (λ e. omega arith)) ∙ differ_false (rest l)

      split : (b : Bool) → b ≡ true → chosen c (cond b (plus rest (only m)) (expand added m flags)) (suc m) ≡ chosen c rest m ++ (c m ∷ [])
      split true e = rw (last, chosen_same c (plus rest (only m)) rest m before) refl
      split false e = absurd (let z : false ≡ true = e in no z)
        where
          no : false ≡ true → ⊥
          no z = cc

  -- at another
  pub walk_off : (whole : List ℕ) (m : ℕ) (flags : Rows) (done : List ℕ) → Walked whole (suc m) flags done → flags m ≡ false → Walked whole m flags done
  walk_off whole m flags done w off = w ∙ ap (λ (xs : List ℕ). xs ++ done) (split (flags m) off)
    where
      split : (b : Bool) → b ≡ false → chosen c (cond b (plus (expand added m (plus flags (added m))) (only m)) (expand added m flags)) (suc m) ≡ chosen c (expand added m flags) m
      split true e = absurd (no e)
        where
          no : true ≡ false → ⊥
          no z = cc
      split false e = rw (expand_high added m flags m (omega arith)) (append-nil (chosen c (expand added m flags) m))

  -- the same steps at the pivot before m
  pub walk_down_on : (whole : List ℕ) (m : ℕ) (flags next : Rows) (done more : List ℕ) → 0 < m → Walked whole m flags done → flags (m - 1) ≡ true
      → next ≡ plus flags (added (m - 1)) → more ≡ c (m - 1) ∷ done → Walked whole (m - 1) next more
  walk_down_on whole m flags next done more some w on e f =
      let s : m ≡ suc (m - 1) = omega arith in
      rw (e, f) (walk_on whole (m - 1) flags done (subst (λ n. Walked whole n flags done) s w) on)

  -- and past a pivot without a flag
  pub walk_down_off : (whole : List ℕ) (m : ℕ) (flags : Rows) (done : List ℕ) → 0 < m → Walked whole m flags done → flags (m - 1) ≡ false → Walked whole (m - 1) flags done
  walk_down_off whole m flags done some w off =
      let s : m ≡ suc (m - 1) = omega arith in
      walk_off whole (m - 1) flags done (subst (λ n. Walked whole n flags done) s w) off
