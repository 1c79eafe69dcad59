-- The test of exits tells innermost turns, and where it fails at every exit the part's word has no cyclic pair.
use Rattle.std.proofs.Common.{◌≡◌, ℕ, suc, ◌-◌, ◌<◌, Bool, true, false, eqb, ltb, ◌&&◌, ◌||◌, not, List, [], ◌∷◌, length, get_or, refl, sym, ◌∙◌, ap, subst, ◌⊎◌, inl, inr, arith}
use Rattle.std.specs.List.{list_any}
use Rattle.std.proofs.lemmas.Bool.{and_parts, and_from, eq-eqb, eqb-true, lt-ltb, le-ltb, ltb-true, false≢true}
use Rattle.std.proofs.lemmas.List.Folds.{list_any_at}
use Rattle.obd_base.specs.declared.points.Exit.{Exit}
use Rattle.page_surface.specs.Drawing.{exit}
use Rattle.page_surface.specs.Polygon.{Pairs, Polygon, partner, sides}
use Rattle.curve_paths.specs.Curves.{IsCurve, curve_points, exit_at}
use Rattle.curve_paths.proofs.CurvePoints.{following, following-less, points_partner}
use Rattle.tight_curves.specs.Closed.{HasNoCyclicPair, word_of}
use Rattle.tight_curves.specs.Parts.{IsInnermost, IsPart, has_point}
use Rattle.tight_curves.specs.Turns.{is_between, is_turn_at, leaves_between, turns_back}
use Rattle.tight_curves.proofs.InnermostFound.{Innermost, innermost}
use Rattle.tight_curves.proofs.PartPoints.{Made, entering, exit_in, has_entry, has_exit, leaving, made}
use Rattle.tight_curves.proofs.TurnsOut.{no_pair}

-- strictly between, either way
abbrev pub Between : ℕ → ℕ → ℕ → Type 0
Between a b j = ((a < j) × (j < b)) ⊎ ((b < j) × (j < a))

-- as the test tells it
pub between_true : (a b j : ℕ) → Between a b j → is_between a b j ≡ true
between_true a b j (inl (l, m)) = rw (lt-ltb a j l, lt-ltb j b m) refl
between_true a b j (inr (l, m)) = rw (le-ltb a j (omega (arith, m)), lt-ltb b j l, lt-ltb j a m) refl

pub true_between : (a b j : ℕ) → is_between a b j ≡ true → Between a b j
true_between a b j h = go (ltb a j && ltb j b) refl h
  where
    go : (x : Bool) → (ltb a j && ltb j b) ≡ x → (x || (ltb b j && ltb j a)) ≡ true → Between a b j
    go true e t = let r = and_parts (ltb a j) (ltb j b) e in inl (ltb-true a j r.0, ltb-true j b r.1)
    go false e t = let r = and_parts (ltb b j) (ltb j a) t in inr (ltb-true b j r.0, ltb-true j a r.1)

-- what isn't so is false
not_so : (b : Bool) → (b ≡ true → ⊥) → b ≡ false
not_so true h = absurd (h refl)
not_so false h = refl

-- a test that no member passes
none_pass : {X : Type 0} (t : X → Bool) (d : X) (xs : List X) → ((i : ℕ) → i < length xs → t (get_or xs i d) ≡ true → ⊥) → list_any t xs ≡ false
none_pass t d [] h = refl
none_pass t d (x ∷ xs) h = rw (not_so (t x) (h 0 (omega arith))) (none_pass t d xs (λ i l. h (suc i) (omega arith)))

-- and the other way
not_true : (b : Bool) → not b ≡ true → b ≡ false
not_true true e = sym e
not_true false e = refl

not_false : (b : Bool) → b ≡ false → not b ≡ true
not_false true e = sym e
not_false false e = refl

module _ (p : Polygon) (ok : Pairs p) (c : List Exit) (curve : IsCurve p c) (s : List Exit) (part : IsPart p c s) where
  -- what passes the test is an innermost turn
  pub test_innermost : (out back : Exit) → out.side < sides p → out.place < curve_points p c out.side → back.place < curve_points p c back.side → turns_back p c s out back ≡ true
      → IsInnermost p c s out back
  test_innermost out back side lo lb t =
      let m : ℕ = curve_points p c out.side in
      let one = leaves_between out.side out.place (m - 1 - back.place) in
      let two = leaves_between back.side (m - 1 - out.place) back.place in
      let r = and_parts (eqb back.side (partner p out.side)) (not (list_any one s) && not (list_any two s)) t in
      let q = and_parts (not (list_any one s)) (not (list_any two s)) r.1 in
      let returns : back.side ≡ partner p out.side = eqb-true _ _ r.0 in
      let many : curve_points p c back.side ≡ m = ap (curve_points p c) returns ∙ points_partner p ok c curve out.side in
      record {
        returns = returns;
        nothing_between = λ j l. not_so (has_point p c s out.side j) (λ h. go returns many (not_true _ q.0) (not_true _ q.1) j l (made p ok c curve s part out.side j h));
      }
    where
      go : back.side ≡ partner p out.side → curve_points p c back.side ≡ curve_points p c out.side
          → list_any (leaves_between out.side out.place (curve_points p c out.side - 1 - back.place)) s ≡ false
          → list_any (leaves_between back.side (curve_points p c out.side - 1 - out.place) back.place) s ≡ false
          → (j : ℕ) → Between out.place (curve_points p c back.side - 1 - back.place) j → Made p ok c curve s part (exit out.side j) → ⊥
      go returns many n1 n2 j l (leaving i li e) =
          let at : Exit = exit_at s i in
          let k : at.side ≡ out.side = sym (ap (λ (x : Exit). x.side) e) in
          let y : at.place ≡ j = sym (ap (λ (x : Exit). x.place) e) in
          let b : Between out.place (curve_points p c out.side - 1 - back.place) at.place
          = subst (λ z. Between out.place (z - 1 - back.place) at.place) many (subst (Between out.place (curve_points p c back.side - 1 - back.place)) (sym y) l) in
          false≢true (sym n1 ∙ list_any_at (leaves_between out.side out.place (curve_points p c out.side - 1 - back.place)) s i (exit 0 0) li
          (and_from _ _ (eq-eqb at.side out.side k) (between_true out.place (curve_points p c out.side - 1 - back.place) at.place b)))
      go returns many n1 n2 j l (entering i li e) =
          let at : Exit = exit_at s i in
          let k : out.side ≡ partner p at.side = ap (λ (x : Exit). x.side) e in
          let y : j ≡ curve_points p c at.side - 1 - at.place = ap (λ (x : Exit). x.place) e in
          let h = exit_in p ok c curve s part i li in
          let x : at.side ≡ back.side = sym (ok.twice at.side) ∙ (ap (partner p) (sym k) ∙ sym returns) in
          let n : curve_points p c at.side ≡ curve_points p c out.side = ap (curve_points p c) x ∙ many in
          let b : Between (curve_points p c out.side - 1 - out.place) back.place at.place = elim l [
            | inl u ↦ inr (omega (arith, u, y, n, many, h.1, lo, lb), omega (arith, u, y, n, many, h.1, lo, lb))
            | inr u ↦ inl (omega (arith, u, y, n, many, h.1, lo, lb), omega (arith, u, y, n, many, h.1, lo, lb))
          ] in
          false≢true (sym n2 ∙ list_any_at (leaves_between back.side (curve_points p c out.side - 1 - out.place) back.place) s i (exit 0 0) li
          (and_from _ _ (eq-eqb at.side back.side x) (between_true (curve_points p c out.side - 1 - out.place) back.place at.place b)))

  -- an innermost turn passes the test
  innermost_passes : (a : ℕ) → Innermost p ok c curve s part a → is_turn_at p c s a ≡ true
  innermost_passes a i =
      let out : Exit = exit_at s a in
      let back : Exit = exit_at s (following (length s) a) in
      let m : ℕ = curve_points p c out.side in
      let returns : back.side ≡ partner p out.side = i.returns in
      let many : curve_points p c back.side ≡ m = ap (curve_points p c) returns ∙ points_partner p ok c curve out.side in
      let lo = (exit_in p ok c curve s part a i.index).1 in
      let lb = (exit_in p ok c curve s part (following (length s) a) (following-less (length s) a i.index)).1 in
      and_from _ _ (eq-eqb back.side (partner p out.side) returns)
      (and_from _ _ (not_false _ (none_pass (leaves_between out.side out.place (m - 1 - back.place)) (exit 0 0) s (λ k l t. leaves k l many (and_parts _ _ t))))
      (not_false _ (none_pass (leaves_between back.side (m - 1 - out.place) back.place) (exit 0 0) s (λ k l t. enters k l many lo lb returns (and_parts _ _ t)))))
    where
      leaves : (k : ℕ) → k < length s → curve_points p c (exit_at s (following (length s) a)).side ≡ curve_points p c (exit_at s a).side
          → (eqb (exit_at s k).side (exit_at s a).side ≡ true) × (is_between (exit_at s a).place (curve_points p c (exit_at s a).side - 1 - (exit_at s (following (length s) a)).place) (exit_at s k).place ≡ true) → ⊥
      leaves k l many (e, b) =
          let out : Exit = exit_at s a in
          let back : Exit = exit_at s (following (length s) a) in
          let w : Between out.place (curve_points p c back.side - 1 - back.place) (exit_at s k).place
          = subst (λ z. Between out.place (z - 1 - back.place) (exit_at s k).place) (sym many) (true_between out.place (curve_points p c out.side - 1 - back.place) (exit_at s k).place b) in
          false≢true (sym (i.nothing (exit_at s k).place w) ∙ subst (λ z. has_point p c s z (exit_at s k).place ≡ true) (eqb-true _ _ e) (has_exit p ok c curve s part k l))

      enters : (k : ℕ) → k < length s → curve_points p c (exit_at s (following (length s) a)).side ≡ curve_points p c (exit_at s a).side
          → (exit_at s a).place < curve_points p c (exit_at s a).side → (exit_at s (following (length s) a)).place < curve_points p c (exit_at s (following (length s) a)).side
          → (exit_at s (following (length s) a)).side ≡ partner p (exit_at s a).side
          → (eqb (exit_at s k).side (exit_at s (following (length s) a)).side ≡ true)
          × (is_between (curve_points p c (exit_at s a).side - 1 - (exit_at s a).place) (exit_at s (following (length s) a)).place (exit_at s k).place ≡ true) → ⊥
      enters k l many lo lb returns (e, b) =
          let out : Exit = exit_at s a in
          let back : Exit = exit_at s (following (length s) a) in
          let at : Exit = exit_at s k in
          let x : at.side ≡ back.side = eqb-true _ _ e in
          let h = exit_in p ok c curve s part k l in
          let n : curve_points p c at.side ≡ curve_points p c out.side = ap (curve_points p c) x ∙ many in
          let on : partner p at.side ≡ out.side = ap (partner p) (x ∙ returns) ∙ ok.twice out.side in
          let j : ℕ = curve_points p c at.side - 1 - at.place in
          let w : Between out.place (curve_points p c back.side - 1 - back.place) j = elim (true_between (curve_points p c out.side - 1 - out.place) back.place at.place b) [
            | inl u ↦ inr (omega (arith, u, n, many, h.1, lo, lb), omega (arith, u, n, many, h.1, lo, lb))
            | inr u ↦ inl (omega (arith, u, n, many, h.1, lo, lb), omega (arith, u, n, many, h.1, lo, lb))
          ] in
          false≢true (sym (i.nothing j w) ∙ subst (λ z. has_point p c s z j ≡ true) on (has_entry p ok c curve s part k l))

  -- so where no exit passes, the word has no cyclic pair
  pub no_turn : ((i : ℕ) → i < length s → is_turn_at p c s i ≡ false) → HasNoCyclicPair p (word_of s)
  no_turn none =
      no_pair p ok c curve s (λ i l q. let (a, found) = innermost p ok c curve s part i l q in false≢true (sym (none a found.index) ∙ innermost_passes a found))
