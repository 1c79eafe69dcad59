-- The search for a turn, exit by exit.
use Rattle.std.proofs.Common.{◌≡◌, ℕ, zero, suc, ◌+◌, ◌<◌, ◌≤◌, Bool, true, false, List, [], ◌∷◌, ◌++◌, length, take, drop, get_or, refl, sym, ◌∙◌, ap, ap₂, subst, inl, inr, arith}
use Rattle.std.specs.List.{remove}
use Rattle.std.proofs.lemmas.Bool.{cases_eq}
use Rattle.std.proofs.lemmas.List.{length-take, take_at}
use Rattle.obd_base.specs.declared.points.Exit.{Exit}
use Rattle.page_surface.specs.Drawing.{exit}
use Rattle.page_surface.specs.Polygon.{IsPolygon, Polygon, partner}
use Rattle.curve_paths.specs.Curves.{IsCurve, curve_points, exit_at}
use Rattle.curve_paths.proofs.CurvePoints.{points_partner}
use Rattle.tight_curves.specs.Closed.{HasNoCyclicPair, word_of}
use Rattle.tight_curves.specs.Parts.{IsPart}
use Rattle.tight_curves.specs.Turns.{IsTurnAt, after, is_turn_at, turns_back}
use Rattle.tight_curves.proofs.PartPoints.{In, exit_in}
use Rattle.tight_curves.proofs.TurnSteps.{turn_at}
use Rattle.tight_curves.proofs.TurnTests.{no_turn}

-- an entry of a list, whatever stands for none
same_entry : {A : Type 0} (xs : List A) (i : ℕ) (x d : A) → i < length xs → get_or xs i x ≡ get_or xs i d
same_entry [] i x d l = absurd (omega arith)
same_entry (y ∷ xs) zero x d l = refl
same_entry (y ∷ xs) (suc i) x d l = same_entry xs i x d (omega arith)

pub entry_is : {A : Type 0} (xs : List A) (i : ℕ) (x d : A) → i < length xs → x ≡ get_or xs i x → x ≡ get_or xs i d
entry_is xs i x d l e = e ∙ same_entry xs i x d l

module _ (p : Polygon) (valid : IsPolygon p) (c : List Exit) (curve : IsCurve p c) (s : List Exit) (part : IsPart p c s) where
  -- an exit of the part is a point of the curve
  pub is_point : (i : ℕ) (e : Exit) → i < length s → e ≡ get_or s i e → In p valid.pairs c curve e
  is_point i e l q = subst (In p valid.pairs c curve) (sym (entry_is s i e (exit 0 0) l q)) (exit_in p valid.pairs c curve s part i l)

  -- and one that comes back is a point across
  pub is_back : (out : Exit) (k : ℕ) (back : Exit) → k < length s → back ≡ get_or s k back → back.side ≡ partner p out.side → back.place < curve_points p c out.side
  is_back out k back l q e =
      let many : curve_points p c back.side ≡ curve_points p c out.side = ap (curve_points p c) e ∙ points_partner p valid.pairs c curve out.side in
      omega (arith, (is_point k back l q).1, many)

  -- the test of two exits is the test at the first
  pub test_is : (i : ℕ) (out : Exit) (k : ℕ) (back : Exit) (b : Bool) → i < length s → out ≡ get_or s i out → k ≡ after (length s) i → k < length s → back ≡ get_or s k back
      → b ≡ turns_back p c s out back → is_turn_at p c s i ≡ b
  test_is i out k back b l q e lk r t =
      ap₂ (turns_back p c s) (sym (entry_is s i out (exit 0 0) l q)) (sym (entry_is s k back (exit 0 0) lk r ∙ ap (exit_at s) e)) ∙ sym t

  -- an exit that passes makes a turn
  pub found : (i : ℕ) (b : Bool) → i < length s → is_turn_at p c s i ≡ b → b ≡ true → IsTurnAt p c s i
  found i b l e t = turn_at p valid c curve s part i l (e ∙ t)

  -- one more that doesn't
  pub one_more_fails : (i : ℕ) (b : Bool) → is_turn_at p c s i ≡ b → b ≡ false → ((j : ℕ) → j < i → is_turn_at p c s j ≡ false) → (j : ℕ) → j < i + 1 → is_turn_at p c s j ≡ false
  one_more_fails i b e f before j l = elim (cases_eq j i) [
    | inl q ↦ ap (is_turn_at p c s) q ∙ (e ∙ f)
    | inr ne ↦ before j (omega (arith, l, ne))
  ]

  -- where all fail, no pair is left
  pub none_left : (i : ℕ) → length s ≤ i → ((j : ℕ) → j < i → is_turn_at p c s j ≡ false) → HasNoCyclicPair p (word_of s)
  none_left i l before = no_turn p valid.pairs c curve s part (λ j m. before j (omega (arith, l, m)))

-- what follows a place and the one after it
dropped : (s : List Exit) (i : ℕ) → suc i < length s → drop (suc i) (take i s ++ drop (suc i) s) ≡ drop (i + 2) s
dropped [] i l = absurd (omega arith)
dropped (x ∷ s) zero l = refl
dropped (x ∷ s) (suc i) l = let e : suc i + 2 ≡ suc (i + 2) = omega arith in dropped s i (omega arith) ∙ ap (λ n. drop n (x ∷ s)) (sym e)

-- two places that are removed one after the other
pub removed_both : (s one two : List Exit) (i : ℕ) → one ≡ remove s i → two ≡ remove one i → suc i < length s → two ≡ take i s ++ drop (i + 2) s
removed_both s one two i e f l =
    let a : take i (take i s ++ drop (suc i) s) ≡ take i s = take_at (take i s) (drop (suc i) s) i (omega (arith, length-take i s, l)) in
    f ∙ (ap (λ z. remove z i) e ∙ ap₂ (λ x y. x ++ y) a (dropped s i l))
