-- Turns taken out of a curve until its word has no cyclic pair; what stays as it was on the way.
use Rattle.std.proofs.Common.{◌≡◌, ℕ, suc, ◌+◌, ◌<◌, List, [], ◌∷◌, ◌++◌, length, get_or, refl, sym, ◌∙◌, ap, inl, inr, ◌≢◌, arith}
use Rattle.std.proofs.lemmas.Bool.{eq-eqb, ne_eqb}
use Rattle.std.proofs.lemmas.List.{length-append, length-map, map-append, get_or-map, get_or_at, get_or-append-add}
use Rattle.obd_base.specs.Lists.{below}
use Rattle.obd_base.specs.declared.points.Exit.{Exit}
use Rattle.obd_base.specs.declared.points.Sign.{Sign}
use Rattle.obd_base.proofs.lists.Below.{mem_below}
use Rattle.page_surface.specs.Drawing.{exit}
use Rattle.page_surface.specs.Polygon.{Pairs, Polygon, partner, sides}
use Rattle.curve_paths.specs.Curves.{IsCurve, curve_points, exit_at}
use Rattle.curve_paths.specs.Alphabet.{cancelled, Alike}
use Rattle.tight_curves.specs.Closed.{HasNoCyclicPair}
use Rattle.tight_curves.specs.Closed.{word_of}
use Rattle.tight_curves.specs.Parts.{IsPart, TurnsTaken, no_more, one_more, read_on}
use Rattle.tight_curves.proofs.Conjugates.{Conjugate, conjugate_alike, conjugate_rotation, conjugate_trans}
use Rattle.tight_curves.proofs.CyclicForms.{L}
use Rattle.tight_curves.proofs.PartMoves.{part_less, part_on}
use Rattle.tight_curves.proofs.PartPushes.{push_less}
use Rattle.tight_curves.proofs.PartWords.{push_part, word_on}
use Rattle.tight_curves.proofs.WholeCurve.{flat_equal}
use Rattle.curve_paths.proofs.CurvePoints.{following}
use Rattle.curve_paths.proofs.Reduction.{pair_out}

module _ (p : Polygon) (ok : Pairs p) (c : List Exit) (curve : IsCurve p c) where
  -- what comes from a part is a part
  pub taken_part : (s t : List Exit) → TurnsTaken p c s t → IsPart p c s → IsPart p c t
  taken_part s t no_more h = h
  taken_part a t (read_on {s} {e} r) h = taken_part (s ++ (e ∷ [])) t r (part_on p ok c curve e s h)
  taken_part a t (one_more {s} {out} {back} i r) h = taken_part s t r (part_less p ok c curve out back s h i)

  -- its products along sides reduce to the same
  pub taken_pushes : (g : Sign) (s t : List Exit) → TurnsTaken p c s t → IsPart p c s → (k : ℕ) → k < sides p
      → Alike (L p ok) (push_part p ok c curve g s k) (push_part p ok c curve g t k)
  taken_pushes g s t no_more h k lk = refl
  taken_pushes g a t (read_on {s} {e} r) h k lk =
      ap (cancelled (L p ok)) (sym (flat_equal _ _ (below (curve_points p c k)) (λ j m. word_on p ok c curve g e s h k j lk (mem_below (curve_points p c k) j m))))
      ∙ taken_pushes g (s ++ (e ∷ [])) t r (part_on p ok c curve e s h) k lk
  taken_pushes g a t (one_more {s} {out} {back} i r) h k lk =
      push_less p ok c curve g out back s h i k ∙ taken_pushes g s t r (part_less p ok c curve out back s h i) k lk

  -- and its word is a conjugate
  pub taken_words : (s t : List Exit) → TurnsTaken p c s t → Conjugate (L p ok) (word_of s) (word_of t)
  taken_words s t no_more = conjugate_alike (L p ok) (word_of s) (word_of s) refl
  taken_words a t (read_on {s} {e} r) =
      conjugate_trans (L p ok) (word_of (e ∷ s)) (word_of (s ++ (e ∷ []))) (word_of t)
      (conjugate_rotation (L p ok) (word_of (e ∷ s)) (word_of (s ++ (e ∷ []))) (e.side ∷ [], word_of s, refl, map-append (λ (x : Exit). x.side) s (e ∷ []))) (taken_words (s ++ (e ∷ [])) t r)
  taken_words a t (one_more {s} {out} {back} i r) =
      conjugate_trans (L p ok) (word_of (out ∷ back ∷ s)) (word_of s) (word_of t)
      (conjugate_alike (L p ok) (word_of (out ∷ back ∷ s)) (word_of s) (ap (λ x. cancelled (L p ok) (out.side ∷ x ∷ word_of s)) i.returns ∙ pair_out (L p ok) [] out.side (word_of s)))
      (taken_words s t r)

  -- a letter of the word
  letter_is : (s : List Exit) (i : ℕ) → i < length s → get_or (word_of s) i 0 ≡ (exit_at s i).side
  letter_is s i l = get_or-map (λ (e : Exit). e.side) s i (exit 0 0) 0 l

  -- where no exit is followed by one that comes back, the word has no cyclic pair
  pub no_pair : (s : List Exit) → ((i : ℕ) → i < length s → (exit_at s (following (length s) i)).side ≢ partner p (exit_at s i).side) → HasNoCyclicPair p (word_of s)
  no_pair s none v (inl (a, b, k, e, f)) =
      let w = word_of s in
      let i = length a in
      let long : length w ≡ length s = length-map s (λ (e : Exit). e.side) in
      let all : length w ≡ length a + length (k ∷ partner p k ∷ b) = ap length e ∙ length-append a (k ∷ partner p k ∷ b) in
      let here : get_or w i 0 ≡ k = ap (λ z. get_or z i 0) e ∙ get_or_at a k (partner p k ∷ b) 0 i refl in
      let z : i + 1 ≡ suc i = omega arith in
      let next : get_or w (suc i) 0 ≡ partner p k = ap (λ m. get_or w m 0) (sym z) ∙ (ap (λ y. get_or y (i + 1) 0) e ∙ get_or-append-add a (k ∷ partner p k ∷ b) 1 0) in
      let up : following (length s) i ≡ suc i = (let q : suc i ≢ length s = λ x. omega (arith, x, long, all) in rw (ne_eqb (suc i) (length s) q) refl) in
      none i (omega (arith, long, all))
      (ap (λ m. (exit_at s m).side) up ∙ (sym (letter_is s (suc i) (omega (arith, long, all))) ∙ (next ∙ ap (partner p) (sym here ∙ letter_is s i (omega (arith, long, all))))))
  no_pair s none v (inr (k, e)) =
      let w = word_of s in
      let i = suc (length v) in
      let long : length w ≡ length s = length-map s (λ (e : Exit). e.side) in
      let all : length w ≡ suc (length v + 1) = ap length e ∙ (let z = length-append v (k ∷ []) in omega (arith, z)) in
      let here : get_or w i 0 ≡ k = ap (λ y. get_or y i 0) e ∙ get_or_at v k [] 0 (length v) refl in
      let first : get_or w 0 0 ≡ partner p k = ap (λ y. get_or y 0 0) e in
      let up : following (length s) i ≡ 0 = (let q : suc i ≡ length s = omega (arith, long, all) in rw (eq-eqb (suc i) (length s) q) refl) in
      none i (omega (arith, long, all))
      (ap (λ m. (exit_at s m).side) up ∙ (sym (letter_is s 0 (omega (arith, long, all))) ∙ (first ∙ ap (partner p) (sym here ∙ letter_is s i (omega (arith, long, all))))))
