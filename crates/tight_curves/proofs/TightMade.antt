-- A curve made tight: turns are taken out until its word has no cyclic pair, and twists about it act as before.
use Rattle.std.proofs.Common.{◌≡◌, ℕ, ◌+◌, ◌-◌, ◌%◌, ◌<◌, List, [], ◌∷◌, ◌++◌, map, refl, sym, ◌∙◌, ap, ap₂, subst, arith}
use Rattle.std.specs.List.{enumerate_from, flat_map}
use Rattle.obd_base.specs.Lists.{below}
use Rattle.obd_base.specs.declared.points.Exit.{Exit}
use Rattle.obd_base.specs.declared.points.Sign.{Sign}
use Rattle.obd_base.proofs.lists.Members.{mem_map}
use Rattle.page_surface.specs.Polygon.{Pairs, Polygon, first_side, partner, second_side, sides}
use Rattle.page_surface.specs.Words.{reduced}
use Rattle.curve_paths.specs.Curves.{IsCurve, gap_before, image, passed, push_at, twisted}
use Rattle.curve_paths.specs.Alphabet.{cancelled, Alike}
use Rattle.path_words.proofs.SideLetters.{AreSides, reduced_is}
use Rattle.tight_curves.specs.Closed.{HasNoCyclicPair, IsRotation, cyclic_form, word_of}
use Rattle.tight_curves.specs.Parts.{MadeTight, TurnsTaken, part_exits}
use Rattle.tight_curves.specs.Closed as C
use Rattle.tight_curves.proofs.CyclicForms.{L, conjugate_forms, has_cyclic_form}
use Rattle.tight_curves.proofs.PairsGone.{flat_alike}
use Rattle.tight_curves.proofs.PartCurve.{part_curve, push_alone, word_alone}
use Rattle.tight_curves.proofs.TurnsOut.{taken_part, taken_pushes, taken_words}
use Rattle.tight_curves.proofs.WholeCurve.{push_whole, whole_part}
use Rattle.curve_paths.proofs.Reduction.{alike_after, alike_join}

module _ (p : Polygon) (ok : Pairs p) where
  -- the letters of a curve's word are sides
  pub curve_sides : (c : List Exit) → IsCurve p c → AreSides p (word_of c)
  curve_sides c curve s m = let (e, k, is) = mem_map (λ (e : Exit). e.side) s c m in subst (λ z. z < sides p) (sym is) (curve.in_range e k).0

  module _ (c : List Exit) (curve : IsCurve p c) where
    -- what stays when turns are taken out of a curve is a curve that twists as the curve does
    pub taken_made : (t : List Exit) → TurnsTaken p c c t → HasNoCyclicPair p (word_of t) → MadeTight p c (part_exits p c t)
    taken_made t r none =
        let whole = whole_part p ok c curve in
        let part = taken_part p ok c curve c t r whole in
        let same = word_alone p ok c curve t part in
        let free : HasNoCyclicPair p (word_of (part_exits p c t)) = subst (HasNoCyclicPair p) (sym same) none in
        record {
          is_curve = part_curve p ok c curve t part;
          free = free;
          word = subst (IsRotation (cyclic_form p (word_of c))) (sym same)
              (conjugate_forms p ok (word_of c) (word_of t) (cyclic_form p (word_of c)) (word_of t) (taken_words p ok c curve c t r) (has_cyclic_form p ok (word_of c) (curve_sides c curve)) (record { reached = C.none; free = none }));
          pushes = λ g k lk. reduced_is p ok (push_at p (part_exits p c t) g k) ∙ (ap (cancelled (L p ok)) (sym (push_alone p ok c curve t part g k lk))
              ∙ (sym (taken_pushes p ok c curve g c t r whole k lk) ∙ (ap (cancelled (L p ok)) (push_whole p ok c curve g k lk) ∙ sym (reduced_is p ok (push_at p c g k)))));
        }

  -- where two curves set the same products up to reduction, twists about them are one
  module _ (some : 0 < sides p) (c d : List Exit) (g : Sign) (same : (k : ℕ) → k < sides p → reduced p (push_at p d g k) ≡ reduced p (push_at p c g k)) where
    pushes_alike : (k : ℕ) → k < sides p → Alike (L p ok) (push_at p d g k) (push_at p c g k)
    pushes_alike k l = sym (reduced_is p ok (push_at p d g k)) ∙ (same k l ∙ reduced_is p ok (push_at p c g k))

    way_alike : (u v : ℕ) → Alike (L p ok) (flat_map (push_at p d g) (passed p u v)) (flat_map (push_at p c g) (passed p u v))
    way_alike u v = flat_alike (L p ok) (push_at p d g) (push_at p c g) (passed p u v) (λ k m. pushes_alike k
        (let (i, _, e) = mem_map (λ (i : ℕ). (u + 1 + i) % sides p) k (below ((v + sides p - u) % sides p)) m in omega (arith, e)))

    image_alike : (w : List ℕ) (u v : ℕ) → Alike (L p ok) (image p d g w u v) (image p c g w u v)
    image_alike [] u v = way_alike u v
    image_alike (s ∷ w) u v =
        alike_join (L p ok) (flat_map (push_at p d g) (passed p u (gap_before p s))) (flat_map (push_at p c g) (passed p u (gap_before p s)))
        (s ∷ image p d g w (partner p s) v) (s ∷ image p c g w (partner p s) v) (way_alike u (gap_before p s))
        (alike_after (L p ok) (s ∷ []) (image p d g w (partner p s) v) (image p c g w (partner p s) v) (image_alike w (partner p s) v))

    -- images of words have one reduced form
    pub image_same : (w : List ℕ) (u v : ℕ) → reduced p (image p d g w u v) ≡ reduced p (image p c g w u v)
    image_same w u v = reduced_is p ok (image p d g w u v) ∙ (image_alike w u v ∙ sym (reduced_is p ok (image p c g w u v)))

    -- the words of strands after the twist are equal
    pub twisted_same : (ws : List (List ℕ)) → twisted p d g ws ≡ twisted p c g ws
    twisted_same ws = go (enumerate_from 0 ws)
      where
        go : (xs : List (ℕ × List ℕ)) → map (λ e. reduced p (image p d g e.1 (second_side p e.0) (first_side p e.0))) xs ≡ map (λ e. reduced p (image p c g e.1 (second_side p e.0) (first_side p e.0))) xs
        go [] = refl
        go (x ∷ xs) = ap₂ (λ y ys. y ∷ ys) (image_same x.1 (second_side p x.0) (first_side p x.0)) (go xs)

-- a curve without exits changes no word
pub no_exits_image : (p : Polygon) (g : Sign) (w : List ℕ) (u v : ℕ) → image p [] g w u v ≡ w
no_exits_image p g [] u v = nothing (passed p u v)
  where
    nothing : (xs : List ℕ) → flat_map (push_at p [] g) xs ≡ []
    nothing [] = refl
    nothing (x ∷ xs) = nothing xs
no_exits_image p g (s ∷ w) u v = ap₂ (λ x y. x ++ (s ∷ y)) (nothing (passed p u (gap_before p s))) (no_exits_image p g w (partner p s) v)
  where
    nothing : (xs : List ℕ) → flat_map (push_at p [] g) xs ≡ []
    nothing [] = refl
    nothing (x ∷ xs) = nothing xs
