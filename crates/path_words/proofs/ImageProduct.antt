-- The action of a twist on words: it respects cancelling, joining of paths and going back.
use Rattle.std.proofs.Common.{◌≡◌, ℕ, zero, suc, ◌+◌, ◌-◌, ◌<◌, List, [], ◌∷◌, ◌++◌, refl, sym, ◌∙◌, ap, subst, inl, inr, arith, append_assoc}
use Rattle.std.specs.List.{flat_map, range_with_len}
use Rattle.std.proofs.lemmas.Bool.{cases_lt}
use Rattle.std.proofs.lemmas.List.{append-nil}
use Rattle.std.proofs.lemmas.List.Concat.{flat_map-append}
use Rattle.curve_paths.specs.Curves.{push_at, passed, gap_before, image, IsCurve}
use Rattle.obd_base.specs.declared.points.Exit.{Exit}
use Rattle.obd_base.specs.declared.points.Sign.{Sign}
use Rattle.page_surface.specs.Polygon.{Polygon, sides, partner, Pairs}
use Rattle.curve_paths.specs.Alphabet.{Alphabet, cancelled, back, Alike, Null}
use Rattle.curve_paths.proofs.Reduction.{alike_after, alike_before, alike_join, alike_middle, alike_back, null_out, null_second, pair_out, back_and_word, back-append, back-back, back-cons}
use Rattle.curve_paths.proofs.Homs.{hom, Turns}
use Rattle.path_words.proofs.SideLetters.{AreSides, side_letters}
use Rattle.curve_paths.proofs.PointPlaces.{range_join}
use Rattle.path_words.proofs.Passed.{passed_up, passed_round, before_suc, before_zero, before-less}
use Rattle.path_words.proofs.CurveWords.{once_round, push_across}

module _ (p : Polygon) (ok : Pairs p) (c : List Exit) (curve : IsCurve p c) (g : Sign) where
  abbrev L : Alphabet ℕ
  L = side_letters p ok

  abbrev n : ℕ
  n = sides p

  -- the product over the sides passed
  abbrev pub way : ℕ → ℕ → List ℕ
  way u v = flat_map (push_at p c g) (passed p u v)

  -- the product over all sides up to a gap
  abbrev pub upto : ℕ → List ℕ
  upto k = flat_map (push_at p c g) (range_with_len 0 (k + 1))

  upto_join : (u r : ℕ) → flat_map (push_at p c g) (range_with_len 0 ((u + 1) + r)) ≡ upto u ++ flat_map (push_at p c g) (range_with_len (u + 1) r)
  upto_join u r =
      let e : 0 + (u + 1) ≡ u + 1 = omega arith in
      ap (flat_map (push_at p c g)) (range_join 0 (u + 1) r ∙ ap (λ z. range_with_len 0 (u + 1) ++ range_with_len z r) e)
      ∙ flat_map-append (push_at p c g) (range_with_len 0 (u + 1)) (range_with_len (u + 1) r)

  upto_last : 0 < sides p → Null L (upto (n - 1))
  upto_last l = let e : (n - 1) + 1 ≡ n = omega (arith, l) in ap (λ z. cancelled L (flat_map (push_at p c g) (range_with_len 0 z))) e ∙ once_round p ok c curve g

  -- the sides passed from gap u to gap v give what lies before u undone, and then what lies before v
  pub way_is : (u v : ℕ) → u < sides p → v < sides p → Alike L (way u v) (back L (upto u) ++ upto v)
  way_is u v lu lv = elim (cases_lt v u) [
    | inl l ↦ (let rest : List ℕ = flat_map (push_at p c g) (range_with_len (u + 1) (n - 1 - u)) in
        let e : (u + 1) + (n - 1 - u) ≡ (n - 1) + 1 = omega (arith, lu) in
        let whole : Null L (upto u ++ rest) = ap (cancelled L) (sym (upto_join u (n - 1 - u)) ∙ ap (λ z. flat_map (push_at p c g) (range_with_len 0 z)) e) ∙ upto_last (omega (arith, lu)) in
        ap (λ z. cancelled L (flat_map (push_at p c g) z)) (passed_round p u v l lu)
        ∙ (ap (cancelled L) (flat_map-append (push_at p c g) (range_with_len (u + 1) (n - 1 - u)) (range_with_len 0 (v + 1)))
        ∙ alike_before L rest (back L (upto u)) (upto v) (null_second L (upto u) rest whole)))
    | inr l ↦ (let rest : List ℕ = flat_map (push_at p c g) (range_with_len (u + 1) (v - u)) in
        let e : v + 1 ≡ (u + 1) + (v - u) = omega (arith, l) in
        let whole : upto v ≡ upto u ++ rest = ap (λ z. flat_map (push_at p c g) (range_with_len 0 z)) e ∙ upto_join u (v - u) in
        ap (λ z. cancelled L (flat_map (push_at p c g) z)) (passed_up p u v l lv)
        ∙ sym (ap (λ z. cancelled L (back L (upto u) ++ z)) whole
        ∙ (ap (cancelled L) (sym (append_assoc (back L (upto u)) (upto u) rest)) ∙ null_out L [] (back L (upto u) ++ upto u) rest (back_and_word L (upto u)))))
  ]

  -- what lies before the gap of a side is what lies before the gap before, and the side itself
  pub upto_side : (s : ℕ) → s < sides p → Alike L (upto s) (upto (gap_before p s) ++ push_at p c g s)
  upto_side zero l =
      let b : gap_before p 0 ≡ n - 1 = before_zero p l in
      let one : upto 0 ≡ push_at p c g 0 = append-nil (push_at p c g 0) in
      ap (cancelled L) one ∙ sym (ap (λ z. cancelled L (upto z ++ push_at p c g 0)) b ∙ null_out L [] (upto (n - 1)) (push_at p c g 0) (upto_last l))
  upto_side (suc s) l =
      let b : gap_before p (suc s) ≡ s = before_suc p s l in
      let e : suc s + 1 ≡ (s + 1) + 1 = omega arith in
      let f : s + 1 ≡ suc s = omega arith in
      ap (cancelled L) (ap (λ z. flat_map (push_at p c g) (range_with_len 0 z)) e ∙ (upto_join s 1
      ∙ (ap (λ z. upto s ++ z) (append-nil (push_at p c g (s + 1))) ∙ (ap (λ z. upto s ++ push_at p c g z) f ∙ ap (λ z. upto z ++ push_at p c g (suc s)) (sym b)))))

  -- a letter with what lies before it, and what lies before its partner undone
  abbrev pub moved : ℕ → List ℕ
  moved s = upto (gap_before p s) ++ (s ∷ back L (upto (partner p s)))

  -- the image of a path, as a product over its letters
  pub image_is : (w : List ℕ) (u v : ℕ) → AreSides p w → u < sides p → v < sides p
      → Alike L (image p c g w u v) (back L (upto u) ++ (flat_map moved w ++ upto v))
  image_is [] u v h lu lv = way_is u v lu lv
  image_is (s ∷ w) u v h lu lv =
      let ls = h s (inl refl) in
      let ih = image_is w (partner p s) v (λ t m. h t (inr m)) (ok.in_range s ls) lv in
      let a = back L (upto u) in
      let b = upto (gap_before p s) in
      let d = back L (upto (partner p s)) in
      let r = flat_map moved w in
      let e : (a ++ b) ++ (s ∷ (d ++ (r ++ upto v))) ≡ a ++ ((b ++ (s ∷ d)) ++ r) ++ upto v = shuffle a b d r (upto v) s in
      alike_join L (way u (gap_before p s)) (a ++ b) (s ∷ image p c g w (partner p s) v) (s ∷ (d ++ (r ++ upto v)))
      (way_is u (gap_before p s) lu (before-less p s ls)) (alike_after L (s ∷ []) (image p c g w (partner p s) v) (d ++ (r ++ upto v)) ih)
      ∙ ap (cancelled L) (e ∙ append_assoc a ((b ++ (s ∷ d)) ++ r) (upto v))
    where
      shuffle : (a b d r t : List ℕ) (s : ℕ) → (a ++ b) ++ (s ∷ (d ++ (r ++ t))) ≡ a ++ ((b ++ (s ∷ d)) ++ r) ++ t
      shuffle a b d r t s = simp append_assoc

  -- inverse letters give inverse words
  pub moved_turns : (s : ℕ) → s < sides p → Turns L L moved s
  moved_turns s ls =
      let q = partner p s in
      let lq = ok.in_range s ls in
      let at_s = push_at p c g s in
      let at_q = push_at p c g q in
      let b = upto (gap_before p q) in
      let d = back L (upto (gap_before p s)) in
      -- q, the product at s undone, is the product at q, and q
      let turn : Alike L (q ∷ back L at_s) (at_q ++ (q ∷ [])) =
      sym (alike_after L (q ∷ []) (s ∷ (at_q ++ (q ∷ []))) (back L at_s) (push_across p ok c curve g s ls))
      ∙ subst (λ z. Alike L (q ∷ z ∷ (at_q ++ (q ∷ []))) (at_q ++ (q ∷ []))) (ok.twice s) (pair_out L [] q (at_q ++ (q ∷ []))) in
      let before_s : Alike L (back L (upto s)) (back L at_s ++ d) =
      alike_back L (upto s) (upto (gap_before p s) ++ at_s) (upto_side s ls) ∙ ap (cancelled L) (back-append L (upto (gap_before p s)) at_s) in
      let left : Alike L (moved q) (b ++ (at_q ++ (q ∷ d))) =
      ap (λ z. cancelled L (b ++ (q ∷ back L (upto z)))) (ok.twice s)
      ∙ (alike_after L b (q ∷ back L (upto s)) (q ∷ (back L at_s ++ d)) (alike_after L (q ∷ []) (back L (upto s)) (back L at_s ++ d) before_s)
      ∙ (alike_middle L b (q ∷ back L at_s) (at_q ++ (q ∷ [])) d turn
      ∙ ap (λ z. cancelled L (b ++ z)) (append_assoc at_q (q ∷ []) d))) in
      let right : Alike L (back L (moved s)) (b ++ (at_q ++ (q ∷ d))) =
      ap (cancelled L) (turned_word (upto (gap_before p s)) (upto q) s)
      ∙ (alike_before L (upto q) (b ++ at_q) (q ∷ d) (upto_side q lq) ∙ ap (cancelled L) (append_assoc b at_q (q ∷ d))) in
      left ∙ sym right
    where
      turned_word : (x y : List ℕ) (s : ℕ) → back L (x ++ (s ∷ back L y)) ≡ y ++ (partner p s ∷ back L x)
      turned_word x y s =
          back-append L x (s ∷ back L y) ∙ (ap (λ z. z ++ back L x) (back-cons L s (back L y) ∙ ap (λ z. z ++ (partner p s ∷ [])) (back-back L y))
          ∙ append_assoc y (partner p s ∷ []) (back L x))

  -- words with one reduced form have images with one reduced form
  pub image_alike : (w w' : List ℕ) (u v : ℕ) → AreSides p w → AreSides p w' → u < sides p → v < sides p → Alike L w w'
      → Alike L (image p c g w u v) (image p c g w' u v)
  image_alike w w' u v h h' lu lv e =
      image_is w u v h lu lv
      ∙ (alike_middle L (back L (upto u)) (flat_map moved w) (flat_map moved w') (upto v)
      (hom L L moved w w' (λ s m. moved_turns s (h s m)) (λ s m. moved_turns s (h' s m)) e)
      ∙ sym (image_is w' u v h' lu lv))
