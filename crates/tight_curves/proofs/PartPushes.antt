-- An innermost turn may be taken out of a part: the product that the part sets along a side keeps its reduced form.
use Rattle.std.proofs.Common.{◌≡◌, ℕ, suc, ◌+◌, ◌-◌, ◌<◌, ◌≤◌, Bool, true, false, cond, List, [], ◌∷◌, ◌++◌, take, drop, refl, sym, ◌∙◌, ap, ap₂, subst, append-nil, ◌⊎◌, inl, inr, ◌≢◌, arith}
use Rattle.std.specs.List.{sum_by}
use Rattle.std.proofs.lemmas.Bool.{cases_eq, cases_lt, lt-ltb, false≢true}
use Rattle.std.proofs.lemmas.List.Sums.{sum_by-cons}
use Rattle.obd_base.specs.Lists.{below}
use Rattle.obd_base.specs.declared.points.Exit.{Exit}
use Rattle.obd_base.specs.declared.points.Sign.{Sign}
use Rattle.obd_base.specs.declared.points.Sign.TheVariants.{Plus, Minus}
use Rattle.page_surface.specs.Drawing.{exit, is_at}
use Rattle.page_surface.specs.Polygon.{Pairs, Polygon, partner, sides}
use Rattle.page_surface.specs.Words.{inverse}
use Rattle.curve_paths.specs.Curves.{IsCurve, curve_entry, curve_points, curve_stands, signed, turned}
use Rattle.curve_paths.specs.Alphabet.{Alphabet, cancelled, back, Alike, Null}
use Rattle.path_words.proofs.SideLetters.{side_letters}
use Rattle.tight_curves.specs.Closed.{word_of}
use Rattle.tight_curves.specs.Parts.{IsInnermost, IsPart, has_point}
use Rattle.tight_curves.proofs.PairsGone.{flat_alike, pair_gone}
use Rattle.tight_curves.proofs.PartMoves.{part_less}
use Rattle.tight_curves.proofs.PartPoints.{In, exit_no_entry, has_across, standing, stands_in, stands_out}
use Rattle.tight_curves.proofs.PartWords.{push_part, term, term_none, word_at, word_entry, word_exit, word_none, words_from}
use Rattle.curve_paths.proofs.CurvePoints.{exit_same, points_partner}
use Rattle.curve_paths.proofs.Reduction.{alike_after, alike_back, alike_before, alike_join, back_and_word, pair_out, word_and_back}

module _ (p : Polygon) (ok : Pairs p) where
  abbrev pub L : Alphabet ℕ
  L = side_letters p ok

  -- words with one reduced form, for either sign
  pub alike_signed : (g : Sign) (x y : List ℕ) → Alike L x y → Alike L (signed p g x) (signed p g y)
  alike_signed Plus x y h = h
  alike_signed Minus x y h = alike_back L x y h

  -- a word and the way back along a word with the same reduced form
  pub signed_null : (g : Sign) (x y : List ℕ) → Alike L x y → Null L (signed p g x ++ signed p g (inverse p y))
  signed_null Plus x y h = alike_before L x y (back L y) h ∙ word_and_back L y
  signed_null Minus x y h = alike_before L (back L x) (back L y) (back L (back L y)) (alike_back L x y h) ∙ word_and_back L (back L y)

  -- and the other way about
  pub signed_null_back : (g : Sign) (x y : List ℕ) → Alike L x y → Null L (signed p g (inverse p y) ++ signed p g x)
  signed_null_back Plus x y h = alike_after L (back L y) x y h ∙ back_and_word L y
  signed_null_back Minus x y h = alike_after L (back L (back L y)) (back L x) (back L y) (alike_back L x y h) ∙ back_and_word L (back L y)

  -- either of two pairs of words with one reduced form
  alike_cond : (b : Bool) (x y : List ℕ) → Alike L x y → Alike L (cond b x []) (cond b y [])
  alike_cond true x y h = h
  alike_cond false x y h = refl

  -- two letters that cancel, anywhere in a word that is read round
  turned_pair : (k : ℕ) (w : List ℕ) (i : ℕ) → Alike L (turned (suc (suc i)) (k ∷ partner p k ∷ w)) (turned i w)
  turned_pair k w i = pair_out L (drop i w) k (take i w)

  module _ (c : List Exit) (curve : IsCurve p c) (g : Sign) where
    words_removed : (k : ℕ) (w : List ℕ) (i : ℕ) (es : List Exit) (l j : ℕ)
        → Alike L (words_from p ok c curve g (k ∷ partner p k ∷ w) (suc (suc i)) es l j) (words_from p ok c curve g w i es l j)
    words_removed k w i [] l j = refl
    words_removed k w i (e ∷ es) l j =
        alike_join L (term p ok c curve g (k ∷ partner p k ∷ w) (suc (suc i)) e l j) (term p ok c curve g w i e l j)
        (words_from p ok c curve g (k ∷ partner p k ∷ w) (suc (suc (suc i))) es l j) (words_from p ok c curve g w (suc i) es l j)
        (alike_join L (cond (is_at e l j) (signed p g (turned (suc (suc i)) (k ∷ partner p k ∷ w))) []) (cond (is_at e l j) (signed p g (turned i w)) [])
        (cond (is_at (curve_entry p c e) l j) (signed p g (inverse p (turned (suc (suc (suc i))) (k ∷ partner p k ∷ w)))) []) (cond (is_at (curve_entry p c e) l j) (signed p g (inverse p (turned (suc i) w))) [])
        (alike_cond (is_at e l j) _ _ (alike_signed g _ _ (turned_pair k w i)))
        (alike_cond (is_at (curve_entry p c e) l j) _ _ (alike_signed g _ _ (alike_back L (turned (suc (suc (suc i))) (k ∷ partner p k ∷ w)) (turned (suc i) w) (turned_pair k w (suc i))))))
        (words_removed k w (suc i) es l j)

    module _ (u v : Exit) (r : List Exit) (part : IsPart p c (u ∷ v ∷ r)) (turn : IsInnermost p c (u ∷ v ∷ r) u v) where
      abbrev s : List Exit
      s = u ∷ v ∷ r

      abbrev less : IsPart p c r
      less = part_less p ok c curve u v r part turn

      abbrev stands : Exit → ℕ → ℕ → ℕ
      stands e k j = curve_stands p c e k j

      abbrev word : List Exit → ℕ → ℕ → List ℕ
      word t k j = word_at p ok c curve g t k j

      -- the sums over the exits with the turn and without it
      sums : (k j : ℕ) → sum_by (λ e. curve_stands p c e k j) s ≡ curve_stands p c u k j + (curve_stands p c v k j + sum_by (λ e. curve_stands p c e k j) r)
      sums k j = let f = λ (e : Exit). curve_stands p c e k j in omega (arith, sum_by-cons f u (v ∷ r), sum_by-cons f v r)

      -- where neither exit of the turn stands
      elsewhere : (k j : ℕ) → curve_stands p c u k j ≡ 0 → curve_stands p c v k j ≡ 0 → Alike L (word s k j) (word r k j)
      elsewhere k j a b =
          let w = word_of s in
          let hu = part.inside u (inl refl) in
          let hv = part.inside v (inr (inl refl)) in
          ap₂ (λ x y. cancelled L (x ++ (y ++ words_from p ok c curve g w 2 r k j))) (term_none p ok c curve g w 0 u k j hu a) (term_none p ok c curve g w 1 v k j hv b)
          ∙ (ap (λ x. cancelled L (words_from p ok c curve g (u.side ∷ x ∷ word_of r) 2 r k j)) turn.returns
          ∙ words_removed u.side (word_of r) 0 r k j)

      -- along a side with two points of the turn
      gone_on : (k a b : ℕ) → k < sides p → a < b → b < curve_points p c k
          → ((j : ℕ) → j ≢ a → j ≢ b → (curve_stands p c u k j ≡ 0) × (curve_stands p c v k j ≡ 0))
          → ((j : ℕ) → a < j → j < b → has_point p c s k j ≡ false)
          → 1 ≤ curve_stands p c u k a + curve_stands p c v k a → 1 ≤ curve_stands p c u k b + curve_stands p c v k b
          → Null L (word s k a ++ word s k b) → Alike L (push_part p ok c curve g s k) (push_part p ok c curve g r k)
      gone_on k a b lk up lb others between at_a at_b null =
          pair_gone L (word s k) (word r k) (curve_points p c k) a b up lb
          (λ j lj w. let z = others j (elim w [ inl q ↦ (λ e. omega arith) | inr q ↦ (λ e. omega arith) ]) (elim w [ inl q ↦ (λ e. omega arith) | inr q ↦ (λ e. omega arith) ]) in elsewhere k j z.0 z.1)
          (λ j la lj. word_none p ok c curve g s part k j (empty j la lj))
          (λ j la lj. word_none p ok c curve g r less k j (elim (cases_eq j a) [
            | inl e ↦ subst (λ x. sum_by (λ y. curve_stands p c y k x) r ≡ 0) (sym e) (omega (arith, sums k a, part.once k a lk (omega arith), at_a))
            | inr ne ↦ elim (cases_eq j b) [
              | inl e ↦ subst (λ x. sum_by (λ y. curve_stands p c y k x) r ≡ 0) (sym e) (omega (arith, sums k b, part.once k b lk (omega arith), at_b))
              | inr nf ↦ omega (arith, sums k j, empty j (omega (arith, ne)) (omega (arith, nf)))
            ]
          ]))
          null
        where
          empty : (j : ℕ) → a < j → j < b → sum_by (λ e. curve_stands p c e k j) s ≡ 0
          empty j la lj = elim (cases_eq (sum_by (λ e. curve_stands p c e k j) s) 0) [
            | inl e ↦ e
            | inr ne ↦ absurd (false≢true (sym (between j la lj) ∙ lt-ltb 0 (sum_by (λ e. curve_stands p c e k j) s) (omega (arith, ne))))
          ]

      -- and in either order of the two points
      gone_between : (k a b : ℕ) → k < sides p → a ≢ b → a < curve_points p c k → b < curve_points p c k
          → ((j : ℕ) → j ≢ a → j ≢ b → (curve_stands p c u k j ≡ 0) × (curve_stands p c v k j ≡ 0))
          → ((j : ℕ) → ((a < j) × (j < b)) ⊎ ((b < j) × (j < a)) → has_point p c s k j ≡ false)
          → 1 ≤ curve_stands p c u k a + curve_stands p c v k a → 1 ≤ curve_stands p c u k b + curve_stands p c v k b
          → Null L (word s k a ++ word s k b) → Null L (word s k b ++ word s k a) → Alike L (push_part p ok c curve g s k) (push_part p ok c curve g r k)
      gone_between k a b lk ne la lb others between at_a at_b null other_null = elim (cases_lt a b) [
        | inl l ↦ gone_on k a b lk l lb others (λ j x y. between j (inl (x, y))) at_a at_b null
        | inr l ↦ gone_on k b a lk (omega (arith, ne)) la (λ j x y. others j y x) (λ j x y. between j (inr (x, y))) at_b at_a other_null
      ]

      -- the letters of the turn
      abbrev w : List ℕ
      w = word_of s

      u_in : In p ok c curve u
      u_in = part.inside u (inl refl)

      v_in : In p ok c curve v
      v_in = part.inside v (inr (inl refl))

      far_side : partner p v.side ≡ u.side
      far_side = ap (partner p) turn.returns ∙ ok.twice u.side

      apart_sides : v.side ≢ u.side
      apart_sides q = ok.moves u.side u_in.0 (sym turn.returns ∙ q)

      -- an exit stands nowhere else
      not_standing : (e : Exit) (k j : ℕ) → (e ≢ exit k j) → (curve_entry p c e ≢ exit k j) → curve_stands p c e k j ≡ 0
      not_standing e k j a b = elim (cases_eq (curve_stands p c e k j) 0) [
        | inl z ↦ z
        | inr z ↦ elim (standing p ok c curve e k j (omega (arith, z))) [ inl q ↦ absurd (a q) | inr q ↦ absurd (b q) ]
      ]

      -- the numbers of points of the two sides
      as_many : curve_points p c v.side ≡ curve_points p c u.side
      as_many = ap (curve_points p c) turn.returns ∙ points_partner p ok c curve u.side

      -- the place of the entry of the way back, and of that of the way out
      abbrev far : ℕ
      far = curve_points p c v.side - 1 - v.place

      abbrev near : ℕ
      near = curve_points p c u.side - 1 - u.place

      -- the two points of a side are two
      two_points : u.place ≢ far
      two_points q = exit_no_entry p ok c curve s part 0 1 (omega arith) (omega arith)
          (exit_same u (partner p v.side) far (sym far_side) q)

      -- along the side of the way out
      gone_out : Alike L (push_part p ok c curve g s u.side) (push_part p ok c curve g r u.side)
      gone_out =
          let x : word s u.side u.place ≡ signed p g (turned 0 w) = word_exit p ok c curve g s part 0 (omega arith) in
          let y : word s u.side far ≡ signed p g (inverse p (turned 2 w)) = ap (λ k. word s k far) (sym far_side) ∙ word_entry p ok c curve g s part 1 (omega arith) in
          let same : Alike L (turned 0 w) (turned 2 w)
          = ap (λ k. cancelled L ((u.side ∷ k ∷ word_of r) ++ [])) turn.returns ∙ (ap (cancelled L) (append-nil (u.side ∷ partner p u.side ∷ word_of r)) ∙ (pair_out L [] u.side (word_of r)
          ∙ sym (ap (λ k. cancelled L (word_of r ++ (u.side ∷ k ∷ []))) turn.returns ∙ (pair_out L (word_of r) u.side [] ∙ ap (cancelled L) (append-nil (word_of r)))))) in
          gone_between u.side u.place far u_in.0 two_points u_in.1 (omega (arith, v_in.1, as_many))
          (λ j a b. (
            not_standing u u.side j (λ q. a (sym (ap (λ (e : Exit). e.place) q))) (λ q. ok.moves u.side u_in.0 (ap (λ (e : Exit). e.side) q)),
            not_standing v u.side j (λ q. apart_sides (ap (λ (e : Exit). e.side) q)) (λ q. b (sym (ap (λ (e : Exit). e.place) q))),
          ))
          turn.nothing_between
          (omega (arith, stands_out p ok c curve u))
          (let z : 1 ≤ curve_stands p c v u.side far = subst (λ k. 1 ≤ curve_stands p c v k far) far_side (stands_in p ok c curve v v_in) in omega (arith, z))
          (ap₂ (λ a b. cancelled L (a ++ b)) x y ∙ signed_null g (turned 0 w) (turned 2 w) same)
          (ap₂ (λ a b. cancelled L (a ++ b)) y x ∙ signed_null_back g (turned 0 w) (turned 2 w) same)

      -- along the side of the way back
      gone_back : Alike L (push_part p ok c curve g s v.side) (push_part p ok c curve g r v.side)
      gone_back =
          let x : word s v.side v.place ≡ signed p g (turned 1 w) = word_exit p ok c curve g s part 1 (omega arith) in
          let y : word s v.side near ≡ signed p g (inverse p (turned 1 w)) = ap (λ k. word s k near) turn.returns ∙ word_entry p ok c curve g s part 0 (omega arith) in
          gone_between v.side v.place near v_in.0 (λ q. two_points (omega (arith, q, as_many, u_in.1, v_in.1))) v_in.1 (omega (arith, u_in.1, as_many))
          (λ j a b. (
            not_standing u v.side j (λ q. apart_sides (sym (ap (λ (e : Exit). e.side) q))) (λ q. b (sym (ap (λ (e : Exit). e.place) q))),
            not_standing v v.side j (λ q. a (sym (ap (λ (e : Exit). e.place) q))) (λ q. ok.moves v.side v_in.0 (ap (λ (e : Exit). e.side) q)),
          ))
          (λ j l. (let lj : j < curve_points p c v.side = elim l [ inl q ↦ omega (arith, q.1, as_many) | inr q ↦ omega (arith, q.1, v_in.1) ] in
          has_across p ok c curve s part v.side j v_in.0 lj
          ∙ (ap (λ k. has_point p c s k (curve_points p c v.side - 1 - j)) far_side
          ∙ turn.nothing_between (curve_points p c v.side - 1 - j) (elim l [
            | inl q ↦ inl (omega (arith, q.0, q.1, as_many, u_in.1, lj), omega (arith, q.0, lj))
            | inr q ↦ inr (omega (arith, q.1, lj, v_in.1), omega (arith, q.0, as_many, u_in.1, lj))
          ]))))
          (omega (arith, stands_out p ok c curve v))
          (let z : 1 ≤ curve_stands p c u v.side near = subst (λ k. 1 ≤ curve_stands p c u k near) (sym turn.returns) (stands_in p ok c curve u u_in) in omega (arith, z))
          (ap₂ (λ a b. cancelled L (a ++ b)) x y ∙ signed_null g (turned 1 w) (turned 1 w) refl)
          (ap₂ (λ a b. cancelled L (a ++ b)) y x ∙ signed_null_back g (turned 1 w) (turned 1 w) refl)

      -- along every side
      pub push_less : (k : ℕ) → Alike L (push_part p ok c curve g s k) (push_part p ok c curve g r k)
      push_less k = elim (cases_eq k u.side) [
        | inl e ↦ subst (λ x. Alike L (push_part p ok c curve g s x) (push_part p ok c curve g r x)) (sym e) gone_out
        | inr a ↦ elim (cases_eq k v.side) [
          | inl e ↦ subst (λ x. Alike L (push_part p ok c curve g s x) (push_part p ok c curve g r x)) (sym e) gone_back
          | inr b ↦ flat_alike L (word s k) (word r k) (below (curve_points p c k)) (λ j m. elsewhere k j
              (not_standing u k j (λ q. a (sym (ap (λ (e : Exit). e.side) q))) (λ q. b (sym (ap (λ (e : Exit). e.side) q) ∙ sym turn.returns)))
              (not_standing v k j (λ q. b (sym (ap (λ (e : Exit). e.side) q))) (λ q. a (sym (ap (λ (e : Exit). e.side) q) ∙ far_side))))
        ]
      ]
