-- The cyclic reduced form of a word: cyclic steps lead to it, and any two of one word are rotations of each other.
use Rattle.std.proofs.Common.{◌≡◌, ℕ, zero, suc, ◌+◌, ◌-◌, ◌*◌, ◌<◌, ◌≤◌, cond, eqb, List, [], ◌∷◌, ◌++◌, length, drop, take, refl, sym, ◌∙◌, ap, ap₂, subst, append_assoc, append-nil, inl, inr, arith}
use Rattle.std.proofs.lemmas.Bool.{eq-eqb, ne_eqb, cases_eq}
use Rattle.std.proofs.lemmas.List.{length-append, length-reverse, length-map, same_from_push}
use Rattle.std.proofs.Math.Seq.{drop-append_seam, take-append_seam}
use Rattle.obd_base.specs.Lists.{Mem}
use Rattle.obd_base.proofs.lists.Members.{mem_right}
use Rattle.page_surface.specs.Polygon.{Pairs, Polygon, partner, sides}
use Rattle.page_surface.specs.Words.{Steps, none, more, inverse, reduced}
use Rattle.page_surface.proofs.WordLaws
use Rattle.curve_paths.specs.Alphabet.{Alphabet, cancelled, back}
use Rattle.path_words.proofs.SideLetters.{AreSides, reduced_is, side_letters}
use Rattle.tight_curves.specs.Closed.{CyclicStep, CyclicSteps, EndStep, HasNoCyclicPair, IsCyclicForm, IsRotation, cyclic_form, shared, trimmed}
use Rattle.tight_curves.specs.Closed as C
use Rattle.tight_curves.proofs.Rotations.{last_letter, not_empty_push, same_cons}
use Rattle.tight_curves.proofs.FreeWords.{RoundFree, apart, free_first}
use Rattle.tight_curves.proofs.Conjugates.{Conjugate, conjugate_alike, conjugate_rotation, conjugate_sym, conjugate_trans, conjugates_rotate}
use Rattle.curve_paths.proofs.Letters.{from_cancelled}
use Rattle.curve_paths.proofs.Reduction.{Free, pair_out, back-cons, back-append, back-back}

module _ (p : Polygon) (ok : Pairs p) where
  -- the sides as letters
  abbrev pub L : Alphabet ℕ
  L = side_letters p ok

  -- words without a pair, in both readings
  pub free_letters : (w : List ℕ) → WordLaws.Free p w → Free L w
  free_letters [] h = tt
  free_letters (x ∷ []) h = (tt, tt)
  free_letters (x ∷ y ∷ w) h = (h.0, free_letters (y ∷ w) h.1)

  -- and back
  pub free_sides : (w : List ℕ) → Free L w → WordLaws.Free p w
  free_sides [] h = tt
  free_sides (x ∷ []) h = (tt, tt)
  free_sides (x ∷ y ∷ w) h = (h.0, free_sides (y ∷ w) h.1)

  -- a word without a cyclic pair is free read round
  pub round_free : (w : List ℕ) → HasNoCyclicPair p w → RoundFree L w
  round_free w h = record {
    free = free_letters w (WordLaws.Free-from_no_pair p w (λ v s. h v (inl s)));
    ends = λ k v e. h v (inr (k, e));
  }

  -- and the other way
  pub no_cyclic_pair : (w : List ℕ) → RoundFree L w → HasNoCyclicPair p w
  no_cyclic_pair w h v (inl s) = WordLaws.HasNoPair-free p w (free_sides w h.free) v s
  no_cyclic_pair w h v (inr (k, e)) = h.ends k v e

  -- a cyclic step leads to a conjugate
  step_conjugate : (w v : List ℕ) → CyclicStep p w v → Conjugate L w v
  step_conjugate w v (inl (a, b, k, e, f)) = conjugate_alike L w v (ap (cancelled L) e ∙ (pair_out L a k b ∙ ap (cancelled L) (sym f)))
  step_conjugate w v (inr (k, e)) = (k ∷ [], ap (cancelled L) e)

  -- and so do cyclic steps
  pub steps_conjugate : (w v : List ℕ) → CyclicSteps p w v → Conjugate L w v
  steps_conjugate w v C.none = conjugate_alike L w w refl
  steps_conjugate a b (C.more {v} s r) = conjugate_trans L a v b (step_conjugate a v s) (steps_conjugate v b r)

  -- cyclic reduced forms of conjugates are rotations of each other
  pub conjugate_forms : (w v r s : List ℕ) → Conjugate L w v → IsCyclicForm p w r → IsCyclicForm p v s → IsRotation r s
  conjugate_forms w v r s c g h =
      conjugates_rotate L r s (round_free r g.free) (round_free s h.free)
      (conjugate_trans L r w s (conjugate_sym L w r (steps_conjugate w r g.reached)) (conjugate_trans L w v s c (steps_conjugate v s h.reached)))

  -- cyclic steps one after another
  pub cyclic_join : {u v w : List ℕ} → CyclicSteps p u v → CyclicSteps p v w → CyclicSteps p u w
  cyclic_join C.none r = r
  cyclic_join (C.more s q) r = C.more s (cyclic_join q r)

  -- steps are cyclic steps
  pub steps_cyclic : {w v : List ℕ} → Steps p w v → CyclicSteps p w v
  steps_cyclic none = C.none
  steps_cyclic (more s r) = C.more (inl s) (steps_cyclic r)

  -- what is undone at the end is taken out from both ends
  peel : (x c : List ℕ) → CyclicSteps p (x ++ (c ++ back L x)) c
  peel [] c = subst (λ z. CyclicSteps p z c) (sym (append-nil c)) C.none
  peel (a ∷ x) c = C.more (inr (partner p a, ap₂ (λ y z. y ∷ z) (sym (ok.twice a)) shape)) (peel x c)
    where
      shape : x ++ (c ++ back L (a ∷ x)) ≡ (x ++ (c ++ back L x)) ++ (partner p a ∷ [])
      shape = ap (λ z. x ++ (c ++ z)) (back-cons L a x) ∙ regroup x c (back L x) (partner p a ∷ [])
        where
          regroup : (x c b k : List ℕ) → x ++ (c ++ (b ++ k)) ≡ (x ++ (c ++ b)) ++ k
          regroup x c b k = simp append_assoc refl

  -- a word with a letter, without what is undone at its end
  record Trimmed (r : List ℕ) : Type 0 where
    outer : List ℕ
    first : ℕ
    rest : List ℕ
    shape : r ≡ outer ++ ((first ∷ rest) ++ back L outer)
    round : RoundFree L (first ∷ rest)

  -- one letter
  trim_one : (y : ℕ) → Trimmed (y ∷ [])
  trim_one y = record { outer = []; first = y; rest = []; shape = refl; round = record { free = (tt, tt); ends = λ k v e. not_empty_push v k (sym (same_cons y (partner p k) [] (v ++ (k ∷ [])) e).1) } }

  -- more letters, where shorter words are trimmed
  trim_more : (y : ℕ) (m : List ℕ) (z : ℕ) → Free L (y ∷ (m ++ (z ∷ []))) → ((u : ℕ) (t : List ℕ) → length t < length m → Free L (u ∷ t) → Trimmed (u ∷ t)) → Trimmed (y ∷ (m ++ (z ∷ [])))
  trim_more y m z f shorter = elim (cases_eq y (partner p z)) [
    | inl e ↦ inside m e f shorter
    | inr ne ↦ record {
      outer = [];
      first = y;
      rest = m ++ (z ∷ []);
      shape = ap (λ t. y ∷ t) (sym (append-nil (m ++ (z ∷ []))));
      round = record {
        free = f;
        ends = λ k v e. (let (q, r) = same_cons y (partner p k) (m ++ (z ∷ [])) (v ++ (k ∷ [])) e in
            let (s, t) = same_from_push _ _ _ _ r in
            ne (q ∙ ap (partner p) (sym t)));
      };
    }
  ]
    where
      inside : (m : List ℕ) → y ≡ partner p z → Free L (y ∷ (m ++ (z ∷ []))) → ((u : ℕ) (t : List ℕ) → length t < length m → Free L (u ∷ t) → Trimmed (u ∷ t)) → Trimmed (y ∷ (m ++ (z ∷ [])))
      inside [] e f shorter = absurd (apart L (partner p y) z f.0 (ap (partner p) e ∙ ok.twice z))
      inside (u ∷ t) e f shorter =
          let s = shorter u t (omega arith) (free_first L (u ∷ t) (z ∷ []) f.1) in
          record {
            outer = y ∷ s.outer;
            first = s.first;
            rest = s.rest;
            shape = ap (λ w. y ∷ (w ++ (z ∷ []))) s.shape ∙ ap (λ w. y ∷ w) (regroup s.outer (s.first ∷ s.rest) (back L s.outer) (z ∷ [])
                ∙ ap (λ w. s.outer ++ ((s.first ∷ s.rest) ++ w)) (ap (λ k. back L s.outer ++ (k ∷ [])) (sym (ap (partner p) e ∙ ok.twice z)) ∙ sym (back-cons L y s.outer)));
            round = s.round;
          }
        where
          regroup : (x c b k : List ℕ) → (x ++ (c ++ b)) ++ k ≡ x ++ (c ++ (b ++ k))
          regroup x c b k = simp append_assoc refl

  -- every free word with a letter
  trim : (n y : ℕ) (r : List ℕ) → length r ≤ n → Free L (y ∷ r) → Trimmed (y ∷ r)
  trim n y [] l f = trim_one y
  trim zero y (w ∷ r) l f = absurd (omega arith)
  trim (suc n) y (w ∷ r) l f =
      let (m, z, e) = last_letter w r in
      subst (λ t. Trimmed (y ∷ t)) (sym e) (trim_more y m z (subst (λ t. Free L (y ∷ t)) e f) (λ u t h g. trim n u t (omega (arith, h, ap length e, length-append m (z ∷ []))) g))

  -- words with one start share it
  shared_start : (x s t : List ℕ) → shared (x ++ s) (x ++ t) ≡ length x + shared s t
  shared_start [] s t = omega arith
  shared_start (a ∷ x) s t = rw (eq-eqb a a refl) (omega (arith, shared_start x s t))

  -- a word that is free read round shares nothing with its inverse
  shared_none : (b : ℕ) (c x : List ℕ) → b < sides p → RoundFree L (b ∷ c) → shared ((b ∷ c) ++ x) (back L (b ∷ c) ++ x) ≡ 0
  shared_none b c x lb h = let (t, z, e) = last_letter b c in
      ap (λ w. shared ((b ∷ c) ++ x) (w ++ x)) (ap (back L) e ∙ back-append L t (z ∷ [])) ∙ at t z e
    where
      at : (t : List ℕ) (z : ℕ) → b ∷ c ≡ t ++ (z ∷ []) → cond (eqb b (partner p z)) (suc (shared (c ++ x) (back L t ++ x))) 0 ≡ 0
      at [] z e = rw (ne_eqb b (partner p z) (λ q. ok.moves b lb (ap (partner p) (same_cons b z c [] e).0 ∙ sym q)))
      at (y ∷ t) z e =
          let (q, r) = same_cons b y c (t ++ (z ∷ [])) e in
          rw (ne_eqb b (partner p z) (λ s. h.ends z t (ap₂ (λ u v. u ∷ v) s r)))

  -- so what is trimmed computes
  trimmed_is : (r : List ℕ) (t : Trimmed r) → AreSides p r → trimmed p r ≡ t.first ∷ t.rest
  trimmed_is r t h =
      let c : List ℕ = t.first ∷ t.rest in
      let x = t.outer in
      let b = back L x in
      let lb : t.first < sides p = h t.first (subst (Mem t.first) (sym t.shape) (mem_right t.first x (c ++ b) (inl refl))) in
      let turned : inverse p r ≡ x ++ (back L c ++ b)
      = ap (back L) t.shape ∙ (back-append L x (c ++ b) ∙ (ap (λ z. z ++ b) (back-append L c b ∙ ap (λ z. z ++ back L c) (back-back L x)) ∙ append_assoc x (back L c) b)) in
      let n : shared r (inverse p r) ≡ length x = ap₂ shared t.shape turned ∙ (shared_start x (c ++ b) (back L c ++ b) ∙ (ap (λ k. length x + k) (shared_none t.first t.rest b lb t.round) ∙ omega arith)) in
      let long : length r ≡ length x + (length c + length x)
      = ap length t.shape ∙ (length-append x (c ++ b) ∙ ap (λ k. length x + k) (length-append c b ∙ ap (λ k. length c + k) (length-reverse _ ∙ length-map x (partner p)))) in
      let some : length r - 2 * length x ≡ length c = omega (arith, long) in
      ap (λ k. take (length r - 2 * k) (drop k r)) n ∙ (ap (λ k. take k (drop (length x) r)) some
      ∙ (ap (λ z. take (length c) (drop (length x) z)) t.shape ∙ (ap (take (length c)) (drop-append_seam x (c ++ b)) ∙ take-append_seam c b)))

  -- the letters of a reduced form
  reduced_sides : (w : List ℕ) → AreSides p w → AreSides p (reduced p w)
  reduced_sides w h s m = h s (from_cancelled L w s (subst (Mem s) (reduced_is p ok w) m))

  trimmed_form : (r : List ℕ) → AreSides p r → Free L r → IsCyclicForm p r (trimmed p r)
  trimmed_form [] h f = record { reached = C.none; free = no_cyclic_pair [] (record { free = tt; ends = λ k v e. absurd (nothing e) }) }
    where
      nothing : {k : ℕ} {v : List ℕ} → [] ≡ k ∷ v → ⊥
      nothing e = cc
  trimmed_form (y ∷ r) h f =
      let t = trim (length r) y r (omega arith) f in
      let e = trimmed_is (y ∷ r) t h in
      record {
        reached = subst (CyclicSteps p (y ∷ r)) (sym e) (subst (λ z. CyclicSteps p z (t.first ∷ t.rest)) (sym t.shape) (peel t.outer (t.first ∷ t.rest)));
        free = subst (HasNoCyclicPair p) (sym e) (no_cyclic_pair (t.first ∷ t.rest) t.round);
      }

  -- a cyclic reduced form computes
  pub has_cyclic_form : (w : List ℕ) → AreSides p w → IsCyclicForm p w (cyclic_form p w)
  has_cyclic_form w h =
      let f = trimmed_form (reduced p w) (reduced_sides w h) (free_letters _ (WordLaws.Free-reduced p w)) in
      record { reached = cyclic_join (steps_cyclic (WordLaws.Steps-reduced p w)) f.reached; free = f.free }

  -- it is the only one up to rotation
  pub one_cyclic_form : (w r s : List ℕ) → IsCyclicForm p w r → IsCyclicForm p w s → IsRotation r s
  one_cyclic_form w r s = conjugate_forms w w r s (conjugate_alike L w w refl)

  -- a word read round from another letter has the same forms up to rotation
  pub rotated_form : (w v r s : List ℕ) → IsRotation w v → IsCyclicForm p w r → IsCyclicForm p v s → IsRotation r s
  rotated_form w v r s h = conjugate_forms w v r s (conjugate_rotation L w v h)
