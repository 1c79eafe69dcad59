-- The words that a part of a curve sets at its points.
use Rattle.std.proofs.Common.{◌≡◌, ℕ, zero, suc, ◌+◌, ◌<◌, ◌≤◌, false, cond, List, [], ◌∷◌, ◌++◌, length, take, drop, refl, sym, ◌∙◌, ap, ap₂, subst, append_assoc, append-nil, ◌⊎◌, inl, inr, arith}
use Rattle.std.specs.List.{sum_by, flat_map}
use Rattle.std.proofs.lemmas.Bool.{cases_Bool, cases_eq, ne_eqb}
use Rattle.std.proofs.lemmas.List.{length-map, map-append, take_all, drop_all, drop-append-le, take-append-le, length-append}
use Rattle.std.proofs.lemmas.List.Sums.{sum_by-cons, get_or-le-sum_by}
use Rattle.obd_base.specs.Lists.{Mem, below}
use Rattle.obd_base.specs.declared.points.Exit.{Exit}
use Rattle.obd_base.specs.declared.points.Sign.{Sign}
use Rattle.page_surface.specs.Drawing.{exit, is_at}
use Rattle.page_surface.specs.Polygon.{Pairs, Polygon, partner, sides}
use Rattle.page_surface.specs.Words.{inverse}
use Rattle.curve_paths.specs.Curves.{IsCurve, curve_entry, curve_points, curve_stands, exit_at, signed, turned}
use Rattle.curve_paths.specs.Alphabet.{Alphabet}
use Rattle.path_words.proofs.SideLetters.{side_letters}
use Rattle.tight_curves.specs.Closed.{word_of}
use Rattle.tight_curves.specs.Parts.{IsPart}
use Rattle.tight_curves.proofs.PartPoints.{In, other, exit_in, other_in, stands_in, stands_out}
use Rattle.curve_paths.proofs.CurvePoints.{at_itself, at_parts}

-- a word read from its second letter on, from each later letter
pub turned_on : (x : ℕ) (w : List ℕ) (i : ℕ) → i ≤ length w → turned i (w ++ (x ∷ [])) ≡ turned (suc i) (x ∷ w)
turned_on x w i l =
    ap₂ (λ y z. y ++ z) (drop-append-le i w (x ∷ []) l) (take-append-le i w (x ∷ []) l)
    ∙ append_assoc (drop i w) (x ∷ []) (take i w)

-- once round
pub turned_end : (w : List ℕ) → turned (length w) w ≡ w
turned_end w = let l : length w ≤ length w = omega arith in ap₂ (λ y z. y ++ z) (drop_all (length w) w l) (take_all (length w) w l)

module _ (p : Polygon) (ok : Pairs p) (c : List Exit) (curve : IsCurve p c) (g : Sign) where
  abbrev pub L : Alphabet ℕ
  L = side_letters p ok

  abbrev In' : Exit → Type 0
  In' = In p ok c curve

  abbrev other' : Exit → Exit
  other' = other p ok c curve

  -- what exit i of a word sets at a place: the word from it on, or back where it enters
  abbrev pub term : List ℕ → ℕ → Exit → ℕ → ℕ → List ℕ
  term w i e k j =
      cond (is_at e k j) (signed p g (turned i w)) [] ++ cond (is_at (curve_entry p c e) k j) (signed p g (inverse p (turned (suc i) w))) []

  -- what the exits from number i on set there
  abbrev pub words_from : List ℕ → ℕ → List Exit → ℕ → ℕ → List ℕ
  words_from w i [] k j = []
  words_from w i (e ∷ es) k j = term w i e k j ++ words_from w (suc i) es k j

  -- what a part sets there
  abbrev pub word_at : List Exit → ℕ → ℕ → List ℕ
  word_at s k j = words_from (word_of s) 0 s k j

  -- the product over the places of a side
  abbrev pub push_part : List Exit → ℕ → List ℕ
  push_part s k = flat_map (word_at s k) (below (curve_points p c k))

  -- an exit that doesn't stand at the place sets nothing
  pub term_none : (w : List ℕ) (i : ℕ) (e : Exit) (k j : ℕ) → In p ok c curve e → curve_stands p c e k j ≡ 0 → term w i e k j ≡ []
  term_none w i e k j h z = elim (cases_Bool (is_at e k j)) [
    | inl t ↦ absurd (let q = at_parts e k j t in
        omega (arith, z, subst (λ (x : Exit). 1 ≤ curve_stands p c e x.side x.place) q (stands_out p ok c curve e)))
    | inr t ↦ elim (cases_Bool (is_at (curve_entry p c e) k j)) [
      | inl q ↦ absurd (let r = at_parts (curve_entry p c e) k j q in
          omega (arith, z, subst (λ (x : Exit). 1 ≤ curve_stands p c e x.side x.place) r (stands_in p ok c curve e h)))
      | inr q ↦ rw (t, q) refl
    ]
  ]

  -- so where none stands nothing is set
  pub words_none : (w : List ℕ) (i : ℕ) (es : List Exit) (k j : ℕ) → ((e : Exit) → Mem e es → In p ok c curve e) → sum_by (λ e. curve_stands p c e k j) es ≡ 0 → words_from w i es k j ≡ []
  words_none w i [] k j h z = refl
  words_none w i (e ∷ es) k j h z =
      let f = λ (x : Exit). curve_stands p c x k j in
      rw (term_none w i e k j (h e (inl refl)) (omega (arith, z, sum_by-cons f e es)), words_none w (suc i) es k j (λ x m. h x (inr m)) (omega (arith, z, sum_by-cons f e es))) refl

  -- where one stands, it alone sets its word
  pub words_one : (w : List ℕ) (a : ℕ) (es : List Exit) (i k j : ℕ) → i < length es → ((e : Exit) → Mem e es → In p ok c curve e) → sum_by (λ e. curve_stands p c e k j) es ≤ 1
      → 1 ≤ curve_stands p c (exit_at es i) k j → words_from w a es k j ≡ term w (a + i) (exit_at es i) k j
  words_one w a [] i k j l h o t = absurd (omega arith)
  words_one w a (e ∷ es) zero k j l h o t =
      let f = λ (x : Exit). curve_stands p c x k j in
      let z : a ≡ a + 0 = omega arith in
      ap (λ v. term w a e k j ++ v) (words_none w (suc a) es k j (λ x m. h x (inr m)) (omega (arith, o, t, sum_by-cons f e es))) ∙ (append-nil (term w a e k j) ∙ ap (λ n. term w n e k j) z)
  words_one w a (e ∷ es) (suc i) k j l h o t =
      let f = λ (x : Exit). curve_stands p c x k j in
      let li : i < length es = omega arith in
      let z : suc a + i ≡ a + suc i = omega arith in
      ap (λ v. v ++ words_from w (suc a) es k j) (term_none w a e k j (h e (inl refl)) (omega (arith, o, t, sum_by-cons f e es, get_or-le-sum_by f es i (exit 0 0) li)))
      ∙ (words_one w (suc a) es i k j li (λ x m. h x (inr m)) (omega (arith, o, sum_by-cons f e es)) t ∙ ap (λ n. term w n (exit_at es i) k j) z)

  -- what an exit sets at its own place
  pub term_out : (w : List ℕ) (i : ℕ) (e : Exit) → In p ok c curve e → term w i e e.side e.place ≡ signed p g (turned i w)
  term_out w i e h =
      let q : is_at (curve_entry p c e) e.side e.place ≡ false = rw (ne_eqb (partner p e.side) e.side (λ x. ok.moves e.side h.0 x)) refl in
      rw (at_itself e, q) (append-nil (signed p g (turned i w)))

  -- and at that of its entry
  pub term_in : (w : List ℕ) (i : ℕ) (e : Exit) → In p ok c curve e → term w i e (curve_entry p c e).side (curve_entry p c e).place ≡ signed p g (inverse p (turned (suc i) w))
  term_in w i e h =
      let q : is_at e (partner p e.side) (curve_entry p c e).place ≡ false = rw (ne_eqb e.side (partner p e.side) (λ x. ok.moves e.side h.0 (sym x))) refl in
      rw (at_itself (curve_entry p c e), q) refl

  module _ (s : List Exit) (part : IsPart p c s) where
    -- at exit i the part sets its word from there on
    pub word_exit : (i : ℕ) → i < length s → word_at s (exit_at s i).side (exit_at s i).place ≡ signed p g (turned i (word_of s))
    word_exit i l =
        let e = exit_at s i in
        let h = exit_in p ok c curve s part i l in
        let z : 0 + i ≡ i = omega arith in
        words_one (word_of s) 0 s i e.side e.place l part.inside (part.once e.side e.place h.0 h.1) (stands_out p ok c curve e)
        ∙ (ap (λ n. term (word_of s) n e e.side e.place) z ∙ term_out (word_of s) i e h)

    -- and at its entry the word back
    pub word_entry : (i : ℕ) → i < length s → word_at s (curve_entry p c (exit_at s i)).side (curve_entry p c (exit_at s i)).place ≡ signed p g (inverse p (turned (suc i) (word_of s)))
    word_entry i l =
        let e = exit_at s i in
        let h = exit_in p ok c curve s part i l in
        let o = other_in p ok c curve s part i l in
        let z : 0 + i ≡ i = omega arith in
        words_one (word_of s) 0 s i (curve_entry p c e).side (curve_entry p c e).place l part.inside (part.once (curve_entry p c e).side (curve_entry p c e).place o.0 o.1) (stands_in p ok c curve e h)
        ∙ (ap (λ n. term (word_of s) n e (curve_entry p c e).side (curve_entry p c e).place) z ∙ term_in (word_of s) i e h)

    -- where the part has no point it sets nothing
    pub word_none : (k j : ℕ) → sum_by (λ e. curve_stands p c e k j) s ≡ 0 → word_at s k j ≡ []
    word_none k j z = words_none (word_of s) 0 s k j part.inside z

  -- terms of words that agree
  term_same : (w v : List ℕ) (i a : ℕ) (e : Exit) (k j : ℕ) → turned i w ≡ turned a v → turned (suc i) w ≡ turned (suc a) v → term w i e k j ≡ term v a e k j
  term_same w v i a e k j x y = rw (x, y) refl

  -- the exits but the first, in the word read from the second letter on
  words_on : (x : ℕ) (w : List ℕ) (i : ℕ) (es : List Exit) (k j : ℕ) → i + length es ≤ length w → words_from (w ++ (x ∷ [])) i es k j ≡ words_from (x ∷ w) (suc i) es k j
  words_on x w i [] k j l = refl
  words_on x w i (e ∷ es) k j l =
      ap₂ (λ y z. y ++ z) (term_same (w ++ (x ∷ [])) (x ∷ w) i (suc i) e k j (turned_on x w i (omega arith)) (turned_on x w (suc i) (omega arith)))
      (words_on x w (suc i) es k j (omega arith))

  -- the words of two lists after one another
  words_push : (w : List ℕ) (i : ℕ) (es : List Exit) (e : Exit) (k j : ℕ) → words_from w i (es ++ (e ∷ [])) k j ≡ words_from w i es k j ++ term w (i + length es) e k j
  words_push w i [] e k j = let z : i ≡ i + length {A = Exit} [] = omega arith in append-nil (term w i e k j) ∙ ap (λ n. term w n e k j) z
  words_push w i (f ∷ es) e k j =
      let z : suc i + length es ≡ i + length (f ∷ es) = omega arith in
      ap (λ y. term w i f k j ++ y) (words_push w (suc i) es e k j ∙ ap (λ n. words_from w (suc i) es k j ++ term w n e k j) z)
      ∙ sym (append_assoc (term w i f k j) (words_from w (suc i) es k j) (term w (i + length (f ∷ es)) e k j))

  -- of two words one is empty
  either_order : (u v : List ℕ) → (u ≡ []) ⊎ (v ≡ []) → u ++ v ≡ v ++ u
  either_order u v (inl e) = rw e (sym (append-nil v))
  either_order u v (inr e) = rw e (append-nil u)

  -- read from its next exit on, a part sets the same words
  pub word_on : (e : Exit) (t : List Exit) → IsPart p c (e ∷ t) → (k j : ℕ) → k < sides p → j < curve_points p c k → word_at (t ++ (e ∷ [])) k j ≡ word_at (e ∷ t) k j
  word_on e t part k j lk lj =
      let x = e.side in
      let w = word_of t in
      let long : length w ≡ length t = length-map t (λ (e : Exit). e.side) in
      let f = λ (x : Exit). curve_stands p c x k j in
      let o = part.once k j lk lj in
      let letters : word_of (t ++ (e ∷ [])) ≡ w ++ (x ∷ []) = map-append (λ (e : Exit). e.side) t (e ∷ []) in
      let last : term (w ++ (x ∷ [])) (0 + length t) e k j ≡ term (x ∷ w) 0 e k j
      = term_same (w ++ (x ∷ [])) (x ∷ w) (0 + length t) 0 e k j
      (let z : 0 + length t ≡ length w = omega (arith, long) in ap (λ n. turned n (w ++ (x ∷ []))) z
      ∙ (ap₂ (λ y z. y ++ z) (drop-append-le (length w) w (x ∷ []) (omega arith)) (take-append-le (length w) w (x ∷ []) (omega arith))
      ∙ (rw (drop_all (length w) w (omega arith), take_all (length w) w (omega arith)) (sym (append-nil (x ∷ w))))))
      (let z : suc (0 + length t) ≡ length (w ++ (x ∷ [])) = omega (arith, long, length-append w (x ∷ [])) in ap (λ n. turned n (w ++ (x ∷ []))) z ∙ turned_end (w ++ (x ∷ []))) in
      let none : (term (x ∷ w) 0 e k j ≡ []) ⊎ (words_from (x ∷ w) 1 t k j ≡ [])
      = (elim (cases_eq (f e) 0) [
        | inl z ↦ inl (term_none (x ∷ w) 0 e k j (part.inside e (inl refl)) z)
        | inr z ↦ inr (words_none (x ∷ w) 1 t k j (λ y m. part.inside y (inr m)) (omega (arith, o, sum_by-cons f e t)))
      ]) in
      ap (λ z. words_from z 0 (t ++ (e ∷ [])) k j) letters
      ∙ (words_push (w ++ (x ∷ [])) 0 t e k j
      ∙ (ap₂ (λ y z. y ++ z) (words_on x w 0 t k j (omega (arith, long))) last
      ∙ sym (either_order (term (x ∷ w) 0 e k j) (words_from (x ∷ w) 1 t k j) none)))
