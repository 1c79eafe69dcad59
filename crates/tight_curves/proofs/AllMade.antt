-- Curves made tight one after another.
use Rattle.std.specs.Prelude.{Option}
use Rattle.std.proofs.Common.{◌≡◌, ℕ, zero, suc, ◌+◌, ◌<◌, ◌≤◌, List, [], ◌∷◌, ◌++◌, map, length, get_or, take, slice_index_or, refl, sym, ◌∙◌, ap, subst, inl, inr, arith}
use Rattle.std.proofs.lemmas.Bool.{cases_order}
use Rattle.std.proofs.lemmas.List.{get_or_append_left, get_or_at, length-append, length-map, length-take-le, map-append, take_all, take_more}
use Rattle.obd_base.specs.declared.points.Exit.{Exit}
use Rattle.page_surface.specs.Polygon.{IsPolygon, Polygon}
use Rattle.curve_paths.specs.Twists.{exits_of, words_after}
use Rattle.curve_paths.specs.declared.twist.Twist.{Twist}
use Rattle.tight_curves.specs.Parts.{MadeTight}
use Rattle.tight_curves.proofs.TwistWords.{made_words_after, none_tight}

-- some curves, none where one crosses no side
abbrev Curves : Type 0
Curves = List (Option (List Exit))

-- the exits of one of them
abbrev exits_at : Curves → ℕ → List Exit
exits_at cs i = slice_index_or (map exits_of cs) i []

-- each of one list is made tight in another one
abbrev pub EachMade : Polygon → Curves → Curves → Type 0
EachMade p cs ds = (i : ℕ) → MadeTight p (exits_at cs i) (exits_at ds i)

-- nothing stands past the end of a list
beyond : {A : Type 0} (xs : List A) (d : A) (i : ℕ) → length xs ≤ i → get_or xs i d ≡ d
beyond [] d i l = refl
beyond (x ∷ xs) d zero l = absurd (omega arith)
beyond (x ∷ xs) d (suc i) l = beyond xs d i (omega arith)

-- the exits of a curve put last
exits_last : (cs : Curves) (c : Option (List Exit)) (n : ℕ) → length cs ≡ n → exits_at (cs ++ c ∷ []) n ≡ exits_of c
exits_last cs c n e = ap (λ z. get_or z n []) (map-append exits_of cs (c ∷ [])) ∙ get_or_at (map exits_of cs) (exits_of c) [] [] n (omega (arith, e, length-map cs exits_of))

-- those before it,
exits_before : (cs : Curves) (c : Option (List Exit)) (i : ℕ) → i < length cs → exits_at (cs ++ c ∷ []) i ≡ exits_at cs i
exits_before cs c i l = ap (λ z. get_or z i []) (map-append exits_of cs (c ∷ [])) ∙ get_or_append_left (map exits_of cs) (exits_of c ∷ []) [] i (omega (arith, l, length-map cs exits_of))

-- and none after it
exits_beyond : (cs : Curves) (c : Option (List Exit)) (i : ℕ) → length cs < i → exits_at (cs ++ c ∷ []) i ≡ []
exits_beyond cs c i l = beyond (map exits_of (cs ++ c ∷ [])) [] i (omega (arith, l, length-append cs (c ∷ []), length-map (cs ++ c ∷ []) exits_of))

-- at first there are none
pub all_none : (p : Polygon) (made : Curves) → made ≡ [] → (length made ≡ 0) × EachMade p [] made
all_none p made e = subst (λ z. (length z ≡ 0) × EachMade p [] z) (sym e) (refl, λ i. none_tight p)

-- one more
pub all_more : (p : Polygon) (cs made new : Curves) (n : ℕ) (c d : Option (List Exit)) → n < length cs → c ≡ get_or cs n c → (length made ≡ n) × EachMade p (take n cs) made
    → MadeTight p (exits_of c) (exits_of d) → new ≡ made ++ d ∷ [] → (length new ≡ n + 1) × EachMade p (take (n + 1) cs) new
all_more p cs made new n c d l is (long, each) one more =
    let before : length (take n cs) ≡ n = length-take-le n cs (omega (arith, l)) in
    let some : take (n + 1) cs ≡ take n cs ++ c ∷ [] = take_more cs n c l ∙ ap (λ z. take n cs ++ z ∷ []) (sym is) in (
      omega (arith, ap length more, length-append made (d ∷ []), long),
      λ i. subst (λ z. MadeTight p (exits_at z i) (exits_at new i)) (sym some)
          (subst (λ z. MadeTight p (exits_at (take n cs ++ c ∷ []) i) (exits_at z i)) (sym more) (elim (cases_order i n) [
            | inl e ↦ subst (λ k. MadeTight p (exits_at (take n cs ++ c ∷ []) k) (exits_at (made ++ d ∷ []) k)) (sym e)
                (subst (λ z. MadeTight p z (exits_at (made ++ d ∷ []) n)) (sym (exits_last (take n cs) c n before)) (subst (MadeTight p (exits_of c)) (sym (exits_last made d n long)) one))
            | inr o ↦ elim o [
              | inl b ↦ subst (λ z. MadeTight p z (exits_at (made ++ d ∷ []) i)) (sym (exits_before (take n cs) c i (omega (arith, before, b))))
                  (subst (MadeTight p (exits_at (take n cs) i)) (sym (exits_before made d i (omega (arith, long, b)))) (each i))
              | inr b ↦ subst (λ z. MadeTight p z (exits_at (made ++ d ∷ []) i)) (sym (exits_beyond (take n cs) c i (omega (arith, before, b))))
                  (subst (MadeTight p []) (sym (exits_beyond made d i (omega (arith, long, b)))) (none_tight p))
            ]
          ])),
    )

-- in the end all are
pub all_words : (p : Polygon) → IsPolygon p → (cs made : Curves) (n : ℕ) → length cs ≤ n → EachMade p (take n cs) made → (twists : List Twist)
    → words_after p (map exits_of made) twists ≡ words_after p (map exits_of cs) twists
all_words p ok cs made n l each twists = made_words_after p ok (map exits_of cs) (map exits_of made) (subst (λ z. EachMade p z made) (take_all n cs l) each) twists
