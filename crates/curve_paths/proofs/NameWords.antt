-- Words of numbers round a circle: turned round, with some numbers left out, and joined along a part.
use Rattle.std.proofs.Common.{◌≡◌, ℕ, Bool, true, false, cond, eqb, List, [], ◌∷◌, ◌++◌, map, reverse, refl, sym, subst, ap, ap₂, ◌∙◌, append_assoc, inl, inr}
use Rattle.std.specs.List.{flat_map}
use Rattle.std.proofs.lemmas.Bool.{eq-eqb, eqb-true}
use Rattle.std.proofs.lemmas.List.{reverse-append}
use Rattle.std.proofs.lemmas.List.Concat.{flat_map-append}
use Rattle.obd_base.specs.Lists.{Mem}
use Rattle.curve_paths.specs.Alphabet.{Alike, Alphabet, Null, back, cancelled}
use Rattle.curve_paths.proofs.Homs.{hom}
use Rattle.curve_paths.proofs.Reduction.{alike_before, alike_join, back_and_word, null_out, null_second, word_and_back}

-- numbers that are their own inverses: names of chords
abbrev pub names : Alphabet ℕ
names = record {
  same = eqb;
  inv = λ x. x;
  same_true = λ x y e. eqb-true x y e;
  same_self = λ x. eq-eqb x x refl;
  twice = λ x. refl;
}

module _ {A : Type 0} (L : Alphabet A) where
  -- two words that reduce to nothing, joined along a part that the second has as inverse
  pub glued_words : (a b d : List A) → Null L (a ++ b) → Null L (back L b ++ d) → Null L (a ++ d)
  glued_words a b d m n =
      let e : (a ++ b) ++ (back L b ++ d) ≡ a ++ ((b ++ back L b) ++ d) = simp append_assoc in
      sym (null_out L a (b ++ back L b) d (word_and_back L b)) ∙ (ap (cancelled L) (sym e) ∙ alike_join L (a ++ b) [] (back L b ++ d) [] m n)

-- read from another place
pub null_turned : (u v : List ℕ) → Null names (u ++ v) → Null names (v ++ u)
null_turned u v h = alike_before names v (back names u) u (null_second names u v h) ∙ back_and_word names u

-- each number in place of itself, or of another, or left out
abbrev pub kept_as : (ℕ → Bool) → (ℕ → ℕ) → ℕ → List ℕ
kept_as keep f x = cond (keep x) (f x ∷ []) []

-- a word that reduces to nothing does so with the numbers that fail a test left out, and the others renamed
pub null_kept : (keep : ℕ → Bool) (f : ℕ → ℕ) (w : List ℕ) → Null names w → Null names (flat_map (kept_as keep f) w)
null_kept keep f w h = hom names names (kept_as keep f) w [] (λ x m. turns (keep x) (f x)) (λ x m. absurd m) h
  where
    turns : (b : Bool) (y : ℕ) → Alike names (cond b (y ∷ []) []) (back names (cond b (y ∷ []) []))
    turns true y = refl
    turns false y = refl

-- where all are kept, they are renamed, and where none is, nothing is left
pub all_kept : (keep : ℕ → Bool) (f : ℕ → ℕ) (w : List ℕ) → ((x : ℕ) → Mem x w → keep x ≡ true) → flat_map (kept_as keep f) w ≡ map f w
all_kept keep f [] h = refl
all_kept keep f (x ∷ w) h =
    ap (λ b. cond b (f x ∷ []) [] ++ flat_map (kept_as keep f) w) (h x (inl refl)) ∙ ap (λ z. f x ∷ z) (all_kept keep f w (λ y m. h y (inr m)))

pub none_kept : (keep : ℕ → Bool) (f : ℕ → ℕ) (w : List ℕ) → ((x : ℕ) → Mem x w → keep x ≡ false) → flat_map (kept_as keep f) w ≡ []
none_kept keep f [] h = refl
none_kept keep f (x ∷ w) h = ap (λ b. cond b (f x ∷ []) [] ++ flat_map (kept_as keep f) w) (h x (inl refl)) ∙ none_kept keep f w (λ y m. h y (inr m))

-- the word read backwards
pub back_is : (w : List ℕ) → back names w ≡ reverse w
back_is w = ap reverse (same w)
  where
    same : (w : List ℕ) → map (λ x. x) w ≡ w
    same [] = refl
    same (x ∷ w) = ap (λ z. x ∷ z) (same w)

-- a1 w a2 and b1 w' b2, where w' is w backwards, are joined to a1 b2 b1 a2
pub joined_null : (a1 a2 b1 b2 w w' : List ℕ) → w' ≡ reverse w → Null names (a1 ++ (w ++ a2)) → Null names (b1 ++ (w' ++ b2)) → Null names (a1 ++ ((b2 ++ b1) ++ a2))
joined_null a1 a2 b1 b2 w w' e ha hb =
    let first : Null names ((a2 ++ a1) ++ w) = turn_end a1 w a2 ha in
    let second : Null names (back names w ++ (b2 ++ b1)) = subst (λ z. Null names (z ++ (b2 ++ b1))) (e ∙ sym (back_is w)) (turn_front b1 w' b2 hb) in
    let glued : Null names ((a2 ++ a1) ++ (b2 ++ b1)) = glued_words names (a2 ++ a1) w (b2 ++ b1) first second in
    subst (λ z. Null names z) (append_assoc a1 (b2 ++ b1) a2)
    (null_turned a2 (a1 ++ (b2 ++ b1)) (subst (λ z. Null names z) (append_assoc a2 a1 (b2 ++ b1)) glued))
  where
    turn_end : (a w b : List ℕ) → Null names (a ++ (w ++ b)) → Null names ((b ++ a) ++ w)
    turn_end a w b h = subst (λ z. Null names z) (sym (append_assoc b a w)) (null_turned (a ++ w) b (subst (λ z. Null names z) (sym (append_assoc a w b)) h))

    turn_front : (a w b : List ℕ) → Null names (a ++ (w ++ b)) → Null names (w ++ (b ++ a))
    turn_front a w b h = subst (λ z. Null names z) (append_assoc w b a) (null_turned a (w ++ b) h)

pub map_reverse : {A B : Type 0} (f : A → B) (xs : List A) → map f (reverse xs) ≡ reverse (map f xs)
map_reverse f [] = refl
map_reverse f (x ∷ xs) =
    ap (map f) (reverse-append (x ∷ []) xs) ∙ (map_append f (reverse xs) (x ∷ []) ∙ (ap (λ z. z ++ f x ∷ []) (map_reverse f xs) ∙ sym (reverse-append (f x ∷ []) (map f xs))))
  where
    map_append : {A B : Type 0} (f : A → B) (xs ys : List A) → map f (xs ++ ys) ≡ map f xs ++ map f ys
    map_append f [] ys = refl
    map_append f (x ∷ xs) ys = ap (λ z. f x ∷ z) (map_append f xs ys)

-- two functions that agree on a list
pub map_same : {A B : Type 0} (f g : A → B) (xs : List A) → ((x : A) → Mem x xs → f x ≡ g x) → map f xs ≡ map g xs
map_same f g [] h = refl
map_same f g (x ∷ xs) h = ap₂ (λ y ys. y ∷ ys) (h x (inl refl)) (map_same f g xs (λ y m. h y (inr m)))

pub flat_same : {A B : Type 0} (f g : A → List B) (xs : List A) → ((x : A) → Mem x xs → f x ≡ g x) → flat_map f xs ≡ flat_map g xs
flat_same f g [] h = refl
flat_same f g (x ∷ xs) h = ap₂ (λ y ys. y ++ ys) (h x (inl refl)) (flat_same f g xs (λ y m. h y (inr m)))

-- flat_map twice
pub flat_flat : {A B C : Type 0} (f : B → List C) (g : A → List B) (xs : List A) → flat_map f (flat_map g xs) ≡ flat_map (λ x. flat_map f (g x)) xs
flat_flat f g [] = refl
flat_flat f g (x ∷ xs) = flat_map-append f (g x) (flat_map g xs) ∙ ap (λ z. flat_map f (g x) ++ z) (flat_flat f g xs)
