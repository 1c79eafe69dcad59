-- A reduced word to which letters are set: what is set on it is reduced with it.
use Rattle.std.proofs.Common.{◌≡◌, ◌≢◌, ℕ, ◌+◌, ◌-◌, ◌<◌, List, [], ◌∷◌, ◌++◌, length, take, get_or, map, Some, None, refl, sym, ◌∙◌, ap, subst, arith, append_assoc, append-nil}
use Rattle.std.specs.List.{All, flat_map, slice_get}
use Rattle.std.proofs.lemmas.List.{get_or_default, length-append, same_from_push, take_all, take_more}
use Rattle.std.proofs.lemmas.List.Concat.{flat_map-append}
use Rattle.std.proofs.lemmas.List.FromFn.{map-range_with_len_more}
use Rattle.std.proofs.lemmas.Option.{get_or_from_slice_get, slice_get_read, slice_get_within}
use Rattle.obd_base.specs.Lists.{below}
use Rattle.page_surface.specs.Polygon.{Pairs, Polygon, partner, sides}
use Rattle.page_surface.specs.Words.{reduced}
use Rattle.page_surface.proofs.WordLaws.{Free, Free-reduced, reduced_free, reduced_step_at}
use Rattle.curve_paths.specs.Alphabet.{cancelled}
use Rattle.path_words.proofs.Reducing.{Free-front, Free-push_back}
use Rattle.curve_paths.proofs.Reduction.{cancelled-first}
use Rattle.path_words.proofs.SideLetters.{reduced_is, side_letters}

-- a reduced form is its own
pub reduced_again : (p : Polygon) (word built : List ℕ) → word ≡ reduced p built → reduced p word ≡ word
reduced_again p word built is = rw is (reduced_free p (reduced p built) (Free-reduced p built))

-- a word that is its own reduced form has no pair
pub free_word : (p : Polygon) (word : List ℕ) → reduced p word ≡ word → Free p word
free_word p word is = subst (Free p) is (Free-reduced p word)

-- the last letter of a word
last_of : (word : List ℕ) (k : ℕ) → Some k ≡ slice_get word (length word - 1) → word ≡ take (length word - 1) word ++ k ∷ []
last_of word k is =
    let within : length word - 1 < length word = slice_get_within word (length word - 1) k (sym is) in
    let all : take ((length word - 1) + 1) word ≡ word = take_all ((length word - 1) + 1) word (omega arith) in
    let at : get_or word (length word - 1) k ≡ k = get_or_from_slice_get word (length word - 1) k k (sym is) in
    sym all ∙ (take_more word (length word - 1) k within ∙ ap (λ x. take (length word - 1) word ++ x ∷ []) at)

module _ (p : Polygon) (ok : Pairs p) where
  -- the first part of a word may be reduced before the rest
  pub reduced_first : (u v : List ℕ) → reduced p (reduced p u ++ v) ≡ reduced p (u ++ v)
  reduced_first u v =
      let L = side_letters p ok in
      ap (λ x. reduced p (x ++ v)) (reduced_is p ok u) ∙ (reduced_is p ok (cancelled L u ++ v) ∙ (sym (cancelled-first L u v) ∙ sym (reduced_is p ok (u ++ v))))

  -- what is set on the reduced form of a word, and reduced, is the reduced form of the longer word
  pub reduced_more : (built now more x new : List ℕ) → now ≡ reduced p built → more ≡ built ++ x → new ≡ reduced p (now ++ x) → new ≡ reduced p more
  reduced_more built now more x new is longer made = made ∙ (ap (λ z. reduced p (z ++ x)) is ∙ (reduced_first built x ∙ ap (reduced p) (sym longer)))

  module _ (word : List ℕ) (s : ℕ) (is_reduced : reduced p word ≡ word) where
    -- the last letter is the letter's partner
    pub put_cancels : (k : ℕ) (left : List ℕ) → Some k ≡ slice_get word (length word - 1) → partner p k ≡ s → left ≡ take (length word - 1) word
        → left ≡ reduced p (word ++ s ∷ [])
    put_cancels k left last e is =
        let u = take (length word - 1) word in
        let shape : word ++ s ∷ [] ≡ u ++ (k ∷ partner p k ∷ [])
        = ap (λ x. x ++ s ∷ []) (last_of word k last) ∙ (append_assoc u (k ∷ []) (s ∷ []) ∙ ap (λ x. u ++ k ∷ x ∷ []) (sym e)) in
        let free : Free p u = Free-front p u (k ∷ []) (subst (Free p) (last_of word k last) (free_word p word is_reduced)) in
        is ∙ sym (ap (reduced p) shape ∙ (reduced_step_at p ok u [] k ∙ (ap (reduced p) (append-nil u) ∙ reduced_free p u free)))

    -- no last letter is the letter's partner
    put_free : ((u : List ℕ) (k : ℕ) → word ≡ u ++ k ∷ [] → partner p k ≢ s) → word ++ s ∷ [] ≡ reduced p (word ++ s ∷ [])
    put_free other = sym (reduced_free p (word ++ s ∷ []) (Free-push_back p word s (free_word p word is_reduced) other))

    -- the last letter is another
    pub put_keeps : (k : ℕ) → Some k ≡ slice_get word (length word - 1) → partner p k ≢ s → word ++ s ∷ [] ≡ reduced p (word ++ s ∷ [])
    put_keeps k last ne = put_free (λ u j e. subst (λ x. partner p x ≢ s) (sym (same_from_push _ _ _ _ (sym e ∙ last_of word k last)).1) ne)

    -- there is no letter yet
    pub put_first : None ≡ slice_get word (length word - 1) → word ++ s ∷ [] ≡ reduced p (word ++ s ∷ [])
    put_first none = put_free (λ u k e.
        let some : length word - 1 < length word = omega (arith, ap length e, length-append u (k ∷ [])) in
        let bad = none ∙ slice_get_read word (length word) (length word - 1) (get_or word (length word - 1) k) refl some (get_or_default word (length word - 1) k _ some) in
        cc)

-- a word with some letters of others set on it, reduced
pub record Stacked (p : Polygon) (before letters word : List ℕ) : Type 0 where
  pub is : word ≡ reduced p (before ++ letters)
  pub in_range : All (λ s. s < sides p) word
  pub is_reduced : reduced p word ≡ word

-- nothing set yet
pub stacked_none : (p : Polygon) (word : List ℕ) → All (λ s. s < sides p) word → reduced p word ≡ word → Stacked p word [] word
stacked_none p word h e = record { is = sym (ap (reduced p) (append-nil word) ∙ e); in_range = h; is_reduced = e }

-- some more
pub stacked_more : (p : Polygon) → Pairs p → (before letters more x word new : List ℕ) → Stacked p before letters word → more ≡ letters ++ x
    → new ≡ reduced p (word ++ x) → All (λ s. s < sides p) new → reduced p new ≡ new → Stacked p before more new
stacked_more p ok before letters more x word new h longer made range again = record {
  is = reduced_more p ok (before ++ letters) word (before ++ more) x new h.is (ap (λ z. before ++ z) longer ∙ sym (append_assoc before letters x)) made;
  in_range = range;
  is_reduced = again;
}

-- one step more of a product
pub product_more : (f : ℕ → List ℕ) (g : ℕ → ℕ) (n k : ℕ) → k ≡ g n → flat_map f (map g (below (n + 1))) ≡ flat_map f (map g (below n)) ++ f k
product_more f g n k is =
    let steps : map g (below (n + 1)) ≡ map g (below n) ++ k ∷ []
    = map-range_with_len_more g 0 n n (omega arith) ∙ ap (λ x. map g (below n) ++ x ∷ []) (sym is) in
    ap (flat_map f) steps ∙ (flat_map-append f (map g (below n)) (k ∷ []) ∙ ap (λ x. flat_map f (map g (below n)) ++ x) (append-nil (f k)))
