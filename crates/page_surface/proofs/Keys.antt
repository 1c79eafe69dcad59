-- The keys of a set of strings, seen as their bytes.
use Rattle.std.proofs.Common.{◌≡◌, ℕ, Bool, true, false, cond, not, ◌+◌, ◌||◌, List, [], ◌∷◌, ◌++◌, map, refl, sym, ap, ◌∙◌, String, string_bytes, string_eq}
use Rattle.std.specs.List.{list_any, position_or_len, position}
use Rattle.std.specs.Str.{bytes_eq}
use Rattle.std.proofs.lemmas.List.{length-map, map-append}
use Rattle.indexmap.specs.IndexSet.{insert_key}
use Rattle.page_surface.specs.Labels.{with_label, label_number}

module _ {X Y : Type 0} (p : X → Bool) (f : Y → X) where
  -- a test of some images
  pub list_any-map : (ys : List Y) → list_any p (map f ys) ≡ list_any (λ y. p (f y)) ys
  list_any-map [] = refl
  list_any-map (y ∷ ys) = ap (λ b. p (f y) || b) (list_any-map ys)

  -- the first image that passes
  pub position_or_len-map : (ys : List Y) → position_or_len p (map f ys) ≡ position_or_len (λ y. p (f y)) ys
  position_or_len-map [] = refl
  position_or_len-map (y ∷ ys) = ap (λ n. cond (not (p (f y))) (1 + n) 0) (position_or_len-map ys)

  -- the first image that passes, if there is one
  pub position-map : (ys : List Y) → position p (map f ys) ≡ position (λ y. p (f y)) ys
  position-map ys = rw (position_or_len-map ys, length-map ys f) refl

-- the images after one more, which goes last or is left out
map-cond : {X Y : Type 0} (f : X → Y) (b : Bool) (xs : List X) (x : X)
    → map f (cond b xs (xs ++ x ∷ [])) ≡ cond b (map f xs) (map f xs ++ f x ∷ [])
map-cond f true xs x = refl
map-cond f false xs x = map-append f xs (x ∷ [])

module _ {Z : Type 0} (ks : List (String Z)) (k : String Z) where
  -- one more key is one more label
  pub bytes-insert_key : map string_bytes (insert_key string_eq ks k) ≡ with_label (map string_bytes ks) (string_bytes k)
  bytes-insert_key = map-cond string_bytes (list_any (string_eq k) ks) ks k
      ∙ ap (λ b. cond b (map string_bytes ks) (map string_bytes ks ++ string_bytes k ∷ [])) (sym (list_any-map (bytes_eq (string_bytes k)) string_bytes ks))

  -- the place of a key is the number of its label
  pub position-of_key : position_or_len (string_eq k) ks ≡ label_number (map string_bytes ks) (string_bytes k)
  position-of_key = sym (position_or_len-map (bytes_eq (string_bytes k)) string_bytes ks)

-- the place of a text among some keys is its place among their bytes
pub position-of_text : {Z : Type 0} (text : List ℕ) (ks : List (String Z)) (labels : List (List ℕ)) → map string_bytes ks ≡ labels
    → position (λ k. bytes_eq text (string_bytes k)) ks ≡ position (bytes_eq text) labels
position-of_text text ks labels e = sym (position-map (bytes_eq text) string_bytes ks) ∙ ap (position (bytes_eq text)) e
