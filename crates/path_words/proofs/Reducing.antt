-- What is kept while a word is reduced in place, its first part being a stack.
use Rattle.std.proofs.Common.{◌≡◌, ◌≢◌, ℕ, ◌+◌, ◌-◌, ◌<◌, ◌≤◌, List, [], ◌∷◌, ◌++◌, length, take, drop, set, get_or, refl, sym, ◌∙◌, ap, subst, arith, append_assoc, append-nil}
use Rattle.std.specs.List.{All}
use Rattle.std.proofs.lemmas.Bool.{ne_eqb}
use Rattle.std.proofs.lemmas.List.{take_more, take_more_set, drop_more, drop-set-lt, drop_all, length-set, length-append, length-take-le, same_from_push}
use Rattle.std.proofs.lemmas.List.Elements.{All-set, All-get_or}
use Rattle.page_surface.specs.Polygon.{Polygon, partner, sides}
use Rattle.page_surface.specs.Words.{IsReducedForm, Steps, none, more}
use Rattle.page_surface.proofs.WordLaws.{Free, HasNoPair-free, Steps-join}

-- the first `kept` letters have no pair, and steps lead from the word to them and the letters from `read` on
pub record Reducing (p : Polygon) (word now : List ℕ) (kept read : ℕ) : Type 0 where
  pub within : kept ≤ read
  pub as_long : length now ≡ length word
  pub in_range : All (λ s. s < sides p) now
  pub free : Free p (take kept now)
  pub reached : Steps p word (take kept now ++ drop read now)

-- a part of a word without a pair
pub Free-front : (p : Polygon) (a b : List ℕ) → Free p (a ++ b) → Free p a
Free-front p [] b h = tt
Free-front p (s ∷ []) b h = (tt, tt)
Free-front p (s ∷ t ∷ a) b h = (h.0, Free-front p (t ∷ a) b h.1)

-- one more letter, which doesn't cancel with the last one
pub Free-push_back : (p : Polygon) (w : List ℕ) (s : ℕ) → Free p w → ((u : List ℕ) (k : ℕ) → w ≡ u ++ (k ∷ []) → partner p k ≢ s) → Free p (w ++ (s ∷ []))
Free-push_back p [] s h ne = (tt, tt)
Free-push_back p (t ∷ []) s h ne = (ne_eqb _ _ (ne [] t refl), (tt, tt))
Free-push_back p (t ∷ v ∷ w) s h ne = (h.0, Free-push_back p (v ∷ w) s h.1 (λ u k e. ne (t ∷ u) k (ap (λ x. t ∷ x) e)))

-- at the start
pub reducing_none : (p : Polygon) (word : List ℕ) → All (λ s. s < sides p) word → Reducing p word word 0 0
reducing_none p word h = record { within = omega arith; as_long = refl; in_range = h; free = tt; reached = none }

module _ (p : Polygon) (word now : List ℕ) where
  module _ (kept read : ℕ) (r : Reducing p word now kept read) (l : read < length now) (s : ℕ) (es : s ≡ get_or now read s) where
    -- the letters from the one that is read on
    rest : drop read now ≡ s ∷ drop (read + 1) now
    rest = drop_more now read s l ∙ ap (λ x. x ∷ drop (read + 1) now) (sym es)

    -- the letter cancels with the last one that was kept
    pub step_cancels : (x : ℕ) → 0 < kept → x ≡ get_or now (kept - 1) x → partner p x ≡ s → Reducing p word now (kept - 1) (read + 1)
    step_cancels x some ex e =
        let q : (kept - 1) + 1 ≡ kept = omega arith in
        let front : take kept now ≡ take (kept - 1) now ++ (x ∷ [])
        = ap (λ n. take n now) (sym q) ∙ (take_more now (kept - 1) x (omega (arith, r.within)) ∙ ap (λ y. take (kept - 1) now ++ (y ∷ [])) (sym ex)) in
        let pair : take kept now ++ drop read now ≡ take (kept - 1) now ++ (x ∷ partner p x ∷ drop (read + 1) now)
        = rw (front, rest, e) (append_assoc (take (kept - 1) now) (x ∷ []) (s ∷ drop (read + 1) now)) in
        record {
          within = omega (arith, r.within);
          as_long = r.as_long;
          in_range = r.in_range;
          free = Free-front p (take (kept - 1) now) (x ∷ []) (rw front at r.free);
          reached = Steps-join p r.reached (more (take (kept - 1) now, drop (read + 1) now, x, pair, refl) none);
        }

    -- the letter is kept
    pub step_keeps : (0 < kept → (x : ℕ) × (x ≡ get_or now (kept - 1) x) × (partner p x ≢ s)) → Reducing p word (set now kept s) (kept + 1) (read + 1)
    step_keeps last =
        let front : take (kept + 1) (set now kept s) ≡ take kept now ++ (s ∷ []) = take_more_set now kept s (omega (arith, r.within)) in
        let after : drop (read + 1) (set now kept s) ≡ drop (read + 1) now = drop-set-lt (read + 1) now kept s (omega (arith, r.within)) in
        record {
          within = omega (arith, r.within);
          as_long = length-set now kept s ∙ r.as_long;
          in_range = All-set (λ s. s < sides p) now kept s (subst (λ x. x < sides p) (sym es) (All-get_or (λ s. s < sides p) now read s l r.in_range)) r.in_range;
          free = rw front (Free-push_back p (take kept now) s r.free ends);
          reached = rw (front, after, append_assoc) (rw rest at r.reached);
        }
      where
        ends : (u : List ℕ) (k : ℕ) → take kept now ≡ u ++ (k ∷ []) → partner p k ≢ s
        ends u k e f =
            let long : length u + 1 ≡ kept
            = sym (ap length e ∙ length-append u (k ∷ [])) ∙ length-take-le kept now (omega (arith, r.within)) in
            let (x, ex, ne) = last (omega arith) in
            let q : length u ≡ kept - 1 = omega arith in
            let front : take kept now ≡ take (kept - 1) now ++ (x ∷ [])
            = ap (λ n. take n now) (sym long) ∙ (take_more now (length u) x (omega (arith, r.within)) ∙ ap (λ i. take i now ++ (get_or now i x ∷ [])) q ∙ ap (λ y. take (kept - 1) now ++ (y ∷ [])) (sym ex)) in
            ne (ap (partner p) (sym (same_from_push _ _ _ _ (sym e ∙ front)).1) ∙ f)

  -- at the end
  pub reducing_all : (kept read : ℕ) → Reducing p word now kept read → length now ≤ read → IsReducedForm p word (take kept now)
  reducing_all kept read r l =
      let none_left : take kept now ++ drop read now ≡ take kept now = ap (λ x. take kept now ++ x) (drop_all read now l) ∙ append-nil (take kept now) in
      record { reached = subst (Steps p word) none_left r.reached; free = HasNoPair-free p (take kept now) r.free }
