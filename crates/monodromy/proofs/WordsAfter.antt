-- The words after a twist word: one for each arc, each reduced, with at most 4,000 letters together; and their tight drawing.
use Rattle.std.proofs.Common.{◌≡◌, ℕ, zero, suc, ◌≤◌, Bool, true, false, ltb, ltb-false, get_or, List, [], ◌∷◌, map, length, refl, sym, ◌∙◌, ap, subst}
use Rattle.std.specs.Prelude.{Result, Ok, Err, if◌then◌else◌}
use Rattle.std.specs.List.{enumerate_from}
use Rattle.std.proofs.lemmas.List.{length-map}
use Rattle.std.proofs.lemmas.List.FromFn.{length-enumerate_from, length-range_with_len}
use Rattle.obd_base.specs.Lists.{below}
use Rattle.obd_base.specs.declared.points.Exit.{Exit}
use Rattle.obd_base.specs.declared.points.Sign.{Sign}
use Rattle.page_surface.specs.Drawing.{Drawing, IsEmbedded, all_exits, strand_exits, words}
use Rattle.page_surface.specs.Polygon.{IsPolygon, Polygon, arc_count, first_side, second_side, sides}
use Rattle.page_surface.specs.Words.{HasNoPair, reduced}
use Rattle.page_surface.proofs.WordLaws.{Free, Free-reduced, HasNoPair-free}
use Rattle.curve_paths.specs.Curves.{identity_words, image}
use Rattle.curve_paths.specs.Twists.{by_entries, by_power, going_on, letters, numbered, sign_of, times, turned_by, turns_of, words_after}
use Rattle.curve_paths.specs.declared.twist.Twist.{Twist}
use Rattle.drawing.specs.Tight.{IsTight, tight_drawing}
use Rattle.drawing.proofs.TightLaws.{is_tight_drawing}
use Rattle.dehn_twist.proofs.DrawnWords.{letters_of}
use Rattle.dehn_twist.proofs.Laws as D
use Rattle.monodromy.proofs.FirstWords.{identity_are_words}

-- what each single twist keeps that isn't too long, twist words keep
module _ (p : Polygon) (P : List (List ℕ) → Type 0) (one : (c : List Exit) (sign : Sign) (ws : List (List ℕ)) → P ws → letters (turned_by p c sign ws) ≤ 4000 → P (turned_by p c sign ws)) where
  kept_times : (c : List Exit) (sign : Sign) (n : ℕ) (ws now : List (List ℕ)) → P ws → times p c sign n ws ≡ Ok now → P now
  kept_times c sign zero ws now h e = let same : ws ≡ now = cc in subst P same h
  kept_times c sign (suc n) ws now h e = go (ltb 4000 (letters next)) refl e (kept_times c sign n next now)
    where
      next : List (List ℕ)
      next = turned_by p c sign ws

      go : (b : Bool) → ltb 4000 (letters next) ≡ b → going_on (times p c sign n) (if b then Err (letters next) else Ok next) ≡ Ok now → (P next → times p c sign n next ≡ Ok now → P now) → P now
      go true l k more = absurd (let bad = k in cc)
      go false l k more = more (one c sign ws h (ltb-false 4000 (letters next) l)) k

  kept_entries : (cs : List (List Exit)) (number : ℕ) (twists : List Twist) (ws now : List (List ℕ)) → P ws → by_entries p cs number twists ws ≡ Ok now → P now
  kept_entries cs number [] ws now h e = let same : ws ≡ now = cc in subst P same h
  kept_entries cs number (twist ∷ twists) ws now h e = go (by_power p (get_or cs twist.curve []) twist.power ws) refl e (λ vs. kept_entries cs (suc number) twists vs now)
    where
      go : (r : Result (List (List ℕ)) ℕ) → by_power p (get_or cs twist.curve []) twist.power ws ≡ r → going_on (by_entries p cs (suc number) twists) (numbered number r) ≡ Ok now
          → ((vs : List (List ℕ)) → P vs → by_entries p cs (suc number) twists vs ≡ Ok now → P now) → P now
      go (Err count) q k more = absurd (let bad = k in cc)
      go (Ok vs) q k more = more vs (kept_times (get_or cs twist.curve []) (sign_of twist.power) (turns_of twist.power) ws vs h q) k

-- each word is free
abbrev EachFree : Polygon → List (List ℕ) → Type 0
EachFree p [] = Unit {0}
EachFree p (w ∷ ws) = Free p w × EachFree p ws

each_mapped : {X : Type 0} (p : Polygon) (f : X → List ℕ) (xs : List X) → ((x : X) → Free p (f x)) → EachFree p (map f xs)
each_mapped p f [] h = tt
each_mapped p f (x ∷ xs) h = (h x, each_mapped p f xs h)

module _ (p : Polygon) (ok : IsPolygon p) (few : sides p ≤ 16) (cs : List (List Exit)) (twists : List Twist) (ws : List (List ℕ)) (after : words_after p cs twists ≡ Ok ws) where
  -- at most 4,000 letters
  few_letters : letters ws ≤ 4000
  few_letters = kept_entries p (λ ws. letters ws ≤ 4000) (λ c sign ws h l. l) cs 0 twists (identity_words p) ws (identity_are_words p ok few).few after

  -- a word for each arc,
  pub word_count : length ws ≡ arc_count p
  word_count = kept_entries p (λ ws. length ws ≡ arc_count p) one cs 0 twists (identity_words p) ws
      (length-map (below (arc_count p)) (λ i. second_side p i ∷ []) ∙ length-range_with_len 0 (arc_count p)) after
    where
      one : (c : List Exit) (sign : Sign) (ws : List (List ℕ)) → length ws ≡ arc_count p → letters (turned_by p c sign ws) ≤ 4000 → length (turned_by p c sign ws) ≡ arc_count p
      one [] sign ws h l = h
      one (e ∷ c) sign ws h l =
          length-map (enumerate_from 0 ws) (λ x. reduced p (image p (e ∷ c) sign x.1 (second_side p x.0) (first_side p x.0))) ∙ (length-enumerate_from 0 ws ∙ h)

  -- each reduced
  each_free : EachFree p ws
  each_free = kept_entries p (EachFree p) one cs 0 twists (identity_words p) ws (each_mapped p (λ i. second_side p i ∷ []) (below (arc_count p)) (λ i. (tt, tt))) after
    where
      one : (c : List Exit) (sign : Sign) (ws : List (List ℕ)) → EachFree p ws → letters (turned_by p c sign ws) ≤ 4000 → EachFree p (turned_by p c sign ws)
      one [] sign ws h l = h
      one (e ∷ c) sign ws h l =
          each_mapped p (λ (x : ℕ × List ℕ). reduced p (image p (e ∷ c) sign x.1 (second_side p x.0) (first_side p x.0))) (enumerate_from 0 ws)
          (λ x. Free-reduced p (image p (e ∷ c) sign x.1 (second_side p x.0) (first_side p x.0)))

  -- their tight drawing has at most 4,000 points
  pub few_points : (d : Drawing) → d ≡ tight_drawing p ws → length (all_exits d) ≤ 4000
  few_points d drawn = subst (λ n. n ≤ 4000) (letters_of d) (subst (λ vs. letters vs ≤ 4000) (sym (ap words drawn ∙ D.words_of_tight p ws)) few_letters)

  -- and an embedded drawing with these words is tight, so it is the one
  pub drawn_is_tight : (d : Drawing) → d.polygon ≡ p → words d ≡ ws → IsTight d
  drawn_is_tight d on same i = subst (λ q. HasNoPair q (map (λ (e : Exit). e.side) (strand_exits d i))) (sym on)
      (HasNoPair-free p (map (λ (e : Exit). e.side) (strand_exits d i)) (at d.strands i (subst (EachFree p) (sym same) each_free)))
    where
      at : (strands : List (List Exit)) (j : ℕ) → EachFree p (map (map (λ (e : Exit). e.side)) strands) → Free p (map (λ (e : Exit). e.side) (get_or strands j []))
      at [] j h = tt
      at (strand ∷ strands) zero h = h.0
      at (strand ∷ strands) (suc j) h = at strands j h.1

  pub drawn_is_one : (d : Drawing) → IsEmbedded d → d.polygon ≡ p → words d ≡ ws → d ≡ tight_drawing p ws
  drawn_is_one d embedded on same = is_tight_drawing d embedded (drawn_is_tight d on same) ∙ rw (on, same) refl

-- the words of a tight drawing are those that it was given
pub words_of_tight : (p : Polygon) (ws : List (List ℕ)) → words (tight_drawing p ws) ≡ ws
words_of_tight p ws = D.words_of_tight p ws
