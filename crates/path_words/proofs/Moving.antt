-- What is kept while the image of a word is built letter by letter, reduced.
use Rattle.std.proofs.Common.{◌≡◌, ℕ, ◌+◌, ◌<◌, ◌≤◌, List, [], ◌∷◌, ◌++◌, drop, length, get_or, refl, sym, ◌∙◌, ap, ap₂, arith, append_assoc, subst}
use Rattle.std.specs.List.{All, flat_map}
use Rattle.std.proofs.lemmas.List.{drop_all, drop_more}
use Rattle.page_surface.specs.Polygon.{IsPolygon, Polygon, partner, sides}
use Rattle.page_surface.specs.Words.{reduced}
use Rattle.curve_paths.specs.Curves.{gap_before, passed, with_words}
use Rattle.path_words.specs.Pushes.{push_of}
use Rattle.path_words.proofs.Stacks.{reduced_first}

-- what was built is reduced, and with the image of the letters from `i` on it has the reduced form of the whole image
pub record Moving (p : Polygon) (pushes : List (List ℕ)) (word : List ℕ) (from to : ℕ) (built : List ℕ) (gap i : ℕ) : Type 0 where
  pub in_range : All (λ s. s < sides p) built
  pub is_reduced : reduced p built ≡ built
  pub gap_in_range : gap < sides p
  pub same : reduced p (built ++ with_words p (push_of pushes) (drop i word) gap to) ≡ reduced p (with_words p (push_of pushes) word from to)

module _ (p : Polygon) (ok : IsPolygon p) (pushes : List (List ℕ)) (word : List ℕ) (from to : ℕ) where
  -- nothing is built yet
  pub moving_none : from < sides p → Moving p pushes word from to [] from 0
  moving_none l = record { in_range = λ k d h. absurd (omega arith); is_reduced = refl; gap_in_range = l; same = refl }

  module _ (built : List ℕ) (gap i : ℕ) (h : Moving p pushes word from to built gap i) where
    -- what is set on the way to a letter, and the letter
    pub moving_more : (s b next : ℕ) (first second : List ℕ) → i < length word → s ≡ get_or word i s → b ≡ gap_before p s → next ≡ partner p s → All (λ s. s < sides p) word
        → first ≡ reduced p (built ++ flat_map (push_of pushes) (passed p gap b)) → second ≡ reduced p (first ++ s ∷ [])
        → All (λ s. s < sides p) second → reduced p second ≡ second → Moving p pushes word from to second next (i + 1)
    moving_more s b next first second l is before turn letters made set range again =
        let way : List ℕ = flat_map (push_of pushes) (passed p gap (gap_before p s)) in
        let rest : List ℕ = with_words p (push_of pushes) (drop (i + 1) word) (partner p s) to in
        let first_is : first ≡ reduced p (built ++ way) = made ∙ ap (λ (z : ℕ). reduced p (built ++ flat_map (push_of pushes) (passed p gap z))) before in
        let left : drop i word ≡ s ∷ drop (i + 1) word = drop_more word i s l ∙ ap (λ x. x ∷ drop (i + 1) word) (sym is) in
        record {
          in_range = range;
          is_reduced = again;
          gap_in_range = subst (λ x. x < sides p) (sym turn) (ok.pairs.in_range s (subst (λ x. x < sides p) (sym is) (letters i s l)));
          same = ap₂ (λ x (z : ℕ). reduced p (x ++ with_words p (push_of pushes) (drop (i + 1) word) z to)) set turn
              ∙ (reduced_first p ok.pairs (first ++ s ∷ []) rest
              ∙ (ap (reduced p) (append_assoc first (s ∷ []) rest)
              ∙ (ap (λ x. reduced p (x ++ s ∷ rest)) first_is
              ∙ (reduced_first p ok.pairs (built ++ way) (s ∷ rest)
              ∙ (ap (reduced p) (append_assoc built way (s ∷ rest))
              ∙ (ap (λ x. reduced p (built ++ with_words p (push_of pushes) x gap to)) (sym left) ∙ h.same))))));
        }

    -- the way from the last letter on ends the image
    pub moving_all : (made : List ℕ) → length word ≤ i → made ≡ reduced p (built ++ flat_map (push_of pushes) (passed p gap to))
        → made ≡ reduced p (with_words p (push_of pushes) word from to)
    moving_all made l is = is ∙ (ap (λ x. reduced p (built ++ with_words p (push_of pushes) x gap to)) (sym (drop_all i word l)) ∙ h.same)
