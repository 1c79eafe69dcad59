-- Exits whose sides are the letters of some words.
use Rattle.std.proofs.Common.{◌≡◌, ℕ, ◌<◌, ◌≤◌, ◌^◌, true, List, [], ◌∷◌, map, length, refl, sym, ◌∙◌, ap, subst, arith, All}
use Rattle.std.specs.Prelude.{nat_lt}
use Rattle.std.specs.List.{flat_map, list_all}
use Rattle.std.proofs.lemmas.Bool.{lt-ltb}
use Rattle.std.proofs.lemmas.List.Elements.{All-tail}
use Rattle.std.proofs.lemmas.List.Folds.{list_all-append}
use Rattle.obd_base.specs.declared.points.Exit.{Exit}
use Rattle.page_surface.specs.Drawing.{Drawing, IsEmbedded, all_exits, words}
use Rattle.page_surface.specs.Polygon.{Polygon, sides}
use Rattle.page_surface.specs.Words.{reduced}
use Rattle.curve_paths.specs.Twists.{AreWords, letters}
use Rattle.drawing.specs.Layout.{drawn}
use Rattle.drawing.specs.Tight.{IsTight, tight_drawing}
use Rattle.dehn_twist.proofs.DrawnWords.{letters_of}
use Rattle.monodromy.specs.Drawn.{IsDrawn}

-- exits on sides, row by row
row_on : (n : ℕ) (es : List Exit) → All (λ k. k < n) (map (λ (e : Exit). e.side) es) → list_all (λ (e : Exit). nat_lt e.side n) es ≡ true
row_on n [] on = refl
row_on n (e ∷ es) on =
    let one : e.side < n = on 0 0 (omega arith) in
    rw (lt-ltb e.side n one) (row_on n es (All-tail (λ k. k < n) e.side (map (λ (e : Exit). e.side) es) on))

rows_on : (n : ℕ) (ss : List (List Exit)) → All (All (λ k. k < n)) (map (map (λ (e : Exit). e.side)) ss) → list_all (λ (e : Exit). nat_lt e.side n) (flat_map (λ (s : List Exit). s) ss) ≡ true
rows_on n [] on = refl
rows_on n (s ∷ ss) on =
    let one : All (λ k. k < n) (map (λ (e : Exit). e.side) s) = on 0 [] (omega arith) in
    let rest = rows_on n ss (All-tail (All (λ k. k < n)) (map (λ (e : Exit). e.side) s) (map (map (λ (e : Exit). e.side)) ss) on) in
    list_all-append (λ (e : Exit). nat_lt e.side n) s (flat_map (λ (s : List Exit). s) ss) ∙ rw (row_on n s one, rest) refl

module _ (p : Polygon) (ws : List (List ℕ)) (are : AreWords p ws) (ss : List (List Exit)) (same : map (map (λ (e : Exit). e.side)) ss ≡ ws) where
  -- they are on sides
  pub exits_on : list_all (λ (e : Exit). nat_lt e.side (sides p)) (all_exits (drawn p ss)) ≡ true
  exits_on = rows_on (sides p) ss (subst (All (All (λ k. k < sides p))) (sym same) are.in_range)

  -- and few
  pub exits_few : length (all_exits (drawn p ss)) < 2 ^ 28
  exits_few = omega (arith, letters_of (drawn p ss), ap letters same, are.few)

-- a tight drawing that has some words is theirs
pub is_drawn : (d tight : Drawing) (ws : List (List ℕ)) → tight ≡ tight_drawing d.polygon (map (reduced d.polygon) (words d)) → words tight ≡ map (reduced d.polygon) (words d)
    → words tight ≡ ws → letters ws ≤ 4000 → IsEmbedded tight → IsTight tight → IsDrawn d.polygon ws tight
is_drawn d tight ws is made has few embedded is_tight = record {
  drawn = is ∙ ap (tight_drawing d.polygon) (sym made ∙ has);
  words_are = has;
  embedded = embedded;
  tight = is_tight;
  few = omega (arith, letters_of tight, ap letters has, few);
}
