-- The exits of a path on the joined polygon, as they are read crossing by crossing.
use Rattle.std.proofs.Common.{◌≡◌, ℕ, ◌+◌, ◌-◌, ◌<◌, cond, eqb, List, [], ◌∷◌, ◌++◌, map, length, take, get_or, filter_map, Option, Some, None, option_map, sym, ap, ap₂, ◌∙◌}
use Rattle.std.specs.List.{cons_option, position}
use Rattle.std.proofs.lemmas.List.{append-nil, take_more}
use Rattle.std.proofs.lemmas.List.Elements.{filter_map-append}
use Rattle.std.proofs.lemmas.List.FromFn.{length-map-range_with_len}
use Rattle.obd_base.specs.Lists.{below}
use Rattle.obd_base.specs.declared.points.Exit.{Exit}
use Rattle.page_surface.specs.Drawing.{exit}
use Rattle.page_surface.specs.Joining.{Joined, is_side}
use Rattle.arc_basis.specs.Basis.{joined_sides, label_count}
use Rattle.curve_paths.specs.declared.crossing.Crossing.{Crossing}
use Rattle.curve_paths.specs.Paths.{label_points, place_on}
use Rattle.curve_paths.specs.Through.{exit_through}
use Rattle.curve_paths.proofs.Numbers.{count_read}

-- what is kept of one item more
filter_more : {X Y : Type 0} (f : X → Option Y) (xs : List X) (i : ℕ) (x : X) → i < length xs → x ≡ get_or xs i x
    → filter_map f (take (i + 1) xs) ≡ filter_map f (take i xs) ++ cons_option (f x) []
filter_more f xs i x l is =
    ap (filter_map f) (take_more xs i x l ∙ ap (λ y. take i xs ++ y ∷ []) (sym is)) ∙ filter_map-append f (take i xs) (x ∷ [])

module _ (j : Joined) (cs : List Crossing) (counts : List ℕ) (c : counts ≡ map (label_points cs) (below (label_count j))) where
  -- as many counts as labels
  pub counts_long : length counts ≡ label_count j
  counts_long = ap length c ∙ length-map-range_with_len (label_points cs) 0 (label_count j)

  -- the count of a label
  pub points_read : (label : ℕ) → label < label_count j → get_or counts label 0 ≡ label_points cs label
  points_read label l = count_read cs counts (label_count j) label c l

  module _ (i : ℕ) (x : Crossing) (exits : List Exit) (l : i < length cs) (is : x ≡ get_or cs i x) (so_far : exits ≡ filter_map (exit_through j cs) (take i cs)) where
    -- a crossing whose side is found has an exit
    pub exit_more : (after : List Exit) (s place : ℕ) → x.side.label < label_count j → Some s ≡ position (is_side x.side) (joined_sides j)
        → place ≡ cond (eqb x.side.occurrence 0) x.place (get_or counts x.side.label 0 - 1 - x.place)
        → after ≡ exits ++ exit s place ∷ [] → after ≡ filter_map (exit_through j cs) (take (i + 1) cs)
    exit_more after s place lx found ep ea =
        let on : place ≡ place_on cs x.side x.place = ep ∙ ap (λ n. cond (eqb x.side.occurrence 0) x.place (n - 1 - x.place)) (points_read x.side.label lx) in
        let kept : exit_through j cs x ≡ Some (exit s place) = ap (option_map (λ s. exit s (place_on cs x.side x.place))) (sym found) ∙ ap (λ n. Some (exit s n)) (sym on) in
        ea ∙ (ap₂ (λ xs o. xs ++ cons_option o []) so_far (sym kept) ∙ sym (filter_more (exit_through j cs) cs i x l is))

    -- a crossing with a seam has none
    pub exit_same : None ≡ position (is_side x.side) (joined_sides j) → exits ≡ filter_map (exit_through j cs) (take (i + 1) cs)
    exit_same none =
        let dropped : exit_through j cs x ≡ None = ap (option_map (λ s. exit s (place_on cs x.side x.place))) (sym none) in
        so_far ∙ (sym (append-nil _) ∙ (ap (λ o. filter_map (exit_through j cs) (take i cs) ++ cons_option o []) (sym dropped) ∙ sym (filter_more (exit_through j cs) cs i x l is)))
