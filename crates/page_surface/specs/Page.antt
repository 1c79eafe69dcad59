-- The rules of a page, tried in their order.
use Rattle.std.specs.Prelude.{◌≡◌, ℕ, zero, suc, ◌+◌, ◌-◌, Bool, true, false, not, nat_eq, nat_lt, ◌||◌, List, [], ◌∷◌, length, filter, find, position, slice_index_or, Option, None, option_map}
use Rattle.std.specs.List.{list_any, range_with_len}
use Rattle.std.specs.Str.{bytes_eq}
use Rattle.obd_base.specs.Options.{first_of, when}
use Rattle.page_surface.specs.Labels.{Label, labels_of, occurrences_of}
use Rattle.page_surface.specs.declared.refusal.PageRefusal.{PageRefusal}
use Rattle.page_surface.specs.declared.refusal.PageRefusal.TheVariants.{NoPolygon, TooManyPolygons, EmptyPolygon, TooManyLabels, LabelCount, NotJoined, TooManyArcs, DiskPage}

abbrev pub is_empty : List Label → Bool
is_empty [] = true
is_empty (label ∷ labels) = false

-- some label stands on both polygons
abbrev pub share_label : List Label → List Label → Bool
share_label first second = list_any (λ label. list_any (bytes_eq label) second) first

-- one of these polygons is the polygon, or shares a label with it
abbrev pub is_next_to : List (List Label) → List ℕ → ℕ → Bool
is_next_to polygons reached q = list_any (λ r. nat_eq q r || share_label (slice_index_or polygons q []) (slice_index_or polygons r [])) reached

-- the polygons that are reached from polygon 0 through at most so many labels, one after another
abbrev pub reached_within : List (List Label) → ℕ → List ℕ
reached_within polygons zero = 0 ∷ []
reached_within polygons (suc steps) = filter (is_next_to polygons (reached_within polygons steps)) (range_with_len 0 (length polygons))

-- how many polygons are reached from polygon 0
abbrev pub reached_count : List (List Label) → ℕ
reached_count polygons = length (reached_within polygons (length polygons))

-- the labels that don't become seams: the labels less the polygons plus 1
abbrev pub arc_number : List (List Label) → ℕ
arc_number polygons = length (labels_of polygons) + 1 - length polygons

-- each rule of a page, in order, with what it refuses
abbrev pub refusals : List (List Label) → List (Option PageRefusal)
refusals polygons =
    when (nat_eq (length polygons) 0) NoPolygon
    ∷ when (nat_lt 16 (length polygons)) (TooManyPolygons (length polygons))
    ∷ option_map EmptyPolygon (position is_empty polygons)
    ∷ when (nat_lt 24 (length (labels_of polygons))) (TooManyLabels (length (labels_of polygons)))
    ∷ option_map (λ label. LabelCount label (occurrences_of polygons label))
    (find (λ label. not (nat_eq (occurrences_of polygons label) 2)) (labels_of polygons))
    ∷ when (nat_lt (reached_count polygons) (length polygons)) (NotJoined (reached_count polygons) (length polygons))
    ∷ when (nat_lt 8 (arc_number polygons)) (TooManyArcs (arc_number polygons))
    ∷ when (nat_eq (arc_number polygons) 0) DiskPage
    ∷ []

-- the first rule that fails, if one does
abbrev pub refusal_of : List (List Label) → Option PageRefusal
refusal_of polygons = first_of (refusals polygons)

-- the polygons are a page
abbrev pub IsPage : List (List Label) → Type 0
IsPage polygons = refusal_of polygons ≡ None
