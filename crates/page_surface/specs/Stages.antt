-- The rules of a page in three stages, each tried on what the one before it lets through.
use Rattle.std.specs.Prelude.{not, nat_eq, nat_lt, List, [], ◌∷◌, length, find, position, Option, option_map}
use Rattle.page_surface.specs.Labels.{Label, labels_of, occurrences_of}
use Rattle.obd_base.specs.Options.{when}
use Rattle.page_surface.specs.Page.{is_empty, reached_count, arc_number}
use Rattle.page_surface.specs.declared.refusal.PageRefusal.{PageRefusal}
use Rattle.page_surface.specs.declared.refusal.PageRefusal.TheVariants.{NoPolygon, TooManyPolygons, EmptyPolygon, TooManyLabels, LabelCount, NotJoined, TooManyArcs, DiskPage}

-- the rules on the number of polygons and of their sides
abbrev pub polygon_rules : List (List Label) → List (Option PageRefusal)
polygon_rules polygons =
    when (nat_eq (length polygons) 0) NoPolygon
    ∷ when (nat_lt 16 (length polygons)) (TooManyPolygons (length polygons))
    ∷ option_map EmptyPolygon (position is_empty polygons)
    ∷ []

-- the rules on the number of labels and of their sides
abbrev pub label_rules : List (List Label) → List (Option PageRefusal)
label_rules polygons =
    when (nat_lt 24 (length (labels_of polygons))) (TooManyLabels (length (labels_of polygons)))
    ∷ option_map (λ label. LabelCount label (occurrences_of polygons label))
    (find (λ label. not (nat_eq (occurrences_of polygons label) 2)) (labels_of polygons))
    ∷ []

-- the rules on what the polygons are joined to
abbrev pub joining_rules : List (List Label) → List (Option PageRefusal)
joining_rules polygons =
    when (nat_lt (reached_count polygons) (length polygons)) (NotJoined (reached_count polygons) (length polygons))
    ∷ when (nat_lt 8 (arc_number polygons)) (TooManyArcs (arc_number polygons))
    ∷ when (nat_eq (arc_number polygons) 0) DiskPage
    ∷ []
