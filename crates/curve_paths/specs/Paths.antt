-- A curve on a page of any number of polygons: its crossings with labels, and its chords in the place order.
use Rattle.std.specs.Prelude.{ℕ, suc, ◌+◌, ◌-◌, Bool, cond, nat_eq, ◌&&◌, List, [], map, length, slice_index_or, count_by}
use Rattle.std.specs.List.{before_first, flat_map, list_all, list_any, position_or_len, sum_by}
use Rattle.std.specs.Str.{bytes_eq}
use Rattle.obd_base.specs.Lists.{below}
use Rattle.page_surface.specs.declared.page.SideLabel.{SideLabel}
use Rattle.page_surface.specs.Drawing.{Chord}
use Rattle.page_surface.specs.Joining.{side, is_side, has_side, other_side}
use Rattle.page_surface.specs.Labels.{Label, label_number, labels_of, side_labels_of}
use Rattle.curve_paths.specs.declared.path.Cross.{Cross}
use Rattle.curve_paths.specs.declared.crossing.Crossing.{Crossing}

-- the crossing names a label of the page
abbrev pub is_known : List (List Label) → Cross → Bool
is_known page c = list_any (bytes_eq c.label) (labels_of page)

-- a crossing by the side through which the curve leaves, in place of the label's name
abbrev pub crossing : List (List Label) → Cross → Crossing
crossing page c = record { side = side (label_number (labels_of page) c.label) c.occurrence; place = c.place }

abbrev pub crossings : List (List Label) → List Cross → List Crossing
crossings page path = map (crossing page) path

-- how many points of a label the curve has
abbrev pub label_points : List Crossing → ℕ → ℕ
label_points cs label = count_by (λ c. nat_eq c.side.label label) cs

-- the crossing is at a place of a label
abbrev pub is_met_at : ℕ → ℕ → Crossing → Bool
is_met_at label place c = nat_eq c.side.label label && nat_eq c.place place

-- the places of a label are 0 up to the number of its points less 1, each once
abbrev pub has_label_places : List Crossing → ℕ → Bool
has_label_places cs label = list_all (λ place. nat_eq (count_by (is_met_at label place) cs) 1) (below (label_points cs label))

-- A place of a label is counted from the start of its first side, which is the end of its second side. So on the
-- second side it is the one that, with the place and 1, makes the number of points.
abbrev pub place_on : List Crossing → SideLabel → ℕ → ℕ
place_on cs s place = cond (nat_eq s.occurrence 0) place (label_points cs s.label - 1 - place)

-- all sides of the page in one row, polygon by polygon
abbrev pub row : List (List Label) → List SideLabel
row page = flat_map (λ polygon. polygon) (side_labels_of [] page)

-- The place order as numbers, side by side in the row: a side with m points takes m + 2 of them, as in drawings. Each
-- polygon has a range of its own, so on a page of one polygon they are the numbers of the joined curve's points.
abbrev pub side_start : List (List Label) → List Crossing → SideLabel → ℕ
side_start page cs s = sum_by (λ t. label_points cs t.label + 2) (before_first (is_side s) (row page))

-- the number of the point on a side of its label
abbrev pub path_spot : List (List Label) → List Crossing → SideLabel → ℕ → ℕ
path_spot page cs s place = side_start page cs s + place_on cs s place

-- crossing i of the curve
abbrev pub crossing_at : List Crossing → ℕ → Crossing
crossing_at cs i = slice_index_or cs i (record { side = side 0 0; place = 0 })

-- the crossing after crossing i, read round
abbrev pub following : ℕ → ℕ → ℕ
following n i = cond (nat_eq (suc i) n) 0 (suc i)

-- the side through which the curve enters after a crossing
abbrev pub entered_side : Crossing → SideLabel
entered_side c = other_side c.side

-- chord i runs from the entry of crossing i to the exit of the crossing after it
abbrev pub path_chord : List (List Label) → List Crossing → ℕ → Chord
path_chord page cs i =
    let c = crossing_at cs i in
    let d = crossing_at cs (following (length cs) i) in
    record { from = path_spot page cs (entered_side c) c.place; to = path_spot page cs d.side d.place }

abbrev pub path_chords : List (List Label) → List Crossing → List Chord
path_chords page cs = map (path_chord page cs) (below (length cs))

-- the polygon on which a side lies
abbrev pub polygon_at : List (List Label) → SideLabel → ℕ
polygon_at page s = position_or_len (has_side s) (side_labels_of [] page)

-- the two ends of chord i lie on one polygon
abbrev pub is_within : List (List Label) → List Crossing → ℕ → Bool
is_within page cs i =
    nat_eq (polygon_at page (entered_side (crossing_at cs i))) (polygon_at page (crossing_at cs (following (length cs) i)).side)
