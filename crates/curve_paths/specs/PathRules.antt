-- The rules of a curve on a page, tried in their order.
use Rattle.std.specs.Prelude.{◌≡◌, ℕ, suc, ◌-◌, Bool, not, nat_eq, nat_lt, List, [], ◌∷◌, map, length, find, position, slice_index_or, Option, None, option_map}
use Rattle.std.specs.List.{flat_map, range_with_len}
use Rattle.obd_base.specs.Options.{first_of, when}
use Rattle.obd_base.specs.Lists.{below}
use Rattle.page_surface.specs.Drawing.{Chord, crosses}
use Rattle.page_surface.specs.Labels.{Label, labels_of}
use Rattle.curve_paths.specs.declared.path.Cross.{Cross}
use Rattle.curve_paths.specs.declared.chords.ChordPair.{ChordPair}
use Rattle.curve_paths.specs.declared.refusal.CurveRefusal.{CurveRefusal}
use Rattle.curve_paths.specs.declared.refusal.CurveRefusal.TheVariants.{EmptyPath, UnknownLabel, TooManyCrossings, PlaceWrong, NotAdjacent, Crosses}
use Rattle.curve_paths.specs.Paths.{crossings, has_label_places, is_known, is_within, path_chords}

-- two of some chords by their numbers
abbrev pub pair : ℕ → ℕ → ChordPair
pair first second = record { first = first; second = second }

-- each two of n chords, the lesser number first: by the first, and then by the second
abbrev pub pairs_below : ℕ → List ChordPair
pairs_below n = flat_map (λ i. map (pair i) (range_with_len (suc i) (n - suc i))) (below n)

-- two of the chords cross
abbrev pub do_cross : List Chord → ChordPair → Bool
do_cross chords e = let at = λ (i : ℕ). slice_index_or chords i (record { from = 0; to = 0 }) in crosses (at e.first) (at e.second)

-- the first pair that does
abbrev pub crossing_pair : List Chord → Option ChordPair
crossing_pair chords = find (do_cross chords) (pairs_below (length chords))

-- each rule of a curve on a page, in order, with what it refuses
abbrev pub refusals : List (List Label) → List Cross → List (Option CurveRefusal)
refusals page path =
    let cs = crossings page path in
    when (nat_eq (length path) 0) EmptyPath
    ∷ option_map UnknownLabel (position (λ c. not (is_known page c)) path)
    ∷ when (nat_lt 32 (length path)) (TooManyCrossings (length path))
    ∷ option_map (λ label. PlaceWrong (slice_index_or (labels_of page) label [])) (find (λ label. not (has_label_places cs label)) (below (length (labels_of page))))
    ∷ option_map NotAdjacent (find (λ i. not (is_within page cs i)) (below (length cs)))
    ∷ option_map (λ e. Crosses e.first e.second) (crossing_pair (path_chords page cs))
    ∷ []

-- the first rule that fails, if one does
abbrev pub refusal_of : List (List Label) → List Cross → Option CurveRefusal
refusal_of page path = first_of (refusals page path)

-- the path is a curve on the page
abbrev pub IsPath : List (List Label) → List Cross → Type 0
IsPath page path = refusal_of page path ≡ None
