-- What a finger writes into the lists of a table.
use Rattle.std.specs.Prelude.{◌≡◌, ◌≢◌, ℕ, suc, ◌+◌, ◌-◌, ◌<◌, ◌^◌, Bool, true, false, cond, nat_eq, nat_lt, not, ◌&&◌, List, [], ◌∷◌, ◌++◌, drop, length, map, min, slice_index_or, slice_set, take}
use Rattle.page_surface.specs.Drawing.{Drawing, chords, differ}
use Rattle.drawing.specs.declared.finger.Finger.{Finger}
use Rattle.drawing.specs.Fingers.{chord_at, entered, entered_beyond}
use Rattle.drawing.specs.Pieces.{same_piece}
use Rattle.region_table.specs.Ends.{ChordNo, end_at}

-- two where a number isn't below a place
abbrev pub step : ℕ → ℕ → ℕ
step x t = cond (nat_lt x t) 0 2

-- where a number of the place order stands after two were put in before t and two before u
abbrev pub shifted : ℕ → ℕ → ℕ → ℕ
shifted t u x = x + (step x t + step x u)

-- the first of the two numbers put in before t
abbrev pub first_new : ℕ → ℕ → ℕ
first_new t u = t + step t u

-- the strand passes the later one of the two new points first where the segment lies in the piece just before the chord's first end
abbrev pub passes_later : Drawing → Finger → Bool
passes_later d f = same_piece (chords d) (chord_at d f.strand f.chord).from (entered d f)

-- a finger by numbers of the place order: the first end of its chord, the end that is nearer to the segment and the other one, the
-- span entered, the span beyond, which is glued to it, and 1 where the strand passes the later new point first, else 0
pub record IsPush (d : Drawing) (f : Finger) (from near far one other out : ℕ) : Type 0 where
  pub from_is : from ≡ (chord_at d f.strand f.chord).from
  pub near_is : near ≡ cond (passes_later d f) (chord_at d f.strand f.chord).to (chord_at d f.strand f.chord).from
  pub far_is : far ≡ cond (passes_later d f) (chord_at d f.strand f.chord).from (chord_at d f.strand f.chord).to
  pub entered_is : one ≡ entered d f
  pub beyond_is : other ≡ entered_beyond d f
  pub out_is : out ≡ cond (passes_later d f) 1 0

-- a span of the piece of span t comes in front where it is met on the way counterclockwise from the chord's first end to t; the
-- number 'from' is that end
abbrev pub comes_in_front : ℕ → ℕ → ℕ → Bool
comes_in_front from t s = differ (differ (nat_lt from s) (not (nat_lt s t))) (not (nat_lt from t))

-- the split piece's entries that aren't in the part in front get the next name
abbrev pub renamed_part : ℕ → ℕ → (ℕ → Bool) → (ℕ → ℕ) → ℕ → ℕ
renamed_part split count first name s = cond (nat_eq (name s) split && not (first s)) count (name s)

-- two entries put in before a place
abbrev pub put_two : {X : Type 0} → ℕ → X → X → List X → List X
put_two i a b xs = take i xs ++ (a ∷ b ∷ drop i xs)

-- two entries put in before place t and two before place u: what then stands where
pub record ArePut {X : Type 0} (t u : ℕ) (a b c e : X) (xs ys : List X) : Type 0 where
  pub size : length ys ≡ length xs + 4
  pub old : (z : X) (s : ℕ) → s < length xs → slice_index_or ys (shifted t u s) z ≡ slice_index_or xs s z
  pub first : (z : X) → slice_index_or ys (first_new t u) z ≡ a
  pub second : (z : X) → slice_index_or ys (suc (first_new t u)) z ≡ b
  pub third : (z : X) → slice_index_or ys (first_new u t) z ≡ c
  pub fourth : (z : X) → slice_index_or ys (suc (first_new u t)) z ≡ e

-- what a finger writes into the table of names: the split piece's name stays with its part in front, the other part and the tip
-- take the two next names, and all other names stay
pub record IsNamedByFinger (total t u behind count : ℕ) (first : ℕ → Bool) (name name_after : ℕ → ℕ) : Type 0 where
  pub others : (s : ℕ) → s < total → name s ≢ name t → name_after (shifted t u s) ≡ name s
  pub in_first : (s : ℕ) → s < total → name s ≡ name t → first s ≡ true → name_after (shifted t u s) ≡ name t
  pub in_second : (s : ℕ) → s < total → name s ≡ name t → first s ≡ false → name_after (shifted t u s) ≡ count
  pub at_front : name_after (first_new t u) ≡ name t
  pub at_middle : name_after (suc (first_new t u)) ≡ name behind
  pub at_beyond : name_after (first_new u t) ≡ name u
  pub at_tip : name_after (suc (first_new u t)) ≡ suc count

-- what a finger writes into the table of other ends: 'near' and 'far' are the ends of the pushed chord
pub record AreMatesAfter (total t u near_end far_end : ℕ) (mates mates_after : ℕ → ℕ) : Type 0 where
  pub others : (s : ℕ) → s < total → s ≢ near_end → s ≢ far_end → mates_after (shifted t u s) ≡ shifted t u (mates s)
  pub at_near : mates_after (shifted t u near_end) ≡ first_new t u
  pub at_early : mates_after (first_new t u) ≡ shifted t u near_end
  pub at_far : mates_after (shifted t u far_end) ≡ suc (first_new t u)
  pub at_late : mates_after (suc (first_new t u)) ≡ shifted t u far_end
  pub at_beyond : mates_after (first_new u t) ≡ suc (first_new u t)
  pub at_tip : mates_after (suc (first_new u t)) ≡ first_new u t

-- where sides begin afterwards: two later behind each of the two sides that get points
abbrev pub begins_later : ℕ → ℕ → ℕ → ℕ
begins_later one other k = cond (nat_lt one k) 2 0 + cond (nat_lt other k) 2 0

-- where the chords of each strand begin afterwards: two more begin behind the pushed one
abbrev pub rows_after : ℕ → ℕ → ℕ → ℕ → ℕ → ℕ → List (List ℕ) → List (List ℕ)
rows_after t u i c a b rows = let moved = map (map (shifted t u)) rows in slice_set moved i (put_two (suc c) a b (slice_index_or moved i []))

-- a chord as it is named afterwards: those behind the pushed chord of a strand come two later
abbrev pub renumbered : ChordNo → ChordNo → ChordNo
renumbered pushed c = record { strand = c.strand; chord = cond (nat_eq c.strand pushed.strand && nat_lt pushed.chord c.chord) (min (c.chord + 2) (2 ^ 32 - 1)) c.chord }

-- the part of a chord that is so many parts behind its beginning
abbrev pub part_of : ChordNo → ℕ → ChordNo
part_of c behind = record { strand = c.strand; chord = c.chord + behind }

-- what a finger writes into the table of chords at their ends: the parts of the pushed chord up to the side, beyond it and back, of which
-- the one at the near end, 'here', goes to the first new number, and the one at the far end, 'there', to the second
pub record AreEndsAfter (total t u near_end far_end : ℕ) (pushed here beyond there : ChordNo) (ends ends_after : List ChordNo) : Type 0 where
  pub others : (s : ℕ) → s < total → s ≢ near_end → s ≢ far_end → end_at ends_after (shifted t u s) ≡ renumbered pushed (end_at ends s)
  pub at_near : end_at ends_after (shifted t u near_end) ≡ here
  pub at_early : end_at ends_after (first_new t u) ≡ here
  pub at_far : end_at ends_after (shifted t u far_end) ≡ there
  pub at_late : end_at ends_after (suc (first_new t u)) ≡ there
  pub at_beyond : end_at ends_after (first_new u t) ≡ beyond
  pub at_tip : end_at ends_after (suc (first_new u t)) ≡ beyond
