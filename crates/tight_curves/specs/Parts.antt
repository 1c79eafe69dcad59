-- A part of a curve: some of its exits, in an order of their own. What stays when innermost turns are taken out of a curve.
use Rattle.std.specs.Prelude.{◌≡◌, ℕ, ◌-◌, ◌<◌, ◌≤◌, ◌⊎◌, Bool, false, nat_lt, List, [], ◌∷◌, ◌++◌, map, length, count_by}
use Rattle.std.specs.List.{sum_by}
use Rattle.obd_base.specs.Lists.{Mem, below}
use Rattle.obd_base.specs.declared.points.Exit.{Exit}
use Rattle.page_surface.specs.Drawing.{Chord, crosses, exit}
use Rattle.page_surface.specs.Polygon.{Polygon, partner, sides}
use Rattle.obd_base.specs.declared.points.Sign.{Sign}
use Rattle.page_surface.specs.Words.{reduced}
use Rattle.curve_paths.specs.Curves.{IsCurve, curve_entry, curve_points, curve_spot, curve_stands, exit_at, previous, push_at}
use Rattle.tight_curves.specs.Closed.{HasNoCyclicPair, IsRotation, cyclic_form, word_of}

-- some exit of the part makes the curve's point at place j of side k
abbrev pub has_point : Polygon → List Exit → List Exit → ℕ → ℕ → Bool
has_point p c part k j = nat_lt 0 (sum_by (λ e. curve_stands p c e k j) part)

-- how many points of the part stand before place j of side k
abbrev pub place_among : Polygon → List Exit → List Exit → ℕ → ℕ → ℕ
place_among p c part k j = count_by (has_point p c part k) (below j)

-- the part as a list of exits by itself: the place of a point is how many points of the part stand before it
abbrev pub part_exits : Polygon → List Exit → List Exit → List Exit
part_exits p c part = map (λ e. exit e.side (place_among p c part e.side e.place)) part

-- chord i of the part, in the numbers of the curve
abbrev pub part_chord : Polygon → List Exit → List Exit → ℕ → Chord
part_chord p c part i = record {
  from = curve_spot p c (curve_entry p c (exit_at part (previous (length part) i)));
  to = curve_spot p c (exit_at part i);
}

-- exits at points of the curve, each point once, whose chords don't cross
pub record IsPart (p : Polygon) (c part : List Exit) : Type 0 where
  pub inside : (e : Exit) → Mem e part → (e.side < sides p) × (e.place < curve_points p c e.side)
  pub once : (k j : ℕ) → k < sides p → j < curve_points p c k → sum_by (λ e. curve_stands p c e k j) part ≤ 1
  pub uncrossed : (a b : ℕ) → (a ≡ b → ⊥) → a < length part → b < length part → crosses (part_chord p c part a) (part_chord p c part b) ≡ false

-- of two exits of a part, the second comes back through the side by which the first one left, and no point of the part
-- stands between the two points
pub record IsInnermost (p : Polygon) (c part : List Exit) (out back : Exit) : Type 0 where
  pub returns : back.side ≡ partner p out.side
  pub nothing_between : (j : ℕ) → ((out.place < j) × (j < curve_points p c back.side - 1 - back.place)) ⊎ ((curve_points p c back.side - 1 - back.place < j) × (j < out.place))
      → has_point p c part out.side j ≡ false

-- what comes from a part when it is read from another exit on, and innermost turns are taken out, one after another
pub data TurnsTaken (p : Polygon) (c : List Exit) : List Exit → List Exit → Type 0 where
  no_more : {s : List Exit} → TurnsTaken p c s s
  read_on : {s t : List Exit} {e : Exit} → TurnsTaken p c (s ++ (e ∷ [])) t → TurnsTaken p c (e ∷ s) t
  one_more : {s t : List Exit} {out back : Exit} → IsInnermost p c (out ∷ back ∷ s) out back → TurnsTaken p c s t → TurnsTaken p c (out ∷ back ∷ s) t

-- a curve without cyclic pair whose word is the cyclic reduced form of another curve's, and along which twists set products
-- with the same reduced forms
pub record MadeTight (p : Polygon) (c d : List Exit) : Type 0 where
  pub is_curve : IsCurve p d
  pub free : HasNoCyclicPair p (word_of d)
  pub word : IsRotation (cyclic_form p (word_of c)) (word_of d)
  pub pushes : (g : Sign) (k : ℕ) → k < sides p → reduced p (push_at p d g k) ≡ reduced p (push_at p c g k)
