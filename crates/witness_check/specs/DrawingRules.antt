-- What is said of the lines from the strands to the contact generator, by what the lines before them give.
use Rattle.std.specs.Prelude.{◌≡◌, ◌≤◌, ℕ, List, [], ◌∷◌, ◌++◌, length, map, slice_index_or, Option, Some}
use Rattle.obd_base.specs.declared.points.Exit.{Exit}
use Rattle.page_surface.specs.Drawing.{Drawing, IsEmbedded, all_exits, strand_exits}
use Rattle.page_surface.specs.Polygon.{Polygon}
use Rattle.drawing.specs.declared.finger.Finger.{Finger}
use Rattle.mod2_rank.specs.Linear.{same_list}
use Rattle.witness_check.specs.declared.certificate.Certificate.{Certificate}
use Rattle.witness_check.specs.declared.checked.Reason.TheVariants.{Word as word, Final as final}
use Rattle.witness_check.specs.declared.fault.Fault.{Fault}
use Rattle.witness_check.specs.declared.fault.Stop.{Stop}
use Rattle.witness_check.specs.declared.fault.Stop.TheVariants.{Fault as stopped}
use Rattle.witness_check.specs.Checked.{first_fault}
use Rattle.witness_check.specs.Rules.{Rule, rule, same_exits}
use Rattle.witness_check.specs.Written.{first_drawing, last_drawing, last_words, polygon}

-- the rule of a strand line by the words of all strands: its sides are the word
abbrev pub word_rule : List (List ℕ) → ℕ → List Exit → Rule
word_rule words i exits = rule word (same_list (map (λ e. e.side) exits) (slice_index_or words i []))

-- and nothing else
abbrev pub word_rules : List (List ℕ) → ℕ → List Exit → List Rule
word_rules words i exits = word_rule words i exits ∷ []

-- the rule of a final line by the last drawing: its exits are the strand's
abbrev pub exits_rule : Drawing → ℕ → List Exit → Rule
exits_rule d i exits = rule final (same_exits exits (strand_exits d i))

-- and nothing else
abbrev pub exits_rules : Drawing → ℕ → List Exit → List Rule
exits_rules d i exits = exits_rule d i exits ∷ []

-- some lines of every certificate that begins so have this first fault, or none
abbrev pub Finds : (Certificate → Type 0) → (Certificate → List (List Rule)) → Option Fault → Type 0
Finds begins lines found = (c : Certificate) → begins c → first_fault (lines c) ≡ found

-- what a stop says of some lines of every certificate that begins so
abbrev pub Stops : (Certificate → Type 0) → (Certificate → List (List Rule)) → Stop → Type 0
Stops begins lines stop = (fault : Fault) → stop ≡ stopped fault → Finds begins lines (Some fault)

-- the polygon and the words after the lines before, and the strand lines, all of them
pub record HasStrands (p : Polygon) (words : List (List ℕ)) (strands : List (List Exit)) (c : Certificate) : Type 0 where
  pub polygon_is : polygon c ≡ p
  pub words_are : last_words c ≡ words
  pub strands_are : c.strands ≡ strands

-- the words, and the first strand lines; at least one more follows
pub record BeginsStrands (words : List (List ℕ)) (read : List (List Exit)) (c : Certificate) : Type 0 where
  pub words_are : last_words c ≡ words
  pub next : List Exit
  pub more : List (List Exit)
  pub strands_are : c.strands ≡ read ++ next ∷ more

-- the first drawing and the first fingers
pub record BeginsFingers (d : Drawing) (read : List Finger) (c : Certificate) : Type 0 where
  pub first_is : first_drawing c ≡ d
  pub more : List Finger
  pub fingers_are : c.fingers ≡ read ++ more

-- the last drawing and the final lines, all of them
pub record HasFinals (d : Drawing) (finals : List (List Exit)) (c : Certificate) : Type 0 where
  pub last_is : last_drawing c ≡ d
  pub finals_are : c.finals ≡ finals

-- the last drawing, and the first final lines; at least one more follows
pub record BeginsFinals (d : Drawing) (read : List (List Exit)) (c : Certificate) : Type 0 where
  pub last_is : last_drawing c ≡ d
  pub next : List Exit
  pub more : List (List Exit)
  pub finals_are : c.finals ≡ read ++ next ∷ more

-- the last drawing and the number of generators
pub record HasGenerators (d : Drawing) (count : ℕ) (c : Certificate) : Type 0 where
  pub last_is : last_drawing c ≡ d
  pub count_is : c.generators ≡ count

-- the last drawing, the number of generators, and the line of the contact generator
pub record HasContact (d : Drawing) (count contact : ℕ) (points : List ℕ) (c : Certificate) : Type 0 where
  pub last_is : last_drawing c ≡ d
  pub count_is : c.generators ≡ count
  pub contact_is : c.contact ≡ contact
  pub points_are : c.points ≡ points

-- a drawing that the strand lines may write: embedded, with at most 4,000 exits
pub record IsFirst (d : Drawing) : Type 0 where
  pub embedded : IsEmbedded d
  pub few : length (all_exits d) ≤ 4000
