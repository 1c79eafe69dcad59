-- The text of a log, line by line, and the first line that is wrong.
use Rattle.std.specs.Prelude.{ℕ, ◌≡◌, ◌≢◌, ◌<◌, ◌+◌, ◌^◌, List, [], ◌∷◌, ◌++◌, codes, decimal, length, All, ⊤}
use Rattle.std.specs.List.{flat_map}
use Rattle.drawing.specs.declared.finger.Finger.{Finger}
use Rattle.move_log.specs.declared.log.Log.{Log}
use Rattle.move_log.specs.declared.log.LogRefusal.{LogRefusal}
use Rattle.move_log.specs.declared.log.LogRefusal.TheVariants.{Form, NoMemory}

-- words, each behind one space
abbrev pub spaced : List (List ℕ) → List ℕ
spaced words = flat_map (λ word. 32 ∷ word) words

-- a line: its kind, further words and a line feed
abbrev pub line : List ℕ → List (List ℕ) → List ℕ
line kind words = kind ++ spaced words ++ 10 ∷ []

-- `slide SIDE`
unfoldable pub slide_line : ℕ → List ℕ
slide_line side = line (codes "slide") (decimal side ∷ [])

-- `finger STRAND CHORD SIDE SEGMENT`
unfoldable pub finger_line : Finger → List ℕ
finger_line finger = line (codes "finger") (decimal finger.strand ∷ decimal finger.chord ∷ decimal finger.side ∷ decimal finger.segment ∷ [])

-- the text of a log: the slides' lines, and then the fingers'
abbrev pub log_text : Log → List ℕ
log_text log = flat_map slide_line log.slides ++ flat_map finger_line log.fingers

-- the number of a side fits
abbrev pub SideFits : ℕ → Type 0
SideFits side = side < 2 ^ 32

-- all numbers of a finger fit
pub record FingerFits (finger : Finger) : Type 0 where
  pub strand : finger.strand < 2 ^ 32
  pub chord : finger.chord < 2 ^ 32
  pub side : finger.side < 2 ^ 32
  pub segment : finger.segment < 2 ^ 32

-- all numbers of a log fit
pub record IsInRange (log : Log) : Type 0 where
  pub slides : All SideFits log.slides
  pub fingers : All FingerFits log.fingers

-- a text is this log's, whose numbers fit, and no other log's
pub record IsReading (text : List ℕ) (log : Log) : Type 0 where
  pub in_range : IsInRange log
  pub text_is : text ≡ log_text log
  pub only : (other : Log) → IsInRange other → text ≡ log_text other → other ≡ log

-- a text is that of a log
pub record IsLogText (text : List ℕ) : Type 0 where
  pub log : Log
  pub in_range : IsInRange log
  pub text_is : text ≡ log_text log

-- a text begins with that of a log with so many lines
pub record BeginsWithLines (text : List ℕ) (count : ℕ) : Type 0 where
  pub log : Log
  pub in_range : IsInRange log
  pub counted : length log.slides + length log.fingers ≡ count
  pub rest : List ℕ
  pub text_is : text ≡ log_text log ++ rest

-- a text is no log's, and this is its first wrong line, counted from 1: the lines before it are a log's, and with it they are none's
pub record HasWrongLine (text : List ℕ) (line : ℕ) : Type 0 where
  pub wrong : ¬ (IsLogText text)
  pub above : ℕ
  pub counted : line ≡ above + 1
  pub before : BeginsWithLines text above
  pub first : ¬ (BeginsWithLines text line)

-- what a refusal says of the text
abbrev pub Says : List ℕ → LogRefusal → Type 0
Says text (Form number) = HasWrongLine text number
Says text NoMemory = ⊤

-- a text begins with the lines of these entries and with no further one
pub record ReadAll {A : Type 0} (line : A → List ℕ) (Fits : A → Type 0) (text : List ℕ) (entries : List A) (rest : List ℕ) : Type 0 where
  pub fit : All Fits entries
  pub text_is : text ≡ flat_map line entries ++ rest
  pub last : (entry : A) (more : List ℕ) → Fits entry → rest ≢ line entry ++ more
