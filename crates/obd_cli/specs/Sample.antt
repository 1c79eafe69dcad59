-- The sample of a seed: a twist word on the torus from a sequence of numbers, and the summary of its certificate.
use Rattle.std.specs.Prelude.{ℕ, ⊤, ◌≤◌, zero, suc, ◌+◌, ◌*◌, ◌%◌, nat_eq, pos, negsuc, List, [], ◌∷◌, ◌++◌, codes, decimal, length, map, if◌then◌else◌}
use Rattle.std.specs.List.{flat_map}
use Rattle.std.specs.Fmt.{signed_decimal}
use Rattle.obd_base.specs.Lists.{below}
use Rattle.page_surface.specs.Labels.{Label}
use Rattle.curve_paths.specs.declared.twist.Twist.{Twist}
use Rattle.witness_check.specs.Checked.{answer_of}
use Rattle.witness_check.specs.Line.{line}
use Rattle.witness_check.specs.declared.certificate.Certificate.{Certificate}
use Rattle.obd_doc.specs.Document.{default_limits}
use Rattle.obd_doc.specs.declared.book.Book.{Book}
use Rattle.obd_doc.specs.declared.book.NamedCurve.{NamedCurve}
use Rattle.obd_cli.specs.CheckAnswer.{answer_word}
use Rattle.obd_cli.specs.declared.decide.Decision.{Decision}
use Rattle.obd_cli.specs.declared.decide.Decision.TheVariants.{Certified, Stopped}

-- the number after a number
abbrev pub next : ℕ → ℕ
next x = (75 * x + 74) % 65537

-- number i, from the seed as number 0
abbrev pub number : ℕ → ℕ → ℕ
number seed zero = seed
number seed (suc i) = next (number seed i)

-- an entry: about a where the first number is even, else about b; of power -1 where the second is a multiple of 4, else 1
abbrev pub entry : ℕ → ℕ → Twist
entry x y = record { curve = x % 2; power = if nat_eq (y % 4) 0 then negsuc 0 else pos 1 }

-- entry j, from the numbers 2j + 1 and 2j + 2
abbrev pub sample_twist : ℕ → ℕ → Twist
sample_twist seed j = entry (number seed (2 * j + 1)) (number seed (2 * j + 2))

-- the twist word
unfoldable pub sample_twists : ℕ → ℕ → List Twist
sample_twists seed count = map (sample_twist seed) (below count)

-- the torus A B A B
abbrev pub torus : List (List Label)
torus = (codes "A" ∷ codes "B" ∷ codes "A" ∷ codes "B" ∷ []) ∷ []

-- the curve of a name that crosses one label once
abbrev pub around : List ℕ → Label → NamedCurve
around name label =
    let path = record { label = label; occurrence = 0; place = 0 } ∷ [] in
    record { name = name; path = path; curve = record { page = torus; path = path } }

-- the curves a and b
abbrev pub sample_curves : List NamedCurve
sample_curves = around (codes "a") (codes "A") ∷ around (codes "b") (codes "B") ∷ []

-- the book: no slides, and the limits that stand where none are given
unfoldable pub sample_book : ℕ → ℕ → Book
sample_book seed twists = record {
  polygons = torus;
  page = torus;
  curves = sample_curves;
  twists = sample_twists seed twists;
  slides = [];
  limits = default_limits;
}

-- the exits of all strands of the first drawing
abbrev pub crossings : Certificate → ℕ
crossings c = length (flat_map (λ strand. strand) c.strands)

-- a certificate that was decided has at most 4,000 of them
abbrev pub HasFewCrossings : Decision → Type 0
HasFewCrossings (Certified c) = crossings c ≤ 4000
HasFewCrossings (Stopped answer) = ⊤

-- a line with one number
abbrev pub count_line : List ℕ → ℕ → List ℕ
count_line kind n = line kind (decimal n ∷ [])

-- which sample it is,
abbrev pub question_lines : ℕ → ℕ → List ℕ
question_lines seed twists = count_line (codes "sample") seed ++ count_line (codes "arcs") 2 ++ count_line (codes "twists") twists

-- the sizes of its drawings and of its complex,
abbrev pub size_lines : Certificate → List ℕ
size_lines c =
    count_line (codes "crossings") (crossings c)
    ++ count_line (codes "moves") (length c.fingers)
    ++ count_line (codes "generators") c.generators
    ++ count_line (codes "rank") c.rank

-- and what is left of it, with the answer
abbrev pub answer_lines : Certificate → List ℕ
answer_lines c = line (codes "homology") (signed_decimal c.homology ∷ []) ++ line (answer_word (answer_of c.verdict)) []

-- the summary
unfoldable pub summary : ℕ → ℕ → Certificate → List ℕ
summary seed twists c = question_lines seed twists ++ size_lines c ++ answer_lines c
