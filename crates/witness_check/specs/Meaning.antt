-- What a certificate shows, and what a valid text so certifies, whoever wrote it.
use Rattle.std.specs.Prelude.{◌≡◌, ℕ, pos, ◌-ℤ◌, ◌+◌, ◌*◌, ◌≤◌, List, [], length, slice_get, Some}
use Rattle.page_surface.specs.Drawing.{Drawing}
use Rattle.drawing.specs.Points.{contact_generator, generators}
use Rattle.hkm_diagram.specs.Domains.{columns}
use Rattle.handle_slide.specs.declared.slid.Slid.{Slid}
use Rattle.mod2_rank.specs.Linear.{Ascends, IsChain, IsFunctional, IsRank, column_at}
use Rattle.mod2_rank.specs.declared.outcome.Verdict.{Verdict}
use Rattle.mod2_rank.specs.declared.outcome.Verdict.TheVariants.{Chain, Functional}
use Rattle.witness_check.specs.Belonging.{IsFirstDrawing, LeadTo}
use Rattle.witness_check.specs.Checked.{answer_of}
use Rattle.witness_check.specs.OpenBook.{IsOpenBook, IsSurface, arcs, seam_names}
use Rattle.witness_check.specs.Text.{certificate_text}
use Rattle.witness_check.specs.Written.{own_book}
use Rattle.witness_check.specs.declared.certificate.Certificate.{Certificate}
use Rattle.witness_check.specs.declared.checked.Answer.{Answer}
use Rattle.witness_check.specs.declared.checked.Answer.TheVariants.{Nonzero, Zero}

-- a verdict holds of some columns: its chain has the contact generator as its sum, or its functional holds the contact
-- generator and meets every column evenly
abbrev pub HoldsOf : ℕ → List (List ℕ) → Verdict → Type 0
HoldsOf rows cs (Chain js) = Ascends 0 (length cs) js × IsChain rows cs js
HoldsOf rows cs (Functional f) = Ascends 0 rows f × IsFunctional rows cs f

-- an answer holds of some columns: there is such a chain, or such a functional
abbrev pub AnswerHolds : ℕ → List (List ℕ) → Answer → Type 0
AnswerHolds rows cs Zero = (js : List ℕ) × Ascends 0 (length cs) js × IsChain rows cs js
AnswerHolds rows cs Nonzero = (f : List ℕ) × Ascends 0 rows f × IsFunctional rows cs f

-- what the lines of a certificate show of the open book that they write
pub record Shows (c : Certificate) : Type 0 where
  pub version : c.version ≡ 1
  -- an open book, the surface after its slides, its seams, and for each side its arc
  pub book : IsOpenBook (own_book c)
  pub surface : Slid
  pub surface_is : IsSurface (own_book c) surface
  pub seams : c.seams ≡ seam_names c.polygons
  pub basis : c.basis ≡ arcs surface.polygon
  -- the strands are the book's first drawing: embedded and tight, with the words after the twist word
  pub first : Drawing
  pub first_is : IsFirstDrawing (own_book c) surface first
  pub strands : c.strands ≡ first.strands
  -- the fingers are legal one after another, and lead to the nice drawing of the finals
  pub few_fingers : length c.fingers ≤ 20000
  pub last : Drawing
  pub last_is : LeadTo first c.fingers last
  pub finals : c.finals ≡ last.strands
  -- the number of its generators, and its contact generator, which comes last and has an empty column
  pub generators_are : c.generators ≡ length (generators last)
  pub few_generators : c.generators ≤ 20000
  pub points : c.points ≡ contact_generator last
  pub contact : slice_get (generators last) c.contact ≡ Some c.points
  pub contact_last : c.contact + 1 ≡ c.generators
  pub contact_column : column_at (columns last) c.contact ≡ []
  -- the rank of its columns, as many pivots, and the number that is left
  pub rank_is : IsRank c.generators (columns last) c.rank
  pub pivot_count : length c.pivots ≡ c.rank
  pub homology : c.homology ≡ pos c.generators -ℤ pos (2 * c.rank)
  -- and the verdict holds
  pub verdict : HoldsOf c.generators (columns last) c.verdict

-- a text is that of a certificate which shows this; the answer is that of its verdict, and holds
pub record Certifies (text : List ℕ) (answer : Answer) : Type 0 where
  pub certificate : Certificate
  pub text_is : text ≡ certificate_text certificate
  pub shows : Shows certificate
  pub answer_is : answer ≡ answer_of certificate.verdict
  pub answer_holds : AnswerHolds certificate.generators (columns shows.last) answer
