-- What is known of a text between the lines of a check.
use Rattle.std.specs.Prelude.{◌≡◌, ℕ, List}
use Rattle.page_surface.specs.Drawing.{Drawing}
use Rattle.page_surface.specs.Labels.{Label}
use Rattle.page_surface.specs.Polygon.{Polygon, arc_count}
use Rattle.curve_paths.specs.declared.named.NamedPath.{NamedPath}
use Rattle.handle_slide.specs.declared.slid.Slid.{Slid}
use Rattle.mod2_rank.specs.declared.outcome.Pivot.{Pivot}
use Rattle.witness_check.specs.declared.certificate.Certificate.{Certificate}
use Rattle.witness_check.specs.declared.checked.Answer.{Answer}
use Rattle.witness_check.specs.declared.fault.Refusal.{Refusal}
use Rattle.witness_check.specs.declared.fault.Refusal.TheVariants.{Bad as badly, NoMemory as no_memory}
use Rattle.witness_check.specs.declared.checked.Checked.TheVariants.{Bad as bad}
use Rattle.witness_check.specs.Checked.{answer_of, checked}
use Rattle.witness_check.specs.DrawingRules.{HasGenerators}
use Rattle.witness_check.specs.FieldsOn.{basis_fields, contact_fields, curves_fields, fingers_fields, finals_fields, generators_fields, homology_fields, polygons_fields, rank_fields, seams_fields, slides_fields, twists_fields, verdict_fields}
use Rattle.witness_check.specs.Forms.{Section, one}
use Rattle.witness_check.specs.Grammar.{drawn_form, drawn_of, outcome_form, outcome_of}
use Rattle.witness_check.specs.Lines.{end_line}
use Rattle.witness_check.specs.Passing.{Lines, Passes}
use Rattle.witness_check.specs.Rules.{Rule, last_columns}
use Rattle.witness_check.specs.RulesOn.{basis_on_rules, contact_on_rules, curves_on_rules, end_on_rules, finals_on_rules, fingers_on_rules, generators_on_rules, homology_on_rules, pivots_on_rules, polygons_on_rules, rank_on_rules, seams_on_rules, slides_on_rules, strands_on_rules, twists_on_rules, verdict_on_rules}
use Rattle.witness_check.specs.Stages.{basis_on, contact_on, curves_on, finals_on, fingers_on, generators_on, homology_on, polygons_on, rank_on, seams_on, slides_on, twists_on, verdict_on}
use Rattle.witness_check.specs.Written.{first_drawing, last_drawing, last_words, polygon, surface}

-- The lines so far keep their rules. Whatever the lines that are left say, there is a certificate that begins with the lines so far and
-- has that as its further fields; something is known of each such certificate; and the rules of the lines that are left decide.
pub record After {B : Type 0} (section : Section B) (rules : Certificate → List (List Rule)) (fields : Certificate → B) (known : Certificate → Type 0) (text : List ℕ) (lines : Lines) : Type 0 where
  pub to : B → Certificate
  pub fields_are : (b : B) → fields (to b) ≡ b
  pub knows : (b : B) → known (to b)
  pub passes : Passes text lines to section rules

-- what a refusal says of the text
abbrev pub Refutes : List ℕ → Refusal → Type 0
Refutes text (badly line reason) = checked text ≡ bad line reason
Refutes text no_memory = Unit {0}

-- the line of the version is passed
abbrev pub AfterVersion : List ℕ → Lines → Type 0
AfterVersion = After polygons_on polygons_on_rules polygons_fields (λ c. Unit {0})

-- and those of the polygons, which are this page
abbrev pub AfterPolygons : List (List Label) → List ℕ → Lines → Type 0
AfterPolygons page = After curves_on curves_on_rules curves_fields (λ c. c.polygons ≡ page)

-- and of the curves, which are these
pub record HasCurves (page : List (List Label)) (curves : List NamedPath) (c : Certificate) : Type 0 where
  pub page_is : c.polygons ≡ page
  pub curves_are : c.curves ≡ curves

abbrev pub AfterCurves : List (List Label) → List NamedPath → List ℕ → Lines → Type 0
AfterCurves page curves = After slides_on slides_on_rules slides_fields (HasCurves page curves)

-- and of the slides, which leave this surface
pub record HasSurface (page : List (List Label)) (curves : List NamedPath) (s : Slid) (c : Certificate) : Type 0 where
  pub page_is : c.polygons ≡ page
  pub curves_are : c.curves ≡ curves
  pub surface_is : surface c ≡ s

abbrev pub AfterSlides : List (List Label) → List NamedPath → Slid → List ℕ → Lines → Type 0
AfterSlides page curves s = After twists_on twists_on_rules twists_fields (HasSurface page curves s)

-- and of the twists, which give these words
pub record HasWords (p : Polygon) (words : List (List ℕ)) (c : Certificate) : Type 0 where
  pub polygon_is : polygon c ≡ p
  pub words_are : last_words c ≡ words

pub record HasPageWords (page : List (List Label)) (p : Polygon) (words : List (List ℕ)) (c : Certificate) : Type 0 where
  pub page_is : c.polygons ≡ page
  pub has_words : HasWords p words c

abbrev pub AfterTwists : List (List Label) → Polygon → List (List ℕ) → List ℕ → Lines → Type 0
AfterTwists page p words = After seams_on seams_on_rules seams_fields (HasPageWords page p words)

-- and of the seams and the basis
abbrev pub AfterSeams : Polygon → List (List ℕ) → List ℕ → Lines → Type 0
AfterSeams p words = After basis_on basis_on_rules basis_fields (HasWords p words)

abbrev pub AfterBook : Polygon → List (List ℕ) → List ℕ → Lines → Type 0
AfterBook p words = After (drawn_form (arc_count p)) strands_on_rules drawn_of (HasWords p words)

-- and of the strands, which are this drawing
abbrev pub AfterStrands : Drawing → List ℕ → Lines → Type 0
AfterStrands d = After (fingers_on (arc_count d.polygon)) fingers_on_rules fingers_fields (λ c. first_drawing c ≡ d)

-- and of the fingers, which lead to this drawing
abbrev pub AfterFingers : Drawing → List ℕ → Lines → Type 0
AfterFingers d = After (finals_on (arc_count d.polygon)) finals_on_rules finals_fields (λ c. last_drawing c ≡ d)

-- and of the finals
abbrev pub AfterFinals : Drawing → List ℕ → Lines → Type 0
AfterFinals d = After (generators_on (arc_count d.polygon)) generators_on_rules generators_fields (λ c. last_drawing c ≡ d)

-- and of the generators, which are so many
abbrev pub AfterGenerators : Drawing → ℕ → List ℕ → Lines → Type 0
AfterGenerators d count = After (contact_on (arc_count d.polygon)) contact_on_rules contact_fields (HasGenerators d count)

-- and of the contact generator
abbrev pub AfterDrawing : Drawing → ℕ → List ℕ → Lines → Type 0
AfterDrawing d count = After outcome_form pivots_on_rules outcome_of (HasGenerators d count)

-- the columns of the last drawing, and how many generators it has
pub record HasColumns (columns : List (List ℕ)) (count : ℕ) (c : Certificate) : Type 0 where
  pub columns_are : last_columns c ≡ columns
  pub count_is : c.generators ≡ count

-- and the pivots
pub record HasPivots (columns : List (List ℕ)) (count : ℕ) (pivots : List Pivot) (c : Certificate) : Type 0 where
  pub columns_are : last_columns c ≡ columns
  pub count_is : c.generators ≡ count
  pub pivots_are : c.pivots ≡ pivots

-- and the rank
pub record HasRank (columns : List (List ℕ)) (count rank : ℕ) (c : Certificate) : Type 0 where
  pub columns_are : last_columns c ≡ columns
  pub count_is : c.generators ≡ count
  pub rank_is : c.rank ≡ rank

-- the lines of the columns' drawing are passed, and one after another those of the pivots, the rank, the homology and the verdict
abbrev pub AfterColumns : List (List ℕ) → ℕ → List ℕ → Lines → Type 0
AfterColumns columns count = After outcome_form pivots_on_rules outcome_of (HasColumns columns count)

abbrev pub AfterPivots : List (List ℕ) → ℕ → List Pivot → List ℕ → Lines → Type 0
AfterPivots columns count pivots = After rank_on rank_on_rules rank_fields (HasPivots columns count pivots)

abbrev pub AfterRank : List (List ℕ) → ℕ → ℕ → List ℕ → Lines → Type 0
AfterRank columns count rank = After homology_on homology_on_rules homology_fields (HasRank columns count rank)

abbrev pub AfterHomology : List (List ℕ) → ℕ → List ℕ → Lines → Type 0
AfterHomology columns count = After verdict_on verdict_on_rules verdict_fields (HasColumns columns count)

abbrev pub AfterVerdict : Answer → List ℕ → Lines → Type 0
AfterVerdict answer = After (one end_line) end_on_rules (λ c. tt) (λ c. answer_of c.verdict ≡ answer)
