-- What a book that was read keeps.
use Rattle.std.specs.Prelude.{◌≡◌, ℕ, ℤ, ◌≤◌, ◌<◌, true, List, length, All, unsigned_abs}
use Rattle.obd_base.specs.Lists.{Once}
use Rattle.page_surface.specs.Labels.{Label}
use Rattle.page_surface.specs.Page.{IsPage}
use Rattle.curve_paths.specs.PathRules.{IsPath}
use Rattle.curve_paths.specs.PathTables.{HaveOccurrences}
use Rattle.curve_paths.specs.declared.twist.Twist.{Twist}
use Rattle.obd_doc.specs.Document.{curve_names}
use Rattle.obd_doc.specs.Values.{is_name}
use Rattle.obd_doc.specs.declared.book.Book.{Book}
use Rattle.obd_doc.specs.declared.book.NamedCurve.{NamedCurve}

-- 1 to 16 letters, digits and `_`
abbrev pub IsName : List ℕ → Type 0
IsName word = is_name word ≡ true

-- a power of a twist: from -64 to 64, and not 0
pub record IsTwistPower (power : ℤ) : Type 0 where
  pub some : 1 ≤ unsigned_abs power
  pub most : unsigned_abs power ≤ 64

-- a curve of a book on a page: its name is a name, its crossings leave by occurrence 0 or 1, and the page takes its path
pub record IsCurveOf (page : List (List Label)) (curve : NamedCurve) : Type 0 where
  pub named : IsName curve.name
  pub occurrences : HaveOccurrences curve.path
  pub path : IsPath page curve.path

-- an entry of a twist word: about a curve of the book
pub record IsEntryOf (book : Book) (twist : Twist) : Type 0 where
  pub known : twist.curve < length book.curves
  pub power : IsTwistPower twist.power

-- a book that keeps all rules
pub record IsAccepted (book : Book) : Type 0 where
  -- a page, by labels that are names
  pub page : IsPage book.page
  pub labels : All (All IsName) book.page
  -- at most 32 curves on it, of different names
  pub few_curves : length book.curves ≤ 32
  pub curves : All (IsCurveOf book.page) book.curves
  pub different : Once (curve_names book)
  -- at most 64 slides, along sides 0 to 15
  pub few_slides : length book.slides ≤ 64
  pub slides : All (λ side. side ≤ 15) book.slides
  -- at most 256 twists
  pub few_twists : length book.twists ≤ 256
  pub twists : All (IsEntryOf book) book.twists
