-- The curves of a book on its page joined, one after another.
use Rattle.std.proofs.Common.{◌≡◌, ◌+◌, ◌<◌, ℕ, List, [], ◌∷◌, ◌++◌, length, map, take, get_or, Option, sym, ◌∙◌, ap, subst}
use Rattle.std.proofs.lemmas.List.{map-append, take_more}
use Rattle.obd_base.specs.declared.points.Exit.{Exit}
use Rattle.curve_paths.specs.PathTables.{PagePath}
use Rattle.curve_paths.specs.Through.{exits_through}
use Rattle.handle_slide.specs.Slide.{some_curve}
use Rattle.obd_doc.specs.Document.{IsBook}
use Rattle.obd_doc.specs.declared.book.Book.{Book}
use Rattle.obd_doc.specs.declared.book.NamedCurve.{NamedCurve}
use Rattle.obd_cli.specs.Opened.{paths_of}

-- some curves of a book on the polygon
abbrev pub curves_on : Book → List NamedCurve → List (Option (List Exit))
curves_on book curves = map (λ curve. some_curve (exits_through book.page curve.path)) (paths_of curves)

module _ (book : Book) (valid : IsBook book) (i : ℕ) (named other : NamedCurve) (within : i < length book.curves) (is : named ≡ get_or book.curves i other) where
  -- a curve of the book is on the book's page
  pub on_page : named.curve ≡ record { page = book.page; path = named.path }
  on_page = subst (λ (c : NamedCurve). c.curve ≡ record { page = book.page; path = c.path }) (sym is) (valid.curves_on_page i other within)

  -- one curve more
  pub curves_more : (found now : List (Option (List Exit))) (x : Option (List Exit)) → found ≡ curves_on book (take i book.curves)
      → x ≡ some_curve (exits_through named.curve.page named.curve.path) → now ≡ found ++ x ∷ [] → now ≡ curves_on book (take (i + 1) book.curves)
  curves_more found now x before exits pushed =
      let longer : take (i + 1) book.curves ≡ take i book.curves ++ named ∷ [] = take_more book.curves i other within ∙ ap (λ c. take i book.curves ++ c ∷ []) (sym is) in
      let one : x ≡ some_curve (exits_through book.page named.path) = exits ∙ ap (λ (c : PagePath). some_curve (exits_through c.page c.path)) on_page in
      pushed ∙ (ap (λ es. es ++ x ∷ []) before ∙ (ap (λ e. curves_on book (take i book.curves) ++ e ∷ []) one
      ∙ sym (ap (curves_on book) longer
      ∙ (ap (map (λ curve. some_curve (exits_through book.page curve.path))) (map-append (λ (c : NamedCurve). record { name = c.name; path = c.path }) (take i book.curves) (named ∷ []))
      ∙ map-append (λ curve. some_curve (exits_through book.page curve.path)) (paths_of (take i book.curves)) (paths_of (named ∷ []))))))
