-- The rules of a book, stage by stage.
use Rattle.std.proofs.Common.{◌≡◌, ℕ, not, List, [], ◌∷◌, ◌++◌, map, position, Option, None, Some, option_map, refl, ◌∙◌, ap, subst}
use Rattle.std.specs.List.{list_any}
use Rattle.std.specs.Str.{bytes_eq}
use Rattle.page_surface.specs.Labels.{Label}
use Rattle.page_surface.specs.Page.{refusal_of as page_refusal}
use Rattle.curve_paths.specs.declared.twist.Twist.{Twist}
use Rattle.obd_base.specs.Options.{first_of}
use Rattle.obd_doc.specs.Document.{all_curve_rules, book_of, book_rules, curve_on, names_of, twist_about, twist_rule}
use Rattle.obd_doc.specs.declared.book.NamedCurve.{NamedCurve}
use Rattle.curve_paths.specs.declared.named.NamedPath.{NamedPath}
use Rattle.curve_paths.specs.declared.named.NamedTwist.{NamedTwist}
use Rattle.obd_doc.specs.declared.fields.Fields.{Fields}
use Rattle.obd_doc.specs.declared.refusal.DocRefusal.{DocRefusal}
use Rattle.obd_doc.specs.declared.refusal.DocRefusal.TheVariants.{Page as NoPage, UnknownCurve}
use Rattle.obd_base.proofs.Options.{skip, stop}

-- the rule of the page
abbrev pub page_rule : List (List Label) → List (Option DocRefusal)
page_rule polygons = option_map NoPage (page_refusal polygons) ∷ []

-- the rule of the twists, for curves with these names
abbrev pub twists_rule : List (List ℕ) → List NamedTwist → List (Option DocRefusal)
twists_rule names entries = option_map UnknownCurve (position (λ twist. not (list_any (bytes_eq twist.name) names)) entries) ∷ []

module _ (f : Fields) (page : List (List Label)) (paths : List NamedPath) (is : page ≡ f.polygons) (seen : paths ≡ f.curves) (no_page : first_of (page_rule f.polygons) ≡ None) where
  found_in_curves : (found : Option DocRefusal) → first_of (all_curve_rules page [] paths) ≡ found → first_of (all_curve_rules f.polygons [] f.curves) ≡ found
  found_in_curves found h = subst (λ (p : List (List Label)). first_of (all_curve_rules p [] f.curves) ≡ found) is (subst (λ (ps : List NamedPath). first_of (all_curve_rules page [] ps) ≡ found) seen h)

  pub curves_refused : (refusal : DocRefusal) → first_of (all_curve_rules page [] paths) ≡ Some refusal → first_of (book_rules f) ≡ Some refusal
  curves_refused refusal found =
      skip (page_rule f.polygons) (all_curve_rules f.polygons [] f.curves ++ twist_rule f ∷ []) (Some refusal) no_page
      (stop (all_curve_rules f.polygons [] f.curves) (twist_rule f ∷ []) refusal (found_in_curves (Some refusal) found))

  module _ (names : List (List ℕ)) (entries : List NamedTwist) (names_are : names ≡ names_of paths) (seen_entries : entries ≡ f.twists) (no_curve : first_of (all_curve_rules page [] paths) ≡ None) where
    names_of_all : names ≡ names_of f.curves
    names_of_all = names_are ∙ ap names_of seen

    after_curves : (found : Option DocRefusal) → first_of (twists_rule names entries) ≡ found → first_of (book_rules f) ≡ found
    after_curves found h =
        skip (page_rule f.polygons) (all_curve_rules f.polygons [] f.curves ++ twist_rule f ∷ []) found no_page
        (skip (all_curve_rules f.polygons [] f.curves) (twist_rule f ∷ []) found (found_in_curves None no_curve)
        (subst (λ (ns : List (List ℕ)). first_of (twists_rule ns f.twists) ≡ found) names_of_all (subst (λ (es : List NamedTwist). first_of (twists_rule names es) ≡ found) seen_entries h)))

    pub twists_refused : (refusal : DocRefusal) → first_of (twists_rule names entries) ≡ Some refusal → first_of (book_rules f) ≡ Some refusal
    twists_refused refusal = after_curves (Some refusal)

    pub book_made : (curves : List NamedCurve) (twists : List Twist) → curves ≡ map (curve_on page) paths → first_of (twists_rule names entries) ≡ None → twists ≡ map (twist_about names) entries
        → (first_of (book_rules f) ≡ None) × (record { polygons = f.polygons; page = page; curves = curves; twists = twists; slides = f.slides; limits = f.limits } ≡ book_of f)
    book_made curves twists curves_are none twists_are =
        let cs : curves ≡ map (curve_on f.polygons) f.curves = curves_are ∙ (ap (λ (p : List (List Label)). map (curve_on p) paths) is ∙ ap (map (curve_on f.polygons)) seen) in
        let ts : twists ≡ map (twist_about (names_of f.curves)) f.twists = twists_are ∙ (ap (λ (ns : List (List ℕ)). map (twist_about ns) entries) names_of_all ∙ ap (map (twist_about (names_of f.curves))) seen_entries) in
        (after_curves None none, rw (is, cs, ts) refl)
