-- Curves that are tried one after another.
use Rattle.std.proofs.Common.{◌≡◌, ℕ, ◌+◌, ◌<◌, ◌≤◌, List, [], ◌∷◌, ◌++◌, map, take, drop, length, get_or, None, Some, String, Global, string_bytes, refl, sym, ◌∙◌, ap}
use Rattle.std.proofs.lemmas.List.{drop_all, drop_more, map-append, take_more, take_all}
use Rattle.page_surface.specs.Labels.{Label}
use Rattle.obd_base.specs.Options.{first_of}
use Rattle.obd_doc.specs.Document.{all_curve_rules, curve_on, curve_rules, names_of}
use Rattle.obd_doc.specs.declared.book.NamedCurve.{NamedCurve}
use Rattle.curve_paths.specs.declared.named.NamedPath.{NamedPath}
use Rattle.obd_doc.specs.declared.refusal.DocRefusal.{DocRefusal}
use Rattle.obd_base.proofs.Options.{skip, stop}

-- the first curves keep their rules and are made, and what is left are the rules of the others
pub record AreCurvesSoFar (page : List (List Label)) (paths : List NamedPath) (i : ℕ) (keys : List (String Global)) (curves : List NamedCurve) : Type 0 where
  pub names : map string_bytes keys ≡ names_of (take i paths)
  pub made : curves ≡ map (curve_on page) (take i paths)
  pub left : first_of (all_curve_rules page [] paths) ≡ first_of (all_curve_rules page (names_of (take i paths)) (drop i paths))

pub none_so_far : (page : List (List Label)) (paths : List NamedPath) (keys : List (String Global)) (curves : List NamedCurve) → keys ≡ [] → curves ≡ [] → AreCurvesSoFar page paths 0 keys curves
none_so_far page paths keys curves no_keys no_curves = record { names = ap (map string_bytes) no_keys; made = no_curves; left = refl }

module _ (page : List (List Label)) (paths : List NamedPath) (i : ℕ) (named : NamedPath) (within : i < length paths) (is : named ≡ get_or paths i named)
    (keys : List (String Global)) (curves : List NamedCurve) (so_far : AreCurvesSoFar page paths i keys curves) where
  split : drop i paths ≡ named ∷ drop (i + 1) paths
  split = drop_more paths i named within ∙ ap (λ x. x ∷ drop (i + 1) paths) (sym is)

  rules_are : first_of (all_curve_rules page [] paths) ≡ first_of (curve_rules page (map string_bytes keys) named ++ all_curve_rules page (names_of (take i paths) ++ named.name ∷ []) (drop (i + 1) paths))
  rules_are = so_far.left ∙ (ap (λ ps. first_of (all_curve_rules page (names_of (take i paths)) ps)) split
      ∙ ap (λ names. first_of (curve_rules page names named ++ all_curve_rules page (names_of (take i paths) ++ named.name ∷ []) (drop (i + 1) paths))) (sym so_far.names))

  one_more : take (i + 1) paths ≡ take i paths ++ named ∷ []
  one_more = take_more paths i named within ∙ ap (λ x. take i paths ++ x ∷ []) (sym is)

  -- a curve that keeps its rules
  pub curve_made : (now_keys : List (String Global)) (now : List NamedCurve) (curve : NamedCurve) → first_of (curve_rules page (map string_bytes keys) named) ≡ None → curve ≡ curve_on page named
      → map string_bytes now_keys ≡ map string_bytes keys ++ named.name ∷ [] → now ≡ curves ++ curve ∷ [] → AreCurvesSoFar page paths (i + 1) now_keys now
  curve_made now_keys now curve none made keys_are pushed =
      let names : names_of (take (i + 1) paths) ≡ names_of (take i paths) ++ named.name ∷ [] = ap names_of one_more ∙ map-append (λ (p : NamedPath). p.name) (take i paths) (named ∷ []) in
      record {
        names = keys_are ∙ (ap (λ ns. ns ++ named.name ∷ []) so_far.names ∙ sym names);
        made = pushed ∙ (ap (λ cs. cs ++ curve ∷ []) so_far.made ∙ (ap (λ x. map (curve_on page) (take i paths) ++ x ∷ []) made
            ∙ (sym (map-append (curve_on page) (take i paths) (named ∷ [])) ∙ sym (ap (map (curve_on page)) one_more))));
        left = rules_are ∙ (skip (curve_rules page (map string_bytes keys) named) _ _ none refl ∙ ap (λ ns. first_of (all_curve_rules page ns (drop (i + 1) paths))) (sym names));
      }

  -- a curve that doesn't
  pub curve_refused : (refusal : DocRefusal) → first_of (curve_rules page (map string_bytes keys) named) ≡ Some refusal → first_of (all_curve_rules page [] paths) ≡ Some refusal
  curve_refused refusal found = rules_are ∙ stop (curve_rules page (map string_bytes keys) named) _ refusal found

-- all curves
pub all_made : (page : List (List Label)) (paths : List NamedPath) (i : ℕ) (keys : List (String Global)) (curves : List NamedCurve) → length paths ≤ i → AreCurvesSoFar page paths i keys curves
    → (map string_bytes keys ≡ names_of paths) × (first_of (all_curve_rules page [] paths) ≡ None) × (curves ≡ map (curve_on page) paths)
all_made page paths i keys curves end so_far =
    let all = take_all i paths end in (
      so_far.names ∙ ap names_of all,
      so_far.left ∙ ap (λ ps. first_of (all_curve_rules page (names_of (take i paths)) ps)) (drop_all i paths end),
      so_far.made ∙ ap (map (curve_on page)) all,
    )
