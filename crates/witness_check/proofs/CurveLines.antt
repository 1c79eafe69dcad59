-- The rules of the curve lines speak of the page and of the curves before alone.
use Rattle.std.proofs.Common.{◌≡◌, All, ℕ, zero, suc, ◌+◌, ◌<◌, ◌≤◌, Bool, true, false, not, ◌&&◌, List, [], ◌∷◌, ◌++◌, map, length, take, get_or, Option, Some, None, refl, sym, ◌∙◌, ap, ap₂, arith, subst, inl, inr}
use Rattle.std.specs.List.{list_all, list_any}
use Rattle.std.specs.Prelude.{IfSome, nat_le}
use Rattle.std.specs.Option.{is_none, is_some}
use Rattle.std.specs.Str.{bytes_eq}
use Rattle.std.proofs.lemmas.Bool.{and_parts, cases_lt, leb-true}
use Rattle.std.proofs.lemmas.List.{map_more, take-map}
use Rattle.page_surface.specs.Labels.{Label}
use Rattle.page_surface.proofs.Keys.{list_any-map}
use Rattle.curve_paths.specs.PathRules.{refusal_of as path_refusal}
use Rattle.curve_paths.specs.PathTables.{HaveOccurrences, PagePath}
use Rattle.curve_paths.specs.declared.path.Cross.{Cross}
use Rattle.curve_paths.specs.declared.named.NamedPath.{NamedPath}
use Rattle.witness_check.specs.declared.certificate.Certificate.{Certificate}
use Rattle.witness_check.specs.declared.checked.Reason.TheVariants.{Curve as curve}
use Rattle.witness_check.specs.Lines.{curve_line}
use Rattle.witness_check.specs.Reading.{is_cross, is_name, is_number}
use Rattle.witness_check.specs.BookRules.{CurvesCome, is_curve_name, is_new_curve, on_page}
use Rattle.witness_check.specs.Rules.{curve_rules, rule}
use Rattle.witness_check.specs.Written.{own_book}
use Rattle.witness_check.specs.OpenBook.{curve_names}
use Rattle.witness_check.proofs.EachLine.{broken_where, fault_at, no_fault, same_at}
use Rattle.witness_check.proofs.Prefixes.{take_within}

-- each of the first so many curves is new, and on the page
abbrev pub AreNew : List (List Label) → List NamedPath → ℕ → Type 0
AreNew page curves n = (i : ℕ) (d : NamedPath) → i < n → is_new_curve page (take i curves) (get_or curves i d) ≡ true

-- the rule of one curve line
curve_rule : (page : List (List Label)) (curves more : List NamedPath) (c : Certificate) → c.polygons ≡ page → c.curves ≡ curves ++ more
    → (i : ℕ) (x : NamedPath) → i ≤ length curves → curve_rules c i x ≡ rule curve (is_new_curve page (take i curves) x) ∷ []
curve_rule page curves more c on begins i x within =
    let before : take i (curve_names (own_book c)) ≡ map (λ (y : NamedPath). y.name) (take i curves)
    = take-map (λ (y : NamedPath). y.name) i c.curves ∙ ap (map (λ (y : NamedPath). y.name)) (ap (take i) begins ∙ take_within i curves more within) in
    let named : list_any (bytes_eq x.name) (take i (curve_names (own_book c))) ≡ is_curve_name (take i curves) x.name
    = ap (list_any (bytes_eq x.name)) before ∙ list_any-map (bytes_eq x.name) (λ (y : NamedPath). y.name) (take i curves) in
    ap₂ (λ (name : Bool) (p : List (List Label)). rule curve (not name && is_none (path_refusal p x.path)) ∷ []) named on

-- where all are, no rule is broken
pub curves_kept : (page : List (List Label)) (curves : List NamedPath) (n : ℕ) → length curves ≤ n → AreNew page curves n → CurvesCome page curves None
curves_kept page curves n all new c more on begins =
    no_fault (curve_rules c) curves (λ i d l. broken_where curve _ true (new i d (omega (arith, l, all))) _ (curve_rule page curves more c on begins i (get_or curves i d) (omega (arith, l))))

-- and the first that isn't is the fault
pub curves_fault : (page : List (List Label)) (curves : List NamedPath) (k : ℕ) (x : NamedPath) (found : Option PagePath)
    → k < length curves → x ≡ get_or curves k x → found ≡ None → is_some found ≡ is_new_curve page (take k curves) x → AreNew page curves k
    → CurvesCome page curves (Some (record { at = k; reason = curve }))
curves_fault page curves k x found within is none tells new c more on begins =
    let old : is_new_curve page (take k curves) (get_or curves k x) ≡ false = ap (is_new_curve page (take k curves)) (sym is) ∙ (sym tells ∙ ap is_some none) in
    fault_at (curve_rules c) curves k x (rule curve false) within
    (λ i e l. broken_where curve _ true (new i e l) _ (curve_rule page curves more c on begins i (get_or curves i e) (omega (arith, l, within))))
    (broken_where curve _ false old _ (curve_rule page curves more c on begins k (get_or curves k x) (omega (arith, within))))

-- one more that is
pub curves_more : (page : List (List Label)) (curves : List NamedPath) (k : ℕ) (x : NamedPath) (made : Option PagePath) (it : PagePath) (found now : List PagePath)
    → k < length curves → x ≡ get_or curves k x → made ≡ Some it → IfSome made (λ y. y ≡ record { page = page; path = x.path })
    → is_some made ≡ is_new_curve page (take k curves) x → now ≡ found ++ it ∷ []
    → (found ≡ on_page page (take k curves)) × AreNew page curves k → (now ≡ on_page page (take (k + 1) curves)) × AreNew page curves (k + 1)
curves_more page curves k x made it found now within is some on tells pushed (before, all) =
    let placed : NamedPath → PagePath = λ y. record { page = page; path = y.path } in
    let that : it ≡ placed x = subst (λ (m : Option PagePath). IfSome m (λ y. y ≡ placed x)) some on in
    (pushed ∙ (ap₂ (λ (ps : List PagePath) (p : PagePath). ps ++ p ∷ []) before (that ∙ ap placed is) ∙ sym (map_more placed curves k x within)), longer)
  where
    new : is_new_curve page (take k curves) (get_or curves k x) ≡ true
    new = ap (is_new_curve page (take k curves)) (sym is) ∙ (sym tells ∙ ap is_some some)

    longer : AreNew page curves (k + 1)
    longer i e l = elim (cases_lt i k) [
      | inl less ↦ all i e less
      | inr same ↦ (let one : i ≡ k = omega (arith, l, same) in
          subst (λ j. is_new_curve page (take j curves) (get_or curves j e) ≡ true) (sym one)
          (subst (λ y. is_new_curve page (take k curves) y ≡ true) (same_at curves k x e within) new))
    ]

-- curves on a page have this page
pub have_page : (page : List (List Label)) (curves : List NamedPath) (found : List PagePath) → found ≡ on_page page curves → All (λ curve. curve.page ≡ page) found
have_page page curves found are = subst (λ (ps : List PagePath). All (λ curve. curve.page ≡ page) ps) (sym are) (each_has curves)
  where
    each_has : (ys : List NamedPath) (k : ℕ) (d : PagePath) → k < length (on_page page ys) → (get_or (on_page page ys) k d).page ≡ page
    each_has [] k d l = absurd (omega (arith, l))
    each_has (y ∷ ys) zero d l = refl
    each_has (y ∷ ys) (suc k) d l = each_has ys k d (omega (arith, l))

-- where some curves may be written, their crossings have occurrences
pub have_occurrences : (curves : List NamedPath) → list_all curve_line.fits curves ≡ true → All (λ curve. HaveOccurrences curve.path) curves
have_occurrences curves fit k d l = each_crossing (get_or curves k d).path (and_parts _ _ (at_place curves k fit l)).1
  where
    at_place : (cs : List NamedPath) (j : ℕ) → list_all curve_line.fits cs ≡ true → j < length cs → curve_line.fits (get_or cs j d) ≡ true
    at_place [] j fit l = absurd (omega (arith, l))
    at_place (x ∷ cs) zero fit l = (and_parts (curve_line.fits x) (list_all curve_line.fits cs) fit).0
    at_place (x ∷ cs) (suc j) fit l = at_place cs j (and_parts (curve_line.fits x) (list_all curve_line.fits cs) fit).1 (omega (arith, l))

    each_crossing : (path : List Cross) → list_all is_cross path ≡ true → (i : ℕ) (e : Cross) → i < length path → (get_or path i e).occurrence ≤ 1
    each_crossing [] all i e l = absurd (omega (arith, l))
    each_crossing (x ∷ path) all zero e l =
        let one : is_cross x ≡ true = (and_parts (is_cross x) (list_all is_cross path) all).0 in
        leb-true x.occurrence 1 (and_parts (nat_le x.occurrence 1) (is_number x.place) (and_parts (is_name x.label) _ one).1).0
    each_crossing (x ∷ path) all (suc i) e l = each_crossing path (and_parts (is_cross x) (list_all is_cross path) all).1 i e (omega (arith, l))
