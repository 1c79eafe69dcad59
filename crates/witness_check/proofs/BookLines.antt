-- The lines of an open book from its polygons to its twists keep their rules.
use Rattle.std.proofs.Common.{◌≡◌, ℕ, zero, suc, ◌≤◌, true, false, not, ◌&&◌, eqb, leb, ltb, List, [], ◌∷◌, length, map, take, Option, Some, None, refl, sym, ◌∙◌, ap, arith, le-leb, ltb-false}
use Rattle.std.specs.Prelude.{Ok, Err, Result, is_ok, unsigned_abs}
use Rattle.std.specs.Option.{is_none, option_map_or}
use Rattle.std.specs.List.{list_any, position_or_len}
use Rattle.std.specs.Str.{bytes_eq}
use Rattle.std.proofs.lemmas.Bool.{and_from}
use Rattle.std.proofs.lemmas.List.{take-map}
use Rattle.obd_base.specs.declared.points.Exit.{Exit}
use Rattle.obd_base.proofs.Options.{each_none, fails_where_none}
use Rattle.page_surface.specs.Labels.{Label}
use Rattle.page_surface.specs.Page.{IsPage, refusals, refusal_of as page_refusal}
use Rattle.page_surface.specs.Polygon.{Polygon}
use Rattle.page_surface.specs.declared.refusal.PageRefusal.TheVariants.{NoPolygon, TooManyPolygons}
use Rattle.curve_paths.specs.Curves.{identity_words}
use Rattle.curve_paths.specs.PathRules.{refusal_of as path_refusal}
use Rattle.curve_paths.specs.Twists.{by_entries, by_entry, exits_of, going_on}
use Rattle.curve_paths.specs.declared.named.NamedPath.{NamedPath}
use Rattle.curve_paths.specs.declared.named.NamedTwist.{NamedTwist}
use Rattle.curve_paths.specs.declared.twist.TooLong.{TooLong}
use Rattle.curve_paths.specs.declared.twist.Twist.{Twist}
use Rattle.handle_slide.specs.Refused.{after_slide, refusal_of as slide_refusal}
use Rattle.handle_slide.specs.Slides.{slid}
use Rattle.handle_slide.specs.declared.refusal.SlideRefusal.{SlideRefusal}
use Rattle.handle_slide.specs.declared.slid.Slid.{Slid}
use Rattle.witness_check.specs.OpenBook.{IsCurveOn, IsOpenBook, IsTwistOf, curve_names, entries, joined_surface, surface_of}
use Rattle.witness_check.specs.Written.{own_book, slid_by, surface, words_by}
use Rattle.witness_check.specs.declared.certificate.Certificate.{Certificate}
use Rattle.witness_check.specs.declared.checked.Reason.TheVariants.{Page as page, Limit as limit, Curve as curve, Slide as slide, Twist as twist}
use Rattle.witness_check.specs.Rules.{book_rules, curve_rules, each, is_power, polygon_count, polygon_rules, rule, slide_rules, twist_rules}
use Rattle.witness_check.proofs.Kept.{at_all, at_map, keep_all, keep_append, keep_each, keep_last, keep_line, keep_one, keep_two, no_name, not_before, some_name}

-- the first two rules of a page
pub page_count : (polygons : List (List Label)) → IsPage polygons → (1 ≤ length polygons) × (length polygons ≤ 16)
page_count polygons h =
    let (some, (few, rest)) = each_none (refusals polygons) h in
    (at_least polygons (fails_where_none (eqb (length polygons) 0) NoPolygon some), ltb-false 16 (length polygons) (fails_where_none (ltb 16 (length polygons)) (TooManyPolygons (length polygons)) few))
  where
    at_least : (ps : List (List Label)) → eqb (length ps) 0 ≡ false → 1 ≤ length ps
    at_least [] e = cc
    at_least (p ∷ ps) e = omega arith

-- slides that are accepted to the end are accepted on the way
slid_before : (number k : ℕ) (ks : List ℕ) (s : Slid) → is_ok (slid number s ks) ≡ true → is_ok (slid number s (take k ks)) ≡ true
slid_before number zero ks s h = refl
slid_before number (suc k) [] s h = refl
slid_before number (suc k) (side ∷ ks) s h = go (slide_refusal s.polygon s.curves side) h (slid_before (suc number) k ks (after_slide s side))
  where
    go : (r : Option SlideRefusal) → is_ok (option_map_or (λ reason. Err (record { slide = number; side = side; reason = reason })) r (slid (suc number) (after_slide s side) ks)) ≡ true
        → (is_ok (slid (suc number) (after_slide s side) ks) ≡ true → is_ok (slid (suc number) (after_slide s side) (take k ks)) ≡ true)
        → is_ok (option_map_or (λ reason. Err (record { slide = number; side = side; reason = reason })) r (slid (suc number) (after_slide s side) (take k ks))) ≡ true
    go None e f = f e
    go (Some reason) e f = e

-- words that are short to the end are short on the way
words_before : (p : Polygon) (curves : List (List Exit)) (number k : ℕ) (ts : List Twist) (ws : List (List ℕ)) → is_ok (by_entries p curves number ts ws) ≡ true
    → is_ok (by_entries p curves number (take k ts) ws) ≡ true
words_before p curves number zero ts ws h = refl
words_before p curves number (suc k) [] ws h = refl
words_before p curves number (suc k) (t ∷ ts) ws h = go (by_entry p curves number t ws) h (λ vs. words_before p curves (suc number) k ts vs)
  where
    go : (r : Result (List (List ℕ)) TooLong) → is_ok (going_on (by_entries p curves (suc number) ts) r) ≡ true
        → ((vs : List (List ℕ)) → is_ok (by_entries p curves (suc number) ts vs) ≡ true → is_ok (by_entries p curves (suc number) (take k ts) vs) ≡ true)
        → is_ok (going_on (by_entries p curves (suc number) (take k ts)) r) ≡ true
    go (Err why) e f = e
    go (Ok vs) e f = f vs e

-- an entry of the twist word by the number of its curve
abbrev entry : Certificate → NamedTwist → Twist
entry c t = record { curve = position_or_len (bytes_eq t.name) (curve_names (own_book c)); power = t.power }

pub book_lines : (c : Certificate) → IsOpenBook (own_book c) → is_ok (surface_of (own_book c)) ≡ true → is_ok (words_by c c.twists) ≡ true → keep_all (book_rules c) ≡ true
book_lines c ok accepted words =
    keep_append ([] ∷ (polygon_count c ∷ each (polygon_rules c) c.polygons)) _ page_lines
    (keep_append ((rule limit (leb (length c.curves) 32) ∷ []) ∷ each (curve_rules c) c.curves) _ curve_lines
    (keep_append ((rule limit (leb (length c.slides) 64) ∷ []) ∷ each (slide_rules c) c.slides) _ slide_lines twist_lines))
  where
    page_lines : keep_all ([] ∷ (polygon_count c ∷ each (polygon_rules c) c.polygons)) ≡ true
    page_lines =
        let (a, b) = page_count c.polygons ok.page in
        keep_line [] (polygon_count c ∷ each (polygon_rules c) c.polygons) refl
        (keep_line (polygon_count c) (each (polygon_rules c) c.polygons)
        (keep_one (rule page (leb 1 (length c.polygons) && leb (length c.polygons) 16)) (and_from (leb 1 (length c.polygons)) (leb (length c.polygons) 16) (le-leb _ _ a) (le-leb _ _ b)))
        (keep_each (polygon_rules c) c.polygons (λ i labels at. keep_last c.polygons i (rule page (is_none (page_refusal c.polygons))) (ap is_none ok.page))))

    curve_lines : keep_all ((rule limit (leb (length c.curves) 32) ∷ []) ∷ each (curve_rules c) c.curves) ≡ true
    curve_lines =
        keep_line (rule limit (leb (length c.curves) 32) ∷ []) (each (curve_rules c) c.curves)
        (keep_one (rule limit (leb (length c.curves) 32)) (le-leb _ _ ok.few_curves))
        (keep_each (curve_rules c) c.curves (λ i e at.
        keep_one (rule curve (not (list_any (bytes_eq e.name) (take i (curve_names (own_book c)))) && is_none (path_refusal c.polygons e.path)))
        (and_from (not (list_any (bytes_eq e.name) (take i (curve_names (own_book c))))) (is_none (path_refusal c.polygons e.path))
        (ap not (no_name e.name (take i (curve_names (own_book c))) (not_before (curve_names (own_book c)) i e.name ok.different (at_map (λ (x : NamedPath). x.name) c.curves i e at))))
        (ap is_none (at_all (IsCurveOn c.polygons) c.curves i e ok.curves at).path))))

    slide_lines : keep_all ((rule limit (leb (length c.slides) 64) ∷ []) ∷ each (slide_rules c) c.slides) ≡ true
    slide_lines =
        keep_line (rule limit (leb (length c.slides) 64) ∷ []) (each (slide_rules c) c.slides)
        (keep_one (rule limit (leb (length c.slides) 64)) (le-leb _ _ ok.few_slides))
        (keep_each (slide_rules c) c.slides (λ i k at.
        keep_one (rule slide (is_ok (slid_by c (take (suc i) c.slides)))) (slid_before 0 (suc i) c.slides (joined_surface (own_book c)) accepted)))

    short : (i : ℕ) → is_ok (words_by c (take (suc i) c.twists)) ≡ true
    short i =
        ap (λ ts. is_ok (by_entries (surface c).polygon (map exits_of (surface c).curves) 0 ts (identity_words (surface c).polygon))) (sym (take-map (entry c) (suc i) c.twists))
        ∙ words_before (surface c).polygon (map exits_of (surface c).curves) 0 (suc i) (entries (own_book c)) (identity_words (surface c).polygon) words

    twist_lines : keep_all ((rule limit (leb (length c.twists) 256) ∷ []) ∷ each (twist_rules c) c.twists) ≡ true
    twist_lines =
        keep_line (rule limit (leb (length c.twists) 256) ∷ []) (each (twist_rules c) c.twists)
        (keep_one (rule limit (leb (length c.twists) 256)) (le-leb _ _ ok.few_twists))
        (keep_each (twist_rules c) c.twists (λ i t at.
        let is = at_all (IsTwistOf (own_book c)) c.twists i t ok.twists at in
        keep_two (rule twist (list_any (bytes_eq t.name) (curve_names (own_book c)) && is_power t.power)) (rule limit (is_ok (words_by c (take (suc i) c.twists))))
        (and_from (list_any (bytes_eq t.name) (curve_names (own_book c))) (is_power t.power)
        (some_name t.name (curve_names (own_book c)) is.known)
        (and_from (leb 1 (unsigned_abs t.power)) (leb (unsigned_abs t.power) 64) (le-leb _ _ is.some_power) (le-leb _ _ is.most_power)))
        (short i)))
