-- The rules of the slide lines, by what the slides leave of the page and the curves.
use Rattle.std.proofs.Common.{◌≡◌, ℕ, zero, suc, ◌+◌, ◌^◌, ◌<◌, true, false, List, [], ◌∷◌, ◌++◌, map, length, take, get_or, Option, Some, None, Result, Ok, Err, refl, sym, ◌∙◌, ap, ap₂, arith}
use Rattle.std.specs.Prelude.{is_ok}
use Rattle.std.specs.Option.{option_map_or}
use Rattle.std.specs.Result.{result_unwrap_or}
use Rattle.obd_base.specs.declared.points.Exit.{Exit}
use Rattle.page_surface.specs.Joining.{page_polygon}
use Rattle.page_surface.specs.Labels.{Label}
use Rattle.curve_paths.specs.PathTables.{PagePath}
use Rattle.curve_paths.specs.Through.{exits_through}
use Rattle.curve_paths.specs.declared.named.NamedPath.{NamedPath}
use Rattle.handle_slide.specs.Refused.{after_slide, refusal_of}
use Rattle.handle_slide.specs.Slide.{some_curve}
use Rattle.handle_slide.specs.Slides.{slid}
use Rattle.handle_slide.specs.declared.refusal.RefusedSlide.{RefusedSlide}
use Rattle.handle_slide.specs.declared.refusal.SlideRefusal.{SlideRefusal}
use Rattle.handle_slide.specs.declared.slid.Slid.{Slid}
use Rattle.witness_check.specs.declared.certificate.Certificate.{Certificate}
use Rattle.witness_check.specs.declared.checked.Reason.TheVariants.{Slide as slide}
use Rattle.witness_check.specs.BookRules.{SlidesCome, SlidesLeave, joined_curves, joined_with, on_page}
use Rattle.witness_check.specs.OpenBook.{joined_surface}
use Rattle.witness_check.specs.Rules.{rule, slide_rules}
use Rattle.witness_check.specs.Written.{own_book, slid_by, surface}
use Rattle.witness_check.proofs.EachLine.{Breaks, broken_where, breaks_here, breaks_later, fault_at, no_fault}
use Rattle.witness_check.proofs.Prefixes.{take_within}

-- where all slides are accepted, so are the first ones
accepted : (n : ℕ) (s now : Slid) (slides : List ℕ) → slid n s slides ≡ Ok now → (i : ℕ) → is_ok (slid n s (take i slides)) ≡ true
accepted n s now slides all zero = refl
accepted n s now [] all (suc i) = refl
accepted n s now (side ∷ slides) all (suc i) = go (refusal_of s.polygon s.curves side) all (λ rest. accepted (suc n) (after_slide s side) now slides rest i)
  where
    step : Option SlideRefusal → List ℕ → Result Slid RefusedSlide
    step refusal rest = option_map_or (λ reason. Err (record { slide = n; side = side; reason = reason })) refusal (slid (suc n) (after_slide s side) rest)

    go : (refusal : Option SlideRefusal) → step refusal slides ≡ Ok now
        → (slid (suc n) (after_slide s side) slides ≡ Ok now → is_ok (slid (suc n) (after_slide s side) (take i slides)) ≡ true) → is_ok (step refusal (take i slides)) ≡ true
    go None rest more = more rest
    go (Some reason) rest more = absurd (let bad : step (Some reason) slides ≡ Ok now = rest in cc)

-- a refused slide is the first one, and those before it are accepted
refused : (n : ℕ) (s : Slid) (slides : List ℕ) (r : RefusedSlide) → slid n s slides ≡ Err r → (k : ℕ) × (r.slide ≡ n + k) × Breaks (λ some. is_ok (slid n s some)) slides k
refused n s [] r e = absurd (let bad : Ok s ≡ Err r = e in cc)
refused n s (side ∷ slides) r e = go (refusal_of s.polygon s.curves side) refl e (λ rest. refused (suc n) (after_slide s side) slides r rest)
  where
    Rest : Type 0
    Rest = (k : ℕ) × (r.slide ≡ suc n + k) × Breaks (λ some. is_ok (slid (suc n) (after_slide s side) some)) slides k

    step : Option SlideRefusal → List ℕ → Result Slid RefusedSlide
    step refusal rest = option_map_or (λ reason. Err (record { slide = n; side = side; reason = reason })) refusal (slid (suc n) (after_slide s side) rest)

    go : (refusal : Option SlideRefusal) → refusal_of s.polygon s.curves side ≡ refusal → step refusal slides ≡ Err r → (slid (suc n) (after_slide s side) slides ≡ Err r → Rest)
        → (k : ℕ) × (r.slide ≡ n + k) × Breaks (λ some. is_ok (slid n s some)) (side ∷ slides) k
    go None is told more =
        let (k, at, b) = more told in (
          suc k,
          omega (arith, at),
          breaks_later (λ some. is_ok (slid n s some)) (λ some. is_ok (slid (suc n) (after_slide s side) some)) side slides k refl
              (λ ys. ap (λ refusal. is_ok (step refusal ys)) is) b,
        )
    go (Some reason) is told more =
        let that : record { slide = n; side = side; reason = reason } ≡ r = (let e : Err (record { slide = n; side = side; reason = reason }) ≡ Err r = told in cc) in
        let number : r.slide ≡ n = ap (λ x. x.slide) (sym that) in
        (0, omega (arith, number), breaks_here (λ some. is_ok (slid n s some)) side slides refl (ap (λ refusal. is_ok (step refusal [])) is))

-- the surface of a certificate with the page and the curves
joined_is : (page : List (List Label)) (curves : List PagePath) (c : Certificate) → c.polygons ≡ page → on_page page c.curves ≡ curves → joined_surface (own_book c) ≡ joined_with page curves
joined_is page curves c on are =
    ap₂ (λ (p : List (List Label)) (cs : List (Option (List Exit))). record { polygon = page_polygon p; curves = cs }) on
    (ap (λ (p : List (List Label)). map (λ (x : NamedPath). some_curve (exits_through p x.path)) c.curves) on ∙ (each_joined c.curves ∙ ap joined_curves are))
  where
    each_joined : (xs : List NamedPath) → map (λ (x : NamedPath). some_curve (exits_through page x.path)) xs ≡ joined_curves (on_page page xs)
    each_joined [] = refl
    each_joined (x ∷ xs) = ap (λ rest. some_curve (exits_through page x.path) ∷ rest) (each_joined xs)

-- what slides leave there
pub slides_leave : (page : List (List Label)) (curves : List PagePath) (slides : List ℕ) (start now : Slid) → start ≡ joined_with page curves
    → slid 0 start slides ≡ Ok now → SlidesLeave page curves slides now
slides_leave page curves slides start now is leave c on are = ap (λ s. slid 0 s slides) (joined_is page curves c on are ∙ sym is) ∙ leave

-- the rule of one slide line
slide_rule : (page : List (List Label)) (curves : List PagePath) (slides more : List ℕ) (start : Slid) (c : Certificate) → start ≡ joined_with page curves
    → c.polygons ≡ page → on_page page c.curves ≡ curves → c.slides ≡ slides ++ more
    → (i side : ℕ) → i < length slides → slide_rules c i side ≡ rule slide (is_ok (slid 0 start (take (suc i) slides))) ∷ []
slide_rule page curves slides more start c is on are begins i side within =
    let some : take (suc i) c.slides ≡ take (suc i) slides = ap (take (suc i)) begins ∙ take_within (suc i) slides more (omega (arith, within)) in
    ap₂ (λ (s : Slid) (xs : List ℕ). rule slide (is_ok (slid 0 s xs)) ∷ []) (joined_is page curves c on are ∙ sym is) some

-- where all slides are accepted no rule is broken
pub slides_kept : (page : List (List Label)) (curves : List PagePath) (slides : List ℕ) (start now : Slid) → start ≡ joined_with page curves
    → slid 0 start slides ≡ Ok now → SlidesCome page curves slides None
slides_kept page curves slides start now is all c more on are begins =
    no_fault (slide_rules c) slides (λ i d l. broken_where slide _ true (accepted 0 start now slides all (suc i)) _ (slide_rule page curves slides more start c is on are begins i (get_or slides i d) l))

-- and a refused one is the fault
pub slides_fault : (page : List (List Label)) (curves : List PagePath) (slides : List ℕ) (start : Slid) (r : RefusedSlide) → start ≡ joined_with page curves
    → slid 0 start slides ≡ Err r → SlidesCome page curves slides (Some (record { at = r.slide; reason = slide }))
slides_fault page curves slides start r is e c more on are begins =
    let (k, at, b) = refused 0 start slides r e in
    let number : r.slide ≡ k = omega (arith, at) in
    fault_at (slide_rules c) slides k 0 (rule slide false) b.within
    (λ i d l. broken_where slide _ true (b.before (suc i) (omega (arith, l))) _ (slide_rule page curves slides more start c is on are begins i (get_or slides i d) (omega (arith, l, b.within))))
    (broken_where slide _ false b.at _ (slide_rule page curves slides more start c is on are begins k (get_or slides k 0) b.within))
    ∙ ap (λ (n : ℕ). Some (record { at = n; reason = slide })) (sym number)

-- its number is a number
pub slide_number : (slides : List ℕ) (start : Slid) (r : RefusedSlide) → length slides < 2 ^ 32 → slid 0 start slides ≡ Err r → r.slide < 2 ^ 32
slide_number slides start r few e = let (k, at, b) = refused 0 start slides r e in omega (arith, at, b.within, few)

-- the surface of a certificate with just these slides
pub surface_is : (page : List (List Label)) (curves : List PagePath) (slides : List ℕ) (now : Slid) → SlidesLeave page curves slides now
    → (c : Certificate) → c.polygons ≡ page → on_page page c.curves ≡ curves → c.slides ≡ slides → surface c ≡ now
surface_is page curves slides now leave c on are all =
    ap (λ (r : Result Slid RefusedSlide). result_unwrap_or r (joined_surface (own_book c))) (ap (slid_by c) all ∙ leave c on are)
