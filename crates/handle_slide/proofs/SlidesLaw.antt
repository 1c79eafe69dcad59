-- Slides that aren't refused leave a polygon and curves on it; one slide after another.
use Rattle.std.specs.Prelude.{All, IfSome, nat_eq, nat_le}
use Rattle.std.proofs.Common.{◌≡◌, ℕ, suc, ◌+◌, ◌<◌, List, [], ◌∷◌, length, drop, get_or, Option, Some, None, Ok, Err, option_map, refl, sym, subst, ap, ◌∙◌, arith}
use Rattle.std.specs.Option.{option_map_or}
use Rattle.std.proofs.lemmas.Bool.{eq-eqb, false≢true, leb-false}
use Rattle.std.proofs.lemmas.List.{drop_more}
use Rattle.page_surface.specs.Polygon.{IsPolygon, partner, sides}
use Rattle.curve_paths.specs.Curves.{IsCurve}
use Rattle.handle_slide.specs.Refused.{IsSelfSlide, after_slide, crossings_of, first_long, refusal_of}
use Rattle.handle_slide.specs.Slides.{slid}
use Rattle.handle_slide.specs.Slide.{side_after}
use Rattle.handle_slide.specs.declared.refusal.SlideRefusal.TheVariants.{NoSuchSide, SelfSlide}
use Rattle.obd_base.specs.Options.{when}
use Rattle.handle_slide.specs.declared.refusal.SlideRefusal.{SlideRefusal}
use Rattle.handle_slide.specs.declared.slid.Slid.{Slid}
use Rattle.handle_slide.proofs.Laws.{slide_curves, slide_polygon}
use Rattle.obd_base.proofs.Options.{each_none, fails_where_none}

-- a slide that isn't refused leaves a polygon and curves on it
pub one_slide : (s : Slid) (k : ℕ) → IsPolygon s.polygon → All (λ curve. IfSome curve (IsCurve s.polygon)) s.curves → refusal_of s.polygon s.curves k ≡ None
    → IsPolygon (after_slide s k).polygon × (sides (after_slide s k).polygon ≡ sides s.polygon) × All (λ curve. IfSome curve (IsCurve (after_slide s k).polygon)) (after_slide s k).curves
one_slide s k is curves e =
    let (there, (moves_on, rest)) = each_none (
    when (nat_le (sides s.polygon) k) NoSuchSide
    ∷ when (nat_eq (side_after s.polygon k) (partner s.polygon k)) SelfSlide
    ∷ option_map (crossings_of s.polygon k s.curves) (first_long s.polygon k s.curves)
    ∷ []) e in
    let lk : k < sides s.polygon = leb-false (sides s.polygon) k (fails_where_none (nat_le (sides s.polygon) k) NoSuchSide there) in
    let moves = fails_where_none (nat_eq (side_after s.polygon k) (partner s.polygon k)) SelfSlide moves_on in
    let slides : IsSelfSlide s.polygon k → ⊥ = λ q. false≢true (sym moves ∙ eq-eqb _ _ q) in
    let r = slide_polygon s.polygon k is lk slides in
    (r.0, r.1, slide_curves s.polygon k s.curves is lk slides curves)

-- and so do many of them
pub many_slides : (slides : List ℕ) (number : ℕ) (s t : Slid) → IsPolygon s.polygon → All (λ curve. IfSome curve (IsCurve s.polygon)) s.curves → slid number s slides ≡ Ok t
    → IsPolygon t.polygon × (sides t.polygon ≡ sides s.polygon) × All (λ curve. IfSome curve (IsCurve t.polygon)) t.curves
many_slides [] number s t is curves e =
    let same : s ≡ t = let both = e in cc in
    subst (λ u. IsPolygon u.polygon × (sides u.polygon ≡ sides s.polygon) × All (λ curve. IfSome curve (IsCurve u.polygon)) u.curves) same (is, refl, curves)
many_slides (k ∷ slides) number s t is curves e = go (many_slides slides (suc number) (after_slide s k) t) (refusal_of s.polygon s.curves k) refl e
  where
    go : (IsPolygon (after_slide s k).polygon → All (λ curve. IfSome curve (IsCurve (after_slide s k).polygon)) (after_slide s k).curves → slid (suc number) (after_slide s k) slides ≡ Ok t
        → IsPolygon t.polygon × (sides t.polygon ≡ sides (after_slide s k).polygon) × All (λ curve. IfSome curve (IsCurve t.polygon)) t.curves)
        → (refusal : Option SlideRefusal) → refusal_of s.polygon s.curves k ≡ refusal
        → option_map_or (λ reason. Err (record { slide = number; side = k; reason = reason })) refusal (slid (suc number) (after_slide s k) slides) ≡ Ok t
        → IsPolygon t.polygon × (sides t.polygon ≡ sides s.polygon) × All (λ curve. IfSome curve (IsCurve t.polygon)) t.curves
    go later None none h =
        let (p, n, c) = one_slide s k is curves none in
        let (q, m, d) = later p c h in
        (q, m ∙ n, d)
    go later (Some reason) some h = absurd (let bad = h in cc)

module _ (slides : List ℕ) (i side : ℕ) (within : i < length slides) (is : side ≡ get_or slides i side) (s : Slid) where
  -- the slides from this one on
  from_here : slid i s (drop i slides) ≡ slid i s (side ∷ drop (i + 1) slides)
  from_here = ap (slid i s) (drop_more slides i side within ∙ ap (λ k. k ∷ drop (i + 1) slides) (sym is))

  one_more : suc i ≡ i + 1
  one_more = omega arith

  -- where it is accepted, what it leaves is left of all by those that come after it
  pub accepted_here : (now : Slid) → now ≡ after_slide s side → refusal_of s.polygon s.curves side ≡ None → slid (i + 1) now (drop (i + 1) slides) ≡ slid i s (drop i slides)
  accepted_here now after none =
      sym (from_here ∙ rw none (ap (λ n. slid n (after_slide s side) (drop (i + 1) slides)) one_more) ∙ ap (λ t. slid (i + 1) t (drop (i + 1) slides)) (sym after))
