-- A page has no polygon with more sides than it has in all.
use Rattle.std.proofs.Common.{◌≡◌, ◌*◌, ◌^◌, ◌<◌, ◌≤◌, ap, true, false, List, [], ◌∷◌, length, length-append, Option, None, Some, refl, arith}
use Rattle.std.specs.List.{list_all}
use Rattle.std.specs.Option.{is_none}
use Rattle.std.proofs.lemmas.Bool.{and_from, and_parts, leb-true, le-leb}
use Rattle.page_surface.specs.Labels.{Label, all_sides}
use Rattle.page_surface.specs.Page.{refusal_of}
use Rattle.page_surface.specs.declared.refusal.PageRefusal.{PageRefusal}
use Rattle.page_surface.proofs.FewSides.{few_sides}
use Rattle.witness_check.specs.BookRules.{is_narrow}

-- few sides in all are few on each polygon
narrow : (polygons : List (List Label)) → length (all_sides polygons) ≤ 48 → list_all is_narrow polygons ≡ true
narrow [] few = refl
narrow (polygon ∷ polygons) few =
    let split = length-append polygon (all_sides polygons) in
    and_from (is_narrow polygon) (list_all is_narrow polygons) (le-leb (length polygon) 48 (omega (arith, few, split))) (narrow polygons (omega (arith, few, split)))

-- polygons of which one is wider than a page are none
pub wide_is_no_page : (polygons : List (List Label)) → list_all is_narrow polygons ≡ false → is_none (refusal_of polygons) ≡ false
wide_is_no_page polygons wide = go (refusal_of polygons) (λ page. let all = narrow polygons (few_sides polygons page) in cc)
  where
    go : (refusal : Option PageRefusal) → (refusal ≡ None → ⊥) → is_none refusal ≡ false
    go None never = absurd (never refl)
    go (Some refusal) never = refl

-- narrow polygons have at most 48 sides each
sides_of_narrow : (polygons : List (List Label)) → list_all is_narrow polygons ≡ true → length (all_sides polygons) ≤ 48 * length polygons
sides_of_narrow [] all = omega arith
sides_of_narrow (polygon ∷ polygons) all =
    let (one, rest) = and_parts (is_narrow polygon) (list_all is_narrow polygons) all in
    let few = leb-true (length polygon) 48 one in
    omega (arith, few, sides_of_narrow polygons rest, length-append polygon (all_sides polygons))

-- so that at most 16 have few together
pub few_of_narrow : (now polygons : List (List Label)) → now ≡ polygons → list_all is_narrow polygons ≡ true → length polygons ≤ 16 → length (all_sides now) < 2 ^ 32
few_of_narrow now polygons same all few =
    let sides : length (all_sides now) ≡ length (all_sides polygons) = ap (λ ps. length (all_sides ps)) same in
    omega (arith, few, sides, sides_of_narrow polygons all)
