-- Curves by their numbers.
use Rattle.std.proofs.Common.{◌≡◌, ℕ, zero, suc, ◌<◌, List, [], ◌∷◌, map, length, get_or, sym, ◌∙◌, subst, arith, inl, inr}
use Rattle.std.specs.Prelude.{Option, None, Some, All, IfSome, option_map, slice_index_or}
use Rattle.obd_base.specs.Lists.{Mem}
use Rattle.obd_base.specs.declared.points.Exit.{Exit}
use Rattle.page_surface.specs.Polygon.{Polygon}
use Rattle.curve_paths.specs.Curves.{IsCurve}
use Rattle.curve_paths.specs.Twists.{exits_of}
use Rattle.curve_paths.proofs.Members.{mem_get_or}

-- a curve of the list is one
pub some_curve : (p : Polygon) (cs : List (Option (List Exit))) → All (λ c. IfSome c (IsCurve p)) cs → (c : List Exit) → Mem (Some c) cs → IsCurve p c
some_curve p [] all c m = absurd m
some_curve p (x ∷ cs) all c (inl e) = subst (λ y. IfSome y (IsCurve p)) (sym e) (all 0 x (omega arith))
some_curve p (x ∷ cs) all c (inr m) = some_curve p cs (λ i d l. all (suc i) d (omega (arith, l))) c m

-- a curve that is found is a curve of the list
pub found_curve : {B : Type 0} (seen : B → List Exit) (r : Option B) (cs : List (Option (List Exit))) (n : ℕ) (c : Option (List Exit)) → option_map seen r ≡ c → n < length cs → c ≡ get_or cs n c
    → IfSome r (λ b. Mem (Some (seen b)) cs)
found_curve seen None cs n c is l e = tt
found_curve seen (Some b) cs n c is l e = subst (λ x. Mem x cs) (sym (is ∙ e)) (mem_get_or cs n c l)

-- where each is one by its exits, all are
pub all_curves : (p : Polygon) (cs : List (Option (List Exit))) → ((i : ℕ) → IsCurve p (slice_index_or (map exits_of cs) i [])) → All (λ c. IfSome c (IsCurve p)) cs
all_curves p [] are i d l = absurd (omega (arith, l))
all_curves p (None ∷ cs) are zero d l = tt
all_curves p (Some c ∷ cs) are zero d l = are 0
all_curves p (c ∷ cs) are (suc i) d l = all_curves p cs (λ j. are (suc j)) i d (omega (arith, l))
