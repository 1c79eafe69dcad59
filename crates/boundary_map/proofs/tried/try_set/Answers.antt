use Rattle.std.proofs.Common.{◌≡◌, List, Bool, ℕ, suc, ◌∙◌, ◌++◌, ◌∷◌, [], Option, Some, None, ap, arith, false, get_or, length, map, not, refl, subst, sym}
use Rattle.boundary_map.proofs.PartSets.{chosen_map, chosen_part, chosen_short, sets_push}
use Rattle.boundary_map.proofs.Targets.{none_more, one_more}
use Rattle.boundary_map.specs.Sets.{chosen, firsts}
use Rattle.boundary_map.specs.Tried.{AreOdd, IsTarget}
use Rattle.obd_base.proofs.lists.Parts.{mem_parts}
use Rattle.obd_base.specs.Lists.{Mem, below, parts}
use Rattle.region_table.specs.Table.{region}
use Rattle.boundary_map.proofs.tried.try_set.Goals as goal
use Rattle.boundary_map.proofs.tried.try_set.Goals.{in-Some, in-None}

pub target-requires-clause-set : goal.target-requires-clause-set
target-requires-clause-set c =
    let is : c.as_slice.result.now ≡ chosen c.args.regions.now.inner c.args.number = c.as_slice.ensures ∙ (c.in_ok-set.ensures ∙ ap (λ (xs : List ℕ). chosen xs c.args.number) c.inner.ensures) in
    λ p m. mem_parts p (chosen c.args.regions.now.inner c.args.number) c.args.regions.now.inner (chosen_part c.args.regions.now.inner c.args.number) (subst (λ (w : List ℕ). Mem p w) is m)

pub target-requires-clause-small : goal.target-requires-clause-small
target-requires-clause-small c =
    let is : c.as_slice.result.now ≡ chosen c.args.regions.now.inner c.args.number = c.as_slice.ensures ∙ (c.in_ok-set.ensures ∙ ap (λ (xs : List ℕ). chosen xs c.args.number) c.inner.ensures) in
    omega (arith, ap length is, chosen_short c.args.regions.now.inner c.args.number, c.requires.few)

pub target-requires-clause-part : goal.target-requires-clause-part
target-requires-clause-part c =
    let t = c.args.regions.now in
    let is : c.as_slice.result.now ≡ chosen t.inner c.args.number = c.as_slice.ensures ∙ (c.in_ok-set.ensures ∙ ap (λ (xs : List ℕ). chosen xs c.args.number) c.inner.ensures) in
    subst (λ (w : List ℕ). Mem w (parts (firsts t t.inner))) (chosen_map (λ p. (region t p).first) t.inner c.args.number ∙ ap (firsts t) (sym is)) (chosen_part (firsts t t.inner) c.args.number)

pub returns : goal.returns
returns c =
    let d = c.args.diagram.now in
    let t = c.args.regions.now in
    let y = c.args.y.now in
    let gens = c.args.generators.now in
    let n = c.args.number in
    let order = firsts t t.inner in
    let s = firsts t c.as_slice.result.now in
    let sets : List (List ℕ) = map (chosen order) (below n) in
    let is : c.as_slice.result.now ≡ chosen t.inner n = c.as_slice.ensures ∙ (c.in_ok-set.ensures ∙ ap (λ (xs : List ℕ). chosen xs n) c.inner.ensures) in
    let set_is : s ≡ chosen order n = ap (firsts t) is ∙ sym (chosen_map (λ p. (region t p).first) t.inner n) in
    let grown : sets ++ s ∷ [] ≡ map (chosen order) (below (suc n)) = ap (λ (z : List ℕ). sets ++ z ∷ []) set_is ∙ sym (sets_push order n) in
    subst (λ (z : List (List ℕ)). AreOdd d y gens z c.match-branch-3.odd) grown (elim c.match-branch-3.branch [
      | in-Some w ↦
          let i = w.number-place.result in
          let target : IsTarget d gens y s (Some i) = subst (λ (z : Option ℕ). IsTarget d gens y s z) (w.in-Some.is ∙ ap (λ (k : ℕ). Some k) (sym w.number-place.ensures.value)) c.in_ok-target.ensures in
          subst (λ (z : List Bool). AreOdd d y gens (sets ++ s ∷ []) z) (sym w.odd-is)
          (one_more d y gens sets s c.args.odd.now c.requires.odd i (not (get_or c.args.odd.now i false)) refl target)
      | in-None w ↦
          let none : IsTarget d gens y s None = subst (λ (z : Option ℕ). IsTarget d gens y s z) w.in-None.is c.in_ok-target.ensures in
          subst (λ (z : List Bool). AreOdd d y gens (sets ++ s ∷ []) z) (sym w.odd-is) (none_more d y gens sets s c.args.odd.now c.requires.odd none)
    ])
