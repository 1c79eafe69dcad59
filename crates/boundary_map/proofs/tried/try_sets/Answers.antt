use Rattle.std.proofs.Common.{◌≡◌, List, ℕ, ◌∙◌, ap, arith, length, subst, sym}
use Rattle.std.proofs.lemmas.List.{length-map}
use Rattle.boundary_map.proofs.PartSets.{all_sets}
use Rattle.boundary_map.specs.Sets.{doubled, firsts}
use Rattle.boundary_map.specs.Tried.{AreOdd}
use Rattle.region_table.specs.Table.{region}
use Rattle.boundary_map.proofs.tried.try_sets.Goals as goal

pub returns : goal.returns
returns c =
    let t = c.args.regions.now in
    let inner = length-map t.inner (λ p. (region t p).first) in
    let count : c.loop-number.number ≡ doubled (length c.inner.result.now) = omega (arith, c.loop-number-test.false, c.loop-number.auto, c.set_count-number-end.ensures) in
    subst (λ (z : List (List ℕ)). AreOdd c.args.diagram.now c.args.y.now c.args.generators.now z c.loop-number.odd.items)
    (all_sets (firsts t t.inner) c.loop-number.number (count ∙ ap doubled (ap length c.inner.ensures ∙ sym inner)))
    c.loop-number.invariant
