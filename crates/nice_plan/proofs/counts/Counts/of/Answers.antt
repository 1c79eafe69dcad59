use Rattle.std.proofs.Common.{length, drop, sym, ◌∙◌, ap, subst, arith}
use Rattle.std.proofs.lemmas.List.{length-replicate}
use Rattle.nice_plan.specs.Counts.{IsTree, zeros}
use Rattle.nice_plan.proofs.SumTree.{none_left, none_tree}
use Rattle.nice_plan.proofs.counts.Counts.of.Goals as goal

pub invariant_of-result : goal.invariant_of-result
invariant_of-result c =
    let leaves = c.next_power_of_two-leaves.result in
    subst (IsTree leaves) (sym (c.in_ok-sums.ensures.items_if_clones_equal (λ y e. e)))
    (none_tree leaves c.next_power_of_two-leaves.ensures.power (omega (arith, c.next_power_of_two-leaves.ensures.upper_bound, c.requires)))

pub returns-clause-none : goal.returns-clause-none
returns-clause-none c =
    let leaves = c.next_power_of_two-leaves.result in
    let e = ap (drop leaves) (c.in_ok-sums.ensures.items_if_clones_equal (λ y e. e)) ∙ none_left leaves in
    e ∙ sym (ap (λ xs. zeros (length xs)) e ∙ ap zeros (length-replicate leaves 0))
