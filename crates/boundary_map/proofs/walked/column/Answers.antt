use Rattle.std.proofs.Common.{ℕ, List, [], get_or, subst}
use Rattle.boundary_map.proofs.Odds.{odds_sorted}
use Rattle.boundary_map.proofs.TargetColumns.{targets_column}
use Rattle.boundary_map.specs.Odds.{IsOdds}
use Rattle.drawing.specs.Points.{generators}
use Rattle.empty_domains.specs.Targets.{AreTargets}
use Rattle.boundary_map.proofs.walked.column.Goals as goal

pub returns : goal.returns
returns c =
    let d = c.args.diagram.now in
    let y = get_or c.args.generators.now c.args.number [] in
    let numbers = c.in_ok-targets.targets.items in
    let odds = c.in_ok-odd_ones.field-0 in
    let are : AreTargets d y (generators d) numbers = subst (λ (gs : List (List ℕ)). AreTargets d y gs numbers) c.requires.generators c.in_ok-targets.ensures in
    let is : IsOdds numbers odds = odds_sorted numbers c.sort_unstable.new.self.items odds c.sort_unstable.ensures.permutation (subst (λ (xs : List ℕ). IsOdds xs odds) c.deref.ensures.value c.in_ok-odd_ones.ensures) in
    targets_column d y are.leads are.walk numbers are.told are.inside odds is
