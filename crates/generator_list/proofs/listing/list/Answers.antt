use Rattle.std.proofs.Common.{◌≡◌, ◌+◌, ◌<◌, ◌∙◌, ap, length, arith}
use Rattle.drawing.specs.Points.{generators}
use Rattle.generator_list.specs.Packed.{Packed}
use Rattle.generator_list.proofs.Branches.{handed_on}
use Rattle.generator_list.proofs.Chosen.{found_all, generators_listed}
use Rattle.generator_list.proofs.listing.list.Goals as goal

pub returns-in_err-run-clause-over : goal.returns-in_err-run-clause-over
returns-in_err-run-clause-over c =
    handed_on (λ n. (n ≡ c.args.limit + 1) × (c.args.limit < length (generators c.args.drawing.now.drawing))) _ _ c.from_residual-in_err-run.ensures.1
    (λ n given. let (a, b) = c.in_err-run.ensures.over n given in
    let all = ap length (found_all c.args.drawing.now.drawing c.in_ok-search.search.arcs c.new-found.result.lists c.in_ok-search.ensures.arcs (ap (λ (p : Packed). p.lists) c.new-found.ensures)) in
    (omega (arith, a, c.in_ok-search.ensures.limit), omega (arith, b, all, c.in_ok-search.ensures.limit)))

pub of-requires : goal.of-requires
of-requires c =
    generators_listed c.args.drawing.now.drawing _ (ap (λ (p : Packed). p.lists) c.in_ok-run.ensures.found
    ∙ found_all c.args.drawing.now.drawing c.in_ok-search.search.arcs c.new-found.result.lists c.in_ok-search.ensures.arcs (ap (λ (p : Packed). p.lists) c.new-found.ensures))

pub returns-clause-listed : goal.returns-clause-listed
returns-clause-listed c =
    c.of.ensures ∙ (ap (λ (p : Packed). p.lists) c.in_ok-run.ensures.found
    ∙ found_all c.args.drawing.now.drawing c.in_ok-search.search.arcs c.new-found.result.lists c.in_ok-search.ensures.arcs (ap (λ (p : Packed). p.lists) c.new-found.ensures))
