use Rattle.std.proofs.Common.{◌≡◌, ◌∙◌, ◌++◌, List, ℕ, ap, get_or, length, map, subst}
use Rattle.std.specs.Result.{OnOk}
use Rattle.empty_domains.specs.Ground.{room_by, strip_by}
use Rattle.obd_base.specs.Lists.{below}
use Rattle.empty_domains.proofs.steps.side_steps.Goals as goal

pub returns-clause-steps : goal.returns-clause-steps
returns-clause-steps c =
    let start = get_or c.args.standing.now c.args.side 0 in
    subst (λ (z : List ℕ). OnOk c.strip.result (c.strip.new.steps.items
    ≡ c.args.steps.now.items ++ strip_by c.args.tables.now c.args.standing.now c.args.arc start (length c.args.tables.now.other) start (room_by c.args.tables.now start) 0 z))
    (c.clear.ensures ∙ ap (λ n. map (λ k. 0) (below n)) c.requires.lasts) c.strip.ensures.steps
