use Rattle.std.proofs.Common.{◌||◌, not, eqb, ◌∙◌, ap, sym}
use Rattle.std.proofs.lemmas.Bool.{ne_eqb}
use Rattle.region_table.specs.Table.{region}
use Rattle.nice_plan.specs.Measured.{home, segment_at}
use Rattle.nice_plan.specs.Path.{before_door}
use Rattle.nice_plan.proofs.PathSteps.{index_test}
use Rattle.nice_plan.proofs.path.goes_on.Goals as goal

pub returns : goal.returns
returns c =
    let m = c.args.measured.now in
    let p = c.args.piece in
    let same = index_test m c.size-size.ensures.known p c.requires.piece c.first_door-door.result.index c.args.index c.first_door-door.ensures.inside c.requires.index c.first_door-door.ensures.before in
    ap (λ b. not b) same ∙ sym (ap (λ b. b || not (eqb (before_door m.drawing (home m p)) (segment_at m p c.args.index))) (ne_eqb (region m.table p).size 2 (λ e. c.if-size-eq2.false (c.size-size.ensures.value ∙ e))))
