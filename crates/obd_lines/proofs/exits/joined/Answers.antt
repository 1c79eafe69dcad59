use Rattle.std.proofs.Common.{◌∙◌, List, Vec, Global, ap, map}
use Rattle.std.specs.List.{flat_map}
use Rattle.std.proofs.lemmas.List.{take_all}
use Rattle.obd_base.specs.declared.points.Exit.{Exit}
use Rattle.obd_lines.proofs.exits.joined.Goals as goal

pub returns : goal.returns
returns c =
    c.loop-strand.invariant
    ∙ ap (λ (strands : List (Vec Exit Global)). flat_map (λ (strand : List Exit). strand) (map (λ s. s.items) strands)) (take_all c.loop-strand.strand-index c.args.strands.now c.loop-strand-test.false)
