use Rattle.std.proofs.Common.{◌≡◌, ◌∙◌, ap}
use Rattle.page_surface.specs.Drawing.{end_of}
use Rattle.page_surface.specs.Polygon.{second_side}
use Rattle.dehn_twist.specs.Tables.{Pair}
use Rattle.dehn_twist.proofs.surgery.strand_start.Goals as goal

pub returns-clause-value : goal.returns-clause-value
returns-clause-value c =
    let s : c.pair.result ≡ second_side c.merged-merged.result.now.drawing.polygon c.args.strand = cc in
    c.end_of.ensures ∙ (ap (end_of c.merged-merged.result.now.drawing) s ∙ ap (λ (p : Pair). end_of p.drawing (second_side p.drawing.polygon c.args.strand)) c.merged-merged.ensures.value)
