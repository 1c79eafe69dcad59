use Rattle.std.proofs.Common.{codes}
use Rattle.witness_check.specs.Text.{polygon_words}
use Rattle.witness_check.proofs.Joined.{on_success, listed_after}
use Rattle.witness_check.proofs.printed.put_page.Goals as goal

pub returns : goal.returns
returns c =
    on_success c.put_polygons.result
    (listed_after (codes "polygons") (codes "polygon") polygon_words c.args.certificate.now.polygons c.as_slice-polygons.result.now _ _ _ _ _ c.as_slice-polygons.ensures
    c.in_ok-put_number.ensures c.in_ok-put_count.ensures)
    c.put_polygons.ensures
