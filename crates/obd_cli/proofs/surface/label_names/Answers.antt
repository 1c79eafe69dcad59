use Rattle.std.proofs.Common.{refl}
use Rattle.obd_cli.proofs.Named.{names_more}
use Rattle.obd_cli.proofs.surface.label_names.Goals as goal

pub loop-label-preserved : goal.loop-label-preserved
loop-label-preserved c =
    names_more c.args.page.now c.args.labels.now c.loop-label.label-index c.label-item.result c.label-item.result _ _ _ _ c.loop-label-test.true c.label-item.is refl c.name.ensures c.in_ok-from_str.ensures
    c.loop-label.invariant c.in_ok-push.ensures.ok
