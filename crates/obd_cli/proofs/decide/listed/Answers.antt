use Rattle.std.proofs.Common.{◌≤◌, ap, arith, length}
use Rattle.drawing.specs.Points.{generators}
use Rattle.obd_cli.specs.Decisions.{stopped_last}
use Rattle.obd_cli.proofs.Built.{certified_decision}
use Rattle.obd_cli.proofs.Stops.{not_stopped}
use Rattle.obd_cli.proofs.decide.listed.Goals as goal

pub returns : goal.returns
returns c =
    let last = c.args.moved.last in
    let limit = c.args.book.now.limits.generators in
    let few : length (generators last) ≤ limit = omega (arith, c.requires.within, ap length c.requires.generators) in
    certified_decision c.args.book.now (stopped_last limit last) c.in_ok-certificate.certificate c.in_ok-certificate.ensures (not_stopped limit last few)
