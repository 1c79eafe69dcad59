use Rattle.obd_cli.proofs.refused.put_curve_refusal.Goals as goal

pub returns-in-EmptyPath : goal.returns-in-EmptyPath
returns-in-EmptyPath c = rw c.in-EmptyPath.is c.put_refused.ensures

pub returns-in-UnknownLabel : goal.returns-in-UnknownLabel
returns-in-UnknownLabel c = rw (c.in-UnknownLabel.is, ← c.from.ensures) c.put_refused-in-UnknownLabel.ensures

pub returns-in-PlaceWrong : goal.returns-in-PlaceWrong
returns-in-PlaceWrong c = rw (c.in-PlaceWrong.is, ← c.as_str.ensures) c.put_refused-in-PlaceWrong.ensures
