use Rattle.obd_cli.proofs.refused.put_doc_refusal.Goals as goal

pub returns-in-RepeatedCurve : goal.returns-in-RepeatedCurve
returns-in-RepeatedCurve c = rw (c.in-RepeatedCurve.is, ← c.as_str.ensures) c.put_refused-in-RepeatedCurve.ensures
