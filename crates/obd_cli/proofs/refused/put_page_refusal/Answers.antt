use Rattle.obd_cli.proofs.refused.put_page_refusal.Goals as goal

pub returns-in-NoPolygon : goal.returns-in-NoPolygon
returns-in-NoPolygon c = rw c.in-NoPolygon.is c.put_refused.ensures

pub returns-in-LabelCount : goal.returns-in-LabelCount
returns-in-LabelCount c = rw (c.in-LabelCount.is, ← c.as_str.ensures, ← c.from-in-LabelCount.ensures) c.put_refused-in-LabelCount.ensures
