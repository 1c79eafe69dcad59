use Rattle.drawing.proofs.SpanTests.{unlike}
use Rattle.drawing.proofs.window.Window.holds.Goals as goal

pub returns : goal.returns
returns c = unlike _ _
