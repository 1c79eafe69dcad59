use Rattle.std.proofs.Common.{◌≡◌, true, false, sym}
use Rattle.obd_doc.proofs.Text.{value_of-some, value_of-none}
use Rattle.obd_doc.proofs.values.read_value.Goals as goal

pub returns-in-Ok : goal.returns-in-Ok
returns-in-Ok c = sym (value_of-some _ _ c.in-Ok.ensures.ok.0 c.in-Ok.ensures.ok.1)

pub returns-else-is_memory : goal.returns-else-is_memory
returns-else-is_memory c =
    sym (value_of-none _ (c.in-Err.ensures.err (λ m. let is : false ≡ true = c.if-is_memory.ensures.1 m in cc)))
