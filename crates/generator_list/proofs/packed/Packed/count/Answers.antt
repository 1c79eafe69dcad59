use Rattle.std.proofs.Common.{◌∙◌, ap, sym, length}
use Rattle.generator_list.specs.Packed.{Packed}
use Rattle.generator_list.proofs.PackedRows.{rows_size}
use Rattle.generator_list.proofs.packed.Packed.count.Goals as goal

pub returns : goal.returns
returns c = sym (rows_size c.self.inside.width c.self.inside.count c.self.inside.points.items) ∙ ap (λ (p : Packed). length p.lists) c.self.view_is
