use Rattle.std.proofs.Common.{ℕ, Vec, Global, length, ap, arith}
use Rattle.std.proofs.lemmas.List.{length-map}
use Rattle.region_table.specs.Rows.{Rows}
use Rattle.region_table.proofs.rows.Rows.len.Goals as goal

pub returns : goal.returns
returns c =
    omega (arith, c.len.ensures, c.self.inside.rows.ok, length-map c.self.inside.rows.items (λ (row : Vec ℕ Global). row.items), ap (λ (r : Rows). length r.lists) c.self.view_is)
