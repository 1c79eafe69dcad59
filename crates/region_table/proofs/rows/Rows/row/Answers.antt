use Rattle.std.proofs.Common.{ℕ, ◌<◌, [], Vec, Global, length, get_or, ◌∙◌, ap, arith}
use Rattle.std.proofs.lemmas.List.{length-map}
use Rattle.region_table.specs.Rows.{Rows}
use Rattle.region_table.proofs.RowTables.{row_read}
use Rattle.region_table.proofs.rows.Rows.row.Goals as goal

pub index-requires : goal.index-requires
index-requires c =
    omega (arith, c.requires, c.self.inside.rows.ok, length-map c.self.inside.rows.items (λ (row : Vec ℕ Global). row.items), ap (λ (r : Rows). length r.lists) c.self.view_is)

pub returns : goal.returns
returns c =
    let i = c.args.index in
    let l : i < length c.self.inside.rows.items = omega (arith, c.requires, length-map c.self.inside.rows.items (λ (row : Vec ℕ Global). row.items), ap (λ (r : Rows). length r.lists) c.self.view_is) in
    c.as_slice.ensures.value
    ∙ (ap (λ (row : Vec ℕ Global). row.items) c.index.ensures
    ∙ (row_read c.self.inside.rows.items i c.index.result.now l ∙ ap (λ (r : Rows). get_or r.lists i []) c.self.view_is))
