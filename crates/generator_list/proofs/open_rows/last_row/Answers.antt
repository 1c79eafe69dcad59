use Rattle.std.proofs.Common.{◌∙◌, true}
use Rattle.generator_list.proofs.SetTables.{all_one}
use Rattle.generator_list.proofs.open_rows.last_row.Goals as goal

pub returns : goal.returns
returns c = c.from_vec.ensures ∙ (c.in_ok-vec.ensures.items_if_clones_equal (λ y e. e) ∙ all_one true 256 0)
