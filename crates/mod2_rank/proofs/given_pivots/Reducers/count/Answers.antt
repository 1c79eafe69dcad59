use Rattle.std.proofs.Common.{length, sym, ap, ◌∙◌}
use Rattle.mod2_rank.specs.GivenPivots.{Reducing}
use Rattle.mod2_rank.proofs.GivenPivots.{paired_size}
use Rattle.mod2_rank.proofs.given_pivots.Reducers.count.Goals as goal

pub returns : goal.returns
returns c =
    ap length c.as_slice.ensures.value
    ∙ (sym (paired_size c.self.inside.pivot_rows.items c.self.inside.columns.lists c.self.invariant.whole ∙ c.self.invariant.whole) ∙ ap (λ (r : Reducing). length r.list) c.self.view_is)
