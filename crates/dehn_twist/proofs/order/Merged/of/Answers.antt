use Rattle.std.proofs.Common.{◌∙◌}
use Rattle.dehn_twist.proofs.OrderTables.{counts_there, exits_there, made_merged, starts_short, starts_small, taken_from}
use Rattle.dehn_twist.proofs.order.Merged.of.Goals as goal

pub curve_counts-requires-clause-in_range : goal.curve_counts-requires-clause-in_range
curve_counts-requires-clause-in_range c =
    exits_there c.args.drawing.now.drawing.polygon _ c.args.curve.now _ c.requires.curve (c.in_ok-polygon.ensures ∙ c.polygon-2.ensures)
    (c.deref.ensures.value ∙ (c.in_ok-exits.ensures.items ∙ c.exits.ensures.value))

pub starts-requires-clause-few : goal.starts-requires-clause-few
starts-requires-clause-few c =
    let ok = taken_from c.args.drawing.now.drawing c.args.curve.now _ _ c.points.ensures.valid c.requires.curve c.polygon.ensures c.sides.ensures.value c.sides.ensures.most c.requires.few c.exits.ensures.least c.exits.ensures.most in
    let counted = counts_there c.args.drawing.now.drawing.polygon _ c.args.curve.now _ _ (c.in_ok-polygon.ensures ∙ c.polygon-2.ensures) (c.deref.ensures.value ∙ (c.in_ok-exits.ensures.items ∙ c.exits.ensures.value)) c.in_ok-counts.ensures in
    starts_short c.args.drawing.now.drawing c.args.curve.now ok _ _ _ _ c.deref-2.ensures.value c.deref-3.ensures.value c.in_ok-points.ensures counted

pub starts-requires-clause-each : goal.starts-requires-clause-each
starts-requires-clause-each c =
    let ok = taken_from c.args.drawing.now.drawing c.args.curve.now _ _ c.points.ensures.valid c.requires.curve c.polygon.ensures c.sides.ensures.value c.sides.ensures.most c.requires.few c.exits.ensures.least c.exits.ensures.most in
    let counted = counts_there c.args.drawing.now.drawing.polygon _ c.args.curve.now _ _ (c.in_ok-polygon.ensures ∙ c.polygon-2.ensures) (c.deref.ensures.value ∙ (c.in_ok-exits.ensures.items ∙ c.exits.ensures.value)) c.in_ok-counts.ensures in
    starts_small c.args.drawing.now.drawing c.args.curve.now ok _ _ _ _ c.deref-2.ensures.value c.deref-3.ensures.value c.in_ok-points.ensures counted

pub invariant_of-result : goal.invariant_of-result
invariant_of-result c =
    let ok = taken_from c.args.drawing.now.drawing c.args.curve.now _ _ c.points.ensures.valid c.requires.curve c.polygon.ensures c.sides.ensures.value c.sides.ensures.most c.requires.few c.exits.ensures.least c.exits.ensures.most in
    let counted = counts_there c.args.drawing.now.drawing.polygon _ c.args.curve.now _ _ (c.in_ok-polygon.ensures ∙ c.polygon-2.ensures) (c.deref.ensures.value ∙ (c.in_ok-exits.ensures.items ∙ c.exits.ensures.value)) c.in_ok-counts.ensures in
    made_merged c.args.drawing.now.drawing c.args.curve.now ok _ _ _ _ c.deref-2.ensures.value c.deref-3.ensures.value c.in_ok-points.ensures counted _ _ _ _ (c.in_ok-polygon.ensures ∙ c.polygon-2.ensures) c.in_ok-strands.ensures (c.in_ok-exits.ensures.items ∙ c.exits.ensures.value) c.in_ok-starts.ensures
