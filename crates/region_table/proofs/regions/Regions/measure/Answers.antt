use Rattle.std.proofs.Common.{◌∙◌, refl, sym, subst, ap, arith}
use Rattle.region_table.specs.Table.{IsTableOf, Table}
use Rattle.region_table.specs.Told.{HasNames}
use Rattle.region_table.proofs.AskedTables.{differ_from, told_differ, told_size}
use Rattle.region_table.proofs.KeptReads.{few_names}
use Rattle.region_table.proofs.RoomTables.{few_pieces, has_names_by, listed_differs, measured_by, room_same, table_differs}
use Rattle.region_table.proofs.regions.Regions.measure.Goals as goal

pub measure-requires-clause-given : goal.measure-requires-clause-given
measure-requires-clause-given c =
    let i = c.self.inside in
    let kept = c.self.invariant.0.kept in
    let given = has_names_by i.counted i.names.items i.told.regions kept.drawing kept.embedded _ kept.table refl (few_names _ i.frame.ends.items kept) in (
      kept.drawing,
      subst (λ ns. HasNames kept.drawing ns c.deref-2.result.now i.told.regions) (sym c.deref.ensures.value)
          (subst (λ ms. HasNames kept.drawing i.names.items ms i.told.regions) (sym c.deref-2.ensures.value) given),
    )

pub measure-requires-clause-small : goal.measure-requires-clause-small
measure-requires-clause-small c =
    let i = c.self.inside in
    omega (arith, few_pieces _ i.frame.ends.items c.self.invariant.0.kept, told_size i.names.items i.told.regions i.counted)

pub invariant_of-self : goal.invariant_of-self
invariant_of-self c =
    let i = c.self.inside in (
      listed_differs _ _ _ _ _ _ _ _ _ _ (told_differ i.counted i.names.items i.told.regions c.measure.new.self.regions c.measure.ensures.others) _ _ _ _ c.self.invariant.0,
      room_same _ _ _ _ _ _ _ _ _ _ _ _ _ c.measure.ensures.others.count c.measure.ensures.room c.self.invariant.1,
    )

pub returns-clause-table : goal.returns-clause-table
returns-clause-table c = λ d told.
    let i = c.self.inside in
    table_differs _ _ _ _ _ _ _ _ _ _ (told_differ i.counted i.names.items i.told.regions c.measure.new.self.regions c.measure.ensures.others) d
    (subst (λ (t : Table). IsTableOf d t) (sym (c.self.view_is ∙ c.count.ensures)) told)

pub returns-clause-distances : goal.returns-clause-distances
returns-clause-distances c = λ d ok told.
    let i = c.self.inside in
    measured_by i.counted i.names.items i.told.regions d ok _ (subst (λ (t : Table). IsTableOf d t) (sym (c.self.view_is ∙ c.count.ensures)) told) refl (few_names _ i.frame.ends.items c.self.invariant.0.kept)
    c.deref.result.now c.deref-2.result.now c.measure.new.self.regions c.deref.ensures.value c.deref-2.ensures.value c.measure.ensures.distances

pub returns-clause-fresh : goal.returns-clause-fresh
returns-clause-fresh c =
    let i = c.self.inside in
    let kept = c.self.invariant.0.kept in
    record {
      drawing = kept.drawing;
      embedded = kept.embedded;
      table = table_differs _ _ _ _ _ _ _ _ _ _ (told_differ i.counted i.names.items i.told.regions c.measure.new.self.regions c.measure.ensures.others) kept.drawing kept.table;
      distances = measured_by i.counted i.names.items i.told.regions kept.drawing kept.embedded _ kept.table refl (few_names _ i.frame.ends.items kept)
          c.deref.result.now c.deref-2.result.now c.measure.new.self.regions c.deref.ensures.value c.deref-2.ensures.value c.measure.ensures.distances;
    }

pub returns-clause-others : goal.returns-clause-others
returns-clause-others c =
    let i = c.self.inside in
    differ_from (ap (λ (t : Table). t.regions) (c.self.view_is ∙ c.count.ensures))
    (told_differ i.counted i.names.items i.told.regions c.measure.new.self.regions c.measure.ensures.others)
