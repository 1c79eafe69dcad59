use Rattle.std.proofs.Common.{◌<◌, ℕ, List, length, get_or, sym, ◌∙◌, ap, subst, arith}
use Rattle.region_table.specs.Asked.{told_by}
use Rattle.region_table.specs.Counted.{size_so_far}
use Rattle.region_table.specs.Ends.{IsKept}
use Rattle.region_table.specs.Table.{Region, Table, region_in}
use Rattle.region_table.proofs.AskedTables.{told_named, told_size}
use Rattle.region_table.proofs.KeptReads.{few_names, size_small}
use Rattle.region_table.proofs.RoomTables.{few_pieces}
use Rattle.region_table.proofs.regions.Regions.size.Goals as goal

pub region-region-requires : goal.region-region-requires
region-region-requires c =
    let i = c.self.inside in
    omega (arith, c.requires, told_size i.names.items i.told.regions i.counted, ap (λ (t : Table). length t.regions) c.self.view_is)

pub overflow_cast-piece : goal.overflow_cast-piece
overflow_cast-piece c =
    omega (arith, c.requires, few_pieces _ c.self.inside.frame.ends.items c.self.invariant.0.kept, ap (λ (t : Table). length t.regions) c.self.view_is)

pub count_of-requires : goal.count_of-requires
count_of-requires c = record {
  few = omega (arith, few_names _ c.self.inside.frame.ends.items c.self.invariant.0.kept, ap (λ (xs : List ℕ). length xs) c.deref.ensures.value);
}

pub returns-then-self-clause-value : goal.returns-then-self-clause-value
unfolding told_by
returns-then-self-clause-value c =
    let i = c.self.inside in
    let seen = c.region.view_is ∙ c.region-region.ensures in
    ap (λ (r : Region). r.size) seen
    ∙ (ap (λ b. (region_in (told_by b i.names.items i.told.regions) c.args.piece).size) (sym c.if-self.true)
    ∙ ap (λ (t : Table). (region_in t.regions c.args.piece).size) c.self.view_is)

pub returns-else-self-clause-value : goal.returns-else-self-clause-value
returns-else-self-clause-value c =
    let i = c.self.inside in
    let inside : c.args.piece < length i.told.regions = omega (arith, c.requires, told_size i.names.items i.told.regions i.counted, ap (λ (t : Table). length t.regions) c.self.view_is) in
    c.count_of.ensures
    ∙ (ap (λ (ns : List ℕ). size_so_far (λ s. get_or ns s 0) (length ns) c.args.piece) c.deref.ensures.value
    ∙ (sym (ap (λ (r : Region). r.size) (told_named i.names.items i.told.regions c.args.piece inside))
    ∙ (ap (λ b. (region_in (told_by b i.names.items i.told.regions) c.args.piece).size) (sym c.if-self.false)
    ∙ ap (λ (t : Table). (region_in t.regions c.args.piece).size) c.self.view_is)))

pub returns-then-self-clause-small : goal.returns-then-self-clause-small
returns-then-self-clause-small c = λ inner.
    let kept = subst (λ t. IsKept t c.self.inside.frame.ends.items) c.self.view_is c.self.invariant.0.kept in
    omega (arith, size_small c.args.self.now c.self.inside.frame.ends.items kept c.args.piece c.requires inner, returns-then-self-clause-value c)

pub returns-else-self-clause-small : goal.returns-else-self-clause-small
returns-else-self-clause-small c = λ inner.
    let kept = subst (λ t. IsKept t c.self.inside.frame.ends.items) c.self.view_is c.self.invariant.0.kept in
    omega (arith, size_small c.args.self.now c.self.inside.frame.ends.items kept c.args.piece c.requires inner, returns-else-self-clause-value c)
