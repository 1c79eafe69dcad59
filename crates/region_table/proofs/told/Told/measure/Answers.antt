use Rattle.std.proofs.Common.{◌≡◌, false, ◌++◌, drop, take, length, get_or, refl, sym, ◌∙◌, ap, subst, arith}
use Rattle.region_table.specs.Counted.{first_label}
use Rattle.region_table.specs.Table.{DifferInDistance}
use Rattle.region_table.specs.Told.{AreMeasured, HasNames, Told}
use Rattle.region_table.proofs.ToldLists.{differ_so, listed_regions, measured_told, regions_size, set_unmeasured}
use Rattle.region_table.proofs.ToldTables.{written}
use Rattle.region_table.proofs.told.Told.measure.Goals as goal

pub overflow_cast-bound : goal.overflow_cast-bound
overflow_cast-bound c =
    let i = c.self.inside in
    omega (arith, c.requires.small, c.len-bound.ensures, i.bases.ok, regions_size i.bases.items i.firsts.items i.sizes.items i.distances.items, ap (λ (t : Told). length t.regions) c.self.view_is)

pub measure-requires-clause-given : goal.measure-requires-clause-given
measure-requires-clause-given c =
    let i = c.self.inside in
    let d = c.requires.given.0 in
    let is : c.len-bound.result ≡ length i.bases.items = omega (arith, c.len-bound.ensures, i.bases.ok) in
    let long : i.distances.len ≡ length c.set_labels.new.labels = omega (arith, c.set_labels.ensures.size, c.deref_mut.ensures.len) in
    let same : c.deref_mut-2.result.now ≡ c.set_labels.new.labels = written c.set_labels.new.labels _ _ _ long c.deref_mut-2.ensures.value in
    let many : length c.deref_mut-2.result.now ≡ length i.bases.items = omega (arith, ap length same, long, i.distances.ok, c.self.invariant.as_many_distances) in
    let given = subst (λ (t : Told). HasNames d c.args.names.now c.args.mates.now t.regions) (sym c.self.view_is) c.requires.given.1 in (
      d,
      set_unmeasured i.bases.items i.firsts.items i.sizes.items i.distances.items d c.args.names.now c.args.mates.now c.deref_mut-2.result.now c.len-bound.result is many
          (λ p l. ap (λ xs. get_or xs p 0) same ∙ (c.set_labels.ensures.labels p (omega (arith, l, ap length c.deref.ensures.value)) ∙ ap (λ bs. first_label c.len-bound.result (get_or bs p false)) c.deref.ensures.value)) given,
    )

pub measure-requires-clause-small : goal.measure-requires-clause-small
measure-requires-clause-small c =
    let i = c.self.inside in
    omega (arith, c.requires.small, c.len-bound.ensures, i.bases.ok, regions_size i.bases.items i.firsts.items i.sizes.items i.distances.items, ap (λ (t : Told). length t.regions) c.self.view_is)

pub returns-clause-others : goal.returns-clause-others
returns-clause-others c =
    let i = c.self.inside in
    let set = take i.distances.len (c.set_labels.new.labels ++ drop (length c.set_labels.new.labels) i.distances.items) in
    let now = take i.distances.len (c.measure.new.labels ++ drop (length c.measure.new.labels) set) in
    subst (λ (t : Told). DifferInDistance t.regions (listed_regions i.bases.items i.firsts.items i.sizes.items now)) c.self.view_is (differ_so i.bases.items i.firsts.items i.sizes.items now i.distances.items)

pub returns-clause-distances : goal.returns-clause-distances
returns-clause-distances c = λ d names s l.
    let i = c.self.inside in
    let is : c.len-bound.result ≡ length i.bases.items = omega (arith, c.len-bound.ensures, i.bases.ok) in
    let long : i.distances.len ≡ length c.set_labels.new.labels = omega (arith, c.set_labels.ensures.size, c.deref_mut.ensures.len) in
    let same : c.deref_mut-2.result.now ≡ c.set_labels.new.labels = written c.set_labels.new.labels _ _ _ long c.deref_mut-2.ensures.value in
    let many : length c.deref_mut-2.result.now ≡ length i.bases.items = omega (arith, ap length same, long, i.distances.ok, c.self.invariant.as_many_distances) in
    let given = subst (λ (t : Told). HasNames d c.args.names.now c.args.mates.now t.regions) (sym c.self.view_is) names in
    let unmeasured = set_unmeasured i.bases.items i.firsts.items i.sizes.items i.distances.items d c.args.names.now c.args.mates.now c.deref_mut-2.result.now c.len-bound.result is many
    (λ p l. ap (λ xs. get_or xs p 0) same ∙ (c.set_labels.ensures.labels p (omega (arith, l, ap length c.deref.ensures.value)) ∙ ap (λ bs. first_label c.len-bound.result (get_or bs p false)) c.deref.ensures.value)) given in
    let after : i.distances.len ≡ length c.measure.new.labels = omega (arith, c.measure.ensures.size, c.deref_mut-2.ensures.len) in
    measured_told i.bases.items i.firsts.items i.sizes.items _ d c.args.names.now
    (λ r lr. omega (arith, given.told r lr, regions_size i.bases.items i.firsts.items i.sizes.items i.distances.items))
    (subst (λ xs. AreMeasured d c.args.names.now xs) (sym (written c.measure.new.labels _ _ _ after refl)) (c.measure.ensures.distances d unmeasured)) s l
