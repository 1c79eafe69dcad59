use Rattle.std.proofs.Common.{◌≡◌, ℕ, List, [], length, get_or, ap, subst, arith}
use Rattle.region_table.specs.Ends.{IsKept}
use Rattle.region_table.proofs.KeptReads.{begin_known, few_names, row_seen, rows_known}
use Rattle.region_table.proofs.QuadrantReads.{beside_read}
use Rattle.region_table.proofs.regions.Regions.beside.Goals as goal

pub row-requires : goal.row-requires
row-requires c =
    let t = c.args.self.now in
    let kept = subst (λ t. IsKept t c.self.inside.frame.ends.items) c.self.view_is c.self.invariant.0.kept in
    omega (arith, c.number.ensures.value, c.requires.strand, rows_known t c.self.inside.frame.ends.items kept, ap (λ t. length t.begins) c.self.view_is)

pub bounds-row-chord : goal.bounds-row-chord
bounds-row-chord c =
    let t = c.args.self.now in
    let kept = subst (λ t. IsKept t c.self.inside.frame.ends.items) c.self.view_is c.self.invariant.0.kept in
    let row = row_seen t c.self.inside.frame.begins.lists c.args.strand c.number.result _ (ap (λ t. t.begins) c.self.view_is) c.number.ensures.value c.row.ensures in
    omega (arith, c.requires.chord, ap (λ (xs : List ℕ). length xs) row)

pub name-requires : goal.name-requires
name-requires c =
    let t = c.args.self.now in
    let kept = subst (λ t. IsKept t c.self.inside.frame.ends.items) c.self.view_is c.self.invariant.0.kept in
    let row = row_seen t c.self.inside.frame.begins.lists c.args.strand c.number.result _ (ap (λ t. t.begins) c.self.view_is) c.number.ensures.value c.row.ensures in
    let from : get_or c.row.result.now c.args.chord 0 ≡ get_or (get_or t.begins c.args.strand []) c.args.chord 0 = ap (λ (xs : List ℕ). get_or xs c.args.chord 0) row in
    let b = begin_known t c.self.inside.frame.ends.items kept c.args.strand c.args.chord c.requires.strand c.requires.chord in
    omega (arith, b, from)

pub overflow_add-from : goal.overflow_add-from
overflow_add-from c =
    let t = c.args.self.now in
    let kept = subst (λ t. IsKept t c.self.inside.frame.ends.items) c.self.view_is c.self.invariant.0.kept in
    let row = row_seen t c.self.inside.frame.begins.lists c.args.strand c.number.result _ (ap (λ t. t.begins) c.self.view_is) c.number.ensures.value c.row.ensures in
    let from : get_or c.row.result.now c.args.chord 0 ≡ get_or (get_or t.begins c.args.strand []) c.args.chord 0 = ap (λ (xs : List ℕ). get_or xs c.args.chord 0) row in
    let b = begin_known t c.self.inside.frame.ends.items kept c.args.strand c.args.chord c.requires.strand c.requires.chord in
    omega (arith, b, from, few_names t c.self.inside.frame.ends.items kept)

pub name-requires-2 : goal.name-requires-2
name-requires-2 c =
    let t = c.args.self.now in
    let kept = subst (λ t. IsKept t c.self.inside.frame.ends.items) c.self.view_is c.self.invariant.0.kept in
    let row = row_seen t c.self.inside.frame.begins.lists c.args.strand c.number.result _ (ap (λ t. t.begins) c.self.view_is) c.number.ensures.value c.row.ensures in
    let from : get_or c.row.result.now c.args.chord 0 ≡ get_or (get_or t.begins c.args.strand []) c.args.chord 0 = ap (λ (xs : List ℕ). get_or xs c.args.chord 0) row in
    let b = begin_known t c.self.inside.frame.ends.items kept c.args.strand c.args.chord c.requires.strand c.requires.chord in
    omega (arith, b, from)

pub returns : goal.returns
returns c = λ d told.
    let t = c.args.self.now in
    let kept = subst (λ t. IsKept t c.self.inside.frame.ends.items) c.self.view_is c.self.invariant.0.kept in
    let row = row_seen t c.self.inside.frame.begins.lists c.args.strand c.number.result _ (ap (λ t. t.begins) c.self.view_is) c.number.ensures.value c.row.ensures in
    let from : get_or c.row.result.now c.args.chord 0 ≡ get_or (get_or t.begins c.args.strand []) c.args.chord 0 = ap (λ (xs : List ℕ). get_or xs c.args.chord 0) row in
    beside_read d t told c.args.strand c.args.chord c.name.result c.name-2.result _ c.requires.strand c.requires.chord from c.name.ensures.value c.name-2.ensures.value
