use Rattle.std.proofs.Common.{List, Bool, ℕ, ◌∙◌, [], ap, get_or, subst, sym}
use Rattle.boundary_map.proofs.Firsts.{first_is_inner, firsts_once, inner_is_first}
use Rattle.boundary_map.proofs.Targets.{at_mem, column_told}
use Rattle.boundary_map.specs.Sets.{firsts}
use Rattle.boundary_map.specs.Tried.{AreOdd}
use Rattle.drawing.proofs.Generators.{listed_is_generator}
use Rattle.drawing.specs.Points.{IsGenerator}
use Rattle.hkm_diagram.specs.Domains.{column}
use Rattle.obd_base.specs.Lists.{Mem, parts}
use Rattle.boundary_map.proofs.plain.column_plain.Goals as goal

pub try_sets-requires-clause-from : goal.try_sets-requires-clause-from
try_sets-requires-clause-from c =
    let gens = c.args.generators.now in
    let n = c.args.number in
    subst (λ (z : List ℕ). IsGenerator c.args.diagram.now z) (sym c.points.ensures)
    (listed_is_generator c.args.diagram.now (get_or gens n []) (subst (λ (g : List (List ℕ)). Mem (get_or gens n []) g) c.requires.generators (at_mem gens n c.requires.number)))

pub returns : goal.returns
returns c =
    let d = c.args.diagram.now in
    let t = c.args.regions.now in
    let table = c.requires.table in
    let y = c.points.result.now in
    let odd = c.deref.result.now in
    let parity : AreOdd d y c.args.generators.now (parts (firsts t t.inner)) odd = subst (λ (o : List Bool). AreOdd d y c.args.generators.now (parts (firsts t t.inner)) o) (sym c.deref.ensures.value) c.in_ok-odd.ensures in
    c.in_ok-flagged.ensures
    ∙ (column_told d (firsts t t.inner) (firsts_once d t table) (first_is_inner d t table) (inner_is_first d t table) y odd
    (subst (λ (g : List (List ℕ)). AreOdd d y g (parts (firsts t t.inner)) odd) c.requires.generators parity)
    ∙ ap (column d) c.points.ensures)
