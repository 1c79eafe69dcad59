use Rattle.std.proofs.Common.{List, ℕ, ◌∙◌, ap, refl, sym}
use Rattle.boundary_map.proofs.Firsts.{first_is_inner, firsts_once, inner_is_first}
use Rattle.boundary_map.proofs.Targets.{fails_there, has_target, no_target}
use Rattle.boundary_map.specs.Sets.{firsts}
use Rattle.drawing.specs.Pieces.{piece_table}
use Rattle.hkm_diagram.specs.Domains.{is_domain}
use Rattle.boundary_map.proofs.tried.led_target.Goals as goal

pub returns-then-is_domain : goal.returns-then-is_domain
returns-then-is_domain c =
    let d = c.args.diagram.now in
    let t = c.args.regions.now in
    let table = c.requires.table in
    let s = firsts t c.args.set.now in
    has_target d (firsts t t.inner) (firsts_once d t table) (first_is_inner d t table) (inner_is_first d t table) c.args.y.now c.args.generators.now c.requires.generators s c.as_slice.result.now c.requires.part
    (c.as_slice.ensures ∙ c.in_ok-x.ensures) c.in-Some.number c.in-Some.ensures.some.inside c.in-Some.ensures.some.here
    (ap (λ (z : List ℕ). is_domain d (piece_table d) c.args.y.now z s) (c.as_slice.ensures ∙ sym c.as_slice-in-Some.ensures) ∙ (sym c.is_domain.ensures ∙ c.if-is_domain.true))

pub returns-in-Some : goal.returns-in-Some
returns-in-Some c =
    let d = c.args.diagram.now in
    let t = c.args.regions.now in
    let table = c.requires.table in
    let s = firsts t c.args.set.now in
    fails_there d (firsts t t.inner) (firsts_once d t table) (first_is_inner d t table) (inner_is_first d t table) c.args.y.now c.args.generators.now c.requires.generators s c.as_slice.result.now c.requires.part
    (c.as_slice.ensures ∙ c.in_ok-x.ensures)
    (ap (λ (z : List ℕ). is_domain d (piece_table d) c.args.y.now z s) (c.as_slice.ensures ∙ sym c.as_slice-in-Some.ensures) ∙ (sym c.is_domain.ensures ∙ c.if-is_domain.false))

pub returns : goal.returns
returns c =
    let d = c.args.diagram.now in
    let t = c.args.regions.now in
    let table = c.requires.table in
    no_target d (firsts t t.inner) (firsts_once d t table) (first_is_inner d t table) (inner_is_first d t table) c.args.y.now c.args.generators.now c.requires.generators (firsts t c.args.set.now) c.as_slice.result.now c.requires.part
    (c.as_slice.ensures ∙ c.in_ok-x.ensures) (c.in-None.ensures.none.0 refl)
