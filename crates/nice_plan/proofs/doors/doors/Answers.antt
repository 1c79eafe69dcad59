use Rattle.std.proofs.Common.{◌∙◌, subst, sym}
use Rattle.nice_plan.proofs.DoorsLeft.{AreFound, all_found, found_inner, none_found, one_found}
use Rattle.nice_plan.proofs.doors.doors.Goals as goal

pub loop-piece-init : goal.loop-piece-init
loop-piece-init c =
    let m = c.args.measured.now in
    subst (λ xs. AreFound m c.args.from xs c.args.from) (sym c.in_ok-doors.ensures.items) (none_found m c.distance-far.ensures.known c.args.from c.requires)

pub is_base-requires : goal.is_base-requires
is_base-requires c = c.loop-piece.invariant.listed

pub first_door-next-requires : goal.first_door-next-requires
first_door-next-requires c =
    found_inner c.args.measured.now c.distance-far.ensures.known c.args.from c.loop-piece.doors.items c.loop-piece.piece c.loop-piece.invariant (sym c.is_base.ensures.value ∙ c.loop-piece-test.true)

pub loop-piece-smaller : goal.loop-piece-smaller
loop-piece-smaller c =
    let m = c.args.measured.now in
    let k = c.distance-far.ensures.known in
    let so = c.loop-piece.invariant in
    let i = found_inner m k c.args.from c.loop-piece.doors.items c.loop-piece.piece so (sym c.is_base.ensures.value ∙ c.loop-piece-test.true) in
    (one_found m k c.args.from c.loop-piece.doors.items c.loop-piece.piece so i c.first_door-next.result.chord c.first_door-next.result.behind c.first_door-next.ensures.chord c.first_door-next.ensures.behind).1

pub loop-piece-preserved : goal.loop-piece-preserved
loop-piece-preserved c =
    let m = c.args.measured.now in
    let k = c.distance-far.ensures.known in
    let so = c.loop-piece.invariant in
    let i = found_inner m k c.args.from c.loop-piece.doors.items c.loop-piece.piece so (sym c.is_base.ensures.value ∙ c.loop-piece-test.true) in
    subst (λ xs. AreFound m c.args.from xs c.first_door-next.result.behind) (sym c.in_ok-push.ensures.items)
    (one_found m k c.args.from c.loop-piece.doors.items c.loop-piece.piece so i c.first_door-next.result.chord c.first_door-next.result.behind c.first_door-next.ensures.chord c.first_door-next.ensures.behind).0

pub returns : goal.returns
returns c =
    all_found c.args.measured.now c.distance-far.ensures.known c.args.from c.loop-piece.doors.items c.loop-piece.piece c.loop-piece.invariant (sym c.is_base.ensures.value ∙ c.loop-piece-test.false)
