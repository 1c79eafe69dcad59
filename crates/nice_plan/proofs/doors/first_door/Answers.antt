use Rattle.std.proofs.Common.{◌≡◌, ◌≢◌, suc, ◌-◌, ◌∙◌, ap, subst, sym, arith}
use Rattle.region_table.specs.Table.{name_at, region}
use Rattle.nice_plan.specs.Burst.{chord_ending, named_chords}
use Rattle.nice_plan.specs.Measured.{segment_at}
use Rattle.nice_plan.proofs.DoorSteps.{door_here, far_off, later_not_yet, not_last}
use Rattle.nice_plan.proofs.MeasuredReads.{few_segments, some_segment}
use Rattle.nice_plan.proofs.doors.first_door.Goals as goal

pub overflow_sub-nearer : goal.overflow_sub-nearer
overflow_sub-nearer c = omega (arith, far_off c.args.measured.now c.distance-nearer.ensures.known c.args.piece c.requires, c.distance-nearer.ensures.value)

pub way_out-door-requires-clause-index : goal.way_out-door-requires-clause-index
way_out-door-requires-clause-index c = some_segment c.args.measured.now c.distance-nearer.ensures.known c.args.piece c.requires

pub loop-piece-init : goal.loop-piece-init
loop-piece-init c =
    let m = c.args.measured.now in
    let e = c.way_out-door.ensures.index in
    record {
      inside = omega (arith, e, some_segment m c.distance-nearer.ensures.known c.args.piece c.requires);
      chord = subst (λ n. c.way_out-door.result.chord ≡ chord_ending (named_chords m.drawing) (segment_at m c.args.piece n)) (sym e) c.way_out-door.ensures.chord;
      behind = subst (λ n. c.way_out-door.result.behind ≡ name_at m.table (suc (segment_at m c.args.piece n))) (sym e) c.way_out-door.ensures.behind;
      not_yet = λ j l. absurd (omega (arith, l, e));
    }

pub overflow_add-door : goal.overflow_add-door
overflow_add-door c = omega (arith, c.loop-piece.invariant.inside, few_segments c.args.measured.now c.distance-nearer.ensures.known c.args.piece c.requires)

pub way_out-door-requires-in-loop-piece-clause-index : goal.way_out-door-requires-in-loop-piece-clause-index
way_out-door-requires-in-loop-piece-clause-index c =
    let m = c.args.measured.now in
    let v = c.loop-piece.invariant in
    let l = not_last m c.distance-nearer.ensures.known c.args.piece c.requires c.loop-piece.door.index v.inside v.not_yet (λ e.
    c.loop-piece-test.true (c.distance.ensures.value ∙ (ap (λ q. (region m.table q).distance) v.behind ∙ (e ∙ ap (λ x. x - 1) (sym c.distance-nearer.ensures.value))))) in
    omega (arith, l)

pub loop-piece-preserved : goal.loop-piece-preserved
loop-piece-preserved c =
    let m = c.args.measured.now in
    let v = c.loop-piece.invariant in
    let fails : (region m.table (name_at m.table (suc (segment_at m c.args.piece c.loop-piece.door.index)))).distance ≢ (region m.table c.args.piece).distance - 1 = λ e. c.loop-piece-test.true (c.distance.ensures.value ∙ (ap (λ q. (region m.table q).distance) v.behind ∙ (e ∙ ap (λ x. x - 1) (sym c.distance-nearer.ensures.value)))) in
    let l = not_last m c.distance-nearer.ensures.known c.args.piece c.requires c.loop-piece.door.index v.inside v.not_yet fails in
    let e = c.way_out-door-in-loop-piece.ensures.index in
    record {
      inside = omega (arith, e, l);
      chord = subst (λ n. c.way_out-door-in-loop-piece.result.chord ≡ chord_ending (named_chords m.drawing) (segment_at m c.args.piece n)) (sym e) c.way_out-door-in-loop-piece.ensures.chord;
      behind = subst (λ n. c.way_out-door-in-loop-piece.result.behind ≡ name_at m.table (suc (segment_at m c.args.piece n))) (sym e) c.way_out-door-in-loop-piece.ensures.behind;
      not_yet = later_not_yet m c.args.piece c.loop-piece.door.index c.way_out-door-in-loop-piece.result.index e v.not_yet fails;
    }

pub returns-clause-before : goal.returns-clause-before
returns-clause-before c =
    let m = c.args.measured.now in
    let v = c.loop-piece.invariant in
    door_here m c.distance-nearer.ensures.known c.args.piece c.requires c.loop-piece.door.index v.inside v.not_yet
    (ap (λ q. (region m.table q).distance) (sym v.behind) ∙ (sym c.distance.ensures.value ∙ (c.loop-piece-test.false ∙ ap (λ x. x - 1) c.distance-nearer.ensures.value)))

pub returns-clause-chord : goal.returns-clause-chord
returns-clause-chord c =
    let m = c.args.measured.now in
    let v = c.loop-piece.invariant in
    v.chord ∙ ap (chord_ending (named_chords m.drawing)) (door_here m c.distance-nearer.ensures.known c.args.piece c.requires c.loop-piece.door.index v.inside v.not_yet
    (ap (λ q. (region m.table q).distance) (sym v.behind) ∙ (sym c.distance.ensures.value ∙ (c.loop-piece-test.false ∙ ap (λ x. x - 1) c.distance-nearer.ensures.value))))

pub returns-clause-behind : goal.returns-clause-behind
returns-clause-behind c =
    let m = c.args.measured.now in
    let v = c.loop-piece.invariant in
    v.behind ∙ ap (λ x. name_at m.table (suc x)) (door_here m c.distance-nearer.ensures.known c.args.piece c.requires c.loop-piece.door.index v.inside v.not_yet
    (ap (λ q. (region m.table q).distance) (sym v.behind) ∙ (sym c.distance.ensures.value ∙ (c.loop-piece-test.false ∙ ap (λ x. x - 1) c.distance-nearer.ensures.value))))
