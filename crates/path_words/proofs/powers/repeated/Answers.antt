use Rattle.std.proofs.Common.{◌≡◌, ◌∙◌, ℕ, List, ap, arith, sym}
use Rattle.std.specs.Prelude.{Err, Ok}
use Rattle.curve_paths.specs.Twists.{limited, times, turned_by}
use Rattle.path_words.specs.Pushes.{strands_with}
use Rattle.path_words.proofs.Turns.{handed_on, set_is_turned, times_all, times_long, times_more, times_needed}
use Rattle.path_words.proofs.powers.repeated.Goals as goal

pub loop-turn-preserved : goal.loop-turn-preserved
loop-turn-preserved c =
    let p = c.args.polygon.now in
    let same = set_is_turned p c.args.curve.now c.args.sign c.in_ok-pushes.ensures.table.valid c.in_ok-pushes.ensures.some c.in_ok-pushes.pushes c.in_ok-pushes.ensures.value c.loop-turn.now in
    let turned : limited (turned_by p c.args.curve.now c.args.sign c.loop-turn.now) ≡ Ok c.in_ok-now.now
    = sym same ∙ (ap (λ (ws : List (List ℕ)). limited (strands_with p c.in_ok-pushes.pushes ws)) (sym c.as_slice.ensures) ∙ c.in_ok-now.ensures.turned) in
    (c.in_ok-now.ensures.words, times_more p c.args.curve.now c.args.sign c.turns_needed-turn-end.result c.loop-turn.turn c.args.words c.loop-turn.now c.in_ok-now.now c.loop-turn-test.true c.loop-turn.invariant.1 turned)

pub returns-in_err-now-clause-long : goal.returns-in_err-now-clause-long
returns-in_err-now-clause-long c =
    let p = c.args.polygon.now in
    let same = set_is_turned p c.args.curve.now c.args.sign c.in_ok-pushes.ensures.table.valid c.in_ok-pushes.ensures.some c.in_ok-pushes.pushes c.in_ok-pushes.ensures.value c.loop-turn.now in
    let all = times_needed p c.args.curve.now c.args.sign c.in_ok-pushes.ensures.table.valid c.in_ok-pushes.ensures.some c.in_ok-pushes.pushes c.in_ok-pushes.ensures.value
    c.args.turns c.turns_needed-turn-end.result c.turns_needed-turn-end.ensures.needed c.turns_needed-turn-end.ensures.empty c.args.words in
    handed_on (λ count. times p c.args.curve.now c.args.sign c.args.turns c.args.words ≡ Err count) _ _ c.from_residual-in_err-now.ensures.1
    (λ count given. sym all ∙ times_long p c.args.curve.now c.args.sign c.turns_needed-turn-end.result c.loop-turn.turn count c.args.words c.loop-turn.now c.loop-turn-test.true c.loop-turn.invariant.1
    (sym same ∙ (ap (λ (ws : List (List ℕ)). limited (strands_with p c.in_ok-pushes.pushes ws)) (sym c.as_slice.ensures) ∙ c.in_err-now.ensures.long count given)))

pub returns-clause-turned : goal.returns-clause-turned
returns-clause-turned c =
    let p = c.args.polygon.now in
    let all = times_needed p c.args.curve.now c.args.sign c.in_ok-pushes.ensures.table.valid c.in_ok-pushes.ensures.some c.in_ok-pushes.pushes c.in_ok-pushes.ensures.value
    c.args.turns c.turns_needed-turn-end.result c.turns_needed-turn-end.ensures.needed c.turns_needed-turn-end.ensures.empty c.args.words in
    let end : c.loop-turn.turn ≡ c.turns_needed-turn-end.result = omega (arith, c.loop-turn-test.false, c.loop-turn.auto) in
    sym all ∙ times_all p c.args.curve.now c.args.sign c.turns_needed-turn-end.result c.loop-turn.turn c.args.words c.loop-turn.now end c.loop-turn.invariant.1
