use Rattle.std.proofs.Common.{◌≡◌, ◌+◌, ◌∙◌, ℕ, Bool, false, None, Some, List, [], ◌∷◌, ◌++◌, ap, arith, get_or, length, subst, sym, take}
use Rattle.drawing.proofs.Lists.{written_back}
use Rattle.empty_domains.proofs.Tested.{led_on, led_over}
use Rattle.empty_domains.proofs.Verified.{table_size}
use Rattle.empty_domains.specs.Led.{IsLed}
use Rattle.empty_domains.specs.Strip.{Step}
use Rattle.empty_domains.specs.Targets.{AreLed}
use Rattle.obd_base.specs.Lists.{Mem}
use Rattle.region_table.proofs.EdgeWalk.{mem_of_place}
use Rattle.empty_domains.proofs.targets.targets_of.Goals as goal
use Rattle.empty_domains.proofs.targets.targets_of.Goals.{in-Some+in_ok-push, in_default}

pub verify-requires-clause-read : goal.verify-requires-clause-read
verify-requires-clause-read c =
    subst (λ (ss : List Step). Mem c.step-item.result ss) c.requires.steps
    (subst (λ (z : Step). Mem z c.args.steps.now) (sym c.step-item.is) (mem_of_place c.args.steps.now c.loop-step.step-index c.step-item.result c.loop-step-test.true))

pub verify-requires-clause-marks : goal.verify-requires-clause-marks
verify-requires-clause-marks c =
    omega (arith, ap length c.deref_mut.ensures.value, c.loop-step.invariant.size, table_size c.args.diagram.now c.args.pieces.now c.requires.pieces)

pub loop-step-preserved : goal.loop-step-preserved
loop-step-preserved c =
    let d = c.args.diagram.now in
    let y = c.args.y.now in
    let gens = c.args.generators.now in
    let steps = c.args.steps.now in
    let i = c.loop-step.step-index in
    let size : length c.verify.new.marks ≡ length c.loop-step.marks.items = c.in_ok-led.ensures.size ∙ ap length c.deref_mut.ensures.value in
    let full : length c.loop-step.marks.items ≡ c.loop-step.marks.len = sym (ap length c.deref_mut.ensures.value) ∙ c.deref_mut.ensures.len in
    let back = written_back c.loop-step.marks.len c.loop-step.marks.items c.verify.new.marks (size ∙ full) full in
    let led : AreLed d y gens (take (i + 1) steps) c.match-led.targets.items = elim c.match-led.branch [
      | in-Some+in_ok-push w ↦ (
          let led : IsLed d y gens c.step-item.result (Some w.number.result) = subst (λ n. IsLed d y gens c.step-item.result (Some n)) (sym w.number.ensures.value) (rw w.in-Some.is at c.in_ok-led.ensures.led) in
          let pushed : c.match-led.targets.items ≡ c.loop-step.targets.items ++ w.number.result ∷ [] = rw w.targets-is w.in_ok-push.ensures.items in
          subst (λ (ns : List ℕ). AreLed d y gens (take (i + 1) steps) ns) (sym pushed)
          (led_on d y gens steps c.loop-step.targets.items i (i + 1) (omega arith) c.loop-step-test.true c.step-item.result c.step-item.result c.step-item.is c.loop-step.invariant.led w.number.result led))
      | in_default w ↦ (
          let led : IsLed d y gens c.step-item.result None = rw w.in_default.is at c.in_ok-led.ensures.led in
          rw w.targets-is (led_over d y gens steps c.loop-step.targets.items i (i + 1) (omega arith) c.loop-step-test.true c.step-item.result c.step-item.result c.step-item.is c.loop-step.invariant.led led))
    ] in
    record {
      led = led;
      size = ap length back ∙ (size ∙ c.loop-step.invariant.size);
      unmarked = λ piece. ap (λ (zs : List Bool). get_or zs piece false) back ∙ c.in_ok-led.ensures.unmarked piece;
    }
