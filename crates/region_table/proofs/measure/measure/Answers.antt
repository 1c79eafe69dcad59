use Rattle.std.proofs.Common.{◌≡◌, ℕ, ◌≤◌, ◌+◌, ◌-◌, length, get_or, set, ◌∙◌, refl, sym, ap, subst, arith}
use Rattle.std.proofs.lemmas.List.{length-set}
use Rattle.drawing.specs.Pieces.{span_count}
use Rattle.region_table.proofs.DistanceCode.{fall_left, fall_none, fall_written, rise_left, rise_none, rise_written, span_after}
use Rattle.region_table.proofs.DistanceFall.{IsFalling, fall_start}
use Rattle.region_table.proofs.DistanceRise.{IsRising, rise_start, risen}
use Rattle.region_table.proofs.DistanceSteps.{lowered_entry, still_small}
use Rattle.region_table.proofs.NumberSteps.{table_size}
use Rattle.region_table.proofs.measure.measure.Goals as goal
use Rattle.region_table.proofs.measure.measure.Goals.{then-mates-at-2+then-label-labels-2, then-mates-at-2+else-label-labels-2, else-mates-at-2}

pub overflow_cast-at : goal.overflow_cast-at
overflow_cast-at c =
    let n = table_size (c.requires.given.0) (c.requires.given.1.embedded) c.args.mates.now (c.requires.given.1.mates_are) in
    omega (arith, n, (c.requires.given.1.few), c.loop-at.invariant.inside)

pub bounds-names-at : goal.bounds-names-at
bounds-names-at c =
    let n = table_size (c.requires.given.0) (c.requires.given.1.embedded) c.args.mates.now (c.requires.given.1.mates_are) in
    omega (arith, n, (c.requires.given.1.named), c.loop-at.invariant.inside, c.loop-at-test.true)

pub bounds-names-at-then-mates-at : goal.bounds-names-at-then-mates-at
bounds-names-at-then-mates-at c =
    let after = span_after (c.requires.given.0) (c.requires.given.1.embedded) c.args.mates.now (c.requires.given.1.mates_are) c.args.names.now (c.requires.given.1.naming) c.args.bound _ (omega (arith, c.loop-at.invariant.inside, c.loop-at-test.true)) c.if-mates-at.true in
    omega (arith, after, (c.requires.given.1.named))

pub bounds-labels-after : goal.bounds-labels-after
bounds-labels-after c =
    let after = span_after (c.requires.given.0) (c.requires.given.1.embedded) c.args.mates.now (c.requires.given.1.mates_are) c.args.names.now (c.requires.given.1.naming) c.args.bound _ (omega (arith, c.loop-at.invariant.inside, c.loop-at-test.true)) c.if-mates-at.true in
    let l = (c.requires.given.1.told) (c.loop-at.at - 1 + 1) (omega (arith, after)) in
    omega (arith, l, c.loop-at.invariant.size)

pub bounds-labels-before : goal.bounds-labels-before
bounds-labels-before c =
    let n = table_size (c.requires.given.0) (c.requires.given.1.embedded) c.args.mates.now (c.requires.given.1.mates_are) in
    let l = (c.requires.given.1.told) (c.loop-at.at - 1) (omega (arith, n, c.loop-at.invariant.inside, c.loop-at-test.true)) in
    omega (arith, l, c.loop-at.invariant.size)

pub loop-at-init : goal.loop-at-init
loop-at-init c =
    record {
      inside = omega arith;
      size = refl;
      within = c.requires.within;
      falling = λ d given.
          subst (λ x. IsFalling d given.embedded (λ s. get_or c.args.names.now s 0) given.naming c.args.bound (λ p. get_or c.args.labels.now p 0) x) (sym (table_size d given.embedded c.args.mates.now given.mates_are))
          (fall_start d given.embedded (λ s. get_or c.args.names.now s 0) given.naming c.args.bound (λ p. get_or c.args.labels.now p 0) (omega (arith, given.high)) given.bases given.others);
    }

pub loop-at-preserved : goal.loop-at-preserved
loop-at-preserved c =
    let v = c.loop-at.invariant in
    record {
      inside = omega (arith, v.inside);
      size = v.size;
      within = v.within;
      falling = λ d given.
          fall_none d given.embedded c.args.mates.now given.mates_are c.args.names.now given.naming c.args.bound _ _ _ (omega (arith, v.inside, c.loop-at-test.true)) (omega (arith, c.loop-at-test.true)) (omega (arith, c.if-mates-at.false)) (v.falling d given);
    }

pub loop-at-preserved-then-label-labels : goal.loop-at-preserved-then-label-labels
loop-at-preserved-then-label-labels c =
    let v = c.loop-at.invariant in
    let n = table_size (c.requires.given.0) (c.requires.given.1.embedded) c.args.mates.now (c.requires.given.1.mates_are) in
    let x = c.loop-at.at - 1 in
    let fits = (c.requires.given.1.told) x (omega (arith, n, v.inside, c.loop-at-test.true)) in
    let before = get_or c.args.names.now x 0 in
    let after = get_or c.args.names.now (x + 1) 0 in
    let label = get_or c.loop-at.labels after 0 + 1 in
    record {
      inside = omega (arith, v.inside);
      size = length-set c.loop-at.labels before label ∙ v.size;
      within = still_small (λ p. get_or c.loop-at.labels p 0) (λ p. get_or (set c.loop-at.labels before label) p 0) before after c.args.bound
          (lowered_entry c.loop-at.labels before after label (omega (arith, fits, v.size)) refl c.if-label-labels.true) v.within;
      falling = λ d given.
          fall_written d given.embedded c.args.mates.now given.mates_are c.args.names.now given.naming c.args.bound c.loop-at.labels x (x + 1) (omega (arith, v.inside, c.loop-at-test.true)) refl
          label c.if-mates-at.true (omega (arith, fits, v.size)) refl c.if-label-labels.true
          (subst (λ y. IsFalling d given.embedded (λ s. get_or c.args.names.now s 0) given.naming c.args.bound (λ p. get_or c.loop-at.labels p 0) y) (omega (arith, c.loop-at-test.true)) (v.falling d given));
    }

pub loop-at-preserved-else-label-labels : goal.loop-at-preserved-else-label-labels
loop-at-preserved-else-label-labels c =
    let v = c.loop-at.invariant in
    let x = c.loop-at.at - 1 in
    record {
      inside = omega (arith, v.inside);
      size = v.size;
      within = v.within;
      falling = λ d given.
          fall_left d given.embedded c.args.mates.now given.mates_are c.args.names.now given.naming c.args.bound c.loop-at.labels x (x + 1) (omega (arith, v.inside, c.loop-at-test.true)) refl
          c.if-mates-at.true (omega (arith, c.if-label-labels.false))
          (subst (λ y. IsFalling d given.embedded (λ s. get_or c.args.names.now s 0) given.naming c.args.bound (λ p. get_or c.loop-at.labels p 0) y) (omega (arith, c.loop-at-test.true)) (v.falling d given));
    }

pub overflow_cast-at-in-loop-at-2 : goal.overflow_cast-at-in-loop-at-2
overflow_cast-at-in-loop-at-2 c =
    let n = table_size (c.requires.given.0) (c.requires.given.1.embedded) c.args.mates.now (c.requires.given.1.mates_are) in
    omega (arith, n, (c.requires.given.1.few), c.loop-at-2-test.true)

pub bounds-names-at-then-mates-at-2 : goal.bounds-names-at-then-mates-at-2
bounds-names-at-then-mates-at-2 c =
    let n = table_size (c.requires.given.0) (c.requires.given.1.embedded) c.args.mates.now (c.requires.given.1.mates_are) in
    omega (arith, n, (c.requires.given.1.named), c.loop-at-2-test.true)

pub bounds-names-at-then-mates-at-2-2 : goal.bounds-names-at-then-mates-at-2-2
bounds-names-at-then-mates-at-2-2 c =
    let after = span_after (c.requires.given.0) (c.requires.given.1.embedded) c.args.mates.now (c.requires.given.1.mates_are) c.args.names.now (c.requires.given.1.naming) c.args.bound _ c.loop-at-2-test.true c.if-mates-at-2.true in
    omega (arith, after, (c.requires.given.1.named))

pub bounds-labels-before-then-mates-at-2 : goal.bounds-labels-before-then-mates-at-2
bounds-labels-before-then-mates-at-2 c =
    let n = table_size (c.requires.given.0) (c.requires.given.1.embedded) c.args.mates.now (c.requires.given.1.mates_are) in
    let l = (c.requires.given.1.told) c.loop-at-2.at (omega (arith, n, c.loop-at-2-test.true)) in
    omega (arith, l, c.loop-at-2.invariant.size)

pub bounds-labels-after-then-mates-at-2 : goal.bounds-labels-after-then-mates-at-2
bounds-labels-after-then-mates-at-2 c =
    let after = span_after (c.requires.given.0) (c.requires.given.1.embedded) c.args.mates.now (c.requires.given.1.mates_are) c.args.names.now (c.requires.given.1.naming) c.args.bound _ c.loop-at-2-test.true c.if-mates-at-2.true in
    let l = (c.requires.given.1.told) (c.loop-at-2.at + 1) (omega (arith, after)) in
    omega (arith, l, c.loop-at-2.invariant.size)

pub loop-at-2-init : goal.loop-at-2-init
loop-at-2-init c =
    let v = c.loop-at.invariant in
    record {
      size = v.size;
      within = v.within;
      rising = λ d given.
          rise_start d given.embedded (λ s. get_or c.args.names.now s 0) given.naming c.args.bound _
          (subst (λ x. IsFalling d given.embedded (λ s. get_or c.args.names.now s 0) given.naming c.args.bound (λ p. get_or c.loop-at.labels p 0) x) (let z : c.loop-at.at ≡ 0 = omega (arith, c.loop-at-test.false) in z) (v.falling d given));
    }

pub loop-at-2-preserved : goal.loop-at-2-preserved
loop-at-2-preserved c = elim c.if-mates-at-2.branch [
  | then-mates-at-2+then-label-labels-2 w ↦
      let v = c.loop-at-2.invariant in
      let x = c.loop-at-2.at in
      let after_in = span_after (c.requires.given.0) (c.requires.given.1.embedded) c.args.mates.now (c.requires.given.1.mates_are) c.args.names.now (c.requires.given.1.naming) c.args.bound x c.loop-at-2-test.true w.if-mates-at-2.true in
      let fits = (c.requires.given.1.told) (x + 1) (omega (arith, after_in)) in
      let before = get_or c.args.names.now x 0 in
      let after = get_or c.args.names.now (x + 1) 0 in
      let label = get_or c.loop-at-2.labels before 0 + 1 in
      record {
        size = ap length w.labels-is ∙ (length-set c.loop-at-2.labels after label ∙ v.size);
        within = subst (λ ls. (p : ℕ) → get_or ls p 0 ≤ c.args.bound) (sym w.labels-is)
            (still_small (λ p. get_or c.loop-at-2.labels p 0) (λ p. get_or (set c.loop-at-2.labels after label) p 0) after before c.args.bound
            (lowered_entry c.loop-at-2.labels after before label (omega (arith, fits, v.size)) refl w.if-label-labels-2.true) v.within);
        rising = λ d given.
            subst (λ ls. IsRising d given.embedded (λ s. get_or c.args.names.now s 0) given.naming c.args.bound (λ p. get_or ls p 0) (x + 1)) (sym w.labels-is)
            (rise_written d given.embedded c.args.mates.now given.mates_are c.args.names.now given.naming c.args.bound c.loop-at-2.labels x (x + 1) c.loop-at-2-test.true refl
            label w.if-mates-at-2.true (omega (arith, fits, v.size)) refl w.if-label-labels-2.true (v.rising d given));
      }
  | then-mates-at-2+else-label-labels-2 w ↦
      let v = c.loop-at-2.invariant in
      let x = c.loop-at-2.at in
      record {
        size = ap length w.labels-is ∙ v.size;
        within = subst (λ ls. (p : ℕ) → get_or ls p 0 ≤ c.args.bound) (sym w.labels-is) v.within;
        rising = λ d given.
            subst (λ ls. IsRising d given.embedded (λ s. get_or c.args.names.now s 0) given.naming c.args.bound (λ p. get_or ls p 0) (x + 1)) (sym w.labels-is)
            (rise_left d given.embedded c.args.mates.now given.mates_are c.args.names.now given.naming c.args.bound c.loop-at-2.labels x (x + 1) c.loop-at-2-test.true refl
            w.if-mates-at-2.true (omega (arith, w.if-label-labels-2.false)) (v.rising d given));
      }
  | else-mates-at-2 w ↦
      let v = c.loop-at-2.invariant in
      let x = c.loop-at-2.at in
      record {
        size = ap length w.labels-is ∙ v.size;
        within = subst (λ ls. (p : ℕ) → get_or ls p 0 ≤ c.args.bound) (sym w.labels-is) v.within;
        rising = λ d given.
            subst (λ ls. IsRising d given.embedded (λ s. get_or c.args.names.now s 0) given.naming c.args.bound (λ p. get_or ls p 0) (x + 1)) (sym w.labels-is)
            (rise_none d given.embedded c.args.mates.now given.mates_are c.args.names.now given.naming c.args.bound c.loop-at-2.labels x (x + 1) c.loop-at-2-test.true refl
            (omega (arith, w.if-mates-at-2.false)) (v.rising d given));
      }
]

pub returns-clause-distances : goal.returns-clause-distances
returns-clause-distances c = λ d given.
    let n = table_size d given.embedded c.args.mates.now given.mates_are in
    let at : c.loop-at-2.at ≡ span_count d = omega (arith, n, c.loop-at-2-test.false, c.loop-at-2.auto) in
    risen d given.embedded (λ s. get_or c.args.names.now s 0) given.naming c.args.bound _ given.high
    (subst (λ x. IsRising d given.embedded (λ s. get_or c.args.names.now s 0) given.naming c.args.bound (λ p. get_or c.loop-at-2.labels p 0) x) at (c.loop-at-2.invariant.rising d given))
