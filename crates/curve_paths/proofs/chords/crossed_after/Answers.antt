use Rattle.std.proofs.Common.{suc, ◌-◌, length, sym, ◌∙◌, arith}
use Rattle.curve_paths.specs.PathRules.{do_cross, pair}
use Rattle.curve_paths.proofs.Finds.{number_found, no_number}
use Rattle.curve_paths.proofs.PathChords.{cross_read}
use Rattle.curve_paths.proofs.chords.crossed_after.Goals as goal

pub returns-then-crosses : goal.returns-then-crosses
returns-then-crosses c =
    sym (number_found (λ k. do_cross c.args.chords.now (pair c.args.first k)) (suc c.args.first) (length c.args.chords.now - suc c.args.first) c.loop-second.second
    (omega arith) (omega arith) c.loop-second.invariant
    (cross_read c.args.chords.now c.args.first c.loop-second.second _ _ c.requires.first (omega arith) c.index-chords-first.is c.index-chords-second.is ∙ (sym c.crosses.ensures ∙ c.if-crosses.true)))

pub returns : goal.returns
returns c =
    sym (no_number (λ k. do_cross c.args.chords.now (pair c.args.first k)) (suc c.args.first) (length c.args.chords.now - suc c.args.first)
    (λ k a b. c.loop-second.invariant k a (omega arith)))
