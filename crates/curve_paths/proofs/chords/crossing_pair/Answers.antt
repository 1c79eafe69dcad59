use Rattle.std.proofs.Common.{suc, ◌-◌, length, map, sym, ap, ◌∙◌, option_map, arith}
use Rattle.std.specs.List.{range_with_len}
use Rattle.curve_paths.specs.PathRules.{do_cross, pair}
use Rattle.curve_paths.proofs.Finds.{find-map, list_found, no_list}
use Rattle.curve_paths.proofs.chords.crossing_pair.Goals as goal

pub returns-in-Some : goal.returns-in-Some
returns-in-Some c =
    let chords = c.args.chords.now in
    sym (list_found (do_cross chords) (λ i. map (pair i) (range_with_len (suc i) (length chords - suc i))) 0 (length chords) c.loop-first.first _ (omega arith) (omega arith)
    (λ k a b. find-map (do_cross chords) (pair k) (range_with_len (suc k) (length chords - suc k)) ∙ ap (option_map (pair k)) (c.loop-first.invariant k b))
    (find-map (do_cross chords) (pair c.loop-first.first) (range_with_len (suc c.loop-first.first) (length chords - suc c.loop-first.first))
    ∙ ap (option_map (pair c.loop-first.first)) (sym c.in-Some.ensures)))

pub returns : goal.returns
returns c =
    let chords = c.args.chords.now in
    sym (no_list (do_cross chords) (λ i. map (pair i) (range_with_len (suc i) (length chords - suc i))) 0 (length chords)
    (λ k a b. find-map (do_cross chords) (pair k) (range_with_len (suc k) (length chords - suc k)) ∙ ap (option_map (pair k)) (c.loop-first.invariant k (omega arith))))
