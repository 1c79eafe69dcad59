use Rattle.std.proofs.Common.{◌∙◌, arith, sym}
use Rattle.std.proofs.lemmas.Bool.{eqb-false, eqb-true}
use Rattle.page_surface.proofs.WordLaws.{one_reduced_form}
use Rattle.path_words.proofs.Reducing.{reducing_all, reducing_none, step_cancels, step_keeps}
use Rattle.path_words.proofs.reduce_word.reduce.Goals as goal
use Rattle.path_words.proofs.reduce_word.reduce.Goals.{then-kept-gt0+then-eq, else-kept-gt0, else-kept-gt0-via-then-kept-gt0+else-eq, else-kept-gt0-via-else-kept-gt0}

pub loop-read-init : goal.loop-read-init
loop-read-init c = reducing_none c.args.polygon.now c.args.word.now.items c.requires

pub loop-read-preserved : goal.loop-read-preserved
loop-read-preserved c =
    let p = c.args.polygon.now in
    let word = c.args.word.now.items in
    elim c.if-kept-gt0.branch [
      | then-kept-gt0+then-eq w ↦
          rw (w.word-is, w.kept-is)
          (step_cancels p word c.loop-read.word.items c.loop-read.kept c.loop-read.read c.loop-read.invariant (omega arith) c.index.result.now c.index.ensures
          w.index-then-kept-gt0.result.now w.if-kept-gt0.true w.index-then-kept-gt0.ensures (sym w.pair.ensures ∙ eqb-true _ _ (sym w.eq.ensures ∙ w.if-eq.true)))
      | else-kept-gt0 w ↦
          rw (w.word-is, w.kept-is)
          (step_keeps p word c.loop-read.word.items c.loop-read.kept c.loop-read.read c.loop-read.invariant (omega arith) c.index.result.now c.index.ensures
          (λ some. elim w.else-kept-gt0.branch [
            | else-kept-gt0-via-then-kept-gt0+else-eq v ↦
                (v.index-then-kept-gt0.result.now, v.index-then-kept-gt0.ensures, λ e. eqb-false _ _ (sym v.eq.ensures ∙ v.if-eq.false) (v.pair.ensures ∙ e))
            | else-kept-gt0-via-else-kept-gt0 v ↦ absurd (omega (arith, v.if-kept-gt0.false))
          ]))
    ]

pub returns-clause-form : goal.returns-clause-form
returns-clause-form c =
    rw c.truncate.ensures.items (reducing_all c.args.polygon.now c.args.word.now.items c.loop-read.word.items c.loop-read.kept c.loop-read.read c.loop-read.invariant (omega arith))

pub returns-clause-computed : goal.returns-clause-computed
returns-clause-computed c = λ ok.
    one_reduced_form c.args.polygon.now ok c.args.word.now.items c.truncate.new.self.items
    (rw c.truncate.ensures.items (reducing_all c.args.polygon.now c.args.word.now.items c.loop-read.word.items c.loop-read.kept c.loop-read.read c.loop-read.invariant (omega arith)))
