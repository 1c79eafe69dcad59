use Rattle.std.proofs.Common.{◌≡◌, ◌≢◌, ◌∙◌, ◌-◌, ◌++◌, ◌⊎◌, ℕ, arith, drop, inl, inr, length, subst, sym, take}
use Rattle.std.proofs.lemmas.Bool.{cases_eq, eqb-false, eqb-true, not-false, not-true}
use Rattle.page_surface.specs.Polygon.{partner}
use Rattle.page_surface.specs.Words.{reduced}
use Rattle.path_words.proofs.Cuts.{cancels_more, cut_apart, cut_ended}
use Rattle.path_words.proofs.stack.cancelled_count.Goals as goal

pub loop-count-preserved : goal.loop-count-preserved
loop-count-preserved c =
    let p = c.args.polygon.now in
    let pair : partner p c.index-word-word.result ≡ c.index-letters-count.result
    = sym c.pair.ensures ∙ eqb-true _ _ (not-false _ (sym c.ne.ensures ∙ c.if-ne.false)) in
    cancels_more p c.requires.valid.pairs c.args.word.now c.args.letters.now c.loop-count.count c.loop-count.invariant c.index-word-word.result c.index-letters-count.result
    (omega (arith, c.loop-count-test.true, c.min-most.ensures)) (omega (arith, c.loop-count-test.true, c.min-most.ensures)) c.index-word-word.is c.index-letters-count.is pair

pub returns-then-ne-clause-joined : goal.returns-then-ne-clause-joined
returns-then-ne-clause-joined c =
    let p = c.args.polygon.now in
    let other : partner p c.index-word-word.result ≢ c.index-letters-count.result
    = λ e. eqb-false _ _ (not-true _ (sym c.ne.ensures ∙ c.if-ne.true)) (c.pair.ensures ∙ e) in
    cut_apart p c.requires.valid.pairs c.args.word.now c.args.letters.now c.loop-count.count c.loop-count.invariant c.requires.is_reduced c.requires.letters
    c.index-word-word.result c.index-letters-count.result (omega (arith, c.loop-count-test.true, c.min-most.ensures)) (omega (arith, c.loop-count-test.true, c.min-most.ensures))
    c.index-word-word.is c.index-letters-count.is other

pub returns-clause-joined : goal.returns-clause-joined
returns-clause-joined c =
    let p = c.args.polygon.now in
    let word = c.args.word.now in
    let letters = c.args.letters.now in
    let end : c.loop-count.count ≡ c.min-most.result = omega (arith, c.loop-count-test.false, c.loop-count.auto) in
    let ended : (c.loop-count.count ≡ length word) ⊎ (c.loop-count.count ≡ length letters) = elim (cases_eq c.loop-count.count (length word)) [
      | inl e ↦ inl e
      | inr ne ↦ inr (omega (arith, end, ne, c.min-most.ensures, c.loop-count.invariant.within, c.loop-count.invariant.within_letters))
    ] in
    subst (λ (n : ℕ). take (length word - n) word ++ drop n letters ≡ reduced p (word ++ letters)) end
    (cut_ended p c.requires.valid.pairs word letters c.loop-count.count c.loop-count.invariant c.requires.is_reduced c.requires.letters ended)
