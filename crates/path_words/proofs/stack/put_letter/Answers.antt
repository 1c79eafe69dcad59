use Rattle.std.proofs.Common.{◌≡◌, ◌∙◌, ◌-◌, ◌++◌, ◌∷◌, [], ap, sym, take}
use Rattle.page_surface.specs.Words.{reduced}
use Rattle.std.proofs.lemmas.Bool.{eqb-false, eqb-true}
use Rattle.path_words.proofs.Stacks.{put_cancels, put_first, put_keeps, reduced_again}
use Rattle.path_words.proofs.stack.put_letter.Goals as goal
use Rattle.path_words.proofs.stack.put_letter.Goals.{in-Some+else-eq, in_default}

-- the last letter is taken out
cancelled : (c : goal.After-pop) → c.pop.new.self.items ≡ reduced c.args.polygon.now (c.args.word.now.items ++ c.args.side ∷ [])
cancelled c =
    put_cancels c.args.polygon.now c.requires.valid.pairs c.args.word.now.items c.args.side c.requires.is_reduced c.in-Some.last.now c.pop.new.self.items
    (rw c.deref.ensures.value at c.in-Some.ensures.value) (sym c.pair.ensures ∙ eqb-true _ _ (sym c.if-eq.ensures))
    (c.pop.ensures.rest ∙ ap (λ n. take (n - 1) c.args.word.now.items) c.args.word.now.ok.0)

pub returns-then-eq-clause-word : goal.returns-then-eq-clause-word
returns-then-eq-clause-word c = cancelled c

pub returns-then-eq-clause-is_reduced : goal.returns-then-eq-clause-is_reduced
returns-then-eq-clause-is_reduced c = reduced_again c.args.polygon.now c.pop.new.self.items (c.args.word.now.items ++ c.args.side ∷ []) (cancelled c)

-- the letter is set
kept : (c : goal.In_ok-push) → c.push.new.self.items ≡ reduced c.args.polygon.now (c.args.word.now.items ++ c.args.side ∷ [])
kept c = elim c.match-last.branch [
  | in-Some+else-eq w ↦
      c.in_ok-push.ensures.items
      ∙ put_keeps c.args.polygon.now c.requires.valid.pairs c.args.word.now.items c.args.side c.requires.is_reduced w.in-Some.last.now (rw c.deref.ensures.value at w.in-Some.ensures.value)
      (λ e. eqb-false _ _ (sym w.if-eq.ensures) (w.pair.ensures ∙ e))
  | in_default w ↦
      c.in_ok-push.ensures.items
      ∙ put_first c.args.polygon.now c.requires.valid.pairs c.args.word.now.items c.args.side c.requires.is_reduced (rw c.deref.ensures.value at w.in_default.ensures.value)
]

pub returns-clause-word : goal.returns-clause-word
returns-clause-word c = kept c

pub returns-clause-is_reduced : goal.returns-clause-is_reduced
returns-clause-is_reduced c = reduced_again c.args.polygon.now c.push.new.self.items (c.args.word.now.items ++ c.args.side ∷ []) (kept c)
