use Rattle.std.proofs.Common.{◌≡◌, ◌++◌, map, take}
use Rattle.witness_check.specs.Line.{spaced}
use Rattle.obd_cli.proofs.refused.put_texts.Given as goal

-- the words so far were appended
abbrev pub invariant-loop-word : goal.invariant-loop-word
invariant-loop-word l = l.text ≡ l.initial.text ++ spaced (map (λ word. word.now) (take l.word-index l.words))
