use Rattle.path_words.proofs.Moving.{Moving}
use Rattle.path_words.proofs.image.image_of.Given as goal

-- the image of the letters so far is built, up to a gap
abbrev pub invariant-loop-side : goal.invariant-loop-side
invariant-loop-side l = Moving l.polygon l.pushes l.word l.fn.from l.to l.image.items l.gap l.side-index
