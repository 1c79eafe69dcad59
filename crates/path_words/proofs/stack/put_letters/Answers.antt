use Rattle.std.proofs.Common.{◌≡◌, ◌∙◌, ◌-◌, ◌++◌, ℕ, List, ap, drop, length, take}
use Rattle.std.proofs.lemmas.List.{take_rest}
use Rattle.page_surface.specs.Words.{reduced}
use Rattle.path_words.proofs.Stacks.{reduced_again}
use Rattle.path_words.proofs.stack.put_letters.Goals as goal

pub returns-clause-is_reduced : goal.returns-clause-is_reduced
returns-clause-is_reduced c =
    let p = c.args.polygon.now in
    let n = c.cancelled_count-count.result in
    let kept : c.truncate.new.self.items ≡ take (length c.args.word.now.items - n) c.args.word.now.items
    = c.truncate.ensures.items ∙ ap (λ (m : ℕ). take (m - n) c.args.word.now.items) (c.len.ensures ∙ c.args.word.now.ok.0) in
    let joined : take (length c.args.word.now.items - n) c.args.word.now.items ++ drop n c.args.letters.now ≡ reduced p (c.args.word.now.items ++ c.args.letters.now)
    = rw c.deref.ensures.value at c.cancelled_count-count.ensures.joined in
    let made : c.extend_from_slice.new.self.items ≡ c.truncate.new.self.items ++ drop n c.args.letters.now = rw take_rest at c.in_ok-extend_from_slice.ensures.items in
    reduced_again p c.extend_from_slice.new.self.items (c.args.word.now.items ++ c.args.letters.now)
    (made ∙ (ap (λ (u : List ℕ). u ++ drop n c.args.letters.now) kept ∙ joined))
