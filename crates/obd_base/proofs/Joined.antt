-- Pieces of a reading and of a writing, joined.
use Rattle.std.proofs.Common.{◌≡◌, ℕ, ◌+◌, ◌≤◌, List, [], ◌++◌, length, take, drop, Option, Some, None, sym, ◌∙◌, ap, arith, append_assoc, length-drop}
use Rattle.std.proofs.lemmas.List.{take_at, take-append-drop, drop-drop, length-take, drop_all}
use Rattle.std.proofs.Math.Seq.{take-add}
use Rattle.std.specs.Io.KnownBytes.{Appends}

-- what was taken in front, and then the next piece
pub Appends-more : (old mid new : Option (List ℕ)) (text : List ℕ) (at n : ℕ) → Appends old mid (take at text) → Appends mid new (take n (drop at text)) → Appends old new (take (at + n) text)
Appends-more None mid new text at n before after = tt
Appends-more (Some xs) None new text at n before after = absurd before
Appends-more (Some xs) (Some ys) None text at n before after = absurd after
Appends-more (Some xs) (Some ys) (Some zs) text at n before after =
    after ∙ ap (λ ws. ws ++ take n (drop at text)) before ∙ append_assoc xs (take at text) (take n (drop at text)) ∙ ap (λ ws. xs ++ ws) (sym (take-add at n text))

-- a piece that was copied out of a list, and what is left of it
pub copied_out : (xs copied rest : List ℕ) (at n : ℕ) → n ≤ length (drop at xs) → copied ≡ take n (drop at xs) → drop at xs ≡ take n (copied ++ rest) ++ drop (at + n) xs
copied_out xs copied rest at n within is =
    let size : length copied ≡ n = rw (is, length-take) (omega arith) in
    rw (take_at copied rest n size, is, ← drop-drop n at xs) (sym (take-append-drop n (drop at xs)))

-- nothing is left where nothing was given though there was room
pub none_left : (xs : List ℕ) (at n : ℕ) → n ≡ 0 → length (drop at xs) ≡ 0 → drop (at + n) xs ≡ []
none_left xs at n none size = drop_all (at + n) xs (omega (arith, length-drop at xs))
