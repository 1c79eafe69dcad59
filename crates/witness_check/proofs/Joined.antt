-- Texts that grow at their end.
use Rattle.std.proofs.Common.{◌≡◌, ℕ, List, [], ◌∷◌, ◌++◌, length, decimal, ◌∙◌, ap, append_assoc, Result, Ok, Err, OnOk, subst}
use Rattle.witness_check.specs.Line.{line, lines, listed}

-- what follows on success
pub on_success : {T E : Type 0} {P Q : Type 0} (result : Result T E) → (P → Q) → OnOk result P → OnOk result Q
on_success (Ok value) follows holds = follows holds
on_success (Err error) follows holds = holds

-- a text after a piece, then the number of some items, and then a line for each
pub listed_after : {A : Type 0} (many one : List ℕ) (words : A → List (List ℕ)) (items seen : List A) (text piece before middle after : List ℕ)
    → seen ≡ items → before ≡ text ++ piece → middle ≡ before ++ line many (decimal (length seen) ∷ []) → after ≡ middle ++ lines one words seen
    → after ≡ text ++ (piece ++ listed many one words items)
unfolding listed
listed_after {A = A} many one words items seen text piece before middle after same first second third =
    subst (λ (xs : List A). after ≡ text ++ (piece ++ listed many one words xs)) same
    (third ∙ (ap (λ x. x ++ lines one words seen) (second ∙ ap (λ x. x ++ line many (decimal (length seen) ∷ [])) first)
    ∙ (append_assoc (text ++ piece) (line many (decimal (length seen) ∷ [])) (lines one words seen) ∙ append_assoc text piece (listed many one words seen))))
