-- Lists that are collected number by number.
use Rattle.std.proofs.Common.{◌≡◌, ℕ, ◌+◌, List, [], ◌∷◌, ◌++◌, map, ◌∙◌, ap, sym, add-one}
use Rattle.std.proofs.lemmas.List.{map-append}
use Rattle.obd_base.specs.Lists.{below}
use Rattle.obd_base.proofs.lists.Below.{below_push}

-- what a map gives on the numbers below n, and then on n
pub collected_more : {A : Type 0} (f : ℕ → A) (n : ℕ) (now then : List A) (x : A)
    → now ≡ map f (below n) → then ≡ now ++ x ∷ [] → x ≡ f n → then ≡ map f (below (n + 1))
collected_more f n now then x before after is =
    after ∙ (ap (λ items. items ++ x ∷ []) before ∙ (ap (λ item. map f (below n) ++ item ∷ []) is
    ∙ sym (ap (map f) (ap below (add-one n) ∙ below_push n) ∙ map-append f (below n) (n ∷ []))))
