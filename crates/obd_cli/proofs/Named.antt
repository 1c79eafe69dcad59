-- The labels of a page, read side by side.
use Rattle.std.proofs.Common.{◌≡◌, ℕ, ◌+◌, ◌<◌, List, [], ◌∷◌, ◌++◌, length, take, get_or, Some, ◌∙◌, ap, sym}
use Rattle.std.specs.List.{slice_get}
use Rattle.std.proofs.lemmas.List.{map-append, take_more}
use Rattle.std.proofs.lemmas.Option.{get_or_from_slice_get}
use Rattle.obd_cli.specs.Opened.{names_of}
use Rattle.page_surface.specs.Labels.{Label, labels_of}

-- an item that stands at a place, after those before it
pub taken_more : {A : Type 0} (xs : List A) (i : ℕ) (now then : List A) (x d : A)
    → i < length xs → now ≡ take i xs → then ≡ now ++ x ∷ [] → x ≡ get_or xs i d → then ≡ take (i + 1) xs
taken_more xs i now then x d within before after is =
    after ∙ (ap (λ items. items ++ x ∷ []) before ∙ (ap (λ item. take i xs ++ item ∷ []) is ∙ sym (take_more xs i d within)))

-- what two look-ups of one place give is one
pub same_some : {A : Type 0} (x y : A) (found : Rattle.std.proofs.Common.Option A) → found ≡ Some x → found ≡ Some y → x ≡ y
same_some x y found a b = let both = sym a ∙ b in cc

-- the names of some labels, with one label more
pub names_more : (page : List (List Label)) (labels : List ℕ) (i label seen : ℕ) (now then : List Label) (name text : Label)
    → i < length labels → label ≡ get_or labels i label → seen ≡ label → slice_get (labels_of page) seen ≡ Some name → text ≡ name
    → now ≡ names_of page (take i labels) → then ≡ now ++ text ∷ [] → then ≡ names_of page (take (i + 1) labels)
names_more page labels i label seen now then name text within item same found written before after =
    let one : text ≡ get_or (labels_of page) label [] = written ∙ (sym (get_or_from_slice_get (labels_of page) seen name [] found) ∙ ap (λ n. get_or (labels_of page) n []) same) in
    after ∙ (ap (λ names. names ++ text ∷ []) before ∙ (ap (λ x. names_of page (take i labels) ++ x ∷ []) one
    ∙ (sym (map-append (λ n. get_or (labels_of page) n []) (take i labels) (label ∷ [])) ∙ ap (names_of page) (sym (take_more labels i label within ∙ ap (λ x. take i labels ++ x ∷ []) (sym item))))))
