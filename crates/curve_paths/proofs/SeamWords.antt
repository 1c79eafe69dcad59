-- Joining along seams at whose two sides the same word stands, once forwards and once backwards.
use Rattle.std.proofs.Common.{◌≡◌, ℕ, List, ◌∷◌, ◌++◌, reverse, sym, subst, ◌∙◌, inl, inr, ap}
use Rattle.std.specs.List.{flat_map}
use Rattle.std.proofs.lemmas.List.Concat.{flat_map-append}
use Rattle.obd_base.specs.Lists.{Mem}
use Rattle.page_surface.specs.declared.page.SideLabel.{SideLabel}
use Rattle.page_surface.specs.Joining.{side}
use Rattle.curve_paths.specs.Alphabet.{Null}
use Rattle.arc_basis.proofs.JoinAll.{Keeps}
use Rattle.curve_paths.proofs.NameWords.{joined_null, names}

-- the words round all polygons reduce to nothing
abbrev pub AllNull : (SideLabel → List ℕ) → List (List SideLabel) → Type 0
AllNull word q = (p : List SideLabel) → Mem p q → Null names (flat_map word p)

-- and so they do after one step
pub null_step : (word : SideLabel → List ℕ) (label : ℕ) → word (side label 1) ≡ reverse (word (side label 0)) → Keeps (AllNull word) label
null_step word label turned before after j one two h p m = elim (j.from_after p m) [
  | inr k ↦ h p k
  | inl e ↦
      let f = λ (x : List SideLabel). flat_map word x in
      let first : Null names (f j.a1 ++ (word (side label 0) ++ f j.a2)) = subst (λ z. Null names z) (flat_map-append word j.a1 (side label 0 ∷ j.a2)) (h _ j.first_in) in
      let second : Null names (f j.b1 ++ (word (side label 1) ++ f j.b2)) = subst (λ z. Null names z) (flat_map-append word j.b1 (side label 1 ∷ j.b2)) (h _ j.second_in) in
      let both = joined_null (f j.a1) (f j.a2) (f j.b1) (f j.b2) (word (side label 0)) (word (side label 1)) turned first second in
      let parts : f (j.a1 ++ ((j.b2 ++ j.b1) ++ j.a2)) ≡ f j.a1 ++ ((f j.b2 ++ f j.b1) ++ f j.a2)
      = flat_map-append word j.a1 ((j.b2 ++ j.b1) ++ j.a2)
      ∙ ap (λ z. f j.a1 ++ z) (flat_map-append word (j.b2 ++ j.b1) j.a2 ∙ ap (λ z. z ++ f j.a2) (flat_map-append word j.b2 j.b1)) in
      subst (λ z. Null names z) (sym (ap f e ∙ parts)) both
]
