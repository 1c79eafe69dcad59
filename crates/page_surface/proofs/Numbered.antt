-- Sides numbered one after another: the labels and the sides so far, with those of the rest, are all.
use Rattle.std.proofs.Common.{◌≡◌, ℕ, Bool, true, false, cond, not, ◌+◌, ◌<◌, ◌≤◌, arith, List, [], ◌∷◌, ◌++◌, map, length, drop, get_or, sym, ap, ap₂, ◌∙◌, append_assoc, String, string_bytes, string_eq}
use Rattle.std.specs.List.{list_any, position_or_len}
use Rattle.std.specs.Str.{bytes_eq}
use Rattle.std.proofs.lemmas.List.{at_drop_more}
use Rattle.std.proofs.lemmas.Bool.{not-true, not-false, cond-true, cond-false}
use Rattle.indexmap.specs.IndexSet.{insert_key}
use Rattle.page_surface.specs.declared.page.SideLabel.{SideLabel}
use Rattle.page_surface.specs.Labels.{Label, with_label, with_labels, label_number, side_labels}
use Rattle.page_surface.proofs.Keys.{list_any-map, bytes-insert_key, position-of_key}

-- the labels and the sides so far, with those of the rest, are all, after the labels that appeared before
pub record Numbered (before all rest labels : List Label) (sides : List SideLabel) : Type 0 where
  pub labels_are : with_labels labels rest ≡ with_labels before all
  pub sides_are : sides ++ side_labels labels rest ≡ side_labels before all

-- the side of a label after those that appeared
abbrev pub side_after : List Label → Label → SideLabel
side_after appeared label = record { label = label_number appeared label; occurrence = cond (list_any (bytes_eq label) appeared) 1 0 }

-- one more side
numbered_cons : (before all rest labels : List Label) (sides : List SideLabel) (label : Label) → Numbered before all (label ∷ rest) labels sides
    → Numbered before all rest (with_label labels label) (sides ++ side_after labels label ∷ [])
numbered_cons before all rest labels sides label h = record { labels_are = h.labels_are; sides_are = append_assoc sides _ _ ∙ h.sides_are }

-- a name that is new has occurrence 0
pub occurrence-new : (is_new here : Bool) (n : ℕ) → is_new ≡ not here → is_new ≡ true → n ≡ 0 → n ≡ cond here 1 0
occurrence-new is_new here n e t z = z ∙ sym (cond-false here 1 0 (not-true here (sym e ∙ t)))

-- a name that isn't has occurrence 1
pub occurrence-old : (is_new here : Bool) (n : ℕ) → is_new ≡ not here → is_new ≡ false → n ≡ 1 → n ≡ cond here 1 0
occurrence-old is_new here n e t z = z ∙ sym (cond-true here 1 0 (not-false here (sym e ∙ t)))

-- what a key adds: to the keys, and as a side
pub record Added {Z : Type 0} (ks new : List (String Z)) (key : String Z) (sides after : List SideLabel) (number occurrence : ℕ) : Type 0 where
  pub keys_are : new ≡ insert_key string_eq ks key
  pub number_is : number ≡ position_or_len (string_eq key) ks
  pub occurrence_is : occurrence ≡ cond (list_any (string_eq key) ks) 1 0
  pub sides_are : after ≡ sides ++ record { label = number; occurrence = occurrence } ∷ []

module _ {Z : Type 0} where
  -- the side of a key is that of its label
  side-of_key : (ks : List (String Z)) (key : String Z) (number occurrence : ℕ)
      → number ≡ position_or_len (string_eq key) ks → occurrence ≡ cond (list_any (string_eq key) ks) 1 0
      → record { label = number; occurrence = occurrence } ≡ side_after (map string_bytes ks) (string_bytes key)
  side-of_key ks key number occurrence n o =
      ap₂ (λ x y. let s : SideLabel = record { label = x; occurrence = y } in s)
      (n ∙ position-of_key ks key)
      (o ∙ ap (λ b. cond b 1 0) (sym (list_any-map (bytes_eq (string_bytes key)) string_bytes ks)))

  -- one more name, whose key and side were added
  pub numbered_more : (before : List Label) (names : List (String Z)) (i : ℕ) (name key : String Z) (ks new : List (String Z)) (sides after : List SideLabel) (number occurrence : ℕ)
      → i < length names → name ≡ get_or names i name → string_bytes key ≡ string_bytes name → Added ks new key sides after number occurrence
      → Numbered before (map string_bytes names) (map string_bytes (drop i names)) (map string_bytes ks) sides
      → Numbered before (map string_bytes names) (map string_bytes (drop (i + 1) names)) (map string_bytes new) after
  numbered_more before names i name key ks new sides after number occurrence l is same a h =
      let rest : map string_bytes (drop i names) ≡ string_bytes key ∷ map string_bytes (drop (i + 1) names)
      = at_drop_more (map string_bytes) names i name l ∙ ap (λ x. x ∷ map string_bytes (drop (i + 1) names)) (ap string_bytes (sym is) ∙ sym same) in
      let here : Numbered before (map string_bytes names) (string_bytes key ∷ map string_bytes (drop (i + 1) names)) (map string_bytes ks) sides = rw rest at h in
      rw (a.keys_are, a.sides_are, bytes-insert_key ks key, side-of_key ks key number occurrence a.number_is a.occurrence_is)
      (numbered_cons _ _ _ _ _ _ here)

-- one key more at most
pub length_more : (is_new : Bool) (n m i j : ℕ) → m ≡ n + cond is_new 1 0 → n ≤ j + i → m ≤ j + (i + 1)
length_more true n m i j e l = omega arith
length_more false n m i j e l = omega arith
