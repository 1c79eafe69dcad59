-- What is known of a path's crossings, as they are handed on while its rules are tried.
use Rattle.std.proofs.Common.{◌≡◌, ℕ, zero, suc, ◌+◌, ◌<◌, ◌≤◌, Bool, true, false, cond, ltb, not, List, map, length, find, Option, Some, None, sym, subst, ap, ap₂, ◌∙◌, arith}
use Rattle.std.specs.List.{list_all, range_with_len}
use Rattle.std.proofs.lemmas.Bool.{ltb-false}
use Rattle.std.proofs.lemmas.List.{length-map}
use Rattle.std.proofs.lemmas.List.FromFn.{length-map-range_with_len}
use Rattle.std.proofs.lemmas.Option.{same_Some}
use Rattle.obd_base.specs.Lists.{Mem, below}
use Rattle.page_surface.specs.Drawing.{Chord}
use Rattle.page_surface.specs.Labels.{Label, labels_of}
use Rattle.page_surface.specs.Page.{IsPage, refusals}
use Rattle.page_surface.specs.declared.refusal.PageRefusal.TheVariants.{TooManyLabels}
use Rattle.obd_base.proofs.Options.{each_none, fails_where_none}
use Rattle.curve_paths.specs.declared.crossing.Crossing.{Crossing}
use Rattle.curve_paths.specs.declared.path.Cross.{Cross}
use Rattle.curve_paths.specs.PathTables.{HaveOccurrences, IsPathKept, PagePath}
use Rattle.curve_paths.specs.Paths.{crossings, has_label_places, is_known, label_points, path_chord, path_chords}
use Rattle.curve_paths.specs.PlaceTables.{AreNumbered, ArePlaced}
use Rattle.curve_paths.proofs.Rules.{crossings_named, crossings_placed}

-- a page has at most 24 labels
pub few_labels : (page : List (List Label)) → IsPage page → length (labels_of page) ≤ 24
few_labels page valid =
    let rules = each_none (refusals page) valid in
    ltb-false 24 (length (labels_of page)) (fails_where_none (ltb 24 (length (labels_of page))) (TooManyLabels (length (labels_of page))) rules.1.1.1.0)

-- as many counts as labels
pub counts_size : (cs : List Crossing) (counts : List ℕ) (n : ℕ) → counts ≡ map (label_points cs) (below n) → length counts ≡ n
counts_size cs counts n e = ap length e ∙ length-map-range_with_len (label_points cs) 0 n

-- counts are those of as many labels as there are counts
pub counts_alone : (cs : List Crossing) (counts : List ℕ) (n : ℕ) → counts ≡ map (label_points cs) (below n) → counts ≡ map (label_points cs) (below (length counts))
counts_alone cs counts n e = e ∙ ap (λ m. map (label_points cs) (below m)) (sym (counts_size cs counts n e))

module _ (page : List (List Label)) (path : List Cross) (d : List Crossing) (is : d ≡ crossings page path) where
  -- as many as there are crossings
  pub as_many : length d ≡ length path
  as_many = ap length is ∙ length-map path _

  module _ (known : list_all (is_known page) path ≡ true) (occurrences : HaveOccurrences path) where
    -- each has a label
    pub numbered_as : (n : ℕ) → n ≡ length (labels_of page) → AreNumbered d n
    numbered_as n e c m = rw e (crossings_named page path known occurrences c (subst (λ (cs : List Crossing). Mem c cs) is m)).0

    -- and each has a place among its label's points
    pub placed_as : ltb 32 (length path) ≡ false → None ≡ find (λ label. not (has_label_places (crossings page path) label)) (below (length (labels_of page))) → ArePlaced page d
    placed_as few right = subst (λ (cs : List Crossing). ArePlaced page cs) (sym is) (crossings_placed page path known occurrences few right)

  -- the wrong label that is found is the path's
  pub wrong_as : (o : Option ℕ) (n : ℕ) → n ≡ length (labels_of page) → o ≡ find (λ label. not (has_label_places d label)) (below n)
      → o ≡ find (λ label. not (has_label_places (crossings page path) label)) (below (length (labels_of page)))
  wrong_as o n e f = f ∙ ap₂ (λ (cs : List Crossing) (m : ℕ). find (λ label. not (has_label_places cs label)) (below m)) is e

-- a number that is found below n is below n
found_below : (p : ℕ → Bool) (a n i : ℕ) → find p (range_with_len a n) ≡ Some i → i < a + n
found_below p a zero i e = absurd (let bad = e in cc)
found_below p a (suc n) i e = go (p a) e (found_below p (a + 1) n i)
  where
    go : (b : Bool) → cond b (Some a) (find p (range_with_len (a + 1) n)) ≡ Some i → (find p (range_with_len (a + 1) n) ≡ Some i → i < a + 1 + n) → i < a + suc n
    go true e rest = let s : a ≡ i = same_Some _ _ e in omega arith
    go false e rest = let l = rest e in omega arith

pub found_of : (p : ℕ → Bool) (n i : ℕ) → find p (below n) ≡ Some i → i < n
found_of p n i e = let l = found_below p 0 n i e in omega arith

-- as many chords as crossings
pub chord_count : (page : List (List Label)) (cs : List Crossing) (chords : List Chord) → chords ≡ path_chords page cs → length chords ≡ length cs
chord_count page cs chords e = ap length e ∙ length-map-range_with_len (path_chord page cs) 0 (length cs)

-- what a curve's type keeps, of copies
pub kept_as : (page names : List (List Label)) (path copied : List Cross) (numbered : List Crossing) (counts : List ℕ) → names ≡ page → copied ≡ path
    → IsPathKept page path numbered counts → IsPathKept names copied numbered counts
kept_as page names path copied numbered counts n p h =
    subst (λ (ls : List (List Label)). IsPathKept ls copied numbered counts) (sym n) (subst (λ (xs : List Cross). IsPathKept page xs numbered counts) (sym p) h)

-- a page and a path, of copies
pub seen_as : (page names : List (List Label)) (path copied : List Cross) → names ≡ page → copied ≡ path
    → (let x : PagePath = record { page = names; path = copied } in x) ≡ record { page = page; path = path }
seen_as page names path copied n p = ap₂ (λ ls xs. let x : PagePath = record { page = ls; path = xs } in x) n p
