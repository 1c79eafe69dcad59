-- A curve is a part of itself, and sets the words of its twist.
use Rattle.std.proofs.Common.{◌≡◌, ℕ, ◌<◌, List, [], ◌∷◌, ◌++◌, length, refl, sym, ◌∙◌, ap, inl, inr, ◌≢◌, arith, add-one}
use Rattle.std.specs.List.{flat_map}
use Rattle.std.proofs.lemmas.Bool.{cases_lt}
use Rattle.obd_base.specs.Lists.{Mem, below}
use Rattle.obd_base.specs.declared.points.Exit.{Exit}
use Rattle.obd_base.specs.declared.points.Sign.{Sign}
use Rattle.obd_base.proofs.lists.Below.{mem_below}
use Rattle.page_surface.specs.Drawing.{crosses, exit}
use Rattle.page_surface.specs.Polygon.{Pairs, Polygon, sides}
use Rattle.page_surface.specs.Words.{inverse}
use Rattle.curve_paths.specs.Curves.{IsCurve, curve_points, exit_at, previous, push_at, rho, signed, turned}
use Rattle.tight_curves.specs.Closed.{word_of}
use Rattle.tight_curves.specs.Parts.{IsPart, part_chord}
use Rattle.tight_curves.proofs.Numbers.{cross_turned}
use Rattle.tight_curves.proofs.PartPoints.{same_number}
use Rattle.tight_curves.proofs.PartWords.{push_part, word_at, word_entry, word_exit}
use Rattle.curve_paths.proofs.CurvePoints as C
use Rattle.curve_paths.proofs.CurvePoints.{Made, entering, entry_in, exit_in, following, following-previous, leaving, made, previous-less}
use Rattle.path_words.proofs.CurveWords.{read_entry, read_exit}

-- products of equal factors
pub flat_equal : {A X : Type 0} (f r : X → List A) (xs : List X) → ((x : X) → Mem x xs → f x ≡ r x) → flat_map f xs ≡ flat_map r xs
flat_equal f r [] h = refl
flat_equal f r (x ∷ xs) h = rw (h x (inl refl)) (ap (λ z. r x ++ z) (flat_equal f r xs (λ y m. h y (inr m))))

module _ (p : Polygon) (ok : Pairs p) (c : List Exit) (curve : IsCurve p c) where
  abbrev R : ℕ
  R = length c

  -- chords that cross one way cross the other way
  chords_turned : (a b : ℕ) → a ≢ b → a < length c → b < length c → crosses (part_chord p c c a) (part_chord p c c b) ≡ crosses (part_chord p c c b) (part_chord p c c a)
  chords_turned a b ne la lb =
      let pa = previous-less R a la in
      let pb = previous-less R b lb in
      let i = λ (k : ℕ) (l : k < R). exit_in p ok c curve k l in
      let o = λ (k : ℕ) (l : k < R). entry_in p ok c curve (exit_at c k) (exit_in p ok c curve k l) in
      cross_turned (part_chord p c c a) (part_chord p c c b)
      (λ q. ne (sym (following-previous R a la) ∙ (ap (following R) (C.entries_differ p ok c curve (previous R a) (previous R b) pa pb (same_number p ok c curve _ _ (o (previous R a) pa) (o (previous R b) pb) q)) ∙ following-previous R b lb)))
      (λ q. C.exit_no_entry p ok c curve b (previous R a) lb pa (sym (same_number p ok c curve _ _ (o (previous R a) pa) (i b lb) q)))
      (λ q. C.exit_no_entry p ok c curve a (previous R b) la pb (same_number p ok c curve _ _ (i a la) (o (previous R b) pb) q))
      (λ q. ne (C.exits_differ p ok c curve a b la lb (same_number p ok c curve _ _ (i a la) (i b lb) q)))

  -- the whole curve is a part
  pub whole_part : IsPart p c c
  whole_part = record {
    inside = curve.in_range;
    once = λ k j lk lj. omega (arith, curve.right k j lk lj);
    uncrossed = λ a b ne la lb. elim (cases_lt a b) [
      | inl l ↦ curve.uncrossed a b l lb
      | inr l ↦ chords_turned a b ne la lb ∙ curve.uncrossed b a (omega (arith, ne)) la
    ];
  }

  -- at its points it sets what the twist sets
  word_whole : (g : Sign) (k j : ℕ) → k < sides p → j < curve_points p c k → word_at p ok c curve g c k j ≡ signed p g (rho p c k j)
  word_whole g k j lk lj = go (made p ok c curve (exit k j) (lk, lj))
    where
      go : Made p ok c curve (exit k j) → word_at p ok c curve g c k j ≡ signed p g (rho p c k j)
      go (leaving i l e) =
          ap (λ (x : Exit). word_at p ok c curve g c x.side x.place) e
          ∙ (word_exit p ok c curve g c whole_part i l ∙ sym (ap (λ (x : Exit). signed p g (rho p c x.side x.place)) e ∙ ap (signed p g) (read_exit p ok c curve i l)))
      go (entering i l e) =
          ap (λ (x : Exit). word_at p ok c curve g c x.side x.place) e
          ∙ (word_entry p ok c curve g c whole_part i l ∙ sym (ap (λ (x : Exit). signed p g (rho p c x.side x.place)) e ∙ (ap (signed p g) (read_entry p ok c curve i l)
          ∙ ap (λ n. signed p g (inverse p (turned n (word_of c)))) (add-one i))))

  -- so the products along sides are those of the twist
  pub push_whole : (g : Sign) (k : ℕ) → k < sides p → push_part p ok c curve g c k ≡ push_at p c g k
  push_whole g k lk = flat_equal (word_at p ok c curve g c k) (λ j. signed p g (rho p c k j)) (below (curve_points p c k)) (λ j m. word_whole g k j lk (mem_below (curve_points p c k) j m))
