-- One step of the loop that walks a strip by tables.
use Rattle.std.proofs.Common.{◌≡◌, ℕ, suc, true, false, cond, List, [], ◌++◌, append_assoc, get_or, refl, set, sym, ap, ◌∙◌}
use Rattle.std.proofs.lemmas.List.{append-nil}
use Rattle.empty_domains.specs.Ground.{Ground, bigon_by, ends_by, rectangle_by, strip_by, widest_by}
use Rattle.empty_domains.specs.Strip.{Step, spacing}

module _ (g : Ground) (standing : List ℕ) (i a : ℕ) where
  -- how wide the row is
  abbrev pub wide : ℕ → ℕ → List ℕ → ℕ
  wide c most lasts = widest_by g standing c (spacing lasts (get_or g.side c 0) c most)

  -- what is read off at it
  abbrev pub read : ℕ → ℕ → ℕ → List ℕ → List Step
  read c most h lasts = bigon_by g i a c (wide c most lasts) h ++ rectangle_by g standing i a c (wide c most lasts) h

  -- a strip at a row after which it goes on
  pub by_on : (n c most h : ℕ) (lasts : List ℕ) (before : List Step) → ends_by g standing (get_or g.other c 0) (wide c most lasts) ≡ false
      → before ++ strip_by g standing i a (suc n) c most h lasts
      ≡ (before ++ read c most h lasts) ++ strip_by g standing i a n (get_or g.opposite (get_or g.other c 0) 0) (wide c most lasts) (suc h) (set lasts (get_or g.side c 0) (suc c))
  by_on n c most h lasts before k =
      let later = strip_by g standing i a n (get_or g.opposite (get_or g.other c 0) 0) (wide c most lasts) (suc h) (set lasts (get_or g.side c 0) (suc c)) in
      let bigon = bigon_by g i a c (wide c most lasts) h in
      let rectangle = rectangle_by g standing i a c (wide c most lasts) h in
      let on : bigon ++ (rectangle ++ cond (ends_by g standing (get_or g.other c 0) (wide c most lasts)) [] later) ≡ bigon ++ (rectangle ++ later) = rw k refl in
      ap (λ (z : List Step). before ++ z) (on ∙ sym (append_assoc bigon rectangle later)) ∙ sym (append_assoc before (bigon ++ rectangle) later)

  -- and at its last row
  pub by_off : (n c most h : ℕ) (lasts : List ℕ) (before : List Step) → ends_by g standing (get_or g.other c 0) (wide c most lasts) ≡ true
      → before ++ strip_by g standing i a (suc n) c most h lasts ≡ before ++ read c most h lasts
  by_off n c most h lasts before k =
      let later = strip_by g standing i a n (get_or g.opposite (get_or g.other c 0) 0) (wide c most lasts) (suc h) (set lasts (get_or g.side c 0) (suc c)) in
      let bigon = bigon_by g i a c (wide c most lasts) h in
      let rectangle = rectangle_by g standing i a c (wide c most lasts) h in
      let off : bigon ++ (rectangle ++ cond (ends_by g standing (get_or g.other c 0) (wide c most lasts)) [] later) ≡ bigon ++ (rectangle ++ []) = rw k refl in
      ap (λ (z : List Step). before ++ z) (off ∙ ap (λ (z : List Step). bigon ++ z) (append-nil rectangle))

  -- the loop after a row behind which the strip goes on
  pub row_on : (n left c most h next wide_here later side mark : ℕ) (lasts : List ℕ) (before after all : List Step) → left ≡ suc n
      → ends_by g standing (get_or g.other c 0) (wide c most lasts) ≡ false → after ≡ before ++ read c most h lasts
      → next ≡ get_or g.opposite (get_or g.other c 0) 0 → wide_here ≡ wide c most lasts → later ≡ suc h → side ≡ get_or g.side c 0 → mark ≡ suc c
      → before ++ strip_by g standing i a left c most h lasts ≡ all
      → after ++ strip_by g standing i a n next wide_here later (set lasts side mark) ≡ all
  row_on n left c most h next wide_here later side mark lasts before after all e k grown p q r t u so_far =
      let step = by_on n c most h lasts before k in
      rw (grown, p, q, r, t, u) (sym step ∙ (ap (λ m. before ++ strip_by g standing i a m c most h lasts) (sym e) ∙ so_far))

  -- and after its last row
  pub row_off : (n left c most h : ℕ) (lasts : List ℕ) (before after all : List Step) → left ≡ suc n
      → ends_by g standing (get_or g.other c 0) (wide c most lasts) ≡ true → after ≡ before ++ read c most h lasts
      → before ++ strip_by g standing i a left c most h lasts ≡ all → after ≡ all
  row_off n left c most h lasts before after all e k grown so_far =
      grown ∙ (sym (by_off n c most h lasts before k) ∙ (ap (λ m. before ++ strip_by g standing i a m c most h lasts) (sym e) ∙ so_far))
