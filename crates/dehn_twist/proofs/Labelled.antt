-- Chords with labels, whose ends round the circle read a word that reduces to nothing: no two of them cross.
use Rattle.std.proofs.Common.{◌≡◌, ◌≢◌, ℕ, ◌<◌, ◌≤◌, true, false, not, List, [], ◌∷◌, map, length, refl, sym, ◌∙◌, ap, subst, inl, inr, arith}
use Rattle.std.specs.List.{list_all}
use Rattle.std.proofs.lemmas.Bool.{and_from}
use Rattle.std.proofs.lemmas.List.Sums.{sum_by-cons}
use Rattle.obd_base.specs.Lists.{Mem}
use Rattle.obd_base.proofs.lists.Members.{mem_map}
use Rattle.obd_base.proofs.lists.Sums.{member_adds, members_add}
use Rattle.page_surface.specs.Drawing.{Chord, crosses, no_two_cross}
use Rattle.page_surface.proofs.EmbeddedTest.{all_from}
use Rattle.drawing.specs.Round.{other_end}
use Rattle.curve_paths.specs.Alphabet.{Alphabet, Null}
use Rattle.curve_paths.proofs.NotCrossing.{not_crossing}
use Rattle.curve_paths.proofs.Matching.{Good, good_from_null}
use Rattle.drawing.proofs.Mates.{Joins, chord_here, end_here, ends_from, ends_to, other_from, other_to, other_twice}
use Rattle.curve_paths.proofs.Members.{Rises}
use Rattle.drawing.proofs.Placed.{ends_at, ends_of}

-- where any two different chords of a list don't cross, and no chord stands in it twice, no two of the list cross
pub list_uncrossed : (cs : List Chord) → ((x : ℕ) → ends_at cs x ≤ 1) → ((c e : Chord) → Mem c cs → Mem e cs → c ≢ e → crosses c e ≡ false) → no_two_cross cs ≡ true
list_uncrossed [] once h = refl
list_uncrossed (c ∷ cs) once h =
    and_from (list_all (λ e. not (crosses c e)) cs) (no_two_cross cs)
    (all_from (λ e. not (crosses c e)) cs (λ e m. ap not (h c e (inl refl) (inr m) (λ q.
    let a = member_adds (λ k. ends_of k e.from) e cs m in
    let b = sum_by-cons (λ k. ends_of k e.from) c cs in
    let f = ends_from e in
    let g : ends_of c e.from ≡ ends_of e e.from = ap (λ k. ends_of k e.from) q in
    omega (arith, a, b, f, g, once e.from)))))
    (list_uncrossed cs (λ x. omega (arith, sum_by-cons (λ k. ends_of k x) c cs, once x)) (λ e k m n. h e k (inr m) (inr n)))

module _ {A : Type 0} (L : Alphabet A) (fixed : (x : A) → L.inv x ≡ x) where
  -- labels at the numbers of the circle, and chords with labels
  pub record LabelledChords (labelled : List (Chord × A)) (points : List (ℕ × A)) : Type 0 where
    pub once : (x : ℕ) → ends_at (map (λ e. e.0) labelled) x ≤ 1
    pub rises : Rises (λ z. z.0) points
    pub from_there : (e : Chord × A) → Mem e labelled → Mem (e.0.from, e.1) points
    pub to_there : (e : Chord × A) → Mem e labelled → Mem (e.0.to, e.1) points
    pub covered : (z : ℕ × A) → Mem z points → ends_at (map (λ e. e.0) labelled) z.0 ≢ 0
    pub told : (e f : Chord × A) → Mem e labelled → Mem f labelled → e.1 ≡ f.1 → e.0 ≡ f.0
    pub null : Null L (map (λ z. z.1) points)

  -- a number has one label
  one_label : (points : List (ℕ × A)) → Rises (λ z. z.0) points → (y z : ℕ × A) → Mem y points → Mem z points → y.0 ≡ z.0 → y.1 ≡ z.1
  one_label [] h y z m k e = absurd m
  one_label (x ∷ xs) h y z (inl a) (inl b) e = ap (λ t. t.1) (a ∙ sym b)
  one_label (x ∷ xs) h y z (inl a) (inr k) e = absurd (let l = h.0 z k in let q : y.0 ≡ x.0 = ap (λ t. t.0) a in omega (arith, l, q, e))
  one_label (x ∷ xs) h y z (inr m) (inl b) e = absurd (let l = h.0 y m in let q : z.0 ≡ x.0 = ap (λ t. t.0) b in omega (arith, l, q, e))
  one_label (x ∷ xs) h y z (inr m) (inr k) e = one_label xs h.1 y z m k e

  module _ (labelled : List (Chord × A)) (points : List (ℕ × A)) (h : LabelledChords labelled points) where
    abbrev cs : List Chord
    cs = map (λ e. e.0) labelled

    abbrev mate : ℕ × A → ℕ × A
    mate z = (other_end cs z.0, z.1)

    -- the chord at a point has the point's label
    record At (z : ℕ × A) : Type 0 where
      chord : Chord × A
      member : Mem chord labelled
      joins : Joins chord.0 z.0 (other_end cs z.0)
      label : chord.1 ≡ z.1

    at : (z : ℕ × A) → Mem z points → At z
    at z m =
        let (c, k, j) = chord_here cs z.0 (h.covered z m) in
        let (e, i, q) = mem_map (λ e. e.0) c labelled k in
        let j' : Joins e.0 z.0 (other_end cs z.0) = subst (λ c. Joins c z.0 (other_end cs z.0)) q j in
        record {
          chord = e;
          member = i;
          joins = j';
          label = elim j' [
            | inl (a, b) ↦ one_label points h.rises (e.0.from, e.1) z (h.from_there e i) m a
            | inr (a, b) ↦ one_label points h.rises (e.0.to, e.1) z (h.to_there e i) m a
          ];
        }

    -- two points with one label are mates
    label_mates : (x y : ℕ × A) → Mem x points → Mem y points → x.0 < y.0 → y.1 ≡ L.inv x.1 → y ≡ mate x
    label_mates x y m k l e =
        let a = at x m in
        let b = at y k in
        let q : a.chord.0 ≡ b.chord.0 = h.told a.chord b.chord a.member b.member (a.label ∙ (sym (fixed x.1) ∙ (sym e ∙ sym b.label))) in
        let jb : Joins a.chord.0 y.0 (other_end cs y.0) = subst (λ c. Joins c y.0 (other_end cs y.0)) (sym q) b.joins in
        let s : y.0 ≡ other_end cs x.0 = both a.chord.0 x.0 (other_end cs x.0) y.0 (other_end cs y.0) a.joins jb (λ z. omega (arith, z, l)) in
        pair y.0 (other_end cs x.0) y.1 x.1 s (e ∙ fixed x.1)
      where
        pair : (u v : ℕ) (a b : A) → u ≡ v → a ≡ b → ◌≡◌ {A = ℕ × A} (u, a) (v, b)
        pair u v a b p q = cc

        both : (c : Chord) (x x' y y' : ℕ) → Joins c x x' → Joins c y y' → x ≢ y → y ≡ x'
        both c x x' y y' (inl (p, q)) (inl (r, s)) n = absurd (n (sym p ∙ r))
        both c x x' y y' (inl (p, q)) (inr (r, s)) n = sym r ∙ q
        both c x x' y y' (inr (p, q)) (inl (r, s)) n = sym r ∙ q
        both c x x' y y' (inr (p, q)) (inr (r, s)) n = absurd (n (sym p ∙ r))

    good : Good L (λ z. z.1) (λ z. z.0) mate points
    good = good_from_null L (λ z. z.1) (λ z. z.0) mate (length points) points (omega arith) h.rises
        (λ z m. ap (λ u. (u, z.1)) (other_twice cs h.once z.0)) label_mates h.null

    uncrossed_pair : (c e : Chord) → Mem c cs → Mem e cs → c ≢ e → crosses c e ≡ false
    uncrossed_pair c e mc me ne =
        let (u, iu, qu) = mem_map (λ e. e.0) c labelled mc in
        let (v, iv, qv) = mem_map (λ e. e.0) e labelled me in
        let k = members_add (λ k. ends_of k e.from) c e cs mc me ne in
        let l = members_add (λ k. ends_of k e.to) c e cs mc me ne in
        let a = end_here c e.from (omega (arith, k, ends_from e, h.once e.from)) in
        let b = end_here c e.to (omega (arith, l, ends_to e, h.once e.to)) in
        let cf : Mem (c.from, u.1) points = subst (λ z. Mem (z.from, u.1) points) (sym qu) (h.from_there u iu) in
        let ct : Mem (c.to, u.1) points = subst (λ z. Mem (z.to, u.1) points) (sym qu) (h.to_there u iu) in
        let ef : Mem (e.from, v.1) points = subst (λ z. Mem (z.from, v.1) points) (sym qv) (h.from_there v iv) in
        let et : Mem (e.to, v.1) points = subst (λ z. Mem (z.to, v.1) points) (sym qv) (h.to_there v iv) in
        let uses : (x x' y y' : ℕ × A) → Mem x points → Mem y points → other_end cs x.0 ≡ x'.0 → other_end cs y.0 ≡ y'.0 → x.0 < y.0 → y.0 < x'.0 → (x.0 < y'.0) × (y'.0 < x'.0)
        = λ x x' y y' m n p q s t. (let z = good.uncrossed x y m n s (omega (arith, t, p)) in (omega (arith, z.0, q), omega (arith, z.1, p, q))) in
        let o1 = other_from cs c h.once mc in
        let o2 = other_to cs c h.once mc in
        let o3 = other_from cs e h.once me in
        let o4 = other_to cs e h.once me in
        not_crossing c e (λ q. a.0 (sym q)) (λ q. a.1 (sym q)) (λ q. b.0 (sym q)) (λ q. b.1 (sym q))
        (uses (c.from, u.1) (c.to, u.1) (e.from, v.1) (e.to, v.1) cf ef o1 o3)
        (uses (c.to, u.1) (c.from, u.1) (e.from, v.1) (e.to, v.1) ct ef o2 o3)
        (uses (c.from, u.1) (c.to, u.1) (e.to, v.1) (e.from, v.1) cf et o1 o4)
        (uses (c.to, u.1) (c.from, u.1) (e.to, v.1) (e.from, v.1) ct et o2 o4)

    -- no two of the chords cross
    pub labelled_uncrossed : no_two_cross (map (λ e. e.0) labelled) ≡ true
    labelled_uncrossed = list_uncrossed cs h.once uncrossed_pair
