-- The circle after the surgery reduces to nothing.
use Rattle.std.proofs.Common.{◌≡◌, ℕ, zero, suc, ◌+◌, ◌-◌, ◌<◌, ◌≤◌, Bool, true, false, not, ◌&&◌, map, List, [], ◌∷◌, ◌++◌, refl, sym, ◌∙◌, ap, ◌⊎◌, inl, inr, ◌≢◌, arith, append_assoc}
use Rattle.std.specs.List.{filter, flat_map, range_with_len}
use Rattle.std.proofs.lemmas.Bool.{false≢true, lt-ltb, le-ltb, cases_lt, cases_order}
use Rattle.std.proofs.lemmas.List.{append-nil}
use Rattle.std.proofs.lemmas.List.Concat.{flat_map-append}
use Rattle.dehn_twist.proofs.Blocks.{Block, IsName, outside_not, parts_join}
use Rattle.dehn_twist.proofs.Circle.{TwoKinds, leaving_end, leaving_parts, open_points, outside, set_at, set_closing, set_opening, surgered}
use Rattle.curve_paths.proofs.PointPlaces.{range_join}
use Rattle.curve_paths.proofs.Reduction.{alike_after, alike_join, alike_middle, back_and_word, null_out, word_and_back}
use Rattle.obd_base.proofs.lists.Below.{mem_range}
use Rattle.obd_base.specs.Lists.{Mem}
use Rattle.obd_base.specs.declared.points.Sign.{Sign}
use Rattle.obd_base.specs.declared.points.Sign.TheVariants.{Minus, Plus}
use Rattle.curve_paths.specs.Alphabet.{Alike, Alphabet, Null, back, cancelled}

module _ (size : ℕ) (is_curve : ℕ → Bool) (mate : ℕ → ℕ) (two : TwoKinds size is_curve mate) where
  abbrev Stretch : ℕ → ℕ → Type 0
  Stretch = Block size is_curve mate two

  -- a strand's point at the start of a stretch
  one_point : (lo hi : ℕ) → Stretch lo hi → lo < hi → is_curve lo ≡ false → Stretch lo (suc lo) × Stretch (suc lo) hi
  one_point lo hi b l s = (
    record {
      order = omega arith;
      fits = omega (arith, l, b.fits);
      closed = λ x u v q. let e : x ≡ lo = omega (arith, u, v) in absurd (false≢true (sym s ∙ (ap is_curve (sym e) ∙ q)));
    },
    record {
      order = l;
      fits = b.fits;
      closed = λ x u v q.
          let r = b.closed x (omega (arith, u)) v q in
          elim (cases_order lo (mate x)) [
            | inl e ↦ absurd (false≢true (sym s ∙ (ap is_curve e ∙ (two.kind x (omega (arith, v, b.fits)) ∙ q))))
            | inr o ↦ elim o [ inl t ↦ (t, r.1) | inr t ↦ absurd (omega (arith, t, r.0)) ]
          ];
    },
  )

  -- a curve's point at the start of a stretch: its chord, the stretch inside, the chord with it, and the rest
  pub record Opened (lo hi : ℕ) : Type 0 where
    pub up : lo < mate lo
    pub down : mate lo < hi
    pub inner : Stretch (suc lo) (mate lo)
    pub outer : Stretch lo (suc (mate lo))
    pub rest : Stretch (suc (mate lo)) hi

  opened : (lo hi : ℕ) → Stretch lo hi → lo < hi → is_curve lo ≡ true → Opened lo hi
  opened lo hi b l s =
      let c = b.closed lo (omega arith) l s in
      let fl : lo < size = omega (arith, l, b.fits) in
      let ne : mate lo ≢ lo = two.moves lo fl s in
      let up : lo < mate lo = omega (arith, c.0, ne) in
      let inside : (x : ℕ) → lo < x → x < mate lo → is_curve x ≡ true → (lo < mate x) × (mate x < mate lo) =
      λ x u v q. two.uncrossed lo x fl (omega (arith, v, c.1, b.fits)) (s ∙ sym q) u v in
      let t = two.twice lo fl in
      record {
        up = up;
        down = c.1;
        inner = record { order = up; fits = omega (arith, c.1, b.fits); closed = λ x u v q. inside x u v q };
        outer = record {
          order = omega (arith, up);
          fits = omega (arith, c.1, b.fits);
          closed = λ x u v q. elim (cases_order x lo) [
            | inl e ↦ (let f : mate x ≡ mate lo = ap mate e in (omega (arith, f, up), omega (arith, f)))
            | inr o ↦ elim (cases_order x (mate lo)) [
              | inl e ↦ (let f : mate x ≡ lo = ap mate e ∙ t in (omega (arith, f), omega (arith, f, up)))
              | inr o' ↦ (let r = inside x (below_not x lo u o) (above_not x (mate lo) v o') q in (omega (arith, r.0), omega (arith, r.1)))
            ]
          ];
        };
        rest = record {
          order = c.1;
          fits = b.fits;
          closed = λ x u v q.
              let fx : x < size = omega (arith, v, b.fits) in
              let r = b.closed x (omega (arith, u, up)) v q in
              let tx = two.twice x fx in
              let n1 : mate x ≢ lo = λ e. (let f : x ≡ mate lo = sym tx ∙ ap mate e in omega (arith, f, u)) in
              let n2 : mate x ≢ mate lo = λ e. (let f : x ≡ lo = sym tx ∙ (ap mate e ∙ t) in omega (arith, f, u, up)) in
              elim (cases_lt (mate x) (mate lo)) [
                | inl w ↦ absurd (let z = inside (mate x) (omega (arith, r.0, n1)) w (two.kind x fx ∙ q) in let f : mate (mate x) ≡ x = tx in omega (arith, z.1, f, u))
                | inr w ↦ (omega (arith, w, n2), r.1)
              ];
        };
      }
    where
      below_not : (x y : ℕ) → y ≤ x → (x < y) ⊎ (y < x) → y < x
      below_not x y u (inl l) = absurd (omega (arith, u, l))
      below_not x y u (inr l) = l

      above_not : (x y : ℕ) → x < suc y → (x < y) ⊎ (y < x) → x < y
      above_not x y u (inl l) = l
      above_not x y u (inr l) = absurd (omega (arith, u, l))

  module _ {A : Type 0} (L : Alphabet A) (name : ℕ → ℕ → A) (lines : ℕ → List A) (named : IsName size is_curve mate two L name lines) (g : Sign) where
    abbrev parts : ℕ → ℕ → List A
    parts = leaving_parts L is_curve mate name lines

    abbrev set : ℕ → List A
    set = set_at L is_curve mate name lines g

    abbrev over : ℕ → ℕ → List A
    over lo hi = flat_map set (range_with_len lo (hi - lo))

    join : (lo mid hi : ℕ) → Stretch lo mid → Stretch mid hi → Alike L (parts lo mid ++ parts mid hi) (parts lo hi)
    join lo mid hi a b = parts_join size is_curve mate two L name lines named lo mid hi a b

    set_strand : (x : ℕ) → is_curve x ≡ false → set x ≡ parts x (suc x)
    set_strand x s = rw s refl

    set_open : (x : ℕ) → is_curve x ≡ true → x < mate x → set x ≡ set_opening L is_curve mate name lines g x (mate x)
    set_open x s l = rw (s, lt-ltb x (mate x) l) refl

    set_close : (x o : ℕ) → is_curve x ≡ true → mate x ≡ o → o < x → set x ≡ set_closing L is_curve mate name lines g o x
    set_close x o s e l = rw (s, e) (let h : o ≤ x = omega (arith, l) in rw (le-ltb x o h) refl)

    -- around a stretch that reduces to the parts that leave it, a curve chord's two ends leave the parts outside
    around : (g : Sign) (o k : ℕ) (inner : List A) → Alike L inner (parts (suc o) k)
        → Alike L (set_opening L is_curve mate name lines g o k ++ (inner ++ set_closing L is_curve mate name lines g o k)) (parts o (suc k))
    around Plus o k inner h =
        let i = parts (suc o) k in
        let u = parts o (suc k) in
        let e : (u ++ lines o) ++ (i ++ (back L i ++ back L (lines o))) ≡ (u ++ lines o) ++ ((i ++ back L i) ++ back L (lines o)) = simp append_assoc in
        let f : (u ++ lines o) ++ back L (lines o) ≡ u ++ ((lines o ++ back L (lines o)) ++ []) = shuffle u (lines o) (back L (lines o)) in
        alike_middle L (u ++ lines o) inner i (back L i ++ back L (lines o)) h
        ∙ (ap (cancelled L) e ∙ (null_out L (u ++ lines o) (i ++ back L i) (back L (lines o)) (word_and_back L i)
        ∙ (ap (cancelled L) f ∙ (null_out L u (lines o ++ back L (lines o)) [] (word_and_back L (lines o)) ∙ ap (cancelled L) (append-nil u)))))
      where
        shuffle : (u l d : List A) → (u ++ l) ++ d ≡ u ++ ((l ++ d) ++ [])
        shuffle u l d = append_assoc u l d ∙ ap (λ z. u ++ z) (sym (append-nil (l ++ d)))
    around Minus o k inner h =
        let i = parts (suc o) k in
        let u = parts o (suc k) in
        let e : (lines o ++ back L i) ++ (i ++ (back L (lines o) ++ u)) ≡ lines o ++ ((back L i ++ i) ++ (back L (lines o) ++ u)) = simp append_assoc in
        let f : lines o ++ (back L (lines o) ++ u) ≡ [] ++ ((lines o ++ back L (lines o)) ++ u) = sym (append_assoc (lines o) (back L (lines o)) u) in
        alike_middle L (lines o ++ back L i) inner i (back L (lines o) ++ u) h
        ∙ (ap (cancelled L) e ∙ (null_out L (lines o) (back L i ++ i) (back L (lines o) ++ u) (back_and_word L i)
        ∙ (ap (cancelled L) f ∙ null_out L [] (lines o ++ back L (lines o)) u (word_and_back L (lines o)))))

    over_none : (lo hi : ℕ) → hi ≤ lo → Alike L (over lo hi) (parts lo hi)
    over_none lo hi e = let z : hi - lo ≡ 0 = omega (arith, e) in rw z refl

    over_strand : (lo hi : ℕ) → Stretch lo hi → lo < hi → is_curve lo ≡ false → Alike L (over (suc lo) hi) (parts (suc lo) hi) → Alike L (over lo hi) (parts lo hi)
    over_strand lo hi b l s ih =
        let k = one_point lo hi b l s in
        let e : hi - lo ≡ suc (hi - suc lo) = omega (arith, l) in
        let f : lo + 1 ≡ suc lo = omega arith in
        let whole : over lo hi ≡ set lo ++ over (suc lo) hi =
        ap (λ z. flat_map set (range_with_len lo z)) e ∙ ap (λ z. set lo ++ flat_map set (range_with_len z (hi - suc lo))) f in
        ap (cancelled L) (whole ∙ ap (λ z. z ++ over (suc lo) hi) (set_strand lo s))
        ∙ (alike_after L (parts lo (suc lo)) (over (suc lo) hi) (parts (suc lo) hi) ih ∙ join lo (suc lo) hi k.0 k.1)

    over_curve : (lo hi : ℕ) → Stretch lo hi → lo < hi → is_curve lo ≡ true → (k : Opened lo hi)
        → Alike L (over (suc lo) (mate lo)) (parts (suc lo) (mate lo)) → Alike L (over (suc (mate lo)) hi) (parts (suc (mate lo)) hi) → Alike L (over lo hi) (parts lo hi)
    over_curve lo hi b l s k ih1 ih2 =
        let c = mate lo in
        let fl : lo < size = omega (arith, l, b.fits) in
        let e : hi - lo ≡ suc ((c - suc lo) + suc (hi - suc c)) = omega (arith, k.up, k.down) in
        let f : lo + 1 ≡ suc lo = omega arith in
        let h : suc lo + (c - suc lo) ≡ c = omega (arith, k.up) in
        let h' : c + 1 ≡ suc c = omega arith in
        let inner = over (suc lo) c in
        let rest = over (suc c) hi in
        let whole : over lo hi ≡ set lo ++ (inner ++ (set c ++ rest)) =
        ap (λ z. flat_map set (range_with_len lo z)) e
        ∙ (ap (λ z. set lo ++ flat_map set (range_with_len z ((c - suc lo) + suc (hi - suc c)))) f
        ∙ ap (λ z. set lo ++ z) (ap (flat_map set) (range_join (suc lo) (c - suc lo) (suc (hi - suc c)))
        ∙ (flat_map-append set (range_with_len (suc lo) (c - suc lo)) (range_with_len (suc lo + (c - suc lo)) (suc (hi - suc c)))
        ∙ ap (λ z. inner ++ z) (ap (λ z. flat_map set (range_with_len z (suc (hi - suc c)))) h ∙ ap (λ z. set c ++ flat_map set (range_with_len z (hi - suc c))) h')))) in
        let ends : over lo hi ≡ (set_opening L is_curve mate name lines g lo c ++ (inner ++ set_closing L is_curve mate name lines g lo c)) ++ rest =
        whole ∙ (ap (λ z. z ++ (inner ++ (set c ++ rest))) (set_open lo s k.up)
        ∙ (ap (λ z. set_opening L is_curve mate name lines g lo c ++ (inner ++ (z ++ rest))) (set_close c lo (two.kind lo fl ∙ s) (two.twice lo fl) k.up)
        ∙ shuffle (set_opening L is_curve mate name lines g lo c) inner (set_closing L is_curve mate name lines g lo c) rest)) in
        ap (cancelled L) ends
        ∙ (alike_join L (set_opening L is_curve mate name lines g lo c ++ (inner ++ set_closing L is_curve mate name lines g lo c)) (parts lo (suc c)) rest (parts (suc c) hi)
        (around g lo c inner ih1) ih2
        ∙ join lo (suc c) hi k.outer k.rest)
      where
        shuffle : (a b d e : List A) → a ++ (b ++ (d ++ e)) ≡ (a ++ (b ++ d)) ++ e
        shuffle a b d e = simp append_assoc

    -- a stretch reduces to the parts that leave it
    pub stretch_reduces : (n lo hi : ℕ) → hi ≤ lo + n → Stretch lo hi → Alike L (over lo hi) (parts lo hi)
    stretch_reduces zero lo hi l b = over_none lo hi (omega (arith, l))
    stretch_reduces (suc n) lo hi l b = elim (cases_lt lo hi) [
      | inr e ↦ over_none lo hi e
      | inl u ↦ step u (is_curve lo) refl (stretch_reduces n)
    ]
      where
        step : lo < hi → (t : Bool) → is_curve lo ≡ t → ((lo hi : ℕ) → hi ≤ lo + n → Stretch lo hi → Alike L (over lo hi) (parts lo hi)) → Alike L (over lo hi) (parts lo hi)
        step u false s ih = over_strand lo hi b u s (ih (suc lo) hi (omega (arith, l)) (one_point lo hi b u s).1)
        step u true s ih =
            let k = opened lo hi b u s in
            over_curve lo hi b u s k (ih (suc lo) (mate lo) (omega (arith, l, k.down)) k.inner) (ih (suc (mate lo)) hi (omega (arith, l, k.up)) k.rest)

    nothing_open : (xs : List ℕ) (h : (x : ℕ) → x < size → outside 0 size (mate x) ≡ false) → ((x : ℕ) → Mem x xs → x < size)
        → filter (λ x. not (is_curve x) && outside 0 size (mate x)) xs ≡ []
    nothing_open [] h k = refl
    nothing_open (x ∷ xs) h k = rw (h x (k x (inl refl))) (let e : (not (is_curve x) && false) ≡ false = both (not (is_curve x)) in rw e (nothing_open xs h (λ y m. k y (inr m))))
      where
        both : (b : Bool) → (b && false) ≡ false
        both true = refl
        both false = refl

    -- the whole circle after the surgery reduces to nothing
    pub surgered_null : Null L (surgered L is_curve mate name lines g size)
    surgered_null =
        let whole : Stretch 0 size = record { order = omega arith; fits = omega arith; closed = λ x u v q. (omega arith, two.stays x v) } in
        let e : size - 0 ≡ size = omega arith in
        let none : open_points L is_curve mate name lines 0 size ≡ [] =
        nothing_open (range_with_len 0 (size - 0)) (λ x l. outside_not 0 size (mate x) (omega arith) (two.stays x l))
        (λ x m. let r = mem_range 0 (size - 0) x m in omega (arith, r.1)) in
        ap (λ z. cancelled L (flat_map set (range_with_len 0 z))) (sym e)
        ∙ (stretch_reduces size 0 size (omega arith) whole ∙ ap (λ xs. cancelled L (map (λ x. name x (leaving_end L is_curve mate name lines 0 size x)) xs)) none)
