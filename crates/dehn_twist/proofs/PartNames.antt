-- Parts named by their chords and by the meetings before them: the surgery with these names reduces to nothing.
use Rattle.std.proofs.Common.{◌≡◌, ℕ, ◌<◌, ◌≤◌, Bool, true, false, eqb, ltb, not, ◌&&◌, List, refl, sym, ◌∙◌, ap, inl, inr, arith}
use Rattle.std.proofs.lemmas.Bool.{eqb-true, eq-eqb, and_parts, lt-ltb, le-ltb, cases_order, cases_lt}
use Rattle.obd_base.specs.Lists.{Mem}
use Rattle.obd_base.specs.declared.points.Sign.{Sign}
use Rattle.obd_base.proofs.lists.Below.{bit}
use Rattle.obd_base.proofs.lists.Sums.{sum_same}
use Rattle.page_surface.specs.Drawing.{beyond}
use Rattle.curve_paths.specs.Alphabet.{Alphabet, Null}
use Rattle.dehn_twist.proofs.Blocks.{Block, IsName}
use Rattle.dehn_twist.proofs.Circle.{Part, TwoKinds, greater_end, lesser_end, meets, met_between, part_name, surgered}
use Rattle.dehn_twist.proofs.NoCrossing.{surgered_null}
use Rattle.curve_paths.proofs.ChordEnds.{chord}

-- a part is told by its three numbers
pub part_same : (x y : Part) → x.line ≡ y.line → x.chord ≡ y.chord → x.number ≡ y.number → x ≡ y
part_same x y l q s = rw (l, q, s) refl

-- names of parts are their own inverses
abbrev pub part_letters : Alphabet Part
part_letters = record {
  same = λ x y. eqb x.line y.line && (eqb x.chord y.chord && eqb x.number y.number);
  inv = λ x. x;
  same_true = λ x y e.
      let r = and_parts (eqb x.line y.line) (eqb x.chord y.chord && eqb x.number y.number) e in
      let s = and_parts (eqb x.chord y.chord) (eqb x.number y.number) r.1 in
      part_same x y (eqb-true _ _ r.0) (eqb-true _ _ s.0) (eqb-true _ _ s.1);
  same_self = λ x. rw (eq-eqb x.line x.line refl, eq-eqb x.chord x.chord refl, eq-eqb x.number x.number refl) refl;
  twice = λ x. refl;
}

-- what lies between two ends
pub beyond_inside : (u v z : ℕ) → u < z → z < v → beyond (chord u v) z ≡ true
beyond_inside u v z l h = let g : z ≤ v = omega (arith, h) in rw (lt-ltb u z l, le-ltb v z g) refl

module _ (size : ℕ) (is_curve : ℕ → Bool) (mate : ℕ → ℕ) (two : TwoKinds size is_curve mate) (beads : List ℕ) (beads_curve : (z : ℕ) → Mem z beads → is_curve z ≡ true) where
  -- the ends of a chord from its lesser end
  pub lesser_up : (x : ℕ) → x < mate x → lesser_end mate beads x ≡ x
  lesser_up x l = rw (lt-ltb x (mate x) l) refl

  -- for the greater end
  pub greater_up : (x : ℕ) → x < mate x → greater_end mate beads x ≡ mate x
  greater_up x l = rw (lt-ltb x (mate x) l) refl

  -- and from its greater end
  pub lesser_down : (x : ℕ) → mate x < x → lesser_end mate beads x ≡ mate x
  lesser_down x l = let h : mate x ≤ x = omega (arith, l) in rw (le-ltb x (mate x) h) refl

  -- for both
  pub greater_down : (x : ℕ) → mate x < x → greater_end mate beads x ≡ x
  greater_down x l = let h : mate x ≤ x = omega (arith, l) in rw (le-ltb x (mate x) h) refl

  ends_across : (x : ℕ) → x < size → (lesser_end mate beads (mate x) ≡ lesser_end mate beads x) × (greater_end mate beads (mate x) ≡ greater_end mate beads x)
  ends_across x l =
      let t = two.twice x l in
      elim (cases_order x (mate x)) [
        | inl e ↦ (ap (lesser_end mate beads) (sym e), ap (greater_end mate beads) (sym e))
        | inr o ↦ elim o [
          | inl u ↦ (let d : mate (mate x) < mate x = omega (arith, t, u) in
              (lesser_down (mate x) d ∙ (t ∙ sym (lesser_up x u)), greater_down (mate x) d ∙ sym (greater_up x u)))
          | inr u ↦ (let d : mate x < mate (mate x) = omega (arith, t, u) in
              (lesser_up (mate x) d ∙ sym (lesser_down x u), greater_up (mate x) d ∙ (t ∙ sym (greater_down x u))))
        ]
      ]

  -- no meeting lies in a stretch with whole curve chords between the ends of a chord
  unchanged : (x lo hi : ℕ) → Block size is_curve mate two lo hi → x < lo → hi ≤ mate x → met_between mate beads x (mate x) lo ≡ met_between mate beads x (mate x) hi
  unchanged x lo hi b u v =
      sum_same (λ z. bit (ltb z lo && meets mate x (mate x) z)) (λ z. bit (ltb z hi && meets mate x (mate x) z)) beads (λ z m. ap bit (at z m))
    where
      none : (a : Bool) (b c : Bool) → b ≡ true → c ≡ true → (a && (b && not c)) ≡ false
      none true b c e f = rw (e, f) refl
      none false b c e f = refl

      at : (z : ℕ) → Mem z beads → (ltb z lo && meets mate x (mate x) z) ≡ (ltb z hi && meets mate x (mate x) z)
      at z m = elim (cases_lt z lo) [
        | inl l ↦ rw (lt-ltb z lo l, lt-ltb z hi (omega (arith, l, b.order))) refl
        | inr l ↦ elim (cases_lt z hi) [
          | inl h ↦
              let r = b.closed z l h (beads_curve z m) in
              let p = beyond_inside x (mate x) z (omega (arith, u, l)) (omega (arith, h, v)) in
              let q = beyond_inside x (mate x) (mate z) (omega (arith, u, r.0)) (omega (arith, r.1, v)) in
              none (ltb z lo) (beyond (chord x (mate x)) z) (beyond (chord x (mate x)) (mate z)) p q
              ∙ sym (none (ltb z hi) (beyond (chord x (mate x)) z) (beyond (chord x (mate x)) (mate z)) p q)
          | inr h ↦ rw (le-ltb z lo l, le-ltb z hi h) refl
        ]
      ]

  -- the names are names: seen from both ends alike, and unchanged past a stretch with whole curve chords
  pub parts_named : (lines : ℕ → List Part) → IsName size is_curve mate two part_letters (part_name mate beads) lines
  parts_named lines = record {
    across = λ x y l s.
        let e = ends_across x l in
        part_same (part_name mate beads (mate x) y) (part_name mate beads x y) refl e.0
        (ap (λ z. met_between mate beads z (greater_end mate beads (mate x)) y) e.0 ∙ ap (λ z. met_between mate beads (lesser_end mate beads x) z y) e.1);
    past = λ x lo hi l s b u v.
        let e = lesser_up x (omega (arith, u, v, b.order)) in
        let f = greater_up x (omega (arith, u, v, b.order)) in
        let at : (y : ℕ) → met_between mate beads (lesser_end mate beads x) (greater_end mate beads x) y ≡ met_between mate beads x (mate x) y =
        λ y. ap (λ z. met_between mate beads z (greater_end mate beads x) y) e ∙ ap (λ z. met_between mate beads x z y) f in
        part_same (part_name mate beads x lo) (part_name mate beads x hi) refl refl (at lo ∙ (unchanged x lo hi b u v ∙ sym (at hi)));
  }

  -- with these names the whole circle after the surgery reduces to nothing
  pub parts_null : (lines : ℕ → List Part) (sign : Sign) → Null part_letters (surgered part_letters is_curve mate (part_name mate beads) lines sign size)
  parts_null lines sign = surgered_null size is_curve mate two part_letters (part_name mate beads) lines (parts_named lines) sign
