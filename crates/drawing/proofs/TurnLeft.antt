-- A turn of what is left when others are gone may go too.
use Rattle.std.proofs.Common.{◌≡◌, ℕ, zero, suc, ◌+◌, ◌-◌, ◌<◌, ◌≤◌, Bool, true, false, eqb, ◌||◌, not, count_by, min, max, List, [], ◌∷◌, ◌++◌, drop, get_or, length, take, take-append-drop, refl, sym, ◌∙◌, ap, ap₂, subst, arith, ◌⊎◌, inl, inr}
use Rattle.std.proofs.lemmas.Bool.{cases_Bool, cases_lt}
use Rattle.std.proofs.lemmas.List.{drop_more, get_or-map}
use Rattle.obd_base.specs.Lists.{below, Mem}
use Rattle.obd_base.specs.declared.points.Exit.{Exit}
use Rattle.obd_base.proofs.lists.Below.{bit, count_suc}
use Rattle.page_surface.specs.Drawing.{Drawing, IsEmbedded, all_exits, entry, exit, offset, points_on, spot, strand_exits}
use Rattle.page_surface.specs.Polygon.{partner, sides}
use Rattle.drawing.specs.Links.{Between, IsTurnLeft, exit_gone}
use Rattle.drawing.specs.Thinned.{TurnsGone, places_kept, thinned, thinned_exit, thinned_exits, turn_gone}
use Rattle.drawing.specs.Turns.{TurnsBack}
use Rattle.drawing.proofs.Ends.{place_in, same_count, side_in}
use Rattle.drawing.proofs.Lists.{mem_at, mem_row}
use Rattle.drawing.proofs.Thinned.{thinned_append, thinned_gone, thinned_kept, turns_gone_more, turns_gone_none}
use Rattle.drawing.proofs.ThinnedTwice.{kept_in, mirror_thinned, same_spot, turns_gone_then}

-- between two places of a side that stay, with none between them that does, no place counts
none_counts : (p : ℕ → Bool) (a n : ℕ) → ((x : ℕ) → a ≤ x → x < a + n → p x ≡ false) → count_by p (below (a + n)) ≡ count_by p (below a)
none_counts p a zero h = let z : a + 0 ≡ a = omega arith in ap (λ (x : ℕ). count_by p (below x)) z
none_counts p a (suc n) h =
    let z : a + suc n ≡ suc (a + n) = omega arith in
    let b : bit (p (a + n)) ≡ 0 = ap bit (h (a + n) (omega arith) (omega arith)) in
    ap (λ (x : ℕ). count_by p (below x)) z ∙ (let y : count_by p (below (suc (a + n))) ≡ count_by p (below a) = omega (arith, b, count_suc p (a + n), none_counts p a n (λ x l m. h x l (omega (arith, m)))) in y)

module _ (d : Drawing) (ok : IsEmbedded d) (gone : ℕ → Bool) (turns : ℕ) (taken : TurnsGone d gone turns) (i a b : ℕ) (out back : Exit) (turn : IsTurnLeft d gone i a b out back) where
  -- the drawing that is left
  abbrev now : Drawing
  now = thinned d gone

  -- the exits of the strand
  abbrev exits : List Exit
  exits = strand_exits d i

  -- those of a list that stay
  abbrev thin : List Exit → List Exit
  thin = thinned_exits d gone

  -- the exits after so many that are gone
  skip : (n t : ℕ) → n + t ≤ length exits → ((x : ℕ) → n ≤ x → x < n + t → exit_gone d gone i x ≡ true) → thin (drop n exits) ≡ thin (drop (n + t) exits)
  skip n zero l h = let z : n + 0 ≡ n = omega arith in ap (λ (x : ℕ). thin (drop x exits)) (sym z)
  skip n (suc t) l h =
      let z : n + 1 + t ≡ n + suc t = omega arith in
      ap thin (drop_more exits n (exit 0 0) (omega (arith, l)))
      ∙ (thinned_gone d gone (get_or exits n (exit 0 0)) (drop (n + 1) exits) (h n (omega arith) (omega arith))
      ∙ (skip (n + 1) t (omega (arith, l)) (λ x u v. h x (omega (arith, u)) (omega (arith, v))) ∙ ap (λ (x : ℕ). thin (drop x exits)) z))

  -- the strand of what is left has the two exits one after the other
  splits : strand_exits (thinned d gone) i ≡ thin (take a exits) ++ (thinned_exit d gone out ∷ thinned_exit d gone back ∷ thin (drop (b + 1) exits))
  splits =
      let la : a < length exits = omega (arith, turn.follows, turn.inside) in
      let z : a + 1 + (b - a - 1) ≡ b = omega (arith, turn.follows) in
      let first : drop a exits ≡ out ∷ drop (a + 1) exits = drop_more exits a out la ∙ ap (λ (x : Exit). x ∷ drop (a + 1) exits) (sym turn.out_is) in
      let last : drop b exits ≡ back ∷ drop (b + 1) exits = drop_more exits b back turn.inside ∙ ap (λ (x : Exit). x ∷ drop (b + 1) exits) (sym turn.back_is) in
      let over = skip (a + 1) (b - a - 1) (omega (arith, z, turn.inside)) (λ x u v. turn.none_between x (omega (arith, u)) (omega (arith, v, z))) ∙ ap (λ (x : ℕ). thin (drop x exits)) z in
      get_or-map thin d.strands i [] [] (omega (arith, turn.arc, ok.strand_count))
      ∙ (ap thin (sym (take-append-drop a exits)) ∙ (thinned_append d gone (take a exits) (drop a exits)
      ∙ ap (λ (es : List Exit). thin (take a exits) ++ es) (ap thin first ∙ (thinned_kept d gone out (drop (a + 1) exits) turn.turns.out_stays
      ∙ ap (λ (es : List Exit). thinned_exit d gone out ∷ es) (over ∙ (ap thin last ∙ thinned_kept d gone back (drop (b + 1) exits) turn.turns.back_stays))))))

  -- the way out is an exit of the drawing
  out_in : Mem out (all_exits d)
  out_in = mem_row d.strands i out (mem_at exits a out (omega (arith, turn.follows, turn.inside)) turn.out_is)

  -- and so is the way back
  back_in : Mem back (all_exits d)
  back_in = mem_row d.strands i back (mem_at exits b back turn.inside turn.back_is)

  -- the side that the turn leaves through
  abbrev k : ℕ
  k = out.side

  -- its partner
  abbrev e : ℕ
  e = partner d.polygon out.side

  -- the place of the entry
  abbrev j : ℕ
  j = points_on d out.side - 1 - out.place

  -- the way back, at its side
  back_there : spot d back ≡ offset d e + back.place
  back_there = ap (λ (x : ℕ). offset d x + back.place) turn.turns.returns

  -- its place
  back_place : back.place < points_on d e
  back_place = subst (λ (x : ℕ). back.place < points_on d x) turn.turns.returns (place_in d ok back back_in)

  -- the entry stays
  entry_stays : gone (offset d e + j) ≡ false
  entry_stays = sym (taken.alike k out.place (side_in d ok out out_in) (place_in d ok out out_in)) ∙ turn.turns.out_stays

  -- from a place that stays to the next one that does is one place
  one_more : (x y : ℕ) → x < y → gone (offset d e + x) ≡ false → Between gone (offset d e + x) (offset d e + y) → places_kept d gone e y ≡ suc (places_kept d gone e x)
  one_more x y l stays none =
      let z : suc x + (y - suc x) ≡ y = omega (arith, l) in
      let p : ℕ → Bool = λ (n : ℕ). not (gone (offset d e + n)) in
      let c : bit (p x) ≡ 1 = ap (λ (t : Bool). bit (not t)) stays in
      let rest : count_by p (below (suc x + (y - suc x))) ≡ count_by p (below (suc x))
      = none_counts p (suc x) (y - suc x) (λ n u v. ap not (none (offset d e + n) (omega (arith, u)) (omega (arith, v, z)))) in
      ap (λ (n : ℕ). count_by p (below n)) (sym z) ∙ (let w : count_by p (below (suc x + (y - suc x))) ≡ suc (count_by p (below x)) = omega (arith, rest, c, count_suc p x) in w)

  -- the two are neighbours on their side
  next_to : (places_kept d gone e back.place ≡ suc (places_kept d gone e j)) ⊎ (places_kept d gone e j ≡ suc (places_kept d gone e back.place))
  next_to =
      let around : (x : ℕ) → min (offset d e + j) (offset d e + back.place) < x → x < max (offset d e + j) (offset d e + back.place) → gone x ≡ true
      = λ x u v. turn.turns.far.1 x (omega (arith, u, back_there)) (omega (arith, v, back_there)) in
      let back_left : gone (offset d e + back.place) ≡ false = ap gone (sym back_there) ∙ turn.turns.back_stays in
      elim (cases_lt j back.place) [
        | inl l ↦ inl (one_more j back.place l entry_stays (λ x u v. around x (omega (arith, u, l)) (omega (arith, v, l))))
        | inr r ↦
            let l : back.place < j = omega (arith, r, turn.turns.far.0, back_there) in
            inr (one_more back.place j l back_left (λ x u v. around x (omega (arith, u, l)) (omega (arith, v, l))))
      ]

  -- so they turn back in what is left
  turns_back : TurnsBack (thinned d gone) (thinned_exit d gone out) (thinned_exit d gone back)
  turns_back =
      let lk = side_in d ok out out_in in
      let lj = place_in d ok out out_in in
      let mirror = mirror_thinned d ok gone taken.alike k out.place lk lj turn.turns.out_stays in
      let there = kept_in d ok gone taken.alike k out.place lk lj turn.turns.out_stays in
      let side : places_kept d gone back.side back.place ≡ places_kept d gone e back.place = ap (λ (x : ℕ). places_kept d gone x back.place) turn.turns.returns in
      record {
        returns = turn.turns.returns;
        neighbours = elim next_to [
          | inl q ↦ inl (omega (arith, q, mirror, there, side))
          | inr q ↦ inr (omega (arith, q, mirror, there, side))
        ];
      }

  -- a point that stays is one of the turn's where it is one in what is left
  turn_same : (l n : ℕ) → l < sides d.polygon → n < points_on d l
      → turn_gone d out back gone (offset d l + n) ≡ (gone (offset d l + n) || turn_gone now (thinned_exit d gone out) (thinned_exit d gone back) (λ x. false) (offset now l + places_kept d gone l n))
  turn_same l n ll ln = elim (cases_Bool (gone (offset d l + n))) [
    | inl q ↦ rw q refl
    | inr q ↦
        let x = offset d l + n in
        let y = offset now l + places_kept d gone l n in
        let lk = side_in d ok out out_in in
        let lj = place_in d ok out out_in in
        let lb = side_in d ok back back_in in
        let bj = place_in d ok back back_in in
        let one = same_spot d ok gone taken.alike l n k out.place ll ln lk lj q turn.turns.out_stays in
        let two = same_spot d ok gone taken.alike l n e j ll ln (ok.polygon.pairs.in_range k lk) (omega (arith, lj, same_count d ok k)) q entry_stays
        ∙ ap (λ (z : ℕ). eqb y (offset now e + z)) (sym (mirror_thinned d ok gone taken.alike k out.place lk lj turn.turns.out_stays)) in
        let three = same_spot d ok gone taken.alike l n back.side back.place ll ln lb bj q turn.turns.back_stays in
        let four = same_spot d ok gone taken.alike l n (partner d.polygon back.side) (points_on d back.side - 1 - back.place) ll ln (ok.polygon.pairs.in_range back.side lb) (omega (arith, bj, same_count d ok back.side)) q
        (sym (taken.alike back.side back.place lb bj) ∙ turn.turns.back_stays)
        ∙ ap (λ (z : ℕ). eqb y (offset now (partner d.polygon back.side) + z)) (sym (mirror_thinned d ok gone taken.alike back.side back.place lb bj turn.turns.back_stays)) in
        ap (λ (t : Bool). t || (eqb x (spot d out) || (eqb x (spot d (entry d out)) || (eqb x (spot d back) || eqb x (spot d (entry d back)))))) q
        ∙ (ap₂ (λ (s t : Bool). s || t) one (ap₂ (λ (s t : Bool). s || t) two (ap₂ (λ (s t : Bool). s || t) three four))
        ∙ sym (ap (λ (t : Bool). t || turn_gone now (thinned_exit d gone out) (thinned_exit d gone back) (λ z. false) y) q))
  ]

  -- with the turn gone too, one turn more is gone
  pub turn_left_gone : TurnsGone d (turn_gone d out back gone) (turns + 1)
  turn_left_gone =
      let left = taken.loosened.embedded in
      turns_gone_then d ok gone taken.alike (turn_gone now (thinned_exit d gone out) (thinned_exit d gone back) (λ x. false)) (turn_gone d out back gone) turn_same turns 0 taken
      (turns_gone_more now left (λ x. false) 0 (turns_gone_none now left) i (thin (take a exits)) (thinned_exit d gone out) (thinned_exit d gone back) (thin (drop (b + 1) exits))
      (record { arc = turn.arc; splits = splits; turns = turns_back }) refl refl)
