-- What the parts of the test of a step tell together.
use Rattle.std.proofs.Common.{◌≡◌, ◌≢◌, ℕ, zero, suc, ◌≤◌, ◌<◌, ◌^◌, inl, inr, Bool, true, false, cond, eqb, ◌&&◌, List, [], ◌∷◌, None, get_or, length, refl, sym, ap, subst, arith, ◌∙◌}
use Rattle.std.specs.List.{count_by, position_or_len}
use Rattle.std.proofs.lemmas.Bool.{cases_lt, false≢true, ne_eqb, eq-eqb}
use Rattle.std.proofs.lemmas.List.FromFn.{length-map-range_with_len}
use Rattle.drawing.proofs.Lists.{none_before}
use Rattle.drawing.proofs.SamePiece.{same_piece_refl, table_at}
use Rattle.drawing.specs.Pieces.{piece_table, same_piece, span_count, spans}
use Rattle.drawing.specs.Points.{IsGenerator, is_generator}
use Rattle.empty_domains.proofs.FarEdges.{edges_tell}
use Rattle.empty_domains.proofs.Generators.{generator_choice}
use Rattle.empty_domains.proofs.LedSteps.{led_near}
use Rattle.empty_domains.proofs.PieceMark.{side_under}
use Rattle.empty_domains.proofs.StandMade.{stand_spot}
use Rattle.empty_domains.proofs.StepRows.{told_points, told_rows}
use Rattle.empty_domains.proofs.StepRules.{told_bigons, told_near}
use Rattle.empty_domains.proofs.StripFacts.{strip_is}
use Rattle.empty_domains.specs.Ground.{Ground, IsGround, IsSpot, IsStanding}
use Rattle.empty_domains.specs.Led.{IsLed}
use Rattle.empty_domains.specs.Marks.{AreMarked, AreNear, arcs_rule_by, edges_rule_by, marked_by}
use Rattle.empty_domains.specs.NearTest.{IsCollected, bigons, is_near, swept}
use Rattle.empty_domains.specs.Strip.{Step, all_strips, is_fresh}
use Rattle.empty_domains.specs.Sweep.{starts}
use Rattle.empty_domains.specs.Walk.{succeeds, target}
use Rattle.obd_base.proofs.lists.Members.{mem_map}
use Rattle.obd_base.specs.Lists.{Mem}
use Rattle.page_surface.specs.Drawing.{Drawing, IsEmbedded, chords}
use Rattle.page_surface.specs.Polygon.{sides}
use Rattle.region_table.specs.Nice.{IsNice}

module _ (d : Drawing) (ok : IsEmbedded d) where
  -- there is a span
  pub some_span : 0 < span_count d
  some_span = let l = side_under d ok 0 ok.polygon.not_empty in omega arith

  -- the first span of a span's piece is a span
  pub entry_under : (s : ℕ) → get_or (piece_table d) s 0 < span_count d
  entry_under s = elim (cases_lt s (span_count d)) [
    | inl l ↦ elim (cases_lt (position_or_len (same_piece (chords d) s) (spans d)) (span_count d)) [
      | inl h ↦ omega (arith, table_at d s l)
      | inr h ↦ absurd (false≢true (sym (none_before (same_piece (chords d) s) (span_count d) s l (omega arith)) ∙ same_piece_refl (chords d) s))
    ]
    | inr l ↦ (let n = length-map-range_with_len (λ s. position_or_len (same_piece (chords d) s) (spans d)) 0 (span_count d) in let z = past (piece_table d) s (omega (arith, n)) in omega (arith, z, some_span))
  ]
    where
      past : (xs : List ℕ) (i : ℕ) → length xs ≤ i → get_or xs i 0 ≡ 0
      past [] i l = refl
      past (x ∷ xs) zero l = absurd (omega arith)
      past (x ∷ xs) (suc i) l = past xs i (omega arith)

  -- the pieces that are collected are spans
  pub collected_under : (spans pieces : List ℕ) → IsCollected (piece_table d) spans pieces → (p : ℕ) → Mem p pieces → p < span_count d
  collected_under ss pieces is p m =
      let (q, n, e) = mem_map (λ s. get_or (piece_table d) s 0) p ss (is.met p m) in
      subst (λ z. z < span_count d) (sym e) (entry_under q)

  -- what the rules are tested by
  pub near_made : (g : Ground) → IsGround d g → (y x from to pieces : List ℕ) (marks : List Bool) → IsGenerator d y → IsGenerator d x → IsStanding d y from → IsStanding d x to
      → pieces ≡ piece_table d → length marks ≡ span_count d → span_count d < 2 ^ 30 → AreNear d g pieces marks from to
  near_made g is y x from to pieces marks gy gx fy fx e n few = record {
    tables = is;
    few = omega (arith, is.other_size, few);
    pieces_size = ap length e ∙ (length-map-range_with_len _ 0 (span_count d) ∙ sym is.other_size);
    marks_in = λ s. (let l = entry_under s in let q : get_or pieces s 0 ≡ get_or (piece_table d) s 0 = ap (λ zs. get_or zs s 0) e in omega (arith, l, q, n));
    from_size = fy.size ∙ sym is.ends_size;
    to_size = fx.size ∙ sym is.ends_size;
    from_spots = λ k l. (let lk : k < sides d.polygon = omega (arith, l, is.ends_size) in subst (λ z. IsSpot d z) (sym (fy.each k lk)) (stand_spot d ok y gy k lk));
    to_spots = λ k l. (let lk : k < sides d.polygon = omega (arith, l, is.ends_size) in subst (λ z. IsSpot d z) (sym (fx.each k lk)) (stand_spot d ok x gx k lk));
  }

  module _ (nice : IsNice d) (y : List ℕ) (gy : IsGenerator d y) (gens : List (List ℕ)) (s : Step) (read : Mem s (all_strips d y)) (fresh : is_fresh d s ≡ true)
      (g : Ground) (is : IsGround d g) (pieces found : List ℕ) (marks : List Bool) (pieces_are : pieces ≡ piece_table d) (marked : AreMarked pieces (swept d s.by) found marks) where
    collected : IsCollected (piece_table d) (swept d s.by) found
    collected = subst (λ z. IsCollected z (swept d s.by) found) pieces_are marked.collected

    -- a generator with the wrong number of bigons
    pub led_wrong : (x : List ℕ) → x ≡ target d y s.by → (count : ℕ) → count ≡ count_by (λ s. eqb (suc (get_or g.other s 0)) s) found → count ≢ cond (eqb s.by.first s.by.second) 1 0 → IsLed d y gens s None
    led_wrong x e count c n =
        let b : bigons d found ≡ count = sym (c ∙ told_bigons d ok g is found (collected_under (swept d s.by) found collected)) in
        led_near d ok nice y gy gens s read fresh found collected false (third (is_generator d (target d y s.by)) (eqb (bigons d found) (cond (eqb s.by.first s.by.second) 1 0)) _ (ne_eqb _ _ (λ q. n (sym b ∙ q))))
      where
        third : (a b c : Bool) → b ≡ false → (a && (b && c)) ≡ false
        third true b c h = rw h refl
        third false b c h = refl

    -- a generator with the right one, as the rules tell
    pub led_rules : (x : List ℕ) → x ≡ target d y s.by → IsGenerator d x → (from to : List ℕ) → IsStanding d y from → IsStanding d x to
        → (rs : List ℕ) → rs ≡ starts (λ x. get_or g.other x 0) (λ x. get_or g.opposite x 0) s.by.start (suc s.steps)
        → (count : ℕ) → count ≡ count_by (λ s. eqb (suc (get_or g.other s 0)) s) found → count ≡ cond (eqb s.by.first s.by.second) 1 0
        → (b : Bool) → b ≡ (arcs_rule_by d g from to (marked_by pieces marks) && edges_rule_by g from to (marked_by pieces marks) s.by.width s.by.start rs)
        → (is_fresh d s && succeeds d y s.by) ≡ b
    led_rules x e gx from to fy fx rs rs_are count c n b h =
        let cy = (generator_choice d y gy).0 in
        let bs : bigons d found ≡ count = sym (c ∙ told_bigons d ok g is found (collected_under (swept d s.by) found collected)) in
        let rows_are = told_rows d ok y cy s read g is rs rs_are ∙ sym (strip_is d y s read fresh).rows_are in
        let near = told_near d ok g is y x from to cy (generator_choice d x gx).0 fy fx pieces found marks pieces_are marked.marked s.by rs rows_are (told_points d ok y cy s read g is rs rs_are) (generator_choice d x gx).1 in
        let edges = edges_tell d ok y cy g is s read rs rs_are x from to (generator_choice d x gx).0 fy fx (marked_by pieces marks) in
        led_near d ok nice y gy gens s read fresh found collected b
        (ap (λ z. is_near d found y z s.by) (sym e) ∙ (near ∙ (first _ _ (eq-eqb _ _ (bs ∙ n)) ∙ sym (h ∙ ap (λ t. arcs_rule_by d g from to (marked_by pieces marks) && t) edges))))
      where
        first : (a c : Bool) → a ≡ true → (a && c) ≡ c
        first a c q = rw q refl

-- one bigon is wanted where the arcs are one, and none where they aren't
pub wanted_one : (a b w n m : ℕ) → eqb a b ≡ eqb n m → a ≡ b → w ≡ 1 → w ≡ cond (eqb n m) 1 0
wanted_one a b w n m e h k = rw (k, sym e, eq-eqb a b h) refl

pub wanted_none : (a b w n m : ℕ) → eqb a b ≡ eqb n m → a ≢ b → w ≡ 0 → w ≡ cond (eqb n m) 1 0
wanted_none a b w n m e h k = rw (k, sym e, ne_eqb a b h) refl
