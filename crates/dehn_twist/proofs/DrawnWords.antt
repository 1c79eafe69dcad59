-- The words of a drawing, and what a single twist makes of them.
use Rattle.std.proofs.Common.{◌≡◌, ℕ, ◌+◌, ◌<◌, ◌≤◌, ◌^◌, Bool, true, false, List, [], ◌∷◌, ◌++◌, map, length, get_or, refl, sym, ◌∙◌, ap, subst, arith, length-append, inl, inr, All}
use Rattle.std.specs.Prelude.{◌⊎◌, ℤ, Result, Ok, Err, nat_lt, if◌then◌else◌}
use Rattle.std.proofs.lemmas.Bool.{cases_lt, lt-ltb}
use Rattle.std.specs.List.{flat_map}
use Rattle.std.proofs.lemmas.List.{length-map}
use Rattle.std.proofs.lemmas.List.Sums.{sum_by-cons}
use Rattle.std.proofs.lemmas.List.Elements.{All-map}
use Rattle.obd_base.specs.declared.points.Exit.{Exit}
use Rattle.obd_base.specs.declared.points.Sign.{Sign}
use Rattle.obd_base.specs.declared.points.Sign.TheVariants.{Minus, Plus}
use mir.Syntax.{w32}
use mir.Val.{of_z, to_z}
use Rattle.page_surface.specs.Drawing.{Drawing, IsEmbedded, all_exits, words}
use Rattle.page_surface.specs.Polygon.{Polygon, sides}
use Rattle.page_surface.specs.Words.{reduced}
use Rattle.curve_paths.specs.Curves.{IsCurve, twisted}
use Rattle.curve_paths.specs.Twists.{AreWords, by_power, going_on, letters, limited, sign_of, times, turns_of}
use Rattle.curve_paths.proofs.Members.{mem_get_or}
use Rattle.drawing.proofs.Lists.{mem_flat}
use Rattle.drawing.proofs.Placed.{side_in-placed}
use Rattle.drawing.specs.Tight.{tight_drawing}
use Rattle.dehn_twist.specs.Surgery.{surgery}
use Rattle.dehn_twist.specs.Twist.{twisted_drawing, unit_power}
use Rattle.dehn_twist.proofs.BuildLaws.{exits_few}
use Rattle.dehn_twist.proofs.Laws.{surgery_drawing, surgery_embedded, words_of_tight}

-- the words of some strands have as many letters as these have exits
letters_rows : (ss : List (List Exit)) → letters (map (map (λ (e : Exit). e.side)) ss) ≡ length (flat_map (λ (s : List Exit). s) ss)
letters_rows [] = refl
letters_rows (s ∷ ss) =
    let side = λ (e : Exit). e.side in
    let rest = flat_map (λ (s : List Exit). s) ss in
    let one : letters (map (map side) (s ∷ ss)) ≡ length (map side s) + letters (map (map side) ss) = sum_by-cons length (map side s) (map (map side) ss) in
    let all : length (flat_map (λ (s : List Exit). s) (s ∷ ss)) ≡ length (s ++ rest) = refl in
    omega (arith, one, all, letters_rows ss, length-map s side, length-append s rest)

-- the words of a drawing have as many letters as it has exits
pub letters_of : (d : Drawing) → letters (words d) ≡ length (all_exits d)
letters_of d = letters_rows d.strands

-- so those of an embedded drawing with few points are words
pub are_words : (d : Drawing) → IsEmbedded d → length (all_exits d) ≤ 4000 → AreWords d.polygon (words d)
are_words d ok few = record {
  each = length-map d.strands (map (λ (e : Exit). e.side)) ∙ ok.strand_count;
  in_range = All-map (All (λ s. s < sides d.polygon)) (map (λ (e : Exit). e.side)) d.strands (λ i row small.
      All-map (λ s. s < sides d.polygon) (λ (e : Exit). e.side) (get_or d.strands i row) (λ j e within.
      side_in-placed d (record { polygon = ok.polygon; strand_count = ok.strand_count; on_sides = ok.on_sides; places = ok.places }) (get_or (get_or d.strands i row) j e) (mem_flat (λ (s : List Exit). s) d.strands (get_or d.strands i row) (get_or (get_or d.strands i row) j e)
      (mem_get_or d.strands i row small) (mem_get_or (get_or d.strands i row) j e within))));
  few = omega (arith, letters_of d, few);
}

-- where one single twist is within the limit, it gives the twisted words
pub one_turn : (p : Polygon) (c : List Exit) (sign : Sign) (ws now : List (List ℕ)) → 1 ≤ length c → times p c sign 1 ws ≡ Ok now → limited (twisted p c sign ws) ≡ Ok (twisted p c sign ws)
one_turn p [] sign ws now some e = absurd (omega (arith, some))
one_turn p (x ∷ c) sign ws now some e = go (nat_lt 4000 (letters (twisted p (x ∷ c) sign ws))) e
  where
    clash : {n : ℕ} {y : List (List ℕ)} → ◌≡◌ {A = Result (List (List ℕ)) ℕ} (Err n) (Ok y) → ⊥
    clash e = cc

    go : (b : Bool) → going_on (times p (x ∷ c) sign 0) (if b then Err (letters (twisted p (x ∷ c) sign ws)) else Ok (twisted p (x ∷ c) sign ws)) ≡ Ok now
        → ◌≡◌ {A = Result (List (List ℕ)) ℕ} (if b then Err (letters (twisted p (x ∷ c) sign ws)) else Ok (twisted p (x ∷ c) sign ws)) (Ok (twisted p (x ∷ c) sign ws))
    go true e = absurd (clash e)
    go false e = refl

module _ (d : Drawing) (ok : IsEmbedded d) (c : List Exit) (curve : IsCurve d.polygon c) (sign : Sign) (p : Polygon) (ss : List (List Exit)) (same : p ≡ d.polygon) (are : ss ≡ (surgery d c sign).strands) where
  -- the exits of the surgery on a copy of the polygon
  again : ◌≡◌ {A = Drawing} (record { polygon = p; strands = ss }) (surgery d c sign)
  again = rw (same, are) refl

  -- are embedded
  pub again_embedded : IsEmbedded (record { polygon = p; strands = ss })
  again_embedded = subst IsEmbedded (sym again) (surgery_embedded d ok c curve sign)

  -- and few
  pub again_few : length (all_exits d) ≤ 4000 → sides d.polygon ≤ 16 → length c ≤ 32 → length (all_exits (record { polygon = p; strands = ss })) < 2 ^ 28
  again_few few few_sides short =
      let k = exits_few d ok c curve sign few (omega (arith, few_sides)) short in
      subst (λ (e : Drawing). length (all_exits e) < 2 ^ 28) (sym again) k

  -- and made tight they are the twisted drawing
  pub again_tight : (now tight : Drawing) → now ≡ record { polygon = p; strands = ss } → tight ≡ tight_drawing now.polygon (map (reduced now.polygon) (words now)) → tight ≡ twisted_drawing d c sign
  again_tight now tight is made = made ∙ (ap (λ (e : Drawing). tight_drawing e.polygon (map (reduced e.polygon) (words e))) (is ∙ again) ∙ surgery_drawing d ok c curve sign)

-- the twisted drawing has the twisted words, and so as many exits as these have letters
pub twisted_words : (d : Drawing) (c : List Exit) (sign : Sign) → words (twisted_drawing d c sign) ≡ twisted d.polygon c sign (words d)
twisted_words d c sign = words_of_tight d.polygon (twisted d.polygon c sign (words d))

-- what is within the limit has few letters
pub within_limit : (ws now : List (List ℕ)) → limited ws ≡ Ok now → letters ws ≤ 4000
within_limit ws now e = go (cases_lt 4000 (letters ws))
  where
    clash : {n : ℕ} {y : List (List ℕ)} → ◌≡◌ {A = Result (List (List ℕ)) ℕ} (Err n) (Ok y) → ⊥
    clash e = cc

    go : (4000 < letters ws) ⊎ (letters ws ≤ 4000) → letters ws ≤ 4000
    go (inl h) = let k : limited ws ≡ Err (letters ws) = rw (lt-ltb 4000 (letters ws) h) refl in absurd (clash (sym k ∙ e))
    go (inr h) = h

-- a single twist as a power, also when it is read back from its bits
pub unit_sign : (sign : Sign) (power : ℤ) → power ≡ unit_power sign → sign_of (to_z w32 (of_z w32 power)) ≡ sign
unit_sign Plus power e = rw e refl
unit_sign Minus power e = rw e refl

pub unit_turns : (sign : Sign) (power : ℤ) → power ≡ unit_power sign → turns_of (to_z w32 (of_z w32 power)) ≡ 1
unit_turns Plus power e = rw e refl
unit_turns Minus power e = rw e refl

module _ (p : Polygon) (c : List Exit) (sign : Sign) (ws : List (List ℕ)) (some : 1 ≤ length c) (power : ℤ) (is : power ≡ unit_power sign) (q : Polygon) (same : q ≡ p) (vs : List (List ℕ)) (are : vs ≡ ws) where
  -- a power that is a single twist
  by_unit : by_power q c (to_z w32 (of_z w32 power)) vs ≡ times p c sign 1 ws
  by_unit = rw (same, are, unit_sign sign power is, unit_turns sign power is) refl

  -- gives the twisted words where they are within the limit
  pub one_power : (now : List (List ℕ)) → by_power q c (to_z w32 (of_z w32 power)) vs ≡ Ok now → limited (twisted p c sign ws) ≡ Ok (twisted p c sign ws)
  one_power now e = one_turn p c sign ws now some (sym by_unit ∙ e)
