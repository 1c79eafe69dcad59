-- The doors on the way to the base, as code goes it: by names of pieces.
use Rattle.std.proofs.Common.{◌≡◌, ℕ, suc, ◌-◌, ◌<◌, true, false, List, [], ◌∷◌, ◌++◌, map, length, refl, sym, ◌∙◌, ap, subst, arith}
use Rattle.std.proofs.lemmas.List.{append-nil, append_assoc}
use Rattle.page_surface.specs.Drawing.{Drawing}
use Rattle.drawing.specs.Pieces.{distance, is_base, span_count}
use Rattle.region_table.specs.Table.{name_at, region}
use Rattle.nice_plan.specs.declared.chord_name.ChordName.{ChordName}
use Rattle.nice_plan.specs.Burst.{chord_ending, named_chords}
use Rattle.nice_plan.specs.Measured.{IsInner, IsMeasured, Measured, home}
use Rattle.nice_plan.specs.Path.{before_door, doors_from}
use Rattle.nice_plan.proofs.DoorChain.{after_inside}
use Rattle.nice_plan.proofs.DoorSearch.{door_at}
use Rattle.nice_plan.proofs.DoorSteps.{far_off}
use Rattle.nice_plan.proofs.MeasuredReads.{base_at, distance_at, home_is, home_same}
use Rattle.nice_plan.proofs.PathSteps.{door_same}
use Rattle.nice_plan.proofs.PieceRounds.{base_same, base_zero}

-- the names of the chords of some doors
abbrev pub door_names : Drawing → List ℕ → List ChordName
door_names d spans = map (chord_ending (named_chords d)) spans

-- the doors so far, and a span of the piece to which they lead
pub record AreFound (m : Measured) (from : ℕ) (found : List ChordName) (p : ℕ) : Type 0 where
  pub span : ℕ
  pub inside : span < span_count m.drawing
  pub named : name_at m.table span ≡ p
  pub listed : p < length m.table.regions
  pub left : door_names m.drawing (doors_from m.drawing (distance m.drawing (home m from)) (home m from)) ≡ found ++ door_names m.drawing (doors_from m.drawing (distance m.drawing span) span)

module _ (m : Measured) (k : IsMeasured m.drawing m.table) (from : ℕ) where
  -- none yet
  pub none_found : IsInner m from → AreFound m from [] from
  none_found i = let h = home_is m k from i in record { span = home m from; inside = h.inside; named = h.named; listed = i.listed; left = refl }

  module _ (found : List ChordName) (p : ℕ) (so : AreFound m from found p) where
    -- where the piece isn't base
    pub found_inner : (region m.table p).base ≡ false → IsInner m p
    found_inner h = record { listed = so.listed; inner = h }

    module _ (i : IsInner m p) where
      -- its span is at a distance
      ahead : distance m.drawing so.span ≡ suc ((region m.table p).distance - 1)
      ahead = omega (arith, distance_at m k so.span so.inside p so.named, far_off m k p i)

      not_base : is_base m.drawing so.span ≡ false
      not_base = sym (base_at m k so.span so.inside p so.named) ∙ i.inner

      the_door : before_door m.drawing so.span ≡ before_door m.drawing (home m p)
      the_door = door_same m.drawing so.span (home m p) (home_same m k so.span so.inside not_base p so.named)

      -- one more, and the piece behind it is nearer
      pub one_found : (chord : ChordName) (behind : ℕ) → chord ≡ chord_ending (named_chords m.drawing) (before_door m.drawing (home m p))
          → behind ≡ name_at m.table (suc (before_door m.drawing (home m p))) → AreFound m from (found ++ (chord ∷ [])) behind × ((region m.table behind).distance < (region m.table p).distance)
      one_found chord behind is at =
          let e = (region m.table p).distance - 1 in
          let g = door_at m.drawing k.embedded so.span e so.inside ahead in
          let b = before_door m.drawing so.span in
          let b_inner : is_base m.drawing b ≡ false = sym (base_same m.drawing so.span b g.same) ∙ not_base in
          let after = after_inside m.drawing k.embedded b g.inside b_inner in
          let named : name_at m.table (suc b) ≡ behind = ap (λ x. name_at m.table (suc x)) the_door ∙ sym at in
          let step : doors_from m.drawing (distance m.drawing so.span) so.span ≡ b ∷ doors_from m.drawing (distance m.drawing (suc b)) (suc b) =
          ap (λ n. doors_from m.drawing n so.span) ahead ∙ ap (λ n. b ∷ doors_from m.drawing n (suc b)) (sym g.nearer) in
          let chord_is : chord_ending (named_chords m.drawing) b ≡ chord = ap (chord_ending (named_chords m.drawing)) the_door ∙ sym is in
          let rest = door_names m.drawing (doors_from m.drawing (distance m.drawing (suc b)) (suc b)) in (
            record {
              span = suc b;
              inside = after;
              named = named;
              listed = subst (λ q. q < length m.table.regions) named (k.table.told (suc b) after);
              left = so.left ∙ (ap (λ w. found ++ door_names m.drawing w) step ∙ (ap (λ w. found ++ (w ∷ rest)) chord_is ∙ sym (append_assoc found (chord ∷ []) rest)));
            },
            omega (arith, distance_at m k (suc b) after behind named, g.nearer, far_off m k p i),
          )

    -- at the base all are found
    pub all_found : (region m.table p).base ≡ true → found ≡ door_names m.drawing (doors_from m.drawing (distance m.drawing (home m from)) (home m from))
    all_found h =
        let zero_far = base_zero m.drawing k.embedded so.span (sym (base_at m k so.span so.inside p so.named) ∙ h) in
        sym (so.left ∙ (ap (λ n. found ++ door_names m.drawing (doors_from m.drawing n so.span)) zero_far ∙ append-nil found))
