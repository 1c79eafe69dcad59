use Rattle.std.proofs.Common.{◌≡◌, ℕ, ◌<◌, List, [], length, get_or, set, ◌∙◌, refl, ap, subst, sym, arith, inl, inr}
use Rattle.std.proofs.lemmas.Bool.{cases_eq}
use Rattle.region_table.specs.Ends.{ChordNo, IsNoted}
use Rattle.region_table.proofs.EndTables.{as_long, chord_noted, noted_kept, right_kept}
use Rattle.region_table.proofs.ends.note_strand.Goals as goal

pub loop-chord-preserved : goal.loop-chord-preserved
loop-chord-preserved c =
    let begins = c.args.begins.now.lists in
    let mates = c.args.mates.now in
    let v = c.loop-chord.invariant in
    let row : c.row-froms.result.now ≡ get_or begins c.args.strand [] = c.row-froms.ensures in
    let from = get_or c.row-froms.result.now c.loop-chord.chord 0 in
    let name : ChordNo = record { strand = c.new.result; chord = c.loop-chord.chord } in
    let lc : c.loop-chord.chord < length (get_or begins c.args.strand []) = omega (arith, c.loop-chord-test.true, ap length row) in
    let is : from ≡ get_or (get_or begins c.args.strand []) c.loop-chord.chord 0 = ap (λ (xs : List ℕ). get_or xs c.loop-chord.chord 0) row in
    let inside = c.requires.inside c.loop-chord.chord lc in
    let lf : from < length c.loop-chord.ends = omega (arith, is, inside.0, v.size, c.requires.size) in
    let lt : get_or mates from 0 < length c.loop-chord.ends = omega (arith, ap (λ x. get_or mates x 0) is, inside.1, v.size, c.requires.size) in
    let kept = right_kept begins mates c.loop-chord.ends c.args.strand c.loop-chord.chord from name c.requires.strand lc is c.new.ensures refl lf lt in
    record {
      size = as_long begins mates c.loop-chord.ends c.args.strand c.loop-chord.chord from name c.requires.strand lc is c.new.ensures refl lf lt ∙ v.size;
      kept = λ x old. kept x (v.kept x old);
      noted = λ k l. elim (cases_eq k c.loop-chord.chord) [
        | inl e ↦
            subst (λ n. IsNoted begins mates (set (set c.loop-chord.ends from name) (get_or mates from 0) name) c.args.strand n) (sym e)
            (chord_noted begins mates c.loop-chord.ends c.args.strand c.loop-chord.chord from name c.requires.strand lc is c.new.ensures refl lf lt)
        | inr n ↦ noted_kept begins mates c.loop-chord.ends (set (set c.loop-chord.ends from name) (get_or mates from 0) name) kept c.args.strand k (v.noted k (omega (arith, l, n)))
      ];
    }
