use Rattle.std.proofs.Common.{◌<◌, [], length, get_or, ◌∙◌, sym, subst, arith, inl, inr}
use Rattle.std.proofs.lemmas.Bool.{cases_eq}
use Rattle.region_table.specs.Ends.{IsNoted}
use Rattle.region_table.proofs.EndTables.{noted_kept}
use Rattle.region_table.proofs.ends.note_strands.Goals as goal

pub loop-strand-preserved : goal.loop-strand-preserved
loop-strand-preserved c =
    let begins = c.args.begins.now.lists in
    let mates = c.args.mates.now in
    let v = c.loop-strand.invariant in
    let ends = c.note_strand.new.ends in
    record {
      size = c.note_strand.ensures.size ∙ v.size;
      noted = λ i k li lk. elim (cases_eq i c.loop-strand.strand) [
        | inl e ↦ subst (λ n. IsNoted begins mates ends n k) (sym e) (c.note_strand.ensures.noted k (subst (λ n. k < length (get_or begins n [])) e lk))
        | inr n ↦ noted_kept begins mates c.loop-strand.ends ends c.note_strand.ensures.kept i k (v.noted i k (omega (arith, li, n)) lk)
      ];
    }
