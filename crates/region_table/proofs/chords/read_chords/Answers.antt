use Rattle.std.proofs.Common.{◌≡◌, ◌++◌, List, map, ◌∙◌, refl, ap}
use Rattle.page_surface.specs.Drawing.{Chord, strand_chords}
use Rattle.drawing.proofs.SweepTables.{chords_more}
use Rattle.region_table.proofs.ChordTables.{told_more}
use Rattle.region_table.proofs.chords.read_chords.Goals as goal

pub loop-strand-preserved : goal.loop-strand-preserved
loop-strand-preserved c =
    let d = c.args.drawing.now.drawing in
    let v = c.loop-strand.invariant in
    let are : c.in_ok-chords.chords.items ≡ strand_chords d c.loop-strand.strand = c.in_ok-chords.ensures ∙ ap (strand_chords d) c.new.ensures in
    record {
      chords = chords_more d c.loop-strand.strand c.loop-strand.strand _ _ v.chords refl (c.in_ok-extend_from_slice.ensures.items ∙ ap (λ (xs : List Chord). c.loop-strand.all.items ++ xs) (c.deref.ensures.value ∙ are));
      begins = told_more (λ i. map (λ c. c.from) (strand_chords d i)) c.loop-strand.strand _ _ _ v.begins (c.in_ok-beginnings.ensures ∙ ap (map (λ (k : Chord). k.from)) (c.deref-in-loop-strand.ensures.value ∙ are)) c.in_ok-push.ensures.ok;
      room = c.in_ok-push.ensures.room;
    }
