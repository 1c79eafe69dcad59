use Rattle.std.proofs.Common.{◌≡◌, ℕ, ◌++◌, ◌∷◌, [], List, Vec, Global, map, ◌∙◌, refl, sym, ap, arith}
use Rattle.page_surface.specs.Drawing.{Drawing, IsEmbedded, chords}
use Rattle.drawing.specs.Pieces.{spans}
use Rattle.drawing.specs.Round.{other_end}
use Rattle.region_table.specs.Naming.{number_of}
use Rattle.drawing.proofs.PieceCount.{some_span}
use Rattle.region_table.proofs.NumberSteps.{named_size, count_begins, count_new, count_old, number_new, number_old, numbers_begin, numbers_done, table_size}
use Rattle.region_table.proofs.names.number_pieces.Goals as goal
use Rattle.region_table.proofs.names.number_pieces.Goals.{then-mate-at+in_ok-push-2, else-mate-at+in_ok-push-3}

pub loop-at-init : goal.loop-at-init
loop-at-init c = record {
  named = numbers_begin c.args.drawing.now.drawing c.requires.embedded c.args.mates.now c.requires.mates _ (c.in_ok-push.ensures.items ∙ ap (λ xs. xs ++ 0 ∷ []) c.new-names.ensures.items);
  counted = sym (count_begins c.args.drawing.now.drawing c.requires.embedded c.args.mates.now c.requires.mates);
  few = omega arith;
}

pub overflow_cast-at : goal.overflow_cast-at
overflow_cast-at c =
    let n = table_size c.args.drawing.now.drawing c.requires.embedded c.args.mates.now c.requires.mates in
    omega (arith, n, c.requires.few, c.loop-at-test.true, c.loop-at.auto)

pub overflow_add-count : goal.overflow_add-count
overflow_add-count c =
    let n = table_size c.args.drawing.now.drawing c.requires.embedded c.args.mates.now c.requires.mates in
    omega (arith, n, c.requires.few, c.loop-at-test.true, c.loop-at.auto, c.loop-at.invariant.few)

pub index-name-requires : goal.index-name-requires
index-name-requires c =
    let n = named_size (number_of c.args.drawing.now.drawing) c.loop-at.at c.loop-at.names.items c.loop-at.invariant.named in
    omega (arith, n, c.if-mate-at.false, c.loop-at.names.ok)

pub loop-at-preserved : goal.loop-at-preserved
loop-at-preserved c = elim c.if-mate-at.branch [
  | then-mate-at+in_ok-push-2 w ↦
      let v = c.loop-at.invariant in
      let grown = ap (λ (x : Vec ℕ Global). x.items) w.names-is ∙ w.in_ok-push-2.ensures.items in
      record {
        named = number_new d ok table is c.loop-at.at c.loop-at.count _ (omega (arith, c.loop-at.auto)) c.loop-at-test.true refl v.counted c.loop-at.names.items _ v.named w.if-mate-at.true grown;
        counted = w.count-is ∙ count_new d ok table is c.loop-at.at c.loop-at.count _ (omega (arith, c.loop-at.auto)) c.loop-at-test.true refl v.counted w.if-mate-at.true;
        few = omega (arith, w.count-is, v.few);
      }
  | else-mate-at+in_ok-push-3 w ↦
      let v = c.loop-at.invariant in
      let grown = ap (λ (x : Vec ℕ Global). x.items) w.names-is ∙ w.in_ok-push-3.ensures.items in
      record {
        named = number_old d ok table is c.loop-at.at c.loop-at.count _ (omega (arith, c.loop-at.auto)) c.loop-at-test.true refl v.counted c.loop-at.names.items _ _ v.named w.if-mate-at.false w.index-name.ensures grown;
        counted = w.count-is ∙ count_old d ok table is c.loop-at.at c.loop-at.count _ (omega (arith, c.loop-at.auto)) c.loop-at-test.true refl v.counted w.if-mate-at.false;
        few = omega (arith, w.count-is, v.few);
      }
]
  where
    d : Drawing
    d = c.args.drawing.now.drawing

    ok : IsEmbedded d
    ok = c.requires.embedded

    table : List ℕ
    table = c.args.mates.now

    is : table ≡ map (other_end (chords d)) (spans d)
    is = c.requires.mates

pub returns : goal.returns
returns c =
    let n = table_size c.args.drawing.now.drawing c.requires.embedded c.args.mates.now c.requires.mates in
    numbers_done c.args.drawing.now.drawing c.requires.embedded c.args.mates.now c.requires.mates c.loop-at.at c.loop-at.names.items (omega (arith, n, c.loop-at.auto, c.loop-at-test.false, some_span c.args.drawing.now.drawing c.requires.embedded)) c.loop-at.invariant.named
