use Rattle.std.proofs.Common.{◌≡◌, ◌≤◌, length, map, refl}
use Rattle.std.specs.Prelude.{Err, Ok}
use Rattle.std.proofs.lemmas.Result.{IfErr-weaker, IfOk-weaker}
use Rattle.page_surface.specs.Drawing.{all_exits, words}
use Rattle.curve_paths.specs.Twists.{exits_of, words_after}
use Rattle.curve_paths.specs.declared.twist.TooLong.{TooLong}
use Rattle.monodromy.specs.Drawn.{IsDrawn}
use Rattle.monodromy.specs.declared.refusal.MonodromyRefusal.TheVariants.{TooLong as Long}
use Rattle.obd_cli.specs.Decisions.{drawing_of}
use Rattle.obd_cli.specs.Words.{book_words}
use Rattle.obd_cli.proofs.FirstDrawn.{first_if, words_drawn}
use Rattle.obd_cli.proofs.drawn.drawn.Goals as goal

pub returns-clause-first : goal.returns-clause-first
returns-clause-first c =
    let s = c.args.surface.now.slid in
    first_if c.args.book.now c.requires.valid s s.polygon c.as_slice-curves.result.now c.as_slice.result.now refl c.as_slice-curves.ensures c.as_slice.ensures c.drawn.result c.drawn.ensures.words c.drawn.ensures.drawn

pub returns-clause-words : goal.returns-clause-words
returns-clause-words c =
    let s = c.args.surface.now.slid in
    IfOk-weaker c.drawn.result (λ d. words_after s.polygon (map exits_of c.as_slice-curves.result.now) c.as_slice.result.now ≡ Ok (words d.drawing)) (λ d. book_words c.args.book.now s ≡ Ok (words d.drawing))
    (λ d after. words_drawn c.args.book.now c.requires.valid s s.polygon c.as_slice-curves.result.now c.as_slice.result.now refl c.as_slice-curves.ensures c.as_slice.ensures (Ok (words d.drawing)) after) c.drawn.ensures.words

pub returns-clause-tight : goal.returns-clause-tight
returns-clause-tight c =
    let s = c.args.surface.now.slid in
    IfOk-weaker c.drawn.result (λ d. IsDrawn s.polygon (words d.drawing) d.drawing) (λ d. d.drawing ≡ drawing_of s (words d.drawing)) (λ d drawn. drawn.drawn) c.drawn.ensures.drawn

pub returns-clause-long : goal.returns-clause-long
returns-clause-long c =
    let s = c.args.surface.now.slid in
    IfErr-weaker c.drawn.result (λ refusal. (long : TooLong) → refusal ≡ Long long → words_after s.polygon (map exits_of c.as_slice-curves.result.now) c.as_slice.result.now ≡ Err long)
    (λ refusal. (long : TooLong) → refusal ≡ Long long → book_words c.args.book.now s ≡ Err long)
    (λ refusal says long is. words_drawn c.args.book.now c.requires.valid s s.polygon c.as_slice-curves.result.now c.as_slice.result.now refl c.as_slice-curves.ensures c.as_slice.ensures (Err long) (says long is)) c.drawn.ensures.long

pub returns-clause-few : goal.returns-clause-few
returns-clause-few c =
    let s = c.args.surface.now.slid in
    IfOk-weaker c.drawn.result (λ d. IsDrawn s.polygon (words d.drawing) d.drawing) (λ d. length (all_exits d.drawing) ≤ 4000) (λ d drawn. drawn.few) c.drawn.ensures.drawn
