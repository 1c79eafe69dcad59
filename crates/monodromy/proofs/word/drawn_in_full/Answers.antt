use Rattle.std.proofs.Common.{◌≡◌, ◌∙◌, ◌≤◌, ap, arith, length, map, refl, subst, sym}
use Rattle.std.specs.Prelude.{Err}
use Rattle.page_surface.specs.Drawing.{Drawing, all_exits, words}
use Rattle.curve_paths.specs.Twists.{exits_of, words_after}
use Rattle.drawing.specs.Tight.{IsTight, tight_drawing}
use Rattle.drawing.proofs.TightLaws.{is_tight_drawing}
use Rattle.dehn_twist.proofs.Laws.{identity_tight}
use Rattle.monodromy.proofs.FirstWords.{identity_few}
use Rattle.monodromy.proofs.Laws.{word_from_identity}
use Rattle.monodromy.proofs.Refusals.{handed_on}
use Rattle.monodromy.proofs.word.drawn_in_full.Goals as goal

pub turn_by_word-requires-clause-few : goal.turn_by_word-requires-clause-few
turn_by_word-requires-clause-few c =
    subst (λ (d : Drawing). length (all_exits d) ≤ 4000) (sym c.in_ok-drawing.ensures) (identity_few c.args.polygon.now c.sides.ensures.valid (omega (arith, c.sides.ensures.value, c.sides.ensures.most)))

pub turn_by_word-requires-clause-tight : goal.turn_by_word-requires-clause-tight
turn_by_word-requires-clause-tight c = subst IsTight (sym c.in_ok-drawing.ensures) (identity_tight c.args.polygon.now)

pub returns-in_err-turn_by_word-clause-long : goal.returns-in_err-turn_by_word-clause-long
returns-in_err-turn_by_word-clause-long c =
    let p = c.args.polygon.now in
    let same = word_from_identity p (map exits_of c.args.curves.now) c.args.twists.now c.in_ok-drawing.drawing.drawing c.in_ok-drawing.ensures in
    handed_on (λ long. words_after p (map exits_of c.args.curves.now) c.args.twists.now ≡ Err long) _ _ c.from_residual-in_err-turn_by_word.ensures.1
    (λ long given. sym same ∙ c.in_err-turn_by_word.ensures.long long given)

pub returns-clause-words : goal.returns-clause-words
returns-clause-words c =
    sym (word_from_identity c.args.polygon.now (map exits_of c.args.curves.now) c.args.twists.now c.in_ok-drawing.drawing.drawing c.in_ok-drawing.ensures) ∙ c.in_ok-turn_by_word.ensures.turned

pub returns-clause-drawn : goal.returns-clause-drawn
returns-clause-drawn c =
    let d = c.turn_by_word.new.drawing.drawing in
    let polygon = c.in_ok-turn_by_word.ensures.polygon ∙ ap (λ (d : Drawing). d.polygon) c.in_ok-drawing.ensures in
    record {
      drawn = is_tight_drawing d c.points.ensures.valid c.in_ok-turn_by_word.ensures.tight ∙ ap (λ p. tight_drawing p (words d)) polygon;
      words_are = refl;
      embedded = c.points.ensures.valid;
      tight = c.in_ok-turn_by_word.ensures.tight;
      few = c.in_ok-turn_by_word.ensures.few;
    }
