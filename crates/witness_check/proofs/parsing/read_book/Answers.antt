use Rattle.std.specs.Prelude.{codes}
use Rattle.witness_check.specs.Lines.{counted, curve_line, number_line, polygon_line, twist_line}
use Rattle.witness_check.specs.Parsing.{joined_fields}
use Rattle.witness_check.specs.Stages.{curves_on, polygons_on, seams_on, slides_on, twists_on}
use Rattle.witness_check.proofs.Reading.{both_whole, first_breaks, handed_on, second_breaks}
use Rattle.witness_check.proofs.parsing.read_book.Goals as goal

pub returns-in_err-polygons-clause-breaks : goal.returns-in_err-polygons-clause-breaks
returns-in_err-polygons-clause-breaks c =
    handed_on (counted (codes "polygons") polygon_line) polygons_on c.args.lines.now c.args.lines.now (λ line b. first_breaks (counted (codes "polygons") polygon_line) (λ polygons. curves_on) c.args.lines.now line b)
    c.in_err-polygons.field-0.0 c.from_residual.result c.from_residual.ensures.1 c.in_err-polygons.ensures.breaks

pub returns-in_err-curves-clause-breaks : goal.returns-in_err-curves-clause-breaks
returns-in_err-curves-clause-breaks c =
    handed_on (counted (codes "curves") curve_line) polygons_on c.next_list.new.lines c.args.lines.now (λ line b. second_breaks (counted (codes "polygons") polygon_line) (λ polygons. curves_on) c.args.lines.now c.next_list.new.lines c.in_ok-polygons.polygons line c.in_ok-polygons.ensures.read (first_breaks (counted (codes "curves") curve_line) (λ curves. slides_on) c.next_list.new.lines line b))
    c.in_err-curves.field-0.0 c.from_residual-in_err-curves.result c.from_residual-in_err-curves.ensures.1 c.in_err-curves.ensures.breaks

pub returns-in_err-slides-clause-breaks : goal.returns-in_err-slides-clause-breaks
returns-in_err-slides-clause-breaks c =
    handed_on (counted (codes "slides") (number_line (codes "slide"))) polygons_on c.next_list-2.new.lines c.args.lines.now (λ line b. second_breaks (counted (codes "polygons") polygon_line) (λ polygons. curves_on) c.args.lines.now c.next_list.new.lines c.in_ok-polygons.polygons line c.in_ok-polygons.ensures.read (second_breaks (counted (codes "curves") curve_line) (λ curves. slides_on) c.next_list.new.lines c.next_list-2.new.lines c.in_ok-curves.curves line c.in_ok-curves.ensures.read (first_breaks (counted (codes "slides") (number_line (codes "slide"))) (λ slides. twists_on) c.next_list-2.new.lines line b)))
    c.in_err-slides.field-0.0 c.from_residual-in_err-slides.result c.from_residual-in_err-slides.ensures.1 c.in_err-slides.ensures.breaks

pub returns-in_err-twists-clause-breaks : goal.returns-in_err-twists-clause-breaks
returns-in_err-twists-clause-breaks c =
    handed_on (counted (codes "twists") twist_line) polygons_on c.next_list-3.new.lines c.args.lines.now (λ line b. second_breaks (counted (codes "polygons") polygon_line) (λ polygons. curves_on) c.args.lines.now c.next_list.new.lines c.in_ok-polygons.polygons line c.in_ok-polygons.ensures.read (second_breaks (counted (codes "curves") curve_line) (λ curves. slides_on) c.next_list.new.lines c.next_list-2.new.lines c.in_ok-curves.curves line c.in_ok-curves.ensures.read (second_breaks (counted (codes "slides") (number_line (codes "slide"))) (λ slides. twists_on) c.next_list-2.new.lines c.next_list-3.new.lines c.in_ok-slides.slides line c.in_ok-slides.ensures.read (first_breaks (counted (codes "twists") twist_line) (λ twists. seams_on) c.next_list-3.new.lines line b))))
    c.in_err-twists.field-0.0 c.from_residual-in_err-twists.result c.from_residual-in_err-twists.ensures.1 c.in_err-twists.ensures.breaks

pub returns-in_err-joined-clause-breaks : goal.returns-in_err-joined-clause-breaks
returns-in_err-joined-clause-breaks c =
    handed_on seams_on polygons_on c.next_list-4.new.lines c.args.lines.now (λ line b. second_breaks (counted (codes "polygons") polygon_line) (λ polygons. curves_on) c.args.lines.now c.next_list.new.lines c.in_ok-polygons.polygons line c.in_ok-polygons.ensures.read (second_breaks (counted (codes "curves") curve_line) (λ curves. slides_on) c.next_list.new.lines c.next_list-2.new.lines c.in_ok-curves.curves line c.in_ok-curves.ensures.read (second_breaks (counted (codes "slides") (number_line (codes "slide"))) (λ slides. twists_on) c.next_list-2.new.lines c.next_list-3.new.lines c.in_ok-slides.slides line c.in_ok-slides.ensures.read (second_breaks (counted (codes "twists") twist_line) (λ twists. seams_on) c.next_list-3.new.lines c.next_list-4.new.lines c.in_ok-twists.twists line c.in_ok-twists.ensures.read (b)))))
    c.in_err-joined.field-0.0 c.from_residual-in_err-joined.result c.from_residual-in_err-joined.ensures.1 c.in_err-joined.ensures.breaks

pub returns-clause-read : goal.returns-clause-read
returns-clause-read c =
    both_whole (counted (codes "polygons") polygon_line) (λ polygons. curves_on) c.args.lines.now c.next_list.new.lines c.read_joined.new.lines c.in_ok-polygons.polygons (c.in_ok-curves.curves, (c.in_ok-slides.slides, (c.in_ok-twists.twists, (joined_fields c.in_ok-joined.joined)))) c.in_ok-polygons.ensures.read (both_whole (counted (codes "curves") curve_line) (λ curves. slides_on) c.next_list.new.lines c.next_list-2.new.lines c.read_joined.new.lines c.in_ok-curves.curves (c.in_ok-slides.slides, (c.in_ok-twists.twists, (joined_fields c.in_ok-joined.joined))) c.in_ok-curves.ensures.read (both_whole (counted (codes "slides") (number_line (codes "slide"))) (λ slides. twists_on) c.next_list-2.new.lines c.next_list-3.new.lines c.read_joined.new.lines c.in_ok-slides.slides (c.in_ok-twists.twists, (joined_fields c.in_ok-joined.joined)) c.in_ok-slides.ensures.read (both_whole (counted (codes "twists") twist_line) (λ twists. seams_on) c.next_list-3.new.lines c.next_list-4.new.lines c.read_joined.new.lines c.in_ok-twists.twists (joined_fields c.in_ok-joined.joined) c.in_ok-twists.ensures.read (c.in_ok-joined.ensures.read))))
