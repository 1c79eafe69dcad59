use Rattle.std.proofs.Common.{◌≡◌, ◌∙◌, ap, map, position, string_bytes, sym, refl, [], ◌∷◌, None, Some, option_map}
use Rattle.std.specs.Str.{bytes_eq}
use Rattle.obd_base.specs.Options.{first_of}
use Rattle.obd_doc.specs.declared.refusal.DocRefusal.TheVariants.{UnknownCurve}
use Rattle.page_surface.proofs.Keys.{position-of_text}
use Rattle.obd_doc.proofs.TwistsSoFar.{all_known, twist_known, twist_unknown}
use Rattle.obd_doc.proofs.document.twists.Goals as goal

pub returns-in_default : goal.returns-in_default
returns-in_default c = λ _.
    let names = map string_bytes c.args.names.now.keys in
    let entry = c.index-entries-number.result in
    let none : position (bytes_eq entry.name) names ≡ None
    = ap (λ text. position (bytes_eq text) names) (sym c.as_str.ensures) ∙ (sym (position-of_text c.as_str.result.now c.args.names.now.keys names refl) ∙ (sym c.get_index_of.ensures.index ∙ c.in_default.is)) in
    ap (λ at. first_of (option_map UnknownCurve at ∷ []))
    (twist_unknown names c.args.entries.now c.loop-number.number entry c.loop-number-test.true c.index-entries-number.is c.loop-number.twists c.loop-number.invariant none)

pub loop-number-preserved : goal.loop-number-preserved
loop-number-preserved c =
    let names = map string_bytes c.args.names.now.keys in
    let entry = c.index-entries-number.result in
    let found : position (bytes_eq entry.name) names ≡ Some c.in-Some.curve
    = ap (λ text. position (bytes_eq text) names) (sym c.as_str.ensures) ∙ (sym (position-of_text c.as_str.result.now c.args.names.now.keys names refl) ∙ (sym c.get_index_of.ensures.index ∙ c.in-Some.is)) in
    twist_known names c.args.entries.now c.loop-number.number entry c.loop-number-test.true c.index-entries-number.is c.loop-number.twists c.loop-number.invariant c.in-Some.curve _ _ found c.twist.ensures c.in_ok-push.ensures.ok

pub returns : goal.returns
returns c =
    let all = all_known (map string_bytes c.args.names.now.keys) c.args.entries.now c.loop-number.number c.loop-number.twists c.loop-number-test.false c.loop-number.invariant in
    (ap (λ at. first_of (option_map UnknownCurve at ∷ [])) all.0, all.1)
