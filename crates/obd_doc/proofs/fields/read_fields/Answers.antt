use Rattle.std.proofs.Common.{codes}
use Rattle.serde_json.specs.Find.{get}
use Rattle.serde_json.specs.View.{view}
use Rattle.obd_doc.specs.Document.{curves, field_rules, fields_of, optional, polygons, shape_rules, slides, twists, version, wanted}
use Rattle.obd_doc.specs.Kinds.{limits}
use Rattle.obd_doc.specs.declared.refusal.FieldName.TheVariants as field
use Rattle.obd_doc.proofs.Said.{said_occurrences}
use Rattle.obd_doc.proofs.Rules.{given_on, fifth, fourth, seventh, sixth, third}
use Rattle.obd_doc.proofs.fields.read_fields.Goals as goal

pub returns-in_err-wanted-clause-settled : goal.returns-in_err-wanted-clause-settled
returns-in_err-wanted-clause-settled c =
    let d = view c.args.document.now in
    given_on (field_rules d) (fields_of d) _ _ c.from_residual-in_err-wanted.ensures.1 (λ other. third
    (shape_rules d) (wanted version field.OpenBook (get (codes "open_book") d)) (wanted polygons field.Polygons (get (codes "polygons") d))
    (wanted curves field.Curves (get (codes "curves") d)) (wanted twists field.Twists (get (codes "twists") d)) (optional slides field.Slides (get (codes "slides") d))
    (optional limits field.Limits (get (codes "limits") d))
    _ c.in_ok-check_shape.ensures.0 c.in_ok-check_version.ensures.0 (c.in_err-wanted.ensures other))

pub returns-in_err-wanted-2-clause-settled : goal.returns-in_err-wanted-2-clause-settled
returns-in_err-wanted-2-clause-settled c =
    let d = view c.args.document.now in
    given_on (field_rules d) (fields_of d) _ _ c.from_residual-in_err-wanted-2.ensures.1 (λ other. fourth
    (shape_rules d) (wanted version field.OpenBook (get (codes "open_book") d)) (wanted polygons field.Polygons (get (codes "polygons") d))
    (wanted curves field.Curves (get (codes "curves") d)) (wanted twists field.Twists (get (codes "twists") d)) (optional slides field.Slides (get (codes "slides") d))
    (optional limits field.Limits (get (codes "limits") d))
    _ c.in_ok-check_shape.ensures.0 c.in_ok-check_version.ensures.0 c.in_ok-wanted.ensures.0 (c.in_err-wanted-2.ensures other))

pub returns-in_err-wanted-3-clause-settled : goal.returns-in_err-wanted-3-clause-settled
returns-in_err-wanted-3-clause-settled c =
    let d = view c.args.document.now in
    given_on (field_rules d) (fields_of d) _ _ c.from_residual-in_err-wanted-3.ensures.1 (λ other. fifth
    (shape_rules d) (wanted version field.OpenBook (get (codes "open_book") d)) (wanted polygons field.Polygons (get (codes "polygons") d))
    (wanted curves field.Curves (get (codes "curves") d)) (wanted twists field.Twists (get (codes "twists") d)) (optional slides field.Slides (get (codes "slides") d))
    (optional limits field.Limits (get (codes "limits") d))
    _ c.in_ok-check_shape.ensures.0 c.in_ok-check_version.ensures.0 c.in_ok-wanted.ensures.0 c.in_ok-wanted-2.ensures.0 (c.in_err-wanted-3.ensures other))

pub returns-in_err-optional-clause-settled : goal.returns-in_err-optional-clause-settled
returns-in_err-optional-clause-settled c =
    let d = view c.args.document.now in
    given_on (field_rules d) (fields_of d) _ _ c.from_residual-in_err-optional.ensures.1 (λ other. sixth
    (shape_rules d) (wanted version field.OpenBook (get (codes "open_book") d)) (wanted polygons field.Polygons (get (codes "polygons") d))
    (wanted curves field.Curves (get (codes "curves") d)) (wanted twists field.Twists (get (codes "twists") d)) (optional slides field.Slides (get (codes "slides") d))
    (optional limits field.Limits (get (codes "limits") d))
    _ c.in_ok-check_shape.ensures.0 c.in_ok-check_version.ensures.0 c.in_ok-wanted.ensures.0 c.in_ok-wanted-2.ensures.0 c.in_ok-wanted-3.ensures.0 (c.in_err-optional.ensures other))

pub returns-in_err-optional-2-clause-settled : goal.returns-in_err-optional-2-clause-settled
returns-in_err-optional-2-clause-settled c =
    let d = view c.args.document.now in
    given_on (field_rules d) (fields_of d) _ _ c.from_residual-in_err-optional-2.ensures.1 (λ other. seventh
    (shape_rules d) (wanted version field.OpenBook (get (codes "open_book") d)) (wanted polygons field.Polygons (get (codes "polygons") d))
    (wanted curves field.Curves (get (codes "curves") d)) (wanted twists field.Twists (get (codes "twists") d)) (optional slides field.Slides (get (codes "slides") d))
    (optional limits field.Limits (get (codes "limits") d))
    _ c.in_ok-check_shape.ensures.0 c.in_ok-check_version.ensures.0 c.in_ok-wanted.ensures.0 c.in_ok-wanted-2.ensures.0 c.in_ok-wanted-3.ensures.0 c.in_ok-optional.ensures.0 (c.in_err-optional-2.ensures other))

pub returns-clause-occurrences : goal.returns-clause-occurrences
returns-clause-occurrences c = said_occurrences (get (codes "curves") (view c.args.document.now)) c.in_ok-wanted-2.field-0 c.in_ok-wanted-2.ensures.0 c.in_ok-wanted-2.ensures.1
