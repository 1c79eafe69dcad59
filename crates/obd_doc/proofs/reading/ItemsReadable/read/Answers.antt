use Rattle.std.proofs.Common.{◌∙◌, ap, subst, Err, Some}
use Rattle.serde_json.specs.View.{items_view, view}
use Rattle.obd_doc.specs.Reading.{Reads}
use Rattle.obd_doc.specs.declared.reading.Unread.{Unread}
use Rattle.obd_doc.proofs.SoFar.{array_form_fails, array_number_wrong, array_read, form_fails}
use Rattle.obd_doc.proofs.reading.ItemsReadable.read.Goals as goal

pub returns-in-Err-Form : goal.returns-in-Err-Form
returns-in-Err-Form g c =
    array_form_fails g.T.Readable.kind (view c.args.value.now) c.as_slice-value-items.result.now (ap (λ vs. Some (items_view vs)) c.as_slice-value-items.ensures.value ∙ c.in-Some.ensures)
    (form_fails g.T.Readable.kind c.as_slice-value-items.result.now c.loop-value.value-index c.value-item.result c.loop-value-test.true c.value-item.is
    (subst (λ (r : Unread). Reads g.T.Readable.kind (view c.value-item.result) (Err r)) c.in-Err-Form.field-0-is c.in-Err-Form.ensures))

pub returns-then-is_whole : goal.returns-then-is_whole
returns-then-is_whole g c =
    array_read g.T.Readable.kind (view c.args.value.now) c.as_slice-value-items.result.now (ap (λ vs. Some (items_view vs)) c.as_slice-value-items.ensures.value ∙ c.in-Some.ensures) c.loop-value.items c.loop-value.is_whole c.loop-value.value-index c.loop-value-test.false c.loop-value.invariant c.if-is_whole.true

pub returns-else-is_whole : goal.returns-else-is_whole
returns-else-is_whole g c =
    array_number_wrong g.T.Readable.kind (view c.args.value.now) c.as_slice-value-items.result.now (ap (λ vs. Some (items_view vs)) c.as_slice-value-items.ensures.value ∙ c.in-Some.ensures) c.loop-value.items c.loop-value.is_whole c.loop-value.value-index c.loop-value-test.false c.loop-value.invariant c.if-is_whole.false
