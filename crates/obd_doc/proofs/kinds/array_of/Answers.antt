use Rattle.std.proofs.Common.{◌≡◌, ◌∙◌, ap, Some, sym}
use Rattle.serde_json.specs.Find.{as_array}
use Rattle.serde_json.specs.View.{items_view, view}
use Rattle.obd_doc.proofs.SoFar.{array_has, array_has_not, elements_view}
use Rattle.obd_doc.proofs.kinds.array_of.Goals as goal

pub returns-then-values-count-clause-found : goal.returns-then-values-count-clause-found
returns-then-values-count-clause-found c =
    let is : Some (items_view c.as_slice-values.result.now) ≡ as_array (view c.args.value.now) = ap (λ vs. Some (items_view vs)) c.as_slice-values.ensures.value ∙ c.in_ok-as_array.ensures in
    sym (array_has (view c.args.value.now) c.as_slice-values.result.now is c.args.count c.if-values-count.true)

pub returns-then-values-count-clause-elements : goal.returns-then-values-count-clause-elements
returns-then-values-count-clause-elements c =
    let is : Some (items_view c.as_slice-values.result.now) ≡ as_array (view c.args.value.now) = ap (λ vs. Some (items_view vs)) c.as_slice-values.ensures.value ∙ c.in_ok-as_array.ensures in
    sym (elements_view (view c.args.value.now) c.as_slice-values.result.now is).0

pub returns-else-values-count-clause-found : goal.returns-else-values-count-clause-found
returns-else-values-count-clause-found c =
    let is : Some (items_view c.as_slice-values.result.now) ≡ as_array (view c.args.value.now) = ap (λ vs. Some (items_view vs)) c.as_slice-values.ensures.value ∙ c.in_ok-as_array.ensures in
    sym (array_has_not (view c.args.value.now) c.as_slice-values.result.now is c.args.count c.if-values-count.false)
