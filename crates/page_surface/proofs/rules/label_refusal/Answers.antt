use Rattle.std.proofs.Common.{◌∙◌, ap, not, nat_eq}
use Rattle.std.specs.List.{position}
use Rattle.page_surface.proofs.WrongLabels.{labels_pass, wrong_label}
use Rattle.page_surface.proofs.rules.label_refusal.Goals as goal

pub returns-in_default : goal.returns-in_default
returns-in_default c =
    labels_pass c.args.labelled.now c.in_ok-counts.counts.items _ c.label_count-label_count.ensures c.if-label_count-gt-MOST_LABELS.false c.in_ok-counts.ensures
    (c.in_default.ensures ∙ ap (position (λ count. not (nat_eq count 2))) c.deref.ensures.value)

pub returns : goal.returns
returns c =
    rw c.in_ok-from_str.ensures
    (wrong_label c.args.labelled.now c.in_ok-counts.counts.items _ c.label_count-label_count.ensures c.if-label_count-gt-MOST_LABELS.false c.in_ok-counts.ensures
    c.in-Some.label c.new.result c.index.result.now c.name-name.result.now (c.in-Some.ensures ∙ ap (position (λ count. not (nat_eq count 2))) c.deref.ensures.value)
    c.new.ensures c.name-name.ensures c.index.ensures)
