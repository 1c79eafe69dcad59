use Rattle.std.proofs.Common.{◌≡◌, ℕ, Bool, ◌∙◌, ◌+◌, ◌<◌, ap, get_or, length, not, sym, arith}
use Rattle.std.specs.List.{list_all}
use Rattle.empty_domains.proofs.AllBelow.{all_not, all_push}
use Rattle.empty_domains.specs.Strip.{Step}
use Rattle.empty_domains.specs.Walk.{is_last}
use Rattle.obd_base.specs.Lists.{below}
use Rattle.region_table.proofs.EdgeWalk.{mem_of_place}
use Rattle.empty_domains.proofs.starts.is_fresh.Goals as goal

pub overflow_add-at : goal.overflow_add-at
overflow_add-at c =
    let l : c.loop-row.row < length c.args.rows.now = omega (arith, c.requires.count, c.loop-row-test.true, ap (λ (s : Step). s.steps) c.step.view_is) in
    let h = c.requires.inside (get_or c.args.rows.now c.loop-row.row 0) (mem_of_place c.args.rows.now c.loop-row.row 0 l) in
    omega (arith, h, c.requires.few, ap (λ (s : Step). s.by.width) c.step.view_is)

pub other-requires : goal.other-requires
other-requires c =
    let l : c.loop-row.row < length c.args.rows.now = omega (arith, c.requires.count, c.loop-row-test.true, ap (λ (s : Step). s.steps) c.step.view_is) in
    let h = c.requires.inside (get_or c.args.rows.now c.loop-row.row 0) (mem_of_place c.args.rows.now c.loop-row.row 0 l) in
    omega (arith, h, ap (λ (s : Step). s.by.width) c.step.view_is)

pub returns-then-is_last : goal.returns-then-is_last
returns-then-is_last c =
    let by = c.args.step.by in
    let at = get_or c.args.rows.now c.loop-row.row 0 in
    let far = c.other.ensures.value ∙ ap (λ (s : Step). get_or c.args.tables.now.other (at + s.by.width) 0) c.step.view_is in
    let p : ℕ → Bool = λ m. not (is_last by (get_or c.args.rows.now m 0) (get_or c.args.tables.now.other (get_or c.args.rows.now m 0 + by.width) 0)) in
    sym (all_not p c.args.step.steps c.loop-row.row (omega (arith, c.loop-row-test.true, ap (λ (s : Step). s.steps) c.step.view_is)) (ap not (sym (c.is_last.ensures ∙ ap (is_last by at) far) ∙ c.if-is_last.true)))

pub loop-row-preserved : goal.loop-row-preserved
loop-row-preserved c =
    let by = c.args.step.by in
    let at = get_or c.args.rows.now c.loop-row.row 0 in
    let far = c.other.ensures.value ∙ ap (λ (s : Step). get_or c.args.tables.now.other (at + s.by.width) 0) c.step.view_is in
    let p : ℕ → Bool = λ m. not (is_last by (get_or c.args.rows.now m 0) (get_or c.args.tables.now.other (get_or c.args.rows.now m 0 + by.width) 0)) in
    all_push p c.loop-row.row (c.loop-row.row + 1) (omega arith) c.loop-row.invariant (ap not (sym (c.is_last.ensures ∙ ap (is_last by at) far) ∙ c.if-is_last.false))

pub returns : goal.returns
returns c =
    let p : ℕ → Bool = λ m. not (is_last c.args.step.by (get_or c.args.rows.now m 0) (get_or c.args.tables.now.other (get_or c.args.rows.now m 0 + c.args.step.by.width) 0)) in
    let all : c.args.step.steps ≡ c.loop-row.row = omega (arith, c.loop-row-test.false, c.loop-row.auto, ap (λ (s : Step). s.steps) c.step.view_is) in
    sym (ap (λ n. list_all p (below n)) all ∙ c.loop-row.invariant)
