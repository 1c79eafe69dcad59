use Rattle.std.proofs.Common.{length, refl, sym, ap, ◌∙◌, arith}
use Rattle.std.proofs.lemmas.Bool.{eqb-false, eqb-true}
use Rattle.page_surface.specs.Joining.{joined}
use Rattle.arc_basis.specs.Basis.{joined_polygon}
use Rattle.curve_paths.specs.PathTables.{PagePath}
use Rattle.curve_paths.specs.Through.{exits_through}
use Rattle.curve_paths.proofs.PathThrough.{are_on, few_exits, none_long, none_seen, some_exit, through_is, through_is_curve}
use Rattle.curve_paths.proofs.path.PageCurve.through.Goals as goal

pub joined_exits-requires : goal.joined_exits-requires
joined_exits-requires c =
    are_on _ _ _ _ c.self.invariant c.args.basis.now (c.requires ∙ sym (ap (λ (v : PagePath). joined v.page) c.self.view_is)) _ _
    c.deref.ensures.value c.deref-2.ensures.value

pub of-requires-clause-few : goal.of-requires-clause-few
of-requires-clause-few c =
    few_exits _ _ _ _ c.self.invariant c.args.basis.now (c.requires ∙ sym (ap (λ (v : PagePath). joined v.page) c.self.view_is)) _ _
    c.deref.ensures.value c.in_ok-exits.ensures

pub of-requires-clause-curve : goal.of-requires-clause-curve
of-requires-clause-curve c =
    through_is_curve _ _ _ _ c.self.invariant c.args.basis.now (c.requires ∙ sym (ap (λ (v : PagePath). joined v.page) c.self.view_is)) _ _
    c.deref.ensures.value c.in_ok-exits.ensures _ c.polygon-polygon.ensures.value

pub returns-then-is_empty-clause-seams : goal.returns-then-is_empty-clause-seams
returns-then-is_empty-clause-seams c =
    let none = none_long c.in_ok-exits.exits.items (omega (arith, c.in_ok-exits.exits.ok.0, eqb-true _ 0 (sym c.is_empty.ensures ∙ c.if-is_empty.true))) in (
      λ _. (none_seen _ _ _ _ c.self.invariant c.args.basis.now (c.requires ∙ sym (ap (λ (v : PagePath). joined v.page) c.self.view_is)) _ _
          c.deref.ensures.value c.in_ok-exits.ensures _ c.self.view_is).0 none,
      λ _. refl,
    )

pub returns-then-is_empty-clause-one : goal.returns-then-is_empty-clause-one
returns-then-is_empty-clause-one c = λ one.
    let none = none_long c.in_ok-exits.exits.items (omega (arith, c.in_ok-exits.exits.ok.0, eqb-true _ 0 (sym c.is_empty.ensures ∙ c.if-is_empty.true))) in
    absurd (some_exit _ _ _ _ c.self.invariant c.args.basis.now (c.requires ∙ sym (ap (λ (v : PagePath). joined v.page) c.self.view_is)) _ _
    c.deref.ensures.value c.in_ok-exits.ensures (ap (λ (v : PagePath). length v.page) c.self.view_is ∙ one) none)

pub returns-clause-seams : goal.returns-clause-seams
returns-clause-seams c =
    let seen = none_seen _ _ _ _ c.self.invariant c.args.basis.now (c.requires ∙ sym (ap (λ (v : PagePath). joined v.page) c.self.view_is)) _ _
    c.deref.ensures.value c.in_ok-exits.ensures _ c.self.view_is in
    (λ e. absurd (let bad = e in cc), λ h. absurd (omega (arith, ap length (seen.1 h), c.in_ok-exits.exits.ok.0, eqb-false _ 0 (sym c.is_empty.ensures ∙ c.if-is_empty.false))))

pub returns-clause-none : goal.returns-clause-none
returns-clause-none c =
    let is = through_is _ _ _ _ c.self.invariant c.args.basis.now (c.requires ∙ sym (ap (λ (v : PagePath). joined v.page) c.self.view_is)) _ _
    c.deref.ensures.value c.in_ok-exits.ensures ∙ ap (λ (v : PagePath). exits_through v.page v.path) c.self.view_is in
    (λ e. absurd (let bad = e in cc), λ e. absurd (omega (arith, ap length (is ∙ e), c.in_ok-exits.exits.ok.0, eqb-false _ 0 (sym c.is_empty.ensures ∙ c.if-is_empty.false))))

pub returns-clause-curve : goal.returns-clause-curve
returns-clause-curve c =
    rw c.in_ok-of.ensures (through_is_curve _ _ _ _ c.self.invariant c.args.basis.now (c.requires ∙ sym (ap (λ (v : PagePath). joined v.page) c.self.view_is)) _ _
    c.deref.ensures.value c.in_ok-exits.ensures (joined_polygon c.args.basis.now) refl)
