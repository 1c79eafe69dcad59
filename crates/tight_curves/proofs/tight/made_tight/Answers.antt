use Rattle.std.proofs.Common.{◌≡◌, map, sym, subst}
use Rattle.std.proofs.lemmas.Result.{IfOk-weaker}
use Rattle.page_surface.specs.Words.{reduced}
use Rattle.curve_paths.specs.Curves.{twisted}
use Rattle.curve_paths.specs.Twists.{turned_by}
use Rattle.tight_curves.specs.Parts.{MadeTight}
use Rattle.tight_curves.proofs.Laws.{made_reduces, made_turns, made_twists}
use Rattle.tight_curves.proofs.tight.made_tight.Goals as goal

pub returns-clause-twists : goal.returns-clause-twists
returns-clause-twists c =
    let p = c.args.polygon.now in
    let made = subst (λ z. MadeTight p z c.in_ok-exits.exits.items) c.exits.ensures.value c.in_ok-exits.ensures.made in
    IfOk-weaker c.curve_of.result _ _
    (λ _ e g ws. subst (λ z. twisted p z g ws ≡ twisted p c.args.curve.now g ws) (sym e) (made_twists p c.sides.ensures.valid c.args.curve.now c.in_ok-exits.exits.items made g ws)) c.curve_of.ensures.exits

pub returns-clause-reduces : goal.returns-clause-reduces
returns-clause-reduces c =
    let p = c.args.polygon.now in
    let made = subst (λ z. MadeTight p z c.in_ok-exits.exits.items) c.exits.ensures.value c.in_ok-exits.ensures.made in
    IfOk-weaker c.curve_of.result _ _
    (λ _ e g ws. subst (λ z. map (reduced p) (turned_by p z g ws) ≡ turned_by p c.args.curve.now g ws) (sym e)
    (made_reduces p c.sides.ensures.valid c.args.curve.now c.in_ok-exits.exits.items made g ws c.exits.ensures.least)) c.curve_of.ensures.exits

pub returns-clause-turns : goal.returns-clause-turns
returns-clause-turns c =
    let p = c.args.polygon.now in
    let made = subst (λ z. MadeTight p z c.in_ok-exits.exits.items) c.exits.ensures.value c.in_ok-exits.ensures.made in
    IfOk-weaker c.curve_of.result _ _
    (λ _ e g ws h. subst (λ z. turned_by p z g ws ≡ turned_by p c.args.curve.now g ws) (sym e)
    (made_turns p c.sides.ensures.valid c.args.curve.now c.in_ok-exits.exits.items made g ws h)) c.curve_of.ensures.exits
