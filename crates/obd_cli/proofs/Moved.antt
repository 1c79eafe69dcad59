-- The strategy's fingers lead from a first drawing to a last one, which is nice.
use Rattle.std.proofs.Common.{◌≡◌, refl, sym, ◌∙◌, ap, subst}
use Rattle.page_surface.specs.Drawing.{Drawing, IsEmbedded}
use Rattle.drawing.specs.Fingers.{replayed}
use Rattle.region_table.proofs.Tests.{nice_from_test}
use Rattle.nice_plan.specs.Strategy.{strategy}
use Rattle.nice_plan.proofs.Laws.{strategy_ends}
use Rattle.witness_check.specs.Belonging.{LeadTo}
use Rattle.obd_cli.specs.Steps.{IsMoved, last_of}
use Rattle.obd_cli.specs.declared.moves.Moved.{Moved}

-- the strategy's lead to its drawing
strategy_leads : (d : Drawing) → IsEmbedded d → LeadTo d (strategy d) (last_of d)
strategy_leads d ok =
    let ended = strategy_ends d ok in
    record {
      legal = ended.legal;
      replayed_so = refl;
      embedded = ended.embedded;
      nice = nice_from_test (last_of d) ended.ends_nice;
    }

-- and with them the strands are those of the first drawing
pub is_moved : (d seen : Drawing) (m : Moved) → seen ≡ d → IsEmbedded seen → m.strands ≡ seen.strands → m.fingers ≡ strategy d → m.last ≡ last_of d → IsMoved d m
is_moved d seen m same ok strands fingers last = record {
  strands = strands ∙ ap (λ (e : Drawing). e.strands) same;
  planned = fingers;
  leads = subst (λ fs. LeadTo d fs m.last) (sym fingers) (subst (λ (e : Drawing). LeadTo d (strategy d) e) (sym last) (strategy_leads d (subst IsEmbedded same ok)));
}

-- the last drawing is the strategy's
pub last_is : (d : Drawing) (m : Moved) → IsMoved d m → m.last ≡ last_of d
last_is d m moved = moved.leads.replayed_so ∙ ap (replayed d) moved.planned
