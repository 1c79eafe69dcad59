-- The domains to which the steps of a generator lead, one step after the other, and at the end.
use Rattle.std.proofs.Common.{◌≡◌, ℕ, suc, ◌<◌, inl, inr, Bool, true, false, cond, ◌&&◌, List, [], ◌∷◌, ◌++◌, None, Some, get_or, length, refl, sym, ap, ap₂, subst, take, ◌∙◌}
use Rattle.std.proofs.lemmas.Bool.{and_parts}
use Rattle.std.proofs.lemmas.List.{append-nil, map-append}
use Rattle.drawing.specs.Pieces.{piece_table}
use Rattle.drawing.specs.Points.{IsGenerator}
use Rattle.empty_domains.proofs.Laws.{finds_sorted, strips_find_all}
use Rattle.empty_domains.proofs.Loops.{leads_push}
use Rattle.empty_domains.proofs.Tested.{taken_more}
use Rattle.empty_domains.specs.Found.{AreDomains, AreFound, Found, IsAscending, domain}
use Rattle.empty_domains.specs.Leads.{IsWalk, lead}
use Rattle.empty_domains.specs.Led.{IsLed}
use Rattle.empty_domains.specs.NearTest.{IsCollected, swept}
use Rattle.empty_domains.specs.Strip.{Step, all_strips, is_fresh, step_leads}
use Rattle.empty_domains.specs.Walk.{found, lead_of, succeeds}
use Rattle.obd_base.proofs.lists.Members.{mem_append}
use Rattle.obd_base.specs.Lists.{Mem}
use Rattle.page_surface.specs.Drawing.{Drawing, IsEmbedded}
use Rattle.region_table.specs.Nice.{IsNice}

module _ (d : Drawing) (y : List ℕ) (gens : List (List ℕ)) where
  -- no step leads to no domain
  pub found_begin : AreFound d y gens [] []
  found_begin = record { told = refl; inside = (λ f m. absurd m) }

  module _ (steps : List Step) (domains : List Found) (k n : ℕ) (e : n ≡ suc k) (l : k < length steps) (s z : Step) (here : s ≡ get_or steps k z) (so_far : AreFound d y gens (take k steps) domains) where
    -- the leads of one step more
    leads_more : (b : Bool) → (is_fresh d s && succeeds d y s.by) ≡ b → step_leads d y (take n steps) ≡ step_leads d y (take k steps) ++ cond b (lead_of d y s.by ∷ []) []
    leads_more b h = ap (step_leads d y) (taken_more steps k n e l s z here) ∙ (leads_push d y (take k steps) s ∙ ap (λ c. step_leads d y (take k steps) ++ cond c (lead_of d y s.by ∷ []) []) h)

    -- a step that leads to a generator
    pub found_on : IsEmbedded d → IsNice d → IsGenerator d y → Mem s (all_strips d y) → (to : ℕ) → IsLed d y gens s (Some to)
        → (pieces sorted : List ℕ) → (is_fresh d s ≡ true → IsCollected (piece_table d) (swept d s.by) pieces) → IsAscending pieces sorted
        → AreFound d y gens (take n steps) (domains ++ domain to sorted ∷ [])
    found_on ok nice from read to led pieces sorted is up =
        let fresh = (and_parts (is_fresh d s) (succeeds d y s.by) led.2).0 in
        let set : sorted ≡ found d s.by = finds_sorted d ok nice y from s read fresh pieces sorted (is fresh) up.up up.back up.all in
        record {
          told = map-append (λ (f : Found). lead (get_or gens f.target []) f.pieces) domains (domain to sorted ∷ [])
              ∙ (ap₂ (λ us u. us ++ u ∷ []) so_far.told (ap₂ lead led.1 set) ∙ sym (leads_more true led.2));
          inside = λ f m. elim (mem_append f domains (domain to sorted ∷ []) m) [
            | inl j ↦ so_far.inside f j
            | inr j ↦ elim j [ inl q ↦ subst (λ (w : Found). w.target < length gens) (sym q) led.0 | inr w ↦ absurd w ]
          ];
        }

    -- and one that doesn't
    pub found_over : IsLed d y gens s None → AreFound d y gens (take n steps) domains
    found_over led = record { told = so_far.told ∙ sym (leads_more false led ∙ append-nil (step_leads d y (take k steps))); inside = so_far.inside }

  -- at the end they are all domains
  pub all_domains : IsEmbedded d → IsNice d → IsGenerator d y → (steps : List Step) → steps ≡ all_strips d y → (domains : List Found) → AreFound d y gens steps domains → AreDomains d y gens domains
  all_domains ok nice from steps e domains are = record {
    walk = subst (λ ls. IsWalk d y ls) (sym (are.told ∙ ap (step_leads d y) e)) (strips_find_all d ok nice y from);
    inside = are.inside;
  }
