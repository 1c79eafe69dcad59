-- What the test of a step tells, and the numbers of the targets of some steps, one step after the other.
use Rattle.std.proofs.Common.{◌≡◌, ℕ, ◌<◌, inl, inr, Bool, true, false, cond, ◌&&◌, Some, None, List, [], ◌∷◌, ◌++◌, get_or, length, map, refl, sym, ap, ap₂, subst, ◌∙◌}
use Rattle.std.proofs.lemmas.Bool.{cases_Bool}
use Rattle.std.proofs.lemmas.List.{append-nil, map-append}
use Rattle.drawing.specs.Pieces.{piece_table}
use Rattle.drawing.specs.Points.{IsGenerator, is_generator}
use Rattle.empty_domains.proofs.Generators.{choice_generator, generator_choice}
use Rattle.empty_domains.proofs.Laws.{succeeds_near}
use Rattle.empty_domains.proofs.Loops.{leads_push}
use Rattle.empty_domains.proofs.StripSteps.{read_is_try}
use Rattle.empty_domains.proofs.WalkTheorem.{target_choice}
use Rattle.empty_domains.specs.Leads.{Lead}
use Rattle.empty_domains.specs.Led.{IsLed}
use Rattle.empty_domains.specs.NearTest.{IsCollected, is_near, swept}
use Rattle.empty_domains.specs.Strip.{Step, all_strips, is_fresh, step_leads}
use Rattle.empty_domains.specs.Targets.{AreLed}
use Rattle.empty_domains.specs.Walk.{lead_of, succeeds, target}
use Rattle.obd_base.proofs.lists.Members.{mem_append}
use Rattle.obd_base.specs.Lists.{Mem}
use Rattle.page_surface.specs.Drawing.{Drawing, IsEmbedded}
use Rattle.region_table.specs.Nice.{IsNice}

module _ (d : Drawing) (ok : IsEmbedded d) (nice : IsNice d) (y : List ℕ) (from : IsGenerator d y) (gens : List (List ℕ)) (s : Step) (read : Mem s (all_strips d y)) where
  -- a step that isn't fresh leads nowhere
  pub led_stale : is_fresh d s ≡ false → IsLed d y gens s None
  led_stale f = rw f refl

  module _ (fresh : is_fresh d s ≡ true) (found : List ℕ) (is : IsCollected (piece_table d) (swept d s.by) found) where
    -- a fresh step leads somewhere where the test near its set passes
    pub led_near : (b : Bool) → is_near d found y (target d y s.by) s.by ≡ b → (is_fresh d s && succeeds d y s.by) ≡ b
    led_near b e = both fresh (succeeds_near d ok nice y from s read fresh found is ∙ e)
      where
        both : {u v : Bool} → u ≡ true → v ≡ b → (u && v) ≡ b
        both h k = rw (h, k) refl

    -- nowhere where its target is no generator
    pub led_apart : (x : List ℕ) → x ≡ target d y s.by → (IsGenerator d x → ⊥) → IsLed d y gens s None
    led_apart x e away = led_near false (first_fails (is_generator d (target d y s.by)) _ not_one)
      where
        first_fails : (a b : Bool) → a ≡ false → (a && b) ≡ false
        first_fails a b h = rw h refl

        not_one : is_generator d (target d y s.by) ≡ false
        not_one = elim (cases_Bool (is_generator d (target d y s.by))) [
          | inr h ↦ h
          | inl h ↦ absurd (away (subst (λ z. IsGenerator d z) (sym e)
              (choice_generator d (target d y s.by) (target_choice d ok y (generator_choice d y from).0 s.by (read_is_try d ok y (generator_choice d y from).0 s read)) h)))
        ]

-- one lead more
module _ (d : Drawing) (y : List ℕ) (gens : List (List ℕ)) (steps : List Step) (numbers : List ℕ) (so_far : AreLed d y gens steps numbers) (s : Step) where
  pub led_more : (n : ℕ) → IsLed d y gens s (Some n) → AreLed d y gens (steps ++ s ∷ []) (numbers ++ n ∷ [])
  led_more n led = record {
    told = map-append (λ n. get_or gens n []) numbers (n ∷ []) ∙ (ap₂ (λ us u. us ++ u ∷ []) so_far.told led.1
        ∙ sym (ap (map (λ l. l.to)) (leads_push d y steps s) ∙ (map-append (λ (l : Lead). l.to) (step_leads d y steps) _ ∙ ap (λ zs. map (λ l. l.to) (step_leads d y steps) ++ zs) (last _ led.2))));
    inside = λ z m. elim (mem_append z numbers (n ∷ []) m) [
      | inl k ↦ so_far.inside z k
      | inr k ↦ elim k [ inl e ↦ subst (λ w. w < length gens) (sym e) led.0 | inr w ↦ absurd w ]
    ];
  }
    where
      last : (b : Bool) → b ≡ true → map (λ l. l.to) (cond b (lead_of d y s.by ∷ []) []) ≡ target d y s.by ∷ []
      last b h = rw h refl

  -- and none more
  pub led_same : IsLed d y gens s None → AreLed d y gens (steps ++ s ∷ []) numbers
  led_same led = record {
    told = so_far.told ∙ sym (ap (map (λ l. l.to)) (leads_push d y steps s) ∙ (ap (λ zs. map (λ l. l.to) (step_leads d y steps ++ zs)) (last _ led) ∙ ap (map (λ l. l.to)) (append-nil (step_leads d y steps))));
    inside = so_far.inside;
  }
    where
      last : (b : Bool) → b ≡ false → cond b (lead_of d y s.by ∷ []) [] ≡ []
      last b h = rw h refl
