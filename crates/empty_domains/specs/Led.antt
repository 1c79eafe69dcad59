-- What is known of a step that was tested.
use Rattle.std.specs.Prelude.{◌≡◌, ℕ, ◌<◌, true, false, ◌&&◌, Option, Some, None, List, [], length, slice_index_or}
use Rattle.page_surface.specs.Drawing.{Drawing}
use Rattle.empty_domains.specs.Strip.{Step, is_fresh}
use Rattle.empty_domains.specs.Walk.{succeeds, target}

-- the number of the generator to which a step leads by a domain, and none where it is no fresh step or doesn't lead to one
abbrev pub IsLed : Drawing → List ℕ → List (List ℕ) → Step → Option ℕ → Type 0
IsLed d y generators s (Some n) = (n < length generators) × (slice_index_or generators n [] ≡ target d y s.by) × ((is_fresh d s && succeeds d y s.by) ≡ true)
IsLed d y generators s None = (is_fresh d s && succeeds d y s.by) ≡ false
