-- What is found in a value holds no more values than the value.
use Rattle.std.proofs.Common.{◌≡◌, ℕ, zero, suc, ◌+◌, ◌≤◌, ◌<◌, List, length, get_or, Option, Some, Ordering, Less, Equal, Greater, arith, subst}
use Rattle.std.specs.Ordering.{nat_cmp, match_ordering}
use Rattle.std.specs.Cmp.Lexicographic.{slice_cmp}
use Rattle.serde_json.specs.Data.{Data, null, boolean, number, string, array, object, Items, no_items, item, Members, no_members, member}
use Rattle.serde_json.specs.Find.{get, get_member}
use Rattle.obd_doc.specs.Values.{elements, listed}
use Rattle.obd_doc.specs.Sizes.{size, items_size, members_size}
use Rattle.obd_doc.proofs.Sizes.{AtMost, no_more}

-- a value is one
pub some : (d : Data) → 1 ≤ size d
some null = omega arith
some (boolean b) = omega arith
some (number n) = omega arith
some (string s) = omega arith
some (array ds) = omega arith
some (object ms) = omega arith

-- a field of an object has fewer values in it
pub get_fewer : (name : List ℕ) (d p : Data) → get name d ≡ Some p → size p < size d
get_fewer name (object ms) p is = let k : size p ≤ members_size ms = subst (λ o. AtMost size (members_size ms) o) is (among ms) in omega (arith, k)
  where
    step : (o : Ordering) (e : Data) (n : ℕ) (found : Option Data) → AtMost size n found → AtMost size (size e + n) (match_ordering o found (Some e) found)
    step Less e n found h = no_more size n (size e + n) found h (omega arith)
    step Equal e n found h = omega arith
    step Greater e n found h = no_more size n (size e + n) found h (omega arith)

    among : (ms : Members) → AtMost size (members_size ms) (get_member name ms)
    among no_members = tt
    among (member key e ms) = step (slice_cmp nat_cmp name key) e (members_size ms) (get_member name ms) (among ms)
get_fewer name null p is = absurd (let bad = is in cc)
get_fewer name (boolean b) p is = absurd (let bad = is in cc)
get_fewer name (number n) p is = absurd (let bad = is in cc)
get_fewer name (string s) p is = absurd (let bad = is in cc)
get_fewer name (array ds) p is = absurd (let bad = is in cc)

-- items are no more than the values in them
listed_fewer : (ds : Items) → length (listed ds) ≤ items_size ds
listed_fewer no_items = omega arith
listed_fewer (item d ds) = omega (arith, some d, listed_fewer ds)

pub elements_fewer : (d : Data) → length (elements d) < size d
elements_fewer (array ds) = omega (arith, listed_fewer ds)
elements_fewer null = omega arith
elements_fewer (boolean b) = omega arith
elements_fewer (number n) = omega arith
elements_fewer (string s) = omega arith
elements_fewer (object ms) = omega arith

listed_at : (ds : Items) (i : ℕ) → size (get_or (listed ds) i null) ≤ suc (items_size ds)
listed_at no_items i = omega arith
listed_at (item d ds) zero = omega arith
listed_at (item d ds) (suc i) = omega (arith, listed_at ds i)

-- an element has no more values in it than the array
pub element_fewer : (d : Data) (i : ℕ) → size (get_or (elements d) i null) ≤ size d
element_fewer (array ds) i = listed_at ds i
element_fewer null i = omega arith
element_fewer (boolean b) i = omega arith
element_fewer (number n) i = omega arith
element_fewer (string s) i = omega arith
element_fewer (object ms) i = omega arith
