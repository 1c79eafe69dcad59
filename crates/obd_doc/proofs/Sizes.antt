-- The value that is read from a text has at most one value more in it than the text has bytes.
use Rattle.std.proofs.Common.{◌≡◌, ℕ, zero, suc, ◌+◌, ◌≤◌, Bool, true, false, List, [], ◌∷◌, length, Option, Some, None, option_map, option_and_then, refl, subst, arith}
use Rattle.std.proofs.Common.{Ordering, Less, Equal, Greater}
use Rattle.std.specs.Ordering.{nat_cmp, match_ordering}
use Rattle.std.specs.Cmp.Lexicographic.{slice_cmp}
use Rattle.json.specs.Json as json
use Rattle.json.specs.Json.{Parse, parse_map, after_end_array, read_key, items_step, members_step, items, members, value_with, value, if_last}
use Rattle.json.specs.Lex.{Lexeme, token, comma, colon, Class, quote, backslash, operator, space, other, Mode, between, in_word, in_string, in_escape, class, lex_byte, lex, Place, fresh, after_value, after_comma, after_key, begins_colon, may_begin, may_close, if_allowed, place_token, punctuate, tokens}
use Rattle.json.specs.Token.{Token}
use Rattle.serde_json.specs.Data.{Num, Data, number, array, object, Items, item, Members, no_members, member, put}
use Rattle.serde_json.specs.Read.{number_of, of_json, of_items, of_members, max_depth, read}
use Rattle.obd_doc.specs.Sizes.{size, items_size, members_size}

-- a text has no fewer bytes than lexemes
lexemes : (m : Mode) (xs : List ℕ) → length (lex m xs) ≤ length xs
unfolding lex
lexemes m [] = omega arith
lexemes m (x ∷ xs) = go m (class x) (λ next. lexemes next xs)
  where
    go : (m : Mode) (c : Class) → ((next : Mode) → length (lex next xs) ≤ length xs) → length (lex_byte m c x xs (λ next. lex next xs)) ≤ suc (length xs)
    go between quote h = omega (arith, h in_string)
    go between backslash h = omega (arith, h in_word)
    go between operator h = omega (arith, h between)
    go between space h = omega (arith, h between)
    go between other h = omega (arith, h in_word)
    go in_word quote h = omega (arith, h in_word)
    go in_word backslash h = omega (arith, h in_word)
    go in_word operator h = omega (arith, h between)
    go in_word space h = omega (arith, h between)
    go in_word other h = omega (arith, h in_word)
    go in_string quote h = omega (arith, h between)
    go in_string backslash h = omega (arith, h in_escape)
    go in_string operator h = omega (arith, h in_string)
    go in_string space h = omega (arith, h in_string)
    go in_string other h = omega (arith, h in_string)
    go in_escape c h = omega (arith, h in_string)

-- and at most one token more, which tells of a fault
tokens_at : (p : Place) (ls : List Lexeme) → length (punctuate p ls) ≤ suc (length ls)
unfolding punctuate
tokens_at fresh [] = omega arith
tokens_at after_value [] = omega arith
tokens_at after_comma [] = omega arith
tokens_at after_key [] = omega arith
tokens_at p (token t ∷ ls) = placed (λ next. tokens_at next ls) p t (begins_colon ls)
  where
    allowed : ((next : Place) → length (punctuate next ls) ≤ suc (length ls)) → (b : Bool) (t : Token) (next : Place)
        → length (if_allowed b t (λ next. punctuate next ls) next) ≤ suc (suc (length ls))
    allowed h true t next = omega (arith, h next)
    allowed h false t next = omega arith

    placed : ((next : Place) → length (punctuate next ls) ≤ suc (length ls)) → (p : Place) (t : Token) (b : Bool)
        → length (place_token p t b (λ next. punctuate next ls)) ≤ suc (suc (length ls))
    placed h p Token.begin_object b = allowed h (may_begin p) Token.begin_object fresh
    placed h p Token.end_object b = allowed h (may_close p) Token.end_object after_value
    placed h p Token.begin_array b = allowed h (may_begin p) Token.begin_array fresh
    placed h p Token.end_array b = allowed h (may_close p) Token.end_array after_value
    placed h p (Token.key s) b = omega arith
    placed h p (Token.string s) true = allowed h (may_begin p) (Token.key s) after_key
    placed h p (Token.string s) false = allowed h (may_begin p) (Token.string s) after_value
    placed h p (Token.number s) b = allowed h (may_begin p) (Token.number s) after_value
    placed h p (Token.boolean v) b = allowed h (may_begin p) (Token.boolean v) after_value
    placed h p Token.null b = allowed h (may_begin p) Token.null after_value
    placed h p Token.bad b = omega arith
tokens_at fresh (comma ∷ ls) = omega arith
tokens_at after_value (comma ∷ ls) = omega (arith, tokens_at after_comma ls)
tokens_at after_comma (comma ∷ ls) = omega arith
tokens_at after_key (comma ∷ ls) = omega arith
tokens_at fresh (colon ∷ ls) = omega arith
tokens_at after_value (colon ∷ ls) = omega arith
tokens_at after_comma (colon ∷ ls) = omega arith
tokens_at after_key (colon ∷ ls) = omega (arith, tokens_at fresh ls)

-- how many values stand in a value as it was parsed
abbrev mutual
  json_size : json.Json → ℕ
  json_size json.null = 1
  json_size (json.boolean b) = 1
  json_size (json.number s) = 1
  json_size (json.string s) = 1
  json_size (json.array js) = suc (json_items_size js)
  json_size (json.object ms) = suc (json_members_size ms)

  json_items_size : json.Items → ℕ
  json_items_size json.no_items = 0
  json_items_size (json.item j js) = json_size j + json_items_size js

  json_members_size : json.Members → ℕ
  json_members_size json.no_members = 0
  json_members_size (json.member name j ms) = json_size j + json_members_size ms

-- what was parsed and what is left come to no more than so many
abbrev Within : {A : Type 0} → (A → ℕ) → ℕ → Option (A × List Token) → Type 0
Within size n None = Unit {0}
Within size n (Some p) = size p.0 + length p.1 ≤ n

-- what is parsed comes to no more than the tokens that are taken
abbrev Fits : {A : Type 0} → (A → ℕ) → Parse A → Type 0
Fits size parse = (ts : List Token) → Within size (length ts) (parse ts)

-- something parsed that is put into something else
mapped : {A B : Type 0} (a : A → ℕ) (b : B → ℕ) (f : A → B) (m n : ℕ) → ((x : A) → b (f x) + m ≤ a x + n) → (r : Option (A × List Token)) → Within a m r → Within b n (parse_map f r)
mapped a b f m n h None w = tt
mapped a b f m n h (Some p) w = omega (arith, h p.0, w)

-- something parsed after a value
after : {A B : Type 0} (a : A → ℕ) (b : B → ℕ) (more : Parse A) (f : json.Json → A → B) → Fits a more → ((j : json.Json) (x : A) → b (f j x) ≡ json_size j + a x)
    → (n : ℕ) (r : Option (json.Json × List Token)) → Within json_size n r → Within b n (option_and_then (λ p. parse_map (f p.0) (more p.1)) r)
after a b more f fits is n None w = tt
after a b more f fits is n (Some p) w = mapped a b (f p.0) (length p.1) n (λ x. omega (arith, is p.0 x, w)) (more p.1) (fits p.1)

-- tokens that are left, no more than so many
abbrev AreLeft : ℕ → Option (List Token) → Type 0
AreLeft n None = Unit {0}
AreLeft n (Some ts) = length ts ≤ n

-- the bracket at the end takes a token
ended : (ts : List Token) → AreLeft (length ts) (after_end_array ts)
ended [] = tt
ended (Token.begin_object ∷ ts) = tt
ended (Token.end_object ∷ ts) = tt
ended (Token.begin_array ∷ ts) = tt
ended (Token.end_array ∷ ts) = omega arith
ended ((Token.key s) ∷ ts) = tt
ended ((Token.string s) ∷ ts) = tt
ended ((Token.number s) ∷ ts) = tt
ended ((Token.boolean b) ∷ ts) = tt
ended (Token.null ∷ ts) = tt
ended (Token.bad ∷ ts) = tt

-- and so does a key, or the bracket in its place
key_read : (ts : List Token) → Within (λ key. 0) (length ts) (read_key ts)
key_read [] = tt
key_read (Token.begin_object ∷ ts) = tt
key_read (Token.end_object ∷ ts) = omega arith
key_read (Token.begin_array ∷ ts) = tt
key_read (Token.end_array ∷ ts) = tt
key_read ((Token.key s) ∷ ts) = omega arith
key_read ((Token.string s) ∷ ts) = tt
key_read ((Token.number s) ∷ ts) = tt
key_read ((Token.boolean b) ∷ ts) = tt
key_read (Token.null ∷ ts) = tt
key_read (Token.bad ∷ ts) = tt

-- fewer tokens come to no more
fewer : {A : Type 0} (size : A → ℕ) (m n : ℕ) (r : Option (A × List Token)) → Within size m r → m ≤ n → Within size n r
fewer size m n None w le = tt
fewer size m n (Some p) w le = omega (arith, w, le)

items_fit : (one : Parse json.Json) → Fits json_size one → (n : ℕ) → Fits json_items_size (items one n)
unfolding items
items_fit one fits zero ts = tt
items_fit one fits (suc n) ts = step (items_fit one fits n) (after_end_array ts) (ended ts)
  where
    step : Fits json_items_size (items one n) → (o : Option (List Token)) → AreLeft (length ts) o → Within json_items_size (length ts) (items_step one (items one n) ts o)
    step more (Some rest) left = omega (arith, left)
    step more None left = after json_items_size json_items_size (items one n) json.item more (λ j js. refl) (length ts) (one ts) (fits ts)

members_fit : (one : Parse json.Json) → Fits json_size one → (n : ℕ) → Fits json_members_size (members one n)
unfolding members
members_fit one fits zero ts = tt
members_fit one fits (suc n) ts = step (members_fit one fits n) (read_key ts) (key_read ts)
  where
    step : Fits json_members_size (members one n) → (r : Option (Option (List ℕ) × List Token)) → Within (λ key. 0) (length ts) r
        → Within json_members_size (length ts) (option_and_then (λ p. members_step one (members one n) p.0 p.1) r)
    step more None left = tt
    step more (Some (None, rest)) left = omega (arith, left)
    step more (Some (Some key, rest)) left = after json_members_size json_members_size (members one n) (json.member key) more (λ j ms. refl) (length ts) (one rest) (fewer json_size (length rest) (length ts) (one rest) (fits rest) (omega (arith, left)))

with_fits : (a : Parse json.Items) (o : Parse json.Members) → Fits json_items_size a → Fits json_members_size o → Fits json_size (value_with a o)
with_fits a o array_fits object_fits [] = tt
with_fits a o array_fits object_fits (Token.begin_object ∷ ts) = mapped json_members_size json_size json.object (length ts) (suc (length ts)) (λ x. omega arith) (o ts) (object_fits ts)
with_fits a o array_fits object_fits (Token.end_object ∷ ts) = tt
with_fits a o array_fits object_fits (Token.begin_array ∷ ts) = mapped json_items_size json_size json.array (length ts) (suc (length ts)) (λ x. omega arith) (a ts) (array_fits ts)
with_fits a o array_fits object_fits (Token.end_array ∷ ts) = tt
with_fits a o array_fits object_fits ((Token.key s) ∷ ts) = tt
with_fits a o array_fits object_fits ((Token.string s) ∷ ts) = omega arith
with_fits a o array_fits object_fits ((Token.number s) ∷ ts) = omega arith
with_fits a o array_fits object_fits ((Token.boolean b) ∷ ts) = omega arith
with_fits a o array_fits object_fits (Token.null ∷ ts) = omega arith
with_fits a o array_fits object_fits (Token.bad ∷ ts) = tt

-- a value that is parsed has no more values in it than tokens are taken
value_fits : (depth : ℕ) → Fits json_size (value depth)
unfolding value
value_fits zero = with_fits (λ ts. None) (λ ts. None) (λ ts. tt) (λ ts. tt)
value_fits (suc depth) = with_fits (λ ts. items (value depth) (length ts) ts) (λ ts. members (value depth) (length ts) ts)
    (λ ts. items_fit (value depth) (value_fits depth) (length ts) ts) (λ ts. members_fit (value depth) (value_fits depth) (length ts) ts)

-- a field that is put in adds no more than its value
put_adds : (name : List ℕ) (d : Data) (ms : Members) → members_size (put name d ms) ≤ size d + members_size ms
put_adds name d no_members = omega arith
put_adds name d (member key e ms) = by_order (slice_cmp nat_cmp name key) (put_adds name d ms)
  where
    by_order : (o : Ordering) → members_size (put name d ms) ≤ size d + members_size ms
        → members_size (match_ordering o (member name d (member key e ms)) (member key d ms) (member key e (put name d ms))) ≤ size d + (size e + members_size ms)
    by_order Less h = omega arith
    by_order Equal h = omega arith
    by_order Greater h = omega (arith, h)

-- something that is there comes to no more than so many
abbrev pub AtMost : {A : Type 0} → (A → ℕ) → ℕ → Option A → Type 0
AtMost size n None = Unit {0}
AtMost size n (Some x) = size x ≤ n

-- what comes to no more than some comes to no more than more
pub no_more : {A : Type 0} (size : A → ℕ) (m n : ℕ) (o : Option A) → AtMost size m o → m ≤ n → AtMost size n o
no_more size m n None w le = tt
no_more size m n (Some x) w le = omega (arith, w, le)

-- a map that adds as many on both sides
kept : {A B : Type 0} (a : A → ℕ) (b : B → ℕ) (f : A → B) (m n : ℕ) → ((x : A) → a x ≤ m → b (f x) ≤ n) → (o : Option A) → AtMost a m o → AtMost b n (option_map f o)
kept a b f m n h None w = tt
kept a b f m n h (Some x) w = h x w

-- and the value has no more in it than what was parsed
mutual
  of_json_fits : (j : json.Json) → AtMost size (json_size j) (of_json j)
  of_json_fits json.null = omega arith
  of_json_fits (json.boolean b) = omega arith
  of_json_fits (json.number s) = numbered (number_of s)
    where
      numbered : (n : Option Num) → AtMost size 1 (option_map number n)
      numbered None = tt
      numbered (Some n) = omega arith
  of_json_fits (json.string s) = omega arith
  of_json_fits (json.array js) = kept items_size size array (json_items_size js) (suc (json_items_size js)) (λ ds h. omega (arith, h)) (of_items js) (of_items_fits js)
  of_json_fits (json.object ms) =
      kept members_size size object (json_members_size ms) (suc (json_members_size ms)) (λ ds h. omega (arith, h)) (of_members ms no_members) (no_more members_size (json_members_size ms + 0) (json_members_size ms) (of_members ms no_members) (of_members_fits ms no_members) (omega arith))

  of_items_fits : (js : json.Items) → AtMost items_size (json_items_size js) (of_items js)
  of_items_fits json.no_items = omega arith
  of_items_fits (json.item j js) = put_before (of_json j) (of_json_fits j) (of_items js) (of_items_fits js)
    where
      put_before : (d : Option Data) → AtMost size (json_size j) d → (ds : Option Items) → AtMost items_size (json_items_size js) ds
          → AtMost items_size (json_size j + json_items_size js) (option_and_then (λ d. option_map (item d) ds) d)
      put_before None h ds g = tt
      put_before (Some d) h None g = tt
      put_before (Some d) h (Some ds) g = omega (arith, h, g)

  of_members_fits : (ms : json.Members) (found : Members) → AtMost members_size (json_members_size ms + members_size found) (of_members ms found)
  of_members_fits json.no_members found = omega arith
  of_members_fits (json.member name j ms) found = put_in (of_json j) (of_json_fits j) (λ d. of_members_fits ms (put name d found))
    where
      put_in : (d : Option Data) → AtMost size (json_size j) d
          → ((d : Data) → AtMost members_size (json_members_size ms + members_size (put name d found)) (of_members ms (put name d found)))
          → AtMost members_size (json_size j + json_members_size ms + members_size found) (option_and_then (λ d. of_members ms (put name d found)) d)
      put_in None h rest = tt
      put_in (Some d) h rest = no_more members_size _ _ (of_members ms (put name d found)) (rest d) (omega (arith, h, put_adds name d found))

-- the value that is read from a text has at most one value more in it than the text has bytes
pub read_fits : (text : List ℕ) (d : Data) → read text ≡ Some d → size d ≤ suc (length text)
read_fits text d is = go (value max_depth (tokens text)) (value_fits max_depth (tokens text)) is
  where
    go : (r : Option (json.Json × List Token)) → Within json_size (length (tokens text)) r → option_and_then of_json (option_and_then (λ p. if_last p.0 p.1) r) ≡ Some d
        → size d ≤ suc (length text)
    go None w is = absurd (let bad = is in cc)
    go (Some (j, [])) w is =
        let fits : size d ≤ json_size j = subst (λ o. AtMost size (json_size j) o) is (of_json_fits j) in
        omega (arith, w, fits, tokens_at fresh (lex between text), lexemes between text)
    go (Some (j, t ∷ ts)) w is = absurd (let bad = is in cc)
