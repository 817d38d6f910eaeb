-- The turns of reading, seen as data: what one item or member adds to those before it.
use Rattle.std.proofs.Common.{◌≡◌, ℕ, zero, suc, ◌-◌, ◌<◌, ◌≤◌, List, [], ◌∷◌, ◌++◌, length, Result, Ok, Err, IfOk, Option, Some, None, option_map, option_and_then, refl, ap, ◌∙◌}
use Rattle.json.specs.Token.{Token}
use Rattle.json.specs.Json as json
use Rattle.json.specs.Json.{Parse, parse_map, after_end_array, read_key, items_step, items, members}
use Rattle.json.proofs.Grammar.{items_end, items_more, members_end, members_no_key, members_more}
use Rattle.serde_json.specs.Data.{Data, array, object, Items, no_items, item, Members, no_members, put}
use Rattle.serde_json.specs.Read.{of_json, of_items, of_members, converted}
use Rattle.bt_json.specs.View.{view, items_view}
use Rattle.bt_json.specs.declared.value.Value.{Value}

-- ---- what a conversion keeps

abbrev some_or : {A : Type 0} → A → Option A → A
some_or a None = a
some_or a (Some b) = b

split_pair : {B : Type 0} (r s : List Token) (x : Option B) (b : B) → option_map {U = B × List Token} (λ y. (y, r)) x ≡ Some (b, s) → (r ≡ s) × (x ≡ Some b)
split_pair r s None b e = absurd (cc)
split_pair r s (Some y) b e = let same = ap (some_or (y, r)) e in (ap (λ p. p.1) same, ap (λ p. Some p.0) same)

was_parsed : {A B : Type 0} (f : A → Option B) (o : Option (A × List Token)) (b : B) (r : List Token) → converted f o ≡ Some (b, r) → (a : A) × (o ≡ Some (a, r)) × (f a ≡ Some b)
was_parsed f None b r e = absurd (cc)
was_parsed f (Some p) b r e = let both = split_pair p.1 r (f p.0) b e in (p.0, ap (λ s. Some (p.0, s)) both.0, both.1)

no_value : {B : Type 0} (r : List Token) (x : Option B) → option_map {U = B × List Token} (λ y. (y, r)) x ≡ None → x ≡ None
no_value r None e = refl
no_value r (Some y) e = absurd (cc)

in_turn : {A B : Type 0} (g : A → B) (r : List Token) (x : Option A) → option_map (λ b. (b, r)) (option_map g x) ≡ parse_map g (option_map (λ a. (a, r)) x)
in_turn g r None = refl
in_turn g r (Some a) = refl

pub array_converted : (o : Option (json.Items × List Token)) → converted of_json (parse_map json.array o) ≡ parse_map array (converted of_items o)
array_converted None = refl
array_converted (Some p) = in_turn array p.1 (of_items p.0)

pub object_converted : (o : Option (json.Members × List Token)) → converted of_json (parse_map json.object o) ≡ parse_map object (converted (λ ms. of_members ms no_members) o)
object_converted None = refl
object_converted (Some p) = in_turn object p.1 (of_members p.0 no_members)

-- ---- one item, one member

item_ahead : (j : json.Json) (d : Data) → of_json j ≡ Some d → (o : Option (json.Items × List Token)) → converted of_items (parse_map (json.item j) o) ≡ parse_map (item d) (converted of_items o)
item_ahead j d e None = refl
item_ahead j d e (Some p) = rw e (in_turn (item d) p.1 (of_items p.0))

no_item_ahead : (j : json.Json) → of_json j ≡ None → (o : Option (json.Items × List Token)) → converted of_items (parse_map (json.item j) o) ≡ None
no_item_ahead j e None = refl
no_item_ahead j e (Some p) = rw e

member_ahead : (k : List ℕ) (j : json.Json) (d : Data) (old : Members) → of_json j ≡ Some d → (o : Option (json.Members × List Token))
    → converted (λ ms. of_members ms old) (parse_map (json.member k j) o) ≡ converted (λ ms. of_members ms (put k d old)) o
member_ahead k j d old e None = refl
member_ahead k j d old e (Some p) = rw e

no_member_ahead : (k : List ℕ) (j : json.Json) (old : Members) → of_json j ≡ None → (o : Option (json.Members × List Token)) → converted (λ ms. of_members ms old) (parse_map (json.member k j) o) ≡ None
no_member_ahead k j old e None = refl
no_member_ahead k j old e (Some p) = rw e

module _ (p : Parse json.Json) where
  pub item_read : (n : ℕ) (ts r : List Token) (d : Data) → 0 < n → after_end_array ts ≡ None → converted of_json (p ts) ≡ Some (d, r)
      → converted of_items (items p n ts) ≡ parse_map (item d) (converted of_items (items p (n - 1) r))
  item_read n ts r d some going e = let j = was_parsed of_json (p ts) d r e in ap (converted of_items) (items_more p n ts r j.0 some going j.1) ∙ item_ahead j.0 d j.2 _

  item_lost : (more : Parse json.Items) (o : Option (json.Json × List Token)) → converted of_json o ≡ None → converted of_items (option_and_then (λ q. parse_map (json.item q.0) (more q.1)) o) ≡ None
  item_lost more None e = refl
  item_lost more (Some q) e = no_item_ahead q.0 (no_value q.1 (of_json q.0) e) (more q.1)

  pub item_refused : (n : ℕ) (ts : List Token) → after_end_array ts ≡ None → converted of_json (p ts) ≡ None → converted of_items (items p n ts) ≡ None
  unfolding items
  item_refused zero ts going e = refl
  item_refused (suc n) ts going e = ap (λ o. converted of_items (items_step p (items p n) ts o)) going ∙ item_lost (items p n) (p ts) e

  pub items_over : (n : ℕ) (ts r : List Token) → length ts ≤ n → after_end_array ts ≡ Some r → converted of_items (items p n ts) ≡ Some (no_items, r)
  items_over n ts r enough e = ap (converted of_items) (items_end p n ts r enough e)

  module _ (old : Members) where
    pub member_read : (n : ℕ) (k : List ℕ) (ts s r : List Token) (d : Data) → 0 < n → read_key ts ≡ Some (Some k, s) → converted of_json (p s) ≡ Some (d, r)
        → converted (λ ms. of_members ms old) (members p n ts) ≡ converted (λ ms. of_members ms (put k d old)) (members p (n - 1) r)
    member_read n k ts s r d some key e =
        let j = was_parsed of_json (p s) d r e in
        ap (converted (λ ms. of_members ms old)) (members_more p n k ts s r j.0 some key j.1) ∙ member_ahead k j.0 d old j.2 _

    member_lost : (k : List ℕ) (more : Parse json.Members) (o : Option (json.Json × List Token)) → converted of_json o ≡ None
        → converted (λ ms. of_members ms old) (option_and_then (λ q. parse_map (json.member k q.0) (more q.1)) o) ≡ None
    member_lost k more None e = refl
    member_lost k more (Some q) e = no_member_ahead k q.0 old (no_value q.1 (of_json q.0) e) (more q.1)

    pub member_refused : (n : ℕ) (k : List ℕ) (ts s : List Token) → read_key ts ≡ Some (Some k, s) → converted of_json (p s) ≡ None → converted (λ ms. of_members ms old) (members p n ts) ≡ None
    unfolding members
    member_refused zero k ts s key e = refl
    member_refused (suc n) k ts s key e = rw key (member_lost k (members p n) (p s) e)

    pub key_refused : (n : ℕ) (ts : List Token) → read_key ts ≡ None → converted (λ ms. of_members ms old) (members p n ts) ≡ None
    key_refused n ts e = ap (converted (λ ms. of_members ms old)) (members_no_key p n ts e)

    pub members_over : (n : ℕ) (ts r : List Token) → length ts ≤ n → read_key ts ≡ Some (None, r) → converted (λ ms. of_members ms old) (members p n ts) ≡ Some (old, r)
    members_over n ts r enough e = ap (converted (λ ms. of_members ms old)) (members_end p n ts r enough e)

-- ---- a list that grows at its end

abbrev pub items_after : List Value → Items → Items
items_after [] rest = rest
items_after (v ∷ vs) rest = item (view v) (items_after vs rest)

pub none_after : (vs : List Value) → items_after vs no_items ≡ items_view vs
none_after [] = refl
none_after (v ∷ vs) = ap (item (view v)) (none_after vs)

one_later : (vs : List Value) (v : Value) (rest : Items) → items_after vs (item (view v) rest) ≡ items_after (vs ++ v ∷ []) rest
one_later [] v rest = refl
one_later (w ∷ vs) v rest = ap (item (view w)) (one_later vs v rest)

pub one_more : (vs : List Value) (v : Value) (r : Option (Items × List Token)) → parse_map (items_after vs) (parse_map (item (view v)) r) ≡ parse_map (items_after (vs ++ v ∷ [])) r
one_more vs v None = refl
one_more vs v (Some p) = ap (λ ds. Some (ds, p.1)) (one_later vs v p.0)

pub as_it_is : (r : Option (Items × List Token)) → r ≡ parse_map (λ a. a) r
as_it_is None = refl
as_it_is (Some p) = refl

pub if_ok_map : {A E : Type 0} {P Q : A → Type 0} (r : Result A E) → ((a : A) → P a → Q a) → IfOk r P → IfOk r Q
if_ok_map (Ok a) f h = f a h
if_ok_map (Err e) f h = tt
