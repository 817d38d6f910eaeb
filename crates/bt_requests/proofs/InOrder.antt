-- What is read is in order, and so is what is found in it.
use Rattle.std.proofs.Common.{◌≡◌, ℕ, List, ◌∷◌, map, codes, unwrap_or, Bool, true, false, if◌then◌else◌, Option, Some, None, IfSome, option_map, option_and_then, Ordering, Less, Equal, Greater, nat_cmp, refl, ap, ◌∙◌}
use Rattle.std.specs.Ordering.{match_ordering, ordering_reverse}
use Rattle.std.specs.Cmp.Lexicographic.{slice_cmp}
use Rattle.std.specs.List.{AllByRecursion}
use Rattle.std.specs.List.Sorted.{IsStrictlySortedBy}
use Rattle.std.proofs.lemmas.Cmp.{nat_list_cmp_total}
use Rattle.std.proofs.Math.Logic.{∥∥₁_elim}
use Rattle.std.proofs.lemmas.Map.Keys.{IsStrictlySortedBy-prop}
use Rattle.std.proofs.lemmas.Option.{MatchOption-at_some, option_and_then_some}
use Rattle.json.specs.Lex.{tokens}
use Rattle.json.specs.Json as json
use Rattle.serde_json.specs.Data.{Num, Data, null, boolean, number, string, array, object, item, Members, no_members, member, put}
use Rattle.serde_json.specs.Read.{number_of, of_json, of_items, of_members, max_depth, read}
use Rattle.serde_json.specs.Find.{as_object, get_member, get}
use Rattle.bt_text.specs.Names.{original_name}
use Rattle.bt_members.specs.Values.{present, or_value, value_of, value_at, members_at}
use Rattle.bt_walk.specs.Values.{is_null}
use Rattle.bt_requests.specs.Envelopes.{request_in_envelope}
use Rattle.bt_requests.specs.Order.{IsBelow, InOrder, ItemsInOrder, MembersInOrder}
use Rattle.bt_requests.specs.Readers.{Ascend, family, families_of, families_or_none, families_in}
use Rattle.bt_requests.specs.declared.families.AskedFamily.{AskedFamily}

-- ---- one member more

-- what holds in each case of a comparison
in_each : {A : Type 0} (P : A → Type 0) (o : Ordering) (a b c : A) → (o ≡ Less → P a) → (o ≡ Equal → P b) → (o ≡ Greater → P c) → P (match_ordering o a b c)
in_each P Less a b c f g h = f refl
in_each P Equal a b c f g h = g refl
in_each P Greater a b c f g h = h refl

-- a name below another is below all that the other is below
below_all : (k l : List ℕ) (ms : Members) → slice_cmp nat_cmp k l ≡ Less → IsBelow l ms → IsBelow k ms
below_all k l no_members e b = tt
below_all k l (member m d ms) e b = (nat_list_cmp_total.trans k l m e b.0, below_all k l ms e b.1)

below_put : (l k : List ℕ) (d : Data) (ms : Members) → slice_cmp nat_cmp l k ≡ Less → IsBelow l ms → IsBelow l (put k d ms)
below_put l k d no_members e b = (e, tt)
below_put l k d (member m x ms) e b = in_each (IsBelow l) (slice_cmp nat_cmp k m) _ _ _ (λ _. (e, b)) (λ _. b) (λ _. (b.0, below_put l k d ms e b.1))

pub put_in_order : (k : List ℕ) (d : Data) (ms : Members) → InOrder d → MembersInOrder ms → MembersInOrder (put k d ms)
put_in_order k d no_members h hs = (tt, h, tt)
put_in_order k d (member l x ms) h hs =
    in_each MembersInOrder (slice_cmp nat_cmp k l) _ _ _
    (λ e. ((e, below_all k l ms e hs.0), h, hs))
    (λ e. (hs.0, h, hs.2))
    (λ e. (below_put l k d ms (nat_list_cmp_total.antisymm l k ∙ ap ordering_reverse e) hs.0, hs.1, put_in_order k d ms h hs.2))

-- ---- what is read

after_map : {A B : Type 0} (P : A → Type 0) (Q : B → Type 0) (f : A → B) → ((a : A) → P a → Q (f a)) → (o : Option A) → IfSome o P → IfSome (option_map f o) Q
after_map P Q f k None h = tt
after_map P Q f k (Some a) h = k a h

after_and_then : {A B : Type 0} (P : A → Type 0) (Q : B → Type 0) (f : A → Option B) → ((a : A) → P a → IfSome (f a) Q) → (o : Option A) → IfSome o P → IfSome (option_and_then f o) Q
after_and_then P Q f k None h = tt
after_and_then P Q f k (Some a) h = k a h

-- a number has no members
number_in_order : (o : Option Num) → IfSome (option_map number o) InOrder
number_in_order None = tt
number_in_order (Some n) = tt

-- Members go in one after another, so those found so far stay in order.
mutual
  value_in_order : (j : json.Json) → IfSome (of_json j) InOrder
  value_in_order json.null = tt
  value_in_order (json.boolean b) = tt
  value_in_order (json.number s) = number_in_order (number_of s)
  value_in_order (json.string s) = tt
  value_in_order (json.array js) = after_map ItemsInOrder InOrder array (λ _ h. h) (of_items js) (items_in_order js)
  value_in_order (json.object ms) = after_map MembersInOrder InOrder object (λ _ h. h) (of_members ms no_members) (members_in_order ms no_members tt)

  items_in_order : (js : json.Items) → IfSome (of_items js) ItemsInOrder
  items_in_order json.no_items = tt
  items_in_order (json.item j js) = after_and_then InOrder ItemsInOrder _ (λ d h. after_map ItemsInOrder ItemsInOrder (item d) (λ _ hs. (h, hs)) (of_items js) (items_in_order js)) (of_json j) (value_in_order j)

  members_in_order : (ms : json.Members) (found : Members) → MembersInOrder found → IfSome (of_members ms found) MembersInOrder
  members_in_order json.no_members found hs = hs
  members_in_order (json.member k j ms) found hs = after_and_then InOrder MembersInOrder _ (λ d h. members_in_order ms (put k d found) (put_in_order k d found h hs)) (of_json j) (value_in_order j)

pub read_in_order : (text : List ℕ) (d : Data) → read text ≡ Some d → InOrder d
read_in_order text d e =
    option_and_then_some of_json (option_and_then (λ p. json.if_last p.0 p.1) (json.value max_depth (tokens text))) d e (λ j _ f. MatchOption-at_some _ InOrder d f (value_in_order j))

-- ---- what is found

or_member_in_order : (k : List ℕ) (ms : Members) → MembersInOrder ms → IfSome (get_member k ms) InOrder
or_member_in_order k no_members hs = tt
or_member_in_order k (member l d ms) hs =
    let later = or_member_in_order k ms hs.2 in
    in_each (λ o. IfSome o InOrder) (slice_cmp nat_cmp k l) _ _ _ (λ _. later) (λ _. hs.1) (λ _. later)

pub or_get_in_order : (k : List ℕ) (d : Data) → InOrder d → IfSome (get k d) InOrder
or_get_in_order k null h = tt
or_get_in_order k (boolean b) h = tt
or_get_in_order k (number n) h = tt
or_get_in_order k (string s) h = tt
or_get_in_order k (array ds) h = tt
or_get_in_order k (object ms) h = or_member_in_order k ms h

present_in_order : (o : Option Data) → IfSome o InOrder → IfSome (present o) InOrder
present_in_order None h = tt
present_in_order (Some d) h = by (is_null d)
  where
    by : (b : Bool) → IfSome (if b then None else Some d) InOrder
    by true = tt
    by false = h

either_in_order : (a b : Option Data) → IfSome a InOrder → IfSome b InOrder → IfSome (or_value a b) InOrder
either_in_order None b h k = k
either_in_order (Some d) b h k = h

value_of_in_order : (n o : List ℕ) (d : Data) → InOrder d → IfSome (value_of n o d) InOrder
value_of_in_order n o d h = either_in_order _ _ (present_in_order (get n d) (or_get_in_order n d h)) (present_in_order (get o d) (or_get_in_order o d h))

as_object_in_order : (d : Data) → InOrder d → IfSome (as_object d) MembersInOrder
as_object_in_order null h = tt
as_object_in_order (boolean b) h = tt
as_object_in_order (number n) h = tt
as_object_in_order (string s) h = tt
as_object_in_order (array ds) h = tt
as_object_in_order (object ms) h = h

or_none : (o : Option Members) → IfSome o MembersInOrder → MembersInOrder (unwrap_or o no_members)
or_none None h = tt
or_none (Some ms) h = h

-- a request is in order where its line is
pub request_in_order : (d : Data) → InOrder d → InOrder (request_in_envelope d)
request_in_order d h = or_none _ (after_and_then InOrder MembersInOrder as_object as_object_in_order (get (codes "request") d) (or_get_in_order (codes "request") d h))

-- ---- the families of a new table

abbrev IsAbove : List ℕ → List ℕ → Type 0
IsAbove k name = slice_cmp nat_cmp k name ≡ Less

abbrev AreAbove : List ℕ → List AskedFamily → Type 0
AreAbove k fs = AllByRecursion (IsAbove k) (map (λ f. f.name) fs)

one_more_above : (b : Bool) (k key : List ℕ) (d : Data) (fs : List AskedFamily) → IsAbove k key → AreAbove k fs → AreAbove k (if b then fs else family key d ∷ fs)
one_more_above true k key d fs h hs = hs
one_more_above false k key d fs h hs = (h, hs)

all_above : (k : List ℕ) (ms : Members) → IsBelow k ms → AreAbove k (families_of ms)
all_above k no_members h = tt
all_above k (member l d ms) h = one_more_above (is_null d) k l d (families_of ms) h.0 (all_above k ms h.1)

one_more : (b : Bool) (key : List ℕ) (d : Data) (fs : List AskedFamily) → AreAbove key fs → Ascend fs → Ascend (if b then fs else family key d ∷ fs)
unfolding IsStrictlySortedBy
one_more true key d fs h hs = hs
one_more false key d fs h hs = (h, hs)

families_ascend : (ms : Members) → MembersInOrder ms → Ascend (families_of ms)
unfolding IsStrictlySortedBy
families_ascend no_members h = tt
families_ascend (member k d ms) h = one_more (is_null d) k d (families_of ms) (all_above k ms h.0) (families_ascend ms h.2)

or_none_ascend : (o : Option Members) → IfSome o MembersInOrder → Ascend (families_or_none o)
unfolding IsStrictlySortedBy
or_none_ascend None h = tt
or_none_ascend (Some ms) h = families_ascend ms h

families_in_order : (d : Data) → InOrder d → Ascend (families_in d)
families_in_order d h =
    let n = codes "columnFamilies" in
    or_none_ascend _ (after_and_then InOrder MembersInOrder (members_at n) (λ t k. after_and_then InOrder MembersInOrder as_object as_object_in_order (value_at n t) (value_of_in_order n (original_name n) t k)) (value_at (codes "table") d) (value_of_in_order (codes "table") (original_name (codes "table")) d h))

pub families_ascend_in : (d : Data) → ∥ InOrder d ∥₁ → Ascend (families_in d)
families_ascend_in d h = ∥∥₁_elim h (IsStrictlySortedBy-prop _ _) (families_in_order d)
