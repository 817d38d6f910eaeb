-- What requests ask for, as the values tell in which they stand.
use Rattle.std.proofs.Common.{◌≡◌, ◌++◌, ◌&&◌, ◌^◌, ℕ, zero, suc, Bool, true, false, List, ◌∷◌, map, Option, Some, None, Less, refl, subst, cond, nat_cmp, arith, ltb-true}
use Rattle.std.specs.Prelude.{ℤ, pos, drop, neg_ℤ, nat_le, nat_lt, IsTrue, Result, Ok, Err, codes, option_and_then, unwrap_or}
use Rattle.std.specs.Cmp.Lexicographic.{slice_cmp}
use Rattle.std.specs.List.{AllByRecursion}
use Rattle.std.specs.List.Sorted.{IsStrictlySortedBy}
use Rattle.std.specs.Str.Parse.{starts_with_minus}
use Rattle.serde_json.specs.Data.{Num, unsigned, negative, float, Data, null, boolean, number, string, array, object, Items, no_items, item, Members, no_members, member}
use Rattle.serde_json.specs.Find.{as_i64, as_object, get}
use Rattle.serde_json.specs.Read.{read}
use Rattle.bt_types.specs.Grammar.{is_parent, is_table_id, is_table_name, lawful, table_in}
use Rattle.bt_text.specs.Int64 as int64
use Rattle.bt_text.specs.Names.{original_name}
use Rattle.bt_walk.specs.Values.{is_null}
use Rattle.bt_members.specs.Values.{choose, int64_at, int64_of, items_at, items_in, items_or_none, members_at, or_value, present, text_at, value_at, value_of}
use Rattle.bt_mutation.specs.declared.asked.AskedMutation.{AskedMutation}
use Rattle.bt_mutation.specs.declared.asked.AskedMutation.TheVariants.{SetCell, DeleteColumn, DeleteFamily, DeleteRow, Missing}
use Rattle.bt_requests.specs.Envelopes.{envelope_in, envelope_of, is_envelope, method_text, or_empty, or_not_json, request_in_envelope, text_of, with_request}
use Rattle.bt_requests.specs.Methods.{method_named}
use Rattle.bt_requests.specs.Readers.{Ascend, bound_at, bound_of, entries_in, families_of, families_or_none, family, mutation_in, mutations_in}
use Rattle.bt_requests.specs.Refusals.{members_refusal}
use Rattle.bt_requests.specs.Requests.{asked_of, if_built, message_of, or_bad_name, request_in, unless_refused}
use Rattle.bt_requests.specs.declared.envelope.LineRefusal.{LineRefusal}
use Rattle.bt_requests.specs.declared.families.AskedFamily.{AskedFamily}
use Rattle.bt_requests.specs.declared.method.Method.{Method}
use Rattle.bt_requests.specs.declared.method.Method.TheVariants as method
use Rattle.bt_requests.specs.declared.refusal.RequestRefusal.{RequestRefusal}
use Rattle.bt_requests.specs.declared.request.Request.{Request}
use Rattle.bt_requests.specs.declared.request.Request.TheVariants.{CreateTable, GetTable, ListTables, DeleteTable, UpdateTable, ModifyColumnFamilies, DropRowRange, MutateRow, MutateRows, ReadRows, CheckAndMutateRow, ReadModifyWriteRow}
use Rattle.bt_requests.specs.declared.rows.AskedEntry.{AskedEntry}
use Rattle.bt_run_laws.proofs.Json.{AreAbove, AreSound, AreSoundMembers, IfSound, IsSound, IsSoundNumber, IsWithin, by_map, by_then, get_sound, read_sound}

-- ---- members

present_sound : (o : Option Data) → IfSound o → IfSound (present o)
present_sound None is = tt
present_sound (Some d) is = by (is_null d) d is
  where
    by : (b : Bool) (d : Data) → IsSound d → IfSound (cond b None (Some d))
    by true d is = tt
    by false d is = is

or_sound : (a b : Option Data) → IfSound a → IfSound b → IfSound (or_value a b)
or_sound None b is also = also
or_sound (Some d) b is also = is

value_sound : (n o : List ℕ) (d : Data) → IsSound d → IfSound (value_of n o d)
value_sound n o d is = or_sound (present (get n d)) (present (get o d)) (present_sound (get n d) (get_sound n d is)) (present_sound (get o d) (get_sound o d is))

pub at_sound : (n : List ℕ) (d : Data) → IsSound d → IfSound (value_at n d)
at_sound n d is = value_sound n (original_name n) d is

chosen : {A : Type 0} (P : A → Type 0) (o : Option Data) (f : Data → A) (other : A) → IfSound o → ((d : Data) → IsSound d → P (f d)) → P other → P (choose o f other)
chosen P None f other is here there = there
chosen P (Some d) f other is here there = here d is

array_sound : (d : Data) → IsSound d → AreSound (items_in d)
array_sound null is = tt
array_sound (boolean b) is = tt
array_sound (number n) is = tt
array_sound (string s) is = tt
array_sound (array ds) is = is
array_sound (object ms) is = tt

items_by : (o : Option Data) → IfSound o → AreSound (items_or_none o)
items_by None is = tt
items_by (Some d) is = array_sound d is

-- ---- numbers

within_negative : (n : ℕ) → IsWithin (neg_ℤ (pos n))
within_negative zero = omega arith
within_negative (suc n) = tt

negative_within : (n : ℕ) (z : ℤ) → int64.negative n ≡ Some z → IsWithin z
negative_within n z e = by (nat_le n (2 ^ 63)) e
  where
    by : (b : Bool) → cond b (Some (neg_ℤ (pos n))) None ≡ Some z → IsWithin z
    by true e = let same : neg_ℤ (pos n) ≡ z = cc in subst IsWithin same (within_negative n)
    by false e = absurd cc

positive_within : (n : ℕ) (z : ℤ) → cond (nat_lt n (2 ^ 63)) (Some (pos n)) None ≡ Some z → IsWithin z
positive_within n z e = by (nat_lt n (2 ^ 63)) refl e
  where
    by : (b : Bool) → nat_lt n (2 ^ 63) ≡ b → cond b (Some (pos n)) None ≡ Some z → IsWithin z
    by true is e = let same : pos n ≡ z = cc in subst IsWithin same (ltb-true n (2 ^ 63) is)
    by false is e = absurd cc

text_within : (t : List ℕ) (z : ℤ) → int64.int64_text t ≡ Some z → IsWithin z
text_within t z e = by (starts_with_minus t) e
  where
    by : (b : Bool) → cond b (option_and_then int64.negative (int64.digits_of (drop 1 t))) (option_and_then int64.positive (int64.digits_of t)) ≡ Some z → IsWithin z
    by true e = by_then IsWithin int64.negative (int64.digits_of (drop 1 t)) z (λ n is then. negative_within n z then) e
    by false e = by_then IsWithin int64.positive (int64.digits_of t) z (λ n is then. positive_within n z then) e

number_within : (n : Num) (z : ℤ) → IsSoundNumber n → as_i64 n ≡ Some z → IsWithin z
number_within (unsigned n) z is e = positive_within n z e
number_within (negative y) z is e = let same : y ≡ z = cc in subst IsWithin same is
number_within (float x) z is e = absurd cc

int64_within : (d : Data) (z : ℤ) → IsSound d → int64.int64_in d ≡ Some z → IsWithin z
int64_within null z is e = absurd cc
int64_within (boolean b) z is e = absurd cc
int64_within (number n) z is e = number_within n z is e
int64_within (string s) z is e = text_within s z e
int64_within (array ds) z is e = absurd cc
int64_within (object ms) z is e = absurd cc

or_zero : (o : Option ℤ) → ((z : ℤ) → o ≡ Some z → IsWithin z) → IsWithin (unwrap_or o (pos 0))
or_zero None is = omega arith
or_zero (Some z) is = is z refl

found_within : (o : Option Data) → IfSound o → IsWithin (unwrap_or (option_and_then int64.int64_in o) (pos 0))
found_within None is = omega arith
found_within (Some d) is = or_zero (int64.int64_in d) (λ z e. int64_within d z is e)

number_at : (n o : List ℕ) (d : Data) → IsSound d → IsWithin (int64_of n o d)
number_at n o d is = found_within (value_of n o d) (value_sound n o d is)

-- ---- mutations

-- its times fit their type
abbrev pub IsSoundMutation : AskedMutation → Type 0
IsSoundMutation (SetCell family qualifier at value) = IsWithin at
IsSoundMutation (DeleteColumn family qualifier start end) = IsWithin start × IsWithin end
IsSoundMutation (DeleteFamily family) = Unit {0}
IsSoundMutation DeleteRow = Unit {0}
IsSoundMutation Missing = Unit {0}

abbrev pub AreSoundMutations : List AskedMutation → Type 0
AreSoundMutations ms = AllByRecursion IsSoundMutation ms

int64_within_at : (n : List ℕ) (d : Data) → IsSound d → IsWithin (int64_at n d)
int64_within_at n d is = number_at n (original_name n) d is

bounded : (n o : List ℕ) (d : Data) → IsSound d → IsWithin (bound_of n o d)
bounded n o d is = chosen IsWithin (value_at (codes "timeRange") d) (int64_of n o) (pos 0) (at_sound (codes "timeRange") d is) (λ v sound. number_at n o v sound) (omega arith)

bound_within : (n : List ℕ) (d : Data) → IsSound d → IsWithin (bound_at n d)
bound_within n d is = bounded n (original_name n) d is

mutation_sound : (d : Data) → IsSound d → IsSoundMutation (mutation_in d)
mutation_sound d is =
    chosen IsSoundMutation (value_at (codes "setCell") d) _ _ (at_sound (codes "setCell") d is) (λ v sound. int64_within_at (codes "timestampMicros") v sound)
    (chosen IsSoundMutation (value_at (codes "deleteFromColumn") d) _ _ (at_sound (codes "deleteFromColumn") d is) (λ v sound. (bound_within (codes "startTimestampMicros") v sound, bound_within (codes "endTimestampMicros") v sound))
    (chosen IsSoundMutation (value_at (codes "deleteFromFamily") d) _ _ (at_sound (codes "deleteFromFamily") d is) (λ v sound. tt)
    (chosen IsSoundMutation (value_at (codes "deleteFromRow") d) _ _ (at_sound (codes "deleteFromRow") d is) (λ v sound. tt) tt)))

mutations_sound : (ds : Items) → AreSound ds → AreSoundMutations (mutations_in ds)
mutations_sound no_items are = tt
mutations_sound (item d ds) are = (mutation_sound d are.0, mutations_sound ds are.1)

mutations_found : (n : List ℕ) (d : Data) → IsSound d → AreSoundMutations (mutations_in (items_at n d))
mutations_found n d is = mutations_sound (items_at n d) (items_by (value_at n d) (at_sound n d is))

abbrev pub AreSoundEntries : List AskedEntry → Type 0
AreSoundEntries entries = AllByRecursion (λ e. AreSoundMutations e.mutations) entries

entries_sound : (ds : Items) → AreSound ds → AreSoundEntries (entries_in ds)
entries_sound no_items are = tt
entries_sound (item d ds) are = (mutations_found (codes "mutations") d are.0, entries_sound ds are.1)

-- ---- families

abbrev AreFamiliesAbove : List ℕ → List AskedFamily → Type 0
AreFamiliesAbove k fs = AllByRecursion (λ name. slice_cmp nat_cmp k name ≡ Less) (map (λ f. f.name) fs)

families_above : (k : List ℕ) (ms : Members) → AreAbove k ms → AreFamiliesAbove k (families_of ms)
families_above k no_members all = tt
families_above k (member l d ms) all = by (is_null d) (families_above k ms all.1)
  where
    by : (b : Bool) → AreFamiliesAbove k (families_of ms) → AreFamiliesAbove k (cond b (families_of ms) (family l d ∷ families_of ms))
    by true rest = rest
    by false rest = (all.0, rest)

one_more : (b : Bool) (l : List ℕ) (d : Data) (fs : List AskedFamily) → AreFamiliesAbove l fs → Ascend fs → Ascend (cond b fs (family l d ∷ fs))
unfolding IsStrictlySortedBy
one_more true l d fs above rest = rest
one_more false l d fs above rest = (above, rest)

families_ascend : (ms : Members) → AreSoundMembers ms → Ascend (families_of ms)
unfolding IsStrictlySortedBy
families_ascend no_members all = tt
families_ascend (member l d ms) all = one_more (is_null d) l d (families_of ms) (families_above l ms all.1) (families_ascend ms all.2)

object_ascends : (d : Data) (ms : Members) → IsSound d → as_object d ≡ Some ms → Ascend (families_of ms)
object_ascends null ms is e = absurd cc
object_ascends (boolean b) ms is e = absurd cc
object_ascends (number n) ms is e = absurd cc
object_ascends (string s) ms is e = absurd cc
object_ascends (array ds) ms is e = absurd cc
object_ascends (object found) ms is e = let same : found ≡ ms = cc in families_ascend ms (subst AreSoundMembers same is)

or_none : (o : Option Members) → ((ms : Members) → o ≡ Some ms → Ascend (families_of ms)) → Ascend (families_or_none o)
unfolding IsStrictlySortedBy
or_none None is = tt
or_none (Some ms) is = is ms refl

members_ascend : (o : Option Data) (ms : Members) → IfSound o → option_and_then as_object o ≡ Some ms → Ascend (families_of ms)
members_ascend None ms is e = absurd cc
members_ascend (Some d) ms is e = object_ascends d ms is e

table_ascends : (o : Option Data) → IfSound o → Ascend (families_or_none (option_and_then (members_at (codes "columnFamilies")) o))
unfolding IsStrictlySortedBy
table_ascends None is = tt
table_ascends (Some d) is = or_none (members_at (codes "columnFamilies") d) (λ ms e. members_ascend (value_at (codes "columnFamilies") d) ms (at_sound (codes "columnFamilies") d is) e)

-- ---- requests

-- what is known of a request that was read
abbrev pub IsSoundRequest : Request → Type 0
IsSoundRequest (CreateTable name families retention) = IsTrue (is_table_name name) × Ascend families
IsSoundRequest (GetTable name) = Unit {0}
IsSoundRequest (ListTables parent page_token) = Unit {0}
IsSoundRequest (DeleteTable name) = Unit {0}
IsSoundRequest (UpdateTable name mask retention) = Unit {0}
IsSoundRequest (ModifyColumnFamilies name changes) = Unit {0}
IsSoundRequest (DropRowRange name target) = Unit {0}
IsSoundRequest (MutateRow name key ms) = AreSoundMutations ms
IsSoundRequest (MutateRows name entries) = AreSoundEntries entries
IsSoundRequest (ReadRows name keys ranges filter limit) = Unit {0}
IsSoundRequest (CheckAndMutateRow name key predicate trues falses) = AreSoundMutations trues × AreSoundMutations falses
IsSoundRequest (ReadModifyWriteRow name key rules) = Unit {0}

lawful_is : (p : List ℕ → Bool) (b name : List ℕ) → lawful p b ≡ Some name → IsTrue (p name)
lawful_is p b name e = by (p b) refl e
  where
    by : (t : Bool) → p b ≡ t → cond t (Some b) None ≡ Some name → IsTrue (p name)
    by true is e = let same : b ≡ name = cc in subst (λ n. IsTrue (p n)) same is
    by false is e = absurd cc

table_named : (parent id name : List ℕ) → table_in parent id ≡ Some name → IsTrue (is_table_name name)
table_named parent id name e = by (is_parent parent && is_table_id id) e
  where
    by : (t : Bool) → cond t (lawful is_table_name (parent ++ codes "/tables/" ++ id)) None ≡ Some name → IsTrue (is_table_name name)
    by true e = lawful_is is_table_name (parent ++ codes "/tables/" ++ id) name e
    by false e = absurd cc

asked_sound : (m : Method) (d : Data) (r : Request) → IsSound d → asked_of m d ≡ Some r → IsSoundRequest r
asked_sound method.CreateTable d r is e =
    by_map IsSoundRequest _ (table_in (text_at (codes "parent") d) (text_at (codes "tableId") d)) r
    (λ name there. (table_named (text_at (codes "parent") d) (text_at (codes "tableId") d) name there, table_ascends (value_at (codes "table") d) (at_sound (codes "table") d is))) e
asked_sound method.GetTable d r is e = by_map IsSoundRequest _ _ r (λ name there. tt) e
asked_sound method.ListTables d r is e = by_map IsSoundRequest _ _ r (λ name there. tt) e
asked_sound method.DeleteTable d r is e = by_map IsSoundRequest _ _ r (λ name there. tt) e
asked_sound method.UpdateTable d r is e = by_map IsSoundRequest _ _ r (λ name there. tt) e
asked_sound method.ModifyColumnFamilies d r is e = by_map IsSoundRequest _ _ r (λ name there. tt) e
asked_sound method.DropRowRange d r is e = by_map IsSoundRequest _ _ r (λ name there. tt) e
asked_sound method.CompactTable d r is e = absurd cc
asked_sound method.ReadRows d r is e = by_map IsSoundRequest _ _ r (λ name there. tt) e
asked_sound method.MutateRow d r is e = by_map IsSoundRequest _ _ r (λ name there. mutations_found (codes "mutations") d is) e
asked_sound method.MutateRows d r is e = by_map IsSoundRequest _ _ r (λ name there. entries_sound (items_at (codes "entries") d) (items_by (value_at (codes "entries") d) (at_sound (codes "entries") d is))) e
asked_sound method.CheckAndMutateRow d r is e = by_map IsSoundRequest _ _ r (λ name there. (mutations_found (codes "trueMutations") d is, mutations_found (codes "falseMutations") d is)) e
asked_sound method.ReadModifyWriteRow d r is e = by_map IsSoundRequest _ _ r (λ name there. tt) e
asked_sound method.GenerateInitialChangeStreamPartitions d r is e = absurd cc
asked_sound method.ReadChangeStream d r is e = absurd cc

or_bad : (o : Option Request) (r : Request) → ((x : Request) → o ≡ Some x → IsSoundRequest x) → or_bad_name o ≡ Ok r → IsSoundRequest r
or_bad None r is e = absurd cc
or_bad (Some x) r is e = let same : x ≡ r = cc in subst IsSoundRequest same (is x refl)

unless_sound : (why : Option RequestRefusal) (o : Option Request) (r : Request) → ((x : Request) → o ≡ Some x → IsSoundRequest x) → unless_refused why (or_bad_name o) ≡ Ok r → IsSoundRequest r
unless_sound None o r is e = or_bad o r is e
unless_sound (Some why) o r is e = absurd cc

built_sound : (b : Option ℕ) (why : ℕ → Option RequestRefusal) (o : Option Request) (r : Request) → ((x : Request) → o ≡ Some x → IsSoundRequest x) → if_built b (λ m. unless_refused (why m) (or_bad_name o)) ≡ Ok r → IsSoundRequest r
built_sound None why o r is e = absurd cc
built_sound (Some m) why o r is e = unless_sound (why m) o r is e

pub request_sound : (m : Method) (d : Data) (r : Request) → IsSound d → request_in m d ≡ Ok r → IsSoundRequest r
request_sound m d r is e = built_sound (message_of m) (λ n. members_refusal n d) (asked_of m d) r (λ x there. asked_sound m d x is there) e

-- ---- envelopes

abbrev Envelope : Type 0
Envelope = Method × Data

abbrev opened : Envelope → Result Envelope LineRefusal
opened x = Ok x

object_sound : (d : Data) → IsSound d → IsSound (or_empty (Some d))
object_sound null is = tt
object_sound (boolean b) is = tt
object_sound (number n) is = tt
object_sound (string s) is = tt
object_sound (array ds) is = tt
object_sound (object ms) is = is

empty_sound : (o : Option Data) → IfSound o → IsSound (or_empty o)
empty_sound None is = tt
empty_sound (Some d) is = object_sound d is

with_sound : (m : Option Method) (d : Data) (x : Envelope) → IsSound d → with_request m d ≡ opened x → IsSound x.1
with_sound None d x is e = absurd cc
with_sound (Some m) d x is e = let same : (m, d) ≡ x = cc in subst (λ (y : Envelope). IsSound y.1) same is

in_sound : (d : Data) (x : Envelope) → IsSound d → envelope_in d ≡ opened x → IsSound x.1
in_sound d x is e = by (is_envelope d) e
  where
    by : (b : Bool) → cond b (with_request (method_named (method_text d)) (request_in_envelope d)) (Err LineRefusal.BadEnvelope) ≡ opened x → IsSound x.1
    by true e = with_sound (method_named (method_text d)) (request_in_envelope d) x (empty_sound (get (codes "request") d) (get_sound (codes "request") d is)) e
    by false e = absurd cc

json_sound : (o : Option Data) (x : Envelope) → IfSound o → or_not_json o ≡ opened x → IsSound x.1
json_sound None x is e = absurd cc
json_sound (Some d) x is e = in_sound d x is e

if_read : (o : Option (List ℕ)) → IfSound (option_and_then read o)
if_read None = tt
if_read (Some text) = by (read text) refl
  where
    by : (o : Option Data) → read text ≡ o → IfSound o
    by None e = tt
    by (Some d) e = read_sound text d e

-- the request of an envelope
pub envelope_sound : (line : List ℕ) (x : Method × Data) → envelope_of line ≡ Ok x → IsSound x.1
envelope_sound line x e = json_sound (option_and_then read (text_of line)) x (if_read (text_of line)) e
