-- The values that texts are: the names of an object's members ascend, and a negative number is not past its type.
use Rattle.std.proofs.Common.{◌≡◌, ◌<◌, ◌^◌, ◌==◌, ℕ, zero, suc, Bool, true, false, List, Option, Some, None, Ordering, Less, Equal, Greater, refl, subst, ap, ◌∙◌, cond, nat_cmp, arith}
use Rattle.std.specs.Prelude.{ℤ, pos, negsuc, drop, slice_index, option_map, option_and_then}
use Rattle.std.proofs.lemmas.Cmp.{nat_list_cmp_total}
use Rattle.std.specs.Cmp.Lexicographic.{slice_cmp}
use Rattle.std.specs.Float.{binary64, float_is_finite}
use Rattle.std.specs.Ordering.{match_ordering, ordering_reverse}
use Rattle.fast_float.specs.Text.{Parts, digits_of, minus, nearest, scan, with_sign}
use Rattle.json.specs.Json as json
use Rattle.json.specs.Lex.{tokens}
use Rattle.serde_json.specs.Data.{Num, unsigned, negative, float, Data, null, boolean, number, string, array, object, Items, no_items, item, Members, no_members, member, put}
use Rattle.serde_json.specs.Find.{get, get_member}
use Rattle.serde_json.specs.Read.{float_of, max_depth, number_from, number_of, of_items, of_json, of_members, read}

-- a number that is not below zero is below this
abbrev pub IsWithin : ℤ → Type 0
IsWithin (pos n) = n < 2 ^ 63
IsWithin (negsuc n) = Unit {0}

abbrev pub IsSoundNumber : Num → Type 0
IsSoundNumber (unsigned n) = Unit {0}
IsSoundNumber (negative z) = IsWithin z
IsSoundNumber (float x) = Unit {0}

-- each name is above that one
abbrev pub AreAbove : List ℕ → Members → Type 0
AreAbove k no_members = Unit {0}
AreAbove k (member l d ms) = (slice_cmp nat_cmp k l ≡ Less) × AreAbove k ms

abbrev mutual
  pub IsSound : Data → Type 0
  IsSound null = Unit {0}
  IsSound (boolean b) = Unit {0}
  IsSound (number n) = IsSoundNumber n
  IsSound (string s) = Unit {0}
  IsSound (array ds) = AreSound ds
  IsSound (object ms) = AreSoundMembers ms

  pub AreSound : Items → Type 0
  AreSound no_items = Unit {0}
  AreSound (item d ds) = IsSound d × AreSound ds

  pub AreSoundMembers : Members → Type 0
  AreSoundMembers no_members = Unit {0}
  AreSoundMembers (member k d ms) = IsSound d × AreAbove k ms × AreSoundMembers ms

-- ---- what is found

some_is : {A : Type 0} (a b : A) → Some a ≡ Some b → a ≡ b
some_is a b e = cc

pub by_map : {A B : Type 0} (P : B → Type 0) (f : A → B) (o : Option A) (b : B) → ((a : A) → o ≡ Some a → P (f a)) → option_map f o ≡ Some b → P b
by_map P f None b holds e = absurd cc
by_map P f (Some a) b holds e = subst P (some_is (f a) b e) (holds a refl)

pub by_then : {A B : Type 0} (P : B → Type 0) (f : A → Option B) (o : Option A) (b : B) → ((a : A) → o ≡ Some a → f a ≡ Some b → P b) → option_and_then f o ≡ Some b → P b
by_then P f None b holds e = absurd cc
by_then P f (Some a) b holds e = holds a refl e

by_if : {A : Type 0} (P : A → Type 0) (c : Bool) (x : A) (o : Option A) (a : A) → P x → (o ≡ Some a → P a) → cond c (Some x) o ≡ Some a → P a
by_if P true x o a here there e = subst P (some_is x a e) here
by_if P false x o a here there e = there e

-- ---- numbers

within_signed : (n : ℕ) → IsWithin (with_sign true n)
within_signed zero = omega arith
within_signed (suc n) = tt

abbrev none : Option Num
none = None

float_sound : (sign : Bool) (p : Parts) (n : Num) → float_of sign p ≡ Some n → IsSoundNumber n
float_sound sign p n e = by_if IsSoundNumber (float_is_finite (nearest binary64 sign p)) (float (nearest binary64 sign p)) none n tt (λ e. absurd cc) e

from_sound : (sign : Bool) (p : Parts) (n : Num) → number_from sign p ≡ Some n → IsSoundNumber n
from_sound false p n e = by_if IsSoundNumber _ (unsigned (digits_of p)) (float_of false p) n tt (float_sound false p n) e
from_sound true p n e = by_if IsSoundNumber _ (negative (with_sign true (digits_of p))) (float_of true p) n (within_signed (digits_of p)) (float_sound true p n) e

by_sign : (c : Bool) (s : List ℕ) (n : Num) → cond c (number_from true (scan (drop 1 s))) (number_from false (scan s)) ≡ Some n → IsSoundNumber n
by_sign true s n e = from_sound true (scan (drop 1 s)) n e
by_sign false s n e = from_sound false (scan s) n e

number_sound : (s : List ℕ) (n : Num) → number_of s ≡ Some n → IsSoundNumber n
unfolding number_of
number_sound s n e = by_sign (slice_index s 0 == minus) s n e

-- ---- members

above_trans : (k l : List ℕ) (ms : Members) → slice_cmp nat_cmp k l ≡ Less → AreAbove l ms → AreAbove k ms
above_trans k l no_members below all = tt
above_trans k l (member m d ms) below all = (nat_list_cmp_total.trans k l m below all.0, above_trans k l ms below all.1)

module _ (l m : List ℕ) (d e : Data) (ms more : Members) where
  abbrev placed : Ordering → Members
  placed o = match_ordering o (member l d (member m e ms)) (member m d ms) (member m e more)

  above_by : (k : List ℕ) (o : Ordering) → slice_cmp nat_cmp k l ≡ Less → AreAbove k (member m e ms) → AreAbove k more → AreAbove k (placed o)
  above_by k Less below all later = (below, all)
  above_by k Equal below all later = all
  above_by k Greater below all later = (all.0, later)

  sound_by : (o : Ordering) → slice_cmp nat_cmp l m ≡ o → IsSound d → AreSoundMembers (member m e ms) → (slice_cmp nat_cmp m l ≡ Less → AreAbove m more) → AreSoundMembers more → AreSoundMembers (placed o)
  sound_by Less is here all above later = (here, (is, above_trans l m ms is all.1), all)
  sound_by Equal is here all above later = (here, all.1, all.2)
  sound_by Greater is here all above later = (all.0, above (nat_list_cmp_total.antisymm m l ∙ ap ordering_reverse is), later)

above_put : (k l : List ℕ) (d : Data) (ms : Members) → slice_cmp nat_cmp k l ≡ Less → AreAbove k ms → AreAbove k (put l d ms)
above_put k l d no_members below all = (below, tt)
above_put k l d (member m e ms) below all = above_by l m d e ms (put l d ms) k (slice_cmp nat_cmp l m) below all (above_put k l d ms below all.1)

sound_put : (l : List ℕ) (d : Data) (ms : Members) → IsSound d → AreSoundMembers ms → AreSoundMembers (put l d ms)
sound_put l d no_members here all = (here, tt, tt)
sound_put l d (member m e ms) here all =
    sound_by l m d e ms (put l d ms) (slice_cmp nat_cmp l m) refl here all (λ below. above_put m l d ms below all.1) (sound_put l d ms here all.2)

-- ---- values

mutual
  sound_of : (j : json.Json) (d : Data) → of_json j ≡ Some d → IsSound d
  sound_of json.null d e = subst IsSound (some_is null d e) tt
  sound_of (json.boolean b) d e = subst IsSound (some_is (boolean b) d e) tt
  sound_of (json.number s) d e = by_map IsSound number (number_of s) d (λ n is. number_sound s n is) e
  sound_of (json.string s) d e = subst IsSound (some_is (string s) d e) tt
  sound_of (json.array js) d e = by_map IsSound array (of_items js) d (λ ds is. items_sound js ds is) e
  sound_of (json.object ms) d e = by_map IsSound object (of_members ms no_members) d (λ all is. members_sound ms no_members all tt is) e

  items_sound : (js : json.Items) (ds : Items) → of_items js ≡ Some ds → AreSound ds
  items_sound json.no_items ds e = subst AreSound (some_is no_items ds e) tt
  items_sound (json.item j js) ds e =
      by_then AreSound (λ d. option_map (item d) (of_items js)) (of_json j) ds
      (λ d is then. by_map AreSound (item d) (of_items js) ds (λ rest are. (sound_of j d is, items_sound js rest are)) then) e

  members_sound : (ms : json.Members) (found all : Members) → AreSoundMembers found → of_members ms found ≡ Some all → AreSoundMembers all
  members_sound json.no_members found all are e = subst AreSoundMembers (some_is found all e) are
  members_sound (json.member k j ms) found all are e =
      by_then AreSoundMembers (λ d. of_members ms (put k d found)) (of_json j) all (λ d is then. members_sound ms (put k d found) all (sound_put k d found (sound_of j d is) are) then) e

-- the value that a text is
pub read_sound : (text : List ℕ) (d : Data) → read text ≡ Some d → IsSound d
read_sound text d e = by_then IsSound of_json (option_and_then (λ p. json.if_last p.0 p.1) (json.value max_depth (tokens text))) d (λ j is then. sound_of j d then) e

-- ---- what a value has

abbrev pub IfSound : Option Data → Type 0
IfSound None = Unit {0}
IfSound (Some d) = IsSound d

found_by : (o : Ordering) (d : Data) (rest : Option Data) → IsSound d → IfSound rest → IfSound (match_ordering o rest (Some d) rest)
found_by Less d rest here later = later
found_by Equal d rest here later = here
found_by Greater d rest here later = later

member_sound : (k : List ℕ) (ms : Members) → AreSoundMembers ms → IfSound (get_member k ms)
member_sound k no_members all = tt
member_sound k (member l d ms) all = found_by (slice_cmp nat_cmp k l) d (get_member k ms) all.0 (member_sound k ms all.2)

pub get_sound : (k : List ℕ) (d : Data) → IsSound d → IfSound (get k d)
get_sound k null is = tt
get_sound k (boolean b) is = tt
get_sound k (number n) is = tt
get_sound k (string s) is = tt
get_sound k (array ds) is = tt
get_sound k (object ms) is = member_sound k ms is
