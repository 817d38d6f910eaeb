-- Base64 is tested group by group.
use Rattle.std.proofs.Common.{◌≡◌, ℕ, suc, ◌-◌, ◌*◌, ◌%◌, ◌==◌, ◌<◌, ◌≤◌, Bool, true, false, not, ◌&&◌, cond, List, [], ◌∷◌, ◌++◌, length, map, take, drop, replicate, slice_index, Option, None, Some, is_some, is_none, refl, sym, ap, ◌∙◌, arith}
use Rattle.std.specs.Prelude.{◌+◌}
use Rattle.std.specs.Char.{is_ascii_digit, is_ascii_lowercase, is_ascii_uppercase}
use Rattle.std.proofs.lemmas.Bool.{and_parts, eqb-true}
use Rattle.std.proofs.lemmas.Bool.Decides.{nat_tests}
use Rattle.std.proofs.lemmas.List.{append-nil}
use Rattle.std.specs.List.{list_all, list_any}
use Rattle.std.specs.Result.{result_ok}
use Rattle.std.specs.Io.KnownBytes.{prepend_known}
use Rattle.base64.specs.declared.decode.DecodeError.{DecodeError}
use Rattle.base64.specs.declared.engine.general_purpose.GeneralPurpose.{GeneralPurpose}
use Rattle.base64.specs.declared.engine.DecodePaddingMode.TheVariants.{RequireCanonical}
use Rattle.base64.specs.Decode.{or_else, groups_error, groups_before_last, decode_outcome, suffix_error, scan_steps}
use Rattle.base64.specs.Engines.{standard}
use Rattle.base64.specs.GeneralPurpose.{decoded_of, groups_error_of}
use Rattle.base64.specs.Tables.{all_below}
use Rattle.base64.proofs.Tables.{all_below_at}
use Rattle.base64.proofs.Decoding.{groups_error_first}
use Rattle.base64.proofs.Streams.{decoded_of-groups}
use Rattle.bt_text.specs.Groups.{digit_bits, is_last_group, is_one_byte, is_two_bytes, is_whole_group}
use Rattle.bt_text.specs.Bytes.{bytes_of_text, is_digit, is_padding, missing_padding, standard_digit}
use Rattle.bt_text.proofs.StandardForms.{is_padding-standard_digit, read_in_standard_form}

-- ---- one group, of any engine

-- a byte that the table has
abbrev known : List ℕ → ℕ → Bool
known dec c = not (slice_index dec c == 255)

four : (a b c d : Bool) (e f g h : DecodeError) → is_none (or_else (cond a (Some e) None) (or_else (cond b (Some f) None) (or_else (cond c (Some g) None) (cond d (Some h) None)))) ≡ (not a && (not b && (not c && not d)))
four true b c d e f g h = refl
four false true c d e f g h = refl
four false false true d e f g h = refl
four false false false true e f g h = refl
four false false false false e f g h = refl

first_group : (dec : List ℕ) (p q r s : ℕ) (t : List ℕ) → is_none (groups_error dec (p ∷ q ∷ r ∷ s ∷ t) 1) ≡ (known dec p && (known dec q && (known dec r && known dec s)))
unfolding groups_error
first_group dec p q r s t = four (slice_index dec p == 255) (slice_index dec q == 255) (slice_index dec r == 255) (slice_index dec s == 255) _ _ _ _

no_error : (o : Option DecodeError) → is_none o ≡ true → o ≡ None
no_error None h = refl
no_error (Some e) h = cc

some_error : (o : Option DecodeError) → is_none o ≡ false → (e : DecodeError) × (o ≡ Some e)
some_error None h = absurd (cc)
some_error (Some e) h = (e, refl)

prepended : (xs : List ℕ) (o : Option (List ℕ)) → is_some (prepend_known xs o) ≡ is_some o
prepended xs None = refl
prepended xs (Some ys) = refl

on_known : (e : GeneralPurpose) (p q r s x : ℕ) (t u : List ℕ) → (known e.decode_table p && (known e.decode_table q && (known e.decode_table r && known e.decode_table s))) ≡ true
    → is_some (decoded_of e ((p ∷ q ∷ r ∷ s ∷ x ∷ t) ++ u)) ≡ is_some (decoded_of e ((x ∷ t) ++ u))
on_known e p q r s x t u all =
    let none : groups_error_of e (p ∷ q ∷ r ∷ s ∷ x ∷ t) 1 ≡ None = no_error _ (first_group e.decode_table p q r s (x ∷ t) ∙ all) in
    let inside : 4 * 1 < length (p ∷ q ∷ r ∷ s ∷ x ∷ t) = omega arith in
    ap is_some (decoded_of-groups e (p ∷ q ∷ r ∷ s ∷ x ∷ t) u 1 inside none) ∙ prepended _ _

refused : (x y : Option DecodeError) (e : DecodeError) (b : List ℕ) → is_some (result_ok (decode_outcome (or_else x (or_else (Some e) y)) b)) ≡ false
refused None y e b = refl
refused (Some f) y e b = refl

on_unknown : (e : GeneralPurpose) (p q r s x : ℕ) (t : List ℕ) → (known e.decode_table p && (known e.decode_table q && (known e.decode_table r && known e.decode_table s))) ≡ false
    → is_some (decoded_of e (p ∷ q ∷ r ∷ s ∷ x ∷ t)) ≡ false
unfolding decoded_of
on_unknown e p q r s x t none =
    let found : (f : DecodeError) × (groups_error_of e (p ∷ q ∷ r ∷ s ∷ x ∷ t) 1 ≡ Some f) = some_error (groups_error_of e (p ∷ q ∷ r ∷ s ∷ x ∷ t) 1) (first_group e.decode_table p q r s (x ∷ t) ∙ none) in
    let some : 1 ≤ groups_before_last (length (p ∷ q ∷ r ∷ s ∷ x ∷ t)) = omega arith in
    let all = groups_error_first e.decode_table (p ∷ q ∷ r ∷ s ∷ x ∷ t) 1 (groups_before_last (length (p ∷ q ∷ r ∷ s ∷ x ∷ t))) found.0 found.1 some in
    rw all (refused _ (suffix_error e.decode_table e.padding.value e.config.decode_allow_trailing_bits e.config.decode_padding_mode (4 * groups_before_last (length (p ∷ q ∷ r ∷ s ∷ x ∷ t))) (p ∷ q ∷ r ∷ s ∷ x ∷ t)) found.0 _)

-- ---- digits of either alphabet

agrees : ℕ → Bool
agrees c = cond (is_digit c) (known standard.decode_table (standard_digit c)) (not (known standard.decode_table (standard_digit c)))

all_agree : all_below agrees 256 ≡ true
unfolding agrees
all_agree = refl

by_agreement : (b k : Bool) → cond b k (not k) ≡ true → b ≡ k
by_agreement true true h = refl
by_agreement true false h = cc
by_agreement false true h = cc
by_agreement false false h = refl

digit_known : (c : ℕ) → c < 256 → is_digit c ≡ known standard.decode_table (standard_digit c)
unfolding agrees
digit_known c byte = by_agreement (is_digit c) (known standard.decode_table (standard_digit c)) (all_below_at agrees 256 c all_agree byte)

no_padding : (c : ℕ) → is_digit c ≡ true → is_padding (standard_digit c) ≡ false
no_padding c h = grind (arith, nat_tests)

and_true : (b : Bool) → (b && true) ≡ b
and_true true = refl
and_true false = refl

four_and : (a b c d p q r s : Bool) → a ≡ p → b ≡ q → c ≡ r → d ≡ s → (a && (b && (c && (d && true)))) ≡ (p && (q && (r && s)))
four_and a b c d p q r s e f g h = rw (e, f, g, h) (ap (λ (z : Bool). p && (q && (r && z))) (and_true s))

-- four digits, in the table's words
four_digits : (a b c d : ℕ) → a < 256 → b < 256 → c < 256 → d < 256
    → list_all is_digit (a ∷ b ∷ c ∷ d ∷ []) ≡ (known standard.decode_table (standard_digit a) && (known standard.decode_table (standard_digit b) && (known standard.decode_table (standard_digit c) && known standard.decode_table (standard_digit d))))
four_digits a b c d ha hb hc hd = four_and _ _ _ _ _ _ _ _ (digit_known a ha) (digit_known b hb) (digit_known c hc) (digit_known d hd)

missing_past : (p q r s : ℕ) (u : List ℕ) → is_padding p ≡ false → is_padding q ≡ false → is_padding r ≡ false → is_padding s ≡ false
    → missing_padding (p ∷ q ∷ r ∷ s ∷ u) ≡ missing_padding u
missing_past p q r s u hp hq hr hs =
    let whole : suc (suc (suc (suc (length u)))) % 4 ≡ length u % 4 = omega arith in
    rw (hp, hq, hr, hs, whole) refl

-- ---- a text of more than one group

-- behind four digits the rest decides
pub goes_on : (t : List ℕ) → ((i : ℕ) → slice_index t i < 256) → 4 < length t → list_all is_digit (take 4 t) ≡ true → is_some (bytes_of_text (drop 4 t)) ≡ is_some (bytes_of_text t)
unfolding bytes_of_text
goes_on [] bytes long digits = absurd (omega arith)
goes_on (a ∷ []) bytes long digits = absurd (omega arith)
goes_on (a ∷ b ∷ []) bytes long digits = absurd (omega arith)
goes_on (a ∷ b ∷ c ∷ []) bytes long digits = absurd (omega arith)
goes_on (a ∷ b ∷ c ∷ d ∷ []) bytes long digits = absurd (omega arith)
goes_on (a ∷ b ∷ c ∷ d ∷ x ∷ rest) bytes long digits =
    let one = and_parts (is_digit a) (is_digit b && (is_digit c && (is_digit d && true))) digits in
    let two = and_parts (is_digit b) (is_digit c && (is_digit d && true)) one.1 in
    let three = and_parts (is_digit c) (is_digit d && true) two.1 in
    let last = and_parts (is_digit d) true three.1 in
    let same = missing_past (standard_digit a) (standard_digit b) (standard_digit c) (standard_digit d) (map standard_digit (x ∷ rest)) (no_padding a one.0) (no_padding b two.0) (no_padding c three.0) (no_padding d last.0) in
    let all = sym (four_digits a b c d (bytes 0) (bytes 1) (bytes 2) (bytes 3)) ∙ digits in
    sym (ap (λ (m : ℕ). is_some (decoded_of standard (map standard_digit (a ∷ b ∷ c ∷ d ∷ x ∷ rest) ++ replicate m 61))) same
    ∙ on_known standard (standard_digit a) (standard_digit b) (standard_digit c) (standard_digit d) (standard_digit x) (map standard_digit rest) (replicate (missing_padding (map standard_digit (x ∷ rest))) 61) all)

-- and anything else is no base64
pub ends : (t : List ℕ) → ((i : ℕ) → slice_index t i < 256) → 4 < length t → list_all is_digit (take 4 t) ≡ false → is_some (bytes_of_text t) ≡ false
unfolding bytes_of_text
ends [] bytes long other = absurd (omega arith)
ends (a ∷ []) bytes long other = absurd (omega arith)
ends (a ∷ b ∷ []) bytes long other = absurd (omega arith)
ends (a ∷ b ∷ c ∷ []) bytes long other = absurd (omega arith)
ends (a ∷ b ∷ c ∷ d ∷ []) bytes long other = absurd (omega arith)
ends (a ∷ b ∷ c ∷ d ∷ x ∷ rest) bytes long other =
    on_unknown standard (standard_digit a) (standard_digit b) (standard_digit c) (standard_digit d) (standard_digit x) (map standard_digit rest ++ replicate (missing_padding (map standard_digit (a ∷ b ∷ c ∷ d ∷ x ∷ rest))) 61)
    (sym (four_digits a b c d (bytes 0) (bytes 1) (bytes 2) (bytes 3)) ∙ other)

-- ---- the bits of a digit

abbrev bits_in_ranges : ℕ → ℕ
bits_in_ranges c = cond (is_ascii_uppercase c) (c - 65) (cond (is_ascii_lowercase c) (c - 97 + 26) (cond (is_ascii_digit c) (c - 48 + 52)
    (cond (standard_digit c == 43) 62 (cond (standard_digit c == 47) 63 255))))

same_bits : ℕ → Bool
same_bits c = digit_bits c == bits_in_ranges c

all_same : all_below same_bits 256 ≡ true
unfolding same_bits
all_same = refl

pub bits_by_ranges : (c : ℕ) → c < 256 → digit_bits c ≡ bits_in_ranges c
unfolding same_bits
bits_by_ranges c byte = eqb-true (digit_bits c) (bits_in_ranges c) (all_below_at same_bits 256 c all_same byte)

-- ---- one group, its padding included

split : {A : Type 0} (b : Bool) → (b ≡ true → A) → (b ≡ false → A) → A
split true f g = f refl
split false f g = g refl

by_bits : (b : Bool) (e : DecodeError) → is_none (cond (not b) (Some e) None) ≡ b
by_bits true e = refl
by_bits false e = refl

-- a table without a value for `=`
abbrev IsPlainTable : List ℕ → Type 0
IsPlainTable dec = slice_index dec 61 ≡ 255

unknown_padding : (dec : List ℕ) (c : ℕ) → IsPlainTable dec → (c == 61) ≡ true → slice_index dec c ≡ 255
unknown_padding dec c plain is = ap (slice_index dec) (eqb-true c 61 is) ∙ plain

-- why a group is refused
abbrev refusal_of : List ℕ → List ℕ → Option DecodeError
refusal_of dec s = suffix_error dec 61 false RequireCanonical 0 s

first_is_padding : (dec : List ℕ) (p q r t : ℕ) → (p == 61) ≡ true → is_none (refusal_of dec (p ∷ q ∷ r ∷ t ∷ [])) ≡ false
unfolding scan_steps
first_is_padding dec p q r t h = rw (h, scan_steps) refl

first_is_unknown : (dec : List ℕ) (p q r t : ℕ) → (p == 61) ≡ false → (slice_index dec p == 255) ≡ true → is_none (refusal_of dec (p ∷ q ∷ r ∷ t ∷ [])) ≡ false
unfolding scan_steps
first_is_unknown dec p q r t h k = rw (h, k, scan_steps) refl

second_is_padding : (dec : List ℕ) (p q r t : ℕ) → (p == 61) ≡ false → (slice_index dec p == 255) ≡ false → (q == 61) ≡ true → is_none (refusal_of dec (p ∷ q ∷ r ∷ t ∷ [])) ≡ false
unfolding scan_steps
second_is_padding dec p q r t hp kp hq = rw (hp, kp, hq, scan_steps) refl

second_is_unknown : (dec : List ℕ) (p q r t : ℕ) → (p == 61) ≡ false → (slice_index dec p == 255) ≡ false → (q == 61) ≡ false → (slice_index dec q == 255) ≡ true → is_none (refusal_of dec (p ∷ q ∷ r ∷ t ∷ [])) ≡ false
unfolding scan_steps
second_is_unknown dec p q r t hp kp hq kq = rw (hp, kp, hq, kq, scan_steps) refl

-- two digits, and what is wrong behind them
behind_two : (dec : List ℕ) (p q r t : ℕ) → (p == 61) ≡ false → (slice_index dec p == 255) ≡ false → (q == 61) ≡ false → (slice_index dec q == 255) ≡ false → IsPlainTable dec
    → is_none (refusal_of dec (p ∷ q ∷ r ∷ t ∷ [])) ≡ cond (t == 61) (cond (r == 61) (slice_index dec q % 16 == 0) (slice_index dec r % 4 == 0)) (known dec r && known dec t)
unfolding scan_steps
behind_two dec p q r t hp kp hq kq plain =
    split (r == 61)
    (λ hr. split (t == 61)
    (λ ht. rw (hp, kp, hq, kq, hr, ht, scan_steps) (by_bits (slice_index dec q % 16 == 0) _))
    (λ ht. rw (hp, kp, hq, kq, hr, ht, unknown_padding dec r plain hr, scan_steps) refl))
    (λ hr. split (slice_index dec r == 255)
    (λ kr. split (t == 61)
    (λ ht. rw (hp, kp, hq, kq, hr, kr, ht, scan_steps) (rw (eqb-true (slice_index dec r) 255 kr) refl))
    (λ ht. rw (hp, kp, hq, kq, hr, kr, ht, scan_steps) refl))
    (λ kr. split (t == 61)
    (λ ht. rw (hp, kp, hq, kq, hr, kr, ht, scan_steps) (by_bits (slice_index dec r % 4 == 0) _))
    (λ ht. split (slice_index dec t == 255)
    (λ kt. rw (hp, kp, hq, kq, hr, kr, ht, kt, scan_steps) refl)
    (λ kt. rw (hp, kp, hq, kq, hr, kr, ht, kt, scan_steps) refl))))

-- `is_whole_group`, of any table
abbrev group_test : List ℕ → ℕ → ℕ → ℕ → ℕ → Bool
group_test dec p q r t = cond (t == 61) (cond (r == 61) (known dec p && (slice_index dec q % 16 == 0)) (known dec p && (known dec q && (slice_index dec r % 4 == 0)))) (known dec p && (known dec q && (known dec r && known dec t)))

both_false : (b c : Bool) → cond b (cond c false false) false ≡ false
both_false true true = refl
both_false true false = refl
both_false false c = refl

test_by_first : (dec : List ℕ) (p q r t : ℕ) → (slice_index dec p == 255) ≡ true → group_test dec p q r t ≡ false
test_by_first dec p q r t kp = rw kp (both_false (t == 61) (r == 61))

test_by_second : (dec : List ℕ) (p q r t : ℕ) → (slice_index dec p == 255) ≡ false → slice_index dec q ≡ 255 → group_test dec p q r t ≡ false
test_by_second dec p q r t kp kq = rw (kp, kq) (both_false (t == 61) (r == 61))

test_by_rest : (dec : List ℕ) (p q r t : ℕ) → (slice_index dec p == 255) ≡ false → (slice_index dec q == 255) ≡ false
    → group_test dec p q r t ≡ cond (t == 61) (cond (r == 61) (slice_index dec q % 16 == 0) (slice_index dec r % 4 == 0)) (known dec r && known dec t)
test_by_rest dec p q r t kp kq = rw (kp, kq) refl

of_four : (dec : List ℕ) (p q r t : ℕ) → IsPlainTable dec → is_none (refusal_of dec (p ∷ q ∷ r ∷ t ∷ [])) ≡ group_test dec p q r t
of_four dec p q r t plain =
    split (p == 61)
    (λ hp. first_is_padding dec p q r t hp ∙ sym (test_by_first dec p q r t (ap (λ (n : ℕ). n == 255) (unknown_padding dec p plain hp))))
    (λ hp. split (slice_index dec p == 255)
    (λ kp. first_is_unknown dec p q r t hp kp ∙ sym (test_by_first dec p q r t kp))
    (λ kp. split (q == 61)
    (λ hq. second_is_padding dec p q r t hp kp hq ∙ sym (test_by_second dec p q r t kp (unknown_padding dec q plain hq)))
    (λ hq. split (slice_index dec q == 255)
    (λ kq. second_is_unknown dec p q r t hp kp hq kq ∙ sym (test_by_second dec p q r t kp (eqb-true (slice_index dec q) 255 kq)))
    (λ kq. behind_two dec p q r t hp kp hq kq plain ∙ sym (test_by_rest dec p q r t kp kq)))))

-- ---- a text of one group at most

as_it_stands : (t : List ℕ) → missing_padding t ≡ 0 → bytes_of_text t ≡ decoded_of standard (map standard_digit t)
as_it_stands t none = read_in_standard_form t ∙ ap (λ (m : ℕ). decoded_of standard (map standard_digit t ++ replicate m 61)) none ∙ ap (decoded_of standard) (append-nil (map standard_digit t))

unrefused : (x : Option DecodeError) (b : List ℕ) → is_some (result_ok (decode_outcome x b)) ≡ is_none x
unrefused None b = refl
unrefused (Some e) b = refl

standard_is_plain : IsPlainTable standard.decode_table
standard_is_plain = refl

four_decoded : (p q r t : ℕ) → is_some (decoded_of standard (p ∷ q ∷ r ∷ t ∷ [])) ≡ group_test standard.decode_table p q r t
unfolding decoded_of groups_error
four_decoded p q r t = unrefused _ _ ∙ of_four standard.decode_table p q r t standard_is_plain

three_refused : (dec : List ℕ) (p q r : ℕ) → is_none (refusal_of dec (p ∷ q ∷ r ∷ [])) ≡ false
unfolding scan_steps
three_refused dec p q r =
    split (p == 61) (λ hp. rw (hp, scan_steps) refl)
    (λ hp. split (slice_index dec p == 255) (λ kp. rw (hp, kp, scan_steps) refl)
    (λ kp. split (q == 61) (λ hq. rw (hp, kp, hq, scan_steps) refl)
    (λ hq. split (slice_index dec q == 255) (λ kq. rw (hp, kp, hq, kq, scan_steps) refl)
    (λ kq. split (r == 61) (λ hr. rw (hp, kp, hq, kq, hr, scan_steps) refl)
    (λ hr. split (slice_index dec r == 255) (λ kr. rw (hp, kp, hq, kq, hr, kr, scan_steps) refl) (λ kr. rw (hp, kp, hq, kq, hr, kr, scan_steps) refl))))))

two_refused : (dec : List ℕ) (p q : ℕ) → is_none (refusal_of dec (p ∷ q ∷ [])) ≡ false
unfolding scan_steps
two_refused dec p q =
    split (p == 61) (λ hp. rw (hp, scan_steps) refl)
    (λ hp. split (slice_index dec p == 255) (λ kp. rw (hp, kp, scan_steps) refl)
    (λ kp. split (q == 61) (λ hq. rw (hp, kp, hq, scan_steps) refl)
    (λ hq. split (slice_index dec q == 255) (λ kq. rw (hp, kp, hq, kq, scan_steps) refl) (λ kq. rw (hp, kp, hq, kq, scan_steps) refl))))

one_refused : (dec : List ℕ) (p : ℕ) → is_none (refusal_of dec (p ∷ [])) ≡ false
unfolding scan_steps
one_refused dec p =
    split (p == 61) (λ hp. rw (hp, scan_steps) refl)
    (λ hp. split (slice_index dec p == 255) (λ kp. rw (hp, kp, scan_steps) refl) (λ kp. rw (hp, kp, scan_steps) refl))

three_decoded : (p q r : ℕ) → is_some (decoded_of standard (p ∷ q ∷ r ∷ [])) ≡ false
unfolding decoded_of groups_error
three_decoded p q r = unrefused _ _ ∙ three_refused standard.decode_table p q r

two_decoded : (p q : ℕ) → is_some (decoded_of standard (p ∷ q ∷ [])) ≡ false
unfolding decoded_of groups_error
two_decoded p q = unrefused _ _ ∙ two_refused standard.decode_table p q

none_behind : (x y : Option DecodeError) → is_none y ≡ false → is_none (or_else x y) ≡ false
none_behind None y h = h
none_behind (Some e) y h = refl

one_decoded : (p : ℕ) → is_some (decoded_of standard (p ∷ [])) ≡ false
unfolding decoded_of groups_error
one_decoded p = unrefused _ _ ∙ none_behind _ _ (one_refused standard.decode_table p)

zero_both : (b : Bool) → ◌≡◌ {A = ℕ} (cond b 0 0) 0
zero_both true = refl
zero_both false = refl

and_false : (b : Bool) → (b && false) ≡ false
and_false true = refl
and_false false = refl

-- where it has some padding, it lacks none
whole : (t : List ℕ) → list_any is_padding t ≡ true → is_some (bytes_of_text t) ≡ is_some (decoded_of standard (map standard_digit t))
whole t some = ap is_some (as_it_stands t (rw some refl))

-- else it lacks so many
lacking : (t : List ℕ) (m : ℕ) → missing_padding t ≡ m → is_some (bytes_of_text t) ≡ is_some (decoded_of standard (map standard_digit t ++ replicate m 61))
lacking t m is = ap is_some (read_in_standard_form t) ∙ ap (λ (n : ℕ). is_some (decoded_of standard (map standard_digit t ++ replicate n 61))) is

none_decoded : is_some (decoded_of standard []) ≡ true
unfolding decoded_of groups_error scan_steps
none_decoded = refl

of_one : (a : ℕ) → is_some (bytes_of_text (a ∷ [])) ≡ false
of_one a =
    split (is_padding a)
    (λ ha. whole (a ∷ []) (rw ha refl) ∙ one_decoded (standard_digit a))
    (λ ha. lacking (a ∷ []) 3 (rw ha refl) ∙ four_decoded (standard_digit a) 61 61 61 ∙ and_false _)

of_two : (a b : ℕ) → a < 256 → is_some (bytes_of_text (a ∷ b ∷ [])) ≡ is_one_byte a b
of_two a b byte =
    split (is_padding a)
    (λ ha. whole (a ∷ b ∷ []) (rw ha refl) ∙ two_decoded (standard_digit a) (standard_digit b) ∙ sym (ap (λ (n : ℕ). is_one_byte n b) (eqb-true a 61 ha)))
    (λ ha. split (is_padding b)
    (λ hb. whole (a ∷ b ∷ []) (rw (ha, hb) refl) ∙ two_decoded (standard_digit a) (standard_digit b) ∙ sym (ap (λ (n : ℕ). is_one_byte a n) (eqb-true b 61 hb) ∙ and_false (is_digit a)))
    (λ hb. lacking (a ∷ b ∷ []) 2 (rw (ha, hb) refl) ∙ four_decoded (standard_digit a) (standard_digit b) 61 61 ∙ rw (digit_known a byte) refl))

of_three : (a b c : ℕ) → a < 256 → b < 256 → is_some (bytes_of_text (a ∷ b ∷ c ∷ [])) ≡ is_two_bytes a b c
of_three a b c one two =
    split (is_padding a)
    (λ ha. whole (a ∷ b ∷ c ∷ []) (rw ha refl) ∙ three_decoded (standard_digit a) (standard_digit b) (standard_digit c) ∙ sym (ap (λ (n : ℕ). is_two_bytes n b c) (eqb-true a 61 ha)))
    (λ ha. split (is_padding b)
    (λ hb. whole (a ∷ b ∷ c ∷ []) (rw (ha, hb) refl) ∙ three_decoded (standard_digit a) (standard_digit b) (standard_digit c) ∙ sym (ap (λ (n : ℕ). is_two_bytes a n c) (eqb-true b 61 hb) ∙ and_false (is_digit a)))
    (λ hb. split (is_padding c)
    (λ hc. whole (a ∷ b ∷ c ∷ []) (rw (ha, hb, hc) refl) ∙ three_decoded (standard_digit a) (standard_digit b) (standard_digit c)
    ∙ sym (ap (λ (n : ℕ). is_two_bytes a b n) (eqb-true c 61 hc) ∙ ap (λ (z : Bool). is_digit a && z) (and_false (is_digit b)) ∙ and_false (is_digit a)))
    (λ hc. lacking (a ∷ b ∷ c ∷ []) 1 (rw (ha, hb, hc) refl) ∙ four_decoded (standard_digit a) (standard_digit b) (standard_digit c) 61
    ∙ rw (is_padding-standard_digit c, hc, digit_known a one, digit_known b two) refl)))

of_whole : (a b c d : ℕ) → a < 256 → b < 256 → c < 256 → d < 256 → is_some (bytes_of_text (a ∷ b ∷ c ∷ d ∷ [])) ≡ is_whole_group a b c d
of_whole a b c d one two three last =
    ap is_some (as_it_stands (a ∷ b ∷ c ∷ d ∷ []) (zero_both _)) ∙ four_decoded (standard_digit a) (standard_digit b) (standard_digit c) (standard_digit d)
    ∙ rw (is_padding-standard_digit d, is_padding-standard_digit c, digit_known a one, digit_known b two, digit_known c three, digit_known d last) refl

pub of_one_group : (t : List ℕ) → ((i : ℕ) → slice_index t i < 256) → length t ≤ 4 → is_some (bytes_of_text t) ≡ is_last_group t
of_one_group [] bytes few = ap is_some (as_it_stands [] refl) ∙ none_decoded
of_one_group (a ∷ []) bytes few = of_one a
of_one_group (a ∷ b ∷ []) bytes few = of_two a b (bytes 0)
of_one_group (a ∷ b ∷ c ∷ []) bytes few = of_three a b c (bytes 0) (bytes 1)
of_one_group (a ∷ b ∷ c ∷ d ∷ []) bytes few = of_whole a b c d (bytes 0) (bytes 1) (bytes 2) (bytes 3)
of_one_group (a ∷ b ∷ c ∷ d ∷ e ∷ t) bytes few = absurd (omega arith)
