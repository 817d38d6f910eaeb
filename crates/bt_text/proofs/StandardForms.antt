-- What becomes of a text before it is decoded.
use Rattle.std.proofs.Common.{◌≡◌, ℕ, ◌%◌, ◌==◌, List, [], ◌∷◌, ◌++◌, length, replicate, map, true, false, not, refl, arith, rules}
use Rattle.std.specs.List.{list_any}
use Rattle.std.proofs.lemmas.Grind.{common_steps}
use Rattle.std.proofs.lemmas.Bool.{or_parts, and_parts, not-true, eqb-true, cond_both}
use Rattle.std.proofs.lemmas.List.{append-nil}
use Rattle.std.proofs.lemmas.Bool.Decides.{nat_tests}
use Rattle.base64.specs.Engines.{standard}
use Rattle.base64.specs.GeneralPurpose.{decoded_of}
use Rattle.bt_text.specs.Bytes.{is_url_safe_digit, standard_digit, is_padding, missing_padding, bytes_of_text, is_standard_text}

-- a digit becomes no padding, and padding stays
pub is_padding-standard_digit : (c : ℕ) → is_padding (standard_digit c) ≡ is_padding c
is_padding-standard_digit c = grind (arith, nat_tests)

-- so a text has padding in its standard form where it has any
any_padding : (t : List ℕ) → list_any is_padding (map standard_digit t) ≡ list_any is_padding t
any_padding [] = refl
any_padding (c ∷ t) = rw (is_padding-standard_digit c, any_padding t) refl

missing_padding-map : (t : List ℕ) → missing_padding (map standard_digit t) ≡ missing_padding t
missing_padding-map t = rw (any_padding t) (search (rules, common_steps))

-- a standard digit stays
kept : (c : ℕ) → is_url_safe_digit c ≡ false → standard_digit c ≡ c
kept c h = grind (arith, nat_tests)

-- so a text of standard digits stays
all_kept : (t : List ℕ) → list_any is_url_safe_digit t ≡ false → map standard_digit t ≡ t
all_kept [] h = refl
all_kept (c ∷ t) h =
    let none = or_parts (is_url_safe_digit c) (list_any is_url_safe_digit t) h in
    rw (kept c none.0, all_kept t none.1) refl

-- a text of whole groups lacks no padding
nothing_missing : (t : List ℕ) → length t % 4 ≡ 0 → missing_padding t ≡ 0
nothing_missing t h = cond_both (list_any is_padding t) 0 _ (λ n. n ≡ 0) (λ _. refl) (λ _. rw h refl)

-- what `is_standard_text` promises
pub read_as_it_is : (t : List ℕ) → is_standard_text t ≡ true → bytes_of_text t ≡ decoded_of standard t
unfolding bytes_of_text
read_as_it_is t h =
    let parts = and_parts (length t % 4 == 0) (not (list_any is_url_safe_digit t)) h in
    let kept_all : map standard_digit t ≡ t = all_kept t (not-true _ parts.1) in
    let whole : missing_padding t ≡ 0 = nothing_missing t (eqb-true _ _ parts.0) in
    rw (kept_all, whole, append-nil) refl

-- what `standard_form` makes is what is decoded
pub read_in_standard_form : (t : List ℕ) → bytes_of_text t ≡ decoded_of standard (map standard_digit t ++ replicate (missing_padding t) 61)
unfolding bytes_of_text
read_in_standard_form t = rw (← missing_padding-map t) refl
