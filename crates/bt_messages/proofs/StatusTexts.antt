-- The statuses of entries are spelled as their values are printed.
use Rattle.std.proofs.Common.{◌≡◌, ◌≢◌, ℕ, zero, suc, ◌<◌, ◌≤◌, ◌^◌, List, [], ◌∷◌, ◌++◌, true, false, true≢false, not, ◌+◌, ◌==◌, append_assoc, length, get_or, drop, drop-cons, subst, refl, ap, ◌∙◌, sym, arith, decimal, pos}
use Rattle.std.specs.Prelude.{codes}
use Rattle.std.specs.Str.Parse.{AllDigits}
use Rattle.std.proofs.lemmas.Bool.{ne_eqb}
use Rattle.std.proofs.lemmas.Fmt.{decimal_is_IsNumeral}
use Rattle.std.proofs.lemmas.List.{drop_all}
use Rattle.std.proofs.lemmas.Str.Parse.{digit_from_value}
use Rattle.json.specs.Print.{escape, escape_byte}
use Rattle.json.proofs.Printed.Strings.{escape_byte_plain}
use Rattle.serde_json.specs.View.{items_of}
use Rattle.serde_json.specs.Written.{comma_if, compact_text, items_text}
use Rattle.bt_messages.specs.Lines.{line_of, response_data, status_members}
use Rattle.bt_messages.specs.Statuses.{place_text, entry_text, entries_text}
use Rattle.bt_messages.specs.Responses.{shown_status, shown_statuses, shown_statuses_from}
use Rattle.bt_messages.specs.declared.response.EntryStatus.{EntryStatus}

-- JSON escapes no digit
digits_kept : (ds : List ℕ) → AllDigits 10 ds → escape ds ≡ ds
digits_kept [] d = refl
digits_kept (c ∷ cs) d =
    let k = digit_from_value c d.0 in
    rw (escape_byte_plain c (λ e. omega arith) (λ e. omega arith) (omega arith), digits_kept cs d.1) refl

decimal_kept : (n : ℕ) → n < 2 ^ 64 → escape (decimal n) ≡ decimal n
decimal_kept n h = digits_kept (decimal n) (decimal_is_IsNumeral n h).0.1

regroup : (d b x r : List ℕ) → b ++ x ≡ 34 ∷ r → (d ++ b) ++ x ≡ (d ++ 34 ∷ []) ++ r
regroup d b x r e = append_assoc d b x ∙ ap (λ s. d ++ s) e ∙ sym (append_assoc d (34 ∷ []) r)

one_spelled : (index : ℕ) (status : EntryStatus) → index < 2 ^ 64 → place_text index ++ (compact_text (status_members status.code status.text) ++ 125 ∷ []) ≡ entry_text index status
unfolding place_text entry_text escape_byte
one_spelled zero status h = refl
one_spelled (suc index) status h =
    let said = compact_text (status_members status.code status.text) ++ 125 ∷ [] in
    let grouped = regroup (decimal (suc index)) (codes "\",\"status\":") said (codes ",\"status\":" ++ said) refl in
    rw (ne_eqb (suc index) 0 (λ z. omega arith), decimal_kept (suc index) h) (ap (λ s. codes ",{\"index\":\"" ++ s) grouped)

-- an entry by its parts
pub entry_spelled : (out : List ℕ) (index : ℕ) (status : EntryStatus) → index < 2 ^ 64
    → ((out ++ place_text index) ++ compact_text (status_members status.code status.text)) ++ 125 ∷ [] ≡ out ++ entry_text index status
entry_spelled out index status h =
    let said = compact_text (status_members status.code status.text) in
    append_assoc (out ++ place_text index) said (125 ∷ []) ∙ append_assoc out (place_text index) (said ++ 125 ∷ []) ∙ ap (λ s. out ++ s) (one_spelled index status h)

-- what stands before the status of the first entry
pub first_place : (out : List ℕ) (index : ℕ) → index ≡ 0 → out ++ codes "{\"status\":" ≡ out ++ place_text index
unfolding place_text
first_place out index e = rw e refl

-- what stands before the status of an entry but the first
pub later_place : (out : List ℕ) (index : ℕ) → index ≢ 0 → ((out ++ codes ",{\"index\":\"") ++ decimal index) ++ codes "\",\"status\":" ≡ out ++ place_text index
unfolding place_text
later_place out index later = rw (ne_eqb index 0 later, append_assoc, append_assoc) refl

-- an entry more
pub entries_more : (done whole : List ℕ) (index : ℕ) (status : EntryStatus) (rest : List EntryStatus) → done ++ entries_text index (status ∷ rest) ≡ whole → (done ++ entry_text index status) ++ entries_text (index + 1) rest ≡ whole
unfolding entry_text entries_text
entries_more done whole index status rest e =
    let later : not (index + 1 == 0) ≡ true = ap not (ne_eqb (index + 1) 0 (λ z. omega arith)) in
    let left = items_of (shown_statuses_from (index + 1) rest) in
    ap (λ s. (done ++ entry_text index status) ++ s) (ap (λ b. items_text b left) later)
    ∙ append_assoc done (entry_text index status) (items_text true left)
    ∙ ap (λ s. done ++ s) (append_assoc (comma_if (not (index == 0))) (compact_text (shown_status index status)) (items_text true left)) ∙ e

pub entries_step : (done whole : List ℕ) (index : ℕ) (status : EntryStatus) (ss : List EntryStatus) → index < length ss → status ≡ get_or ss index status
    → done ++ entries_text index (drop index ss) ≡ whole → (done ++ entry_text index status) ++ entries_text (index + 1) (drop (index + 1) ss) ≡ whole
entries_step done whole index status ss lt is e =
    let one : suc index ≡ index + 1 = omega arith in
    let cut : drop index ss ≡ status ∷ drop (index + 1) ss = drop-cons ss index status lt ∙ ap (λ s. s ∷ drop (suc index) ss) (sym is) ∙ ap (λ k. status ∷ drop k ss) one in
    entries_more done whole index status (drop (index + 1) ss) (subst (λ l. done ++ entries_text index l ≡ whole) cut e)

-- after the last entry
pub entries_end : (done whole : List ℕ) (index : ℕ) (ss : List EntryStatus) → length ss ≤ index → done ++ entries_text index (drop index ss) ≡ whole → done ++ 93 ∷ [] ≡ whole
unfolding entries_text
entries_end done whole index ss le e = subst (λ l. done ++ entries_text index l ≡ whole) (drop_all index ss le) e

-- no entries
pub none_spelled : (ss : List EntryStatus) → true ≡ (length ss == 0) → codes "{\"response\":{}}\n" ≡ line_of (response_data (shown_statuses ss))
unfolding line_of escape_byte
none_spelled [] h = refl
none_spelled (s ∷ ss) h = absurd (true≢false (h ∙ ne_eqb (length (s ∷ ss)) 0 (λ z. omega arith)))

-- some entries
pub some_spelled : (ss : List EntryStatus) → false ≡ (length ss == 0) → (codes "{\"response\":{\"entries\":[" ++ entries_text 0 ss) ++ codes "}}\n" ≡ line_of (response_data (shown_statuses ss))
unfolding line_of entries_text escape_byte
some_spelled ss h =
    let items = items_text false (items_of (shown_statuses_from 0 ss)) in
    let closed = append_assoc (items ++ 125 ∷ []) (125 ∷ []) (10 ∷ []) ∙ append_assoc items (125 ∷ []) (125 ∷ 10 ∷ []) in
    rw (← h) (ap (λ s. codes "{\"response\":{\"entries\":[" ++ s) (sym closed))
