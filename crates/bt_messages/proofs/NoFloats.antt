-- No reply has a float in it.
use Rattle.std.proofs.Common.{◌≡◌, ℕ, List, [], ◌∷◌, Option, Some, None, Bool, true, false, ◌||◌, Ordering, Less, Equal, Greater, refl, ap, ◌∙◌, subst}
use Rattle.std.specs.Prelude.{codes, map, not, pos, ◌+◌, ◌==◌}
use Rattle.std.specs.Fmt.{signed_decimal}
use Rattle.std.specs.Ordering.{nat_cmp, match_ordering}
use Rattle.std.specs.Cmp.Lexicographic.{slice_cmp}
use Rattle.bt_chunks.specs.declared.chunk.Chunk.{Chunk}
use Rattle.bt_rules.specs.declared.family.Family.{Family}
use Rattle.bt_rules.specs.declared.rule.Rule.{Rule}
use Rattle.bt_rules.specs.declared.rule.Rule.TheOpen.{Rule-F}
use Rattle.bt_rules.specs.declared.rule.Rule.TheFolds.{fold-roll-Rule, ind-Rule, map-Rule}
use Rattle.bt_entry.specs.declared.table_info.TableInfo.{TableInfo}
use Rattle.bt_types.specs.declared.cell.Cell.{Cell}
use Rattle.serde_json.specs.Data.{Data, array, boolean, number, string, unsigned, object, Members, no_members, member, put}
use Rattle.serde_json.specs.View.{items_of}
use Rattle.serde_json.specs.Written.{has_float, items_have_float, members_have_float}
use Rattle.bt_messages.specs.Values.{shown_bytes, shown_label, shown_name}
use Rattle.bt_messages.specs.Lines.{is_nonempty, is_nonzero, object_with, response_data, status_data, status_members, with_bytes, with_if, with_int64, with_items, with_number, with_some, with_text}
use Rattle.bt_messages.specs.Rows.{family_of, is_same_column, is_same_family, qualifier_of, runs_of, shown_cell, shown_column, shown_row}
use Rattle.bt_messages.specs.Rows as rows
use Rattle.bt_messages.specs.Responses.{families_onto, shown, shown_families, shown_family, shown_match, shown_node, shown_rule, shown_rules, shown_stream, shown_table_name, shown_table_names, shown_chunk, shown_chunks, shown_table}
use Rattle.bt_messages.specs.Statuses.{has_statuses}
use Rattle.bt_messages.specs.declared.response.Response.{Response}
use Rattle.bt_messages.specs.declared.response.Response.TheVariants.{CreateTable, GetTable, ListTables, DeleteTable, UpdateTable, ModifyColumnFamilies, DropRowRange, MutateRow, MutateRows, ReadRows, CheckAndMutateRow, ReadModifyWriteRow}

neither : (a b : Bool) → a ≡ false → b ≡ false → (a || b) ≡ false
neither a b p q = rw p q

left : (a b : Bool) → (a || b) ≡ false → a ≡ false
left false b h = refl
left true b h = h

right : (a b : Bool) → (a || b) ≡ false → b ≡ false
right false b h = h
right true b h = absurd (cc)

put_at : (o : Ordering) (k l : List ℕ) (d e : Data) (ms : Members) → has_float d ≡ false → members_have_float (member l e ms) ≡ false → members_have_float (put k d ms) ≡ false
    → members_have_float (match_ordering o (member k d (member l e ms)) (member l d ms) (member l e (put k d ms))) ≡ false
put_at Less k l d e ms p q r = neither (has_float d) (members_have_float (member l e ms)) p q
put_at Equal k l d e ms p q r = neither (has_float d) (members_have_float ms) p (right (has_float e) (members_have_float ms) q)
put_at Greater k l d e ms p q r = neither (has_float e) (members_have_float (put k d ms)) (left (has_float e) (members_have_float ms) q) r

put_plain : (k : List ℕ) (d : Data) (ms : Members) → has_float d ≡ false → members_have_float ms ≡ false → members_have_float (put k d ms) ≡ false
put_plain k d no_members p q = neither (has_float d) false p refl
put_plain k d (member l e ms) p q = put_at (slice_cmp nat_cmp k l) k l d e ms p q (put_plain k d ms p (right (has_float e) (members_have_float ms) q))

with_if_plain : (b : Bool) (k : List ℕ) (d : Data) (ms : Members) → has_float d ≡ false → members_have_float ms ≡ false → members_have_float (with_if b k d ms) ≡ false
with_if_plain true k d ms p q = put_plain k d ms p q
with_if_plain false k d ms p q = q

with_some_plain : {A : Type 0} (k : List ℕ) (show : A → Data) (o : Option A) (ms : Members) → ((x : A) → has_float (show x) ≡ false) → members_have_float ms ≡ false → members_have_float (with_some k show o ms) ≡ false
with_some_plain k show None ms p q = q
with_some_plain k show (Some x) ms p q = put_plain k (show x) ms (p x) q

-- no float is in a list of what is shown of each
each_plain : {A : Type 0} (show : A → Data) (xs : List A) → ((x : A) → has_float (show x) ≡ false) → items_have_float (items_of (map show xs)) ≡ false
each_plain show [] p = refl
each_plain show (x ∷ xs) p = neither (has_float (show x)) (items_have_float (items_of (map show xs))) (p x) (each_plain show xs p)

with_items_plain : {A : Type 0} (k : List ℕ) (show : A → Data) (xs : List A) (ms : Members) → ((x : A) → has_float (show x) ≡ false) → members_have_float ms ≡ false → members_have_float (with_items k (map show xs) ms) ≡ false
with_items_plain k show xs ms p q = with_if_plain (is_nonempty (map show xs)) k (array (items_of (map show xs))) ms (each_plain show xs p) q

members_plain : (code : ℕ) (text : List ℕ) → has_float (status_members code text) ≡ false
members_plain code text =
    let said : members_have_float (with_text (codes "message") text no_members) ≡ false = with_if_plain (is_nonempty text) (codes "message") (string text) no_members refl refl in
    with_if_plain (not (code == 0)) (codes "code") (number (unsigned code)) (with_text (codes "message") text no_members) refl said

pub status_plain : (code : ℕ) (text : List ℕ) → has_float (status_data code text) ≡ false
status_plain code text = neither (has_float (status_members code text)) false (members_plain code text) refl

-- no float is in what is shown of a rule
abbrev IsPlain : Rule → Type 0
IsPlain rule = has_float (shown_rule rule) ≡ false

abbrev PlainRule : Type 0
PlainRule = (r : Rule) × IsPlain r

abbrev its_rule : PlainRule → Rule
its_rule p = p.0

rules_plain : (ps : List PlainRule) → items_have_float (items_of (map shown_rule (map its_rule ps))) ≡ false
rules_plain [] = refl
rules_plain (p ∷ ps) = neither (has_float (shown_rule (its_rule p))) (items_have_float (items_of (map shown_rule (map its_rule ps)))) p.1 (rules_plain ps)

abbrev NodeIsPlain : Rule-F Rule → Type 0
NodeIsPlain x = has_float (shown_node (map-Rule Rule Data shown_rule x)) ≡ false

-- a list of rules, in an object of one member
listed_plain : (key : List ℕ) (ps : List PlainRule) → has_float (object_with key (shown_rules (map shown_rule (map its_rule ps)))) ≡ false
listed_plain key ps = neither _ false (neither _ false (rules_plain ps) refl) refl

node_plain : (y : Rule-F PlainRule) → NodeIsPlain (map-Rule PlainRule Rule its_rule y)
node_plain (Rule-F.Versions n) = refl
node_plain (Rule-F.Age n) = refl
node_plain (Rule-F.Intersection parts) = listed_plain (codes "intersection") parts
node_plain (Rule-F.Union parts) = listed_plain (codes "union") parts

rule_plain : (r : Rule) → IsPlain r
rule_plain = ind-Rule IsPlain (λ x y is. ap has_float (fold-roll-Rule Data shown_node x) ∙ subst NodeIsPlain is (node_plain y))

family_plain : (f : Family) → has_float (shown_family f) ≡ false
family_plain f = with_some_plain (codes "gcRule") shown_rule f.rule no_members rule_plain refl

families_plain : (ms : Members) (fs : List Family) → members_have_float ms ≡ false → members_have_float (families_onto ms fs) ≡ false
families_plain ms [] q = q
families_plain ms (f ∷ fs) q = families_plain (put f.name (shown_family f) ms) fs (put_plain f.name (shown_family f) ms (family_plain f) q)

shown_table_plain : (t : TableInfo) → has_float (shown_table t) ≡ false
shown_table_plain t =
    let named = put (codes "granularity") (string (codes "MILLIS")) (put (codes "name") (string t.name) no_members) in
    let families = with_if (is_nonempty t.families) (codes "columnFamilies") (shown_families t.families) named in
    let p : members_have_float families ≡ false = with_if_plain (is_nonempty t.families) (codes "columnFamilies") (shown_families t.families) named (families_plain no_members t.families refl) refl in
    with_if_plain (not (t.retention == 0)) (codes "changeStreamConfig") (shown_stream t.retention) families refl p

pub table_plain : (t : TableInfo) → has_float (response_data (shown_table t)) ≡ false
table_plain t = neither (has_float (shown_table t)) false (shown_table_plain t) refl

shown_names_plain : (names : List (List ℕ)) → has_float (shown_table_names names) ≡ false
shown_names_plain names = with_if_plain (is_nonempty names) (codes "tables") (array (items_of (map shown_table_name names))) no_members (each_plain shown_table_name names (λ n. refl)) refl

shown_chunk_plain : (c : Chunk) → has_float (shown_chunk c) ≡ false
shown_chunk_plain c =
    let size = with_number (codes "valueSize") c.size no_members in
    let value = with_bytes (codes "value") c.value size in
    let time = with_int64 (codes "timestampMicros") c.at value in
    let row = with_bytes (codes "rowKey") c.key time in
    let column = with_some (codes "qualifier") shown_bytes c.qualifier row in
    let labels = with_some (codes "labels") shown_label c.label column in
    let family = with_some (codes "familyName") shown_name c.family labels in
    let p0 : members_have_float size ≡ false = with_if_plain (not (c.size == 0)) (codes "valueSize") (number (unsigned c.size)) no_members refl refl in
    let p1 : members_have_float value ≡ false = with_if_plain (is_nonempty c.value) (codes "value") (shown_bytes c.value) size refl p0 in
    let p2 : members_have_float time ≡ false = with_if_plain (is_nonzero c.at) (codes "timestampMicros") (string (signed_decimal c.at)) value refl p1 in
    let p3 : members_have_float row ≡ false = with_if_plain (is_nonempty c.key) (codes "rowKey") (shown_bytes c.key) time refl p2 in
    let p4 : members_have_float column ≡ false = with_some_plain (codes "qualifier") shown_bytes c.qualifier row (λ b. refl) p3 in
    let p5 : members_have_float labels ≡ false = with_some_plain (codes "labels") shown_label c.label column (λ t. refl) p4 in
    let p6 : members_have_float family ≡ false = with_some_plain (codes "familyName") shown_name c.family labels (λ b. refl) p5 in
    with_if_plain c.commit (codes "commitRow") (boolean true) family refl p6

shown_chunks_plain : (cs : List Chunk) → has_float (shown_chunks cs) ≡ false
shown_chunks_plain cs = with_if_plain (is_nonempty cs) (codes "chunks") (array (items_of (map shown_chunk cs))) no_members (each_plain shown_chunk cs shown_chunk_plain) refl

cell_plain : (c : Cell) → has_float (shown_cell c) ≡ false
cell_plain c =
    let value = with_bytes (codes "value") c.value no_members in
    let p : members_have_float value ≡ false = with_if_plain (is_nonempty c.value) (codes "value") (shown_bytes c.value) no_members refl refl in
    with_if_plain (is_nonzero (pos c.at)) (codes "timestampMicros") (string (signed_decimal (pos c.at))) value refl p

column_plain : (cs : List Cell) → has_float (shown_column cs) ≡ false
column_plain cs =
    let named = with_bytes (codes "qualifier") (qualifier_of cs) no_members in
    let p : members_have_float named ≡ false = with_if_plain (is_nonempty (qualifier_of cs)) (codes "qualifier") (shown_bytes (qualifier_of cs)) no_members refl refl in
    with_items_plain (codes "cells") shown_cell cs named cell_plain p

columns_plain : (cs : List Cell) → has_float (rows.shown_family cs) ≡ false
columns_plain cs =
    let named = with_text (codes "name") (family_of cs) no_members in
    let p : members_have_float named ≡ false = with_if_plain (is_nonempty (family_of cs)) (codes "name") (string (family_of cs)) no_members refl refl in
    with_items_plain (codes "columns") shown_column (runs_of is_same_column cs) named column_plain p

row_plain : (key : List ℕ) (cs : List Cell) → has_float (shown_row key cs) ≡ false
row_plain key cs =
    let keyed = with_bytes (codes "key") key no_members in
    let p : members_have_float keyed ≡ false = with_if_plain (is_nonempty key) (codes "key") (shown_bytes key) no_members refl refl in
    with_items_plain (codes "families") rows.shown_family (runs_of is_same_family cs) keyed columns_plain p

match_plain : (matched : Bool) → has_float (shown_match matched) ≡ false
match_plain matched = with_if_plain matched (codes "predicateMatched") (boolean true) no_members refl refl

pub shown_plain : (r : Response) → has_statuses r ≡ false → has_float (response_data (shown r)) ≡ false
shown_plain (CreateTable t) h = table_plain t
shown_plain (GetTable t) h = table_plain t
shown_plain (ListTables names) h = neither (has_float (shown_table_names names)) false (shown_names_plain names) refl
shown_plain DeleteTable h = refl
shown_plain (UpdateTable t) h = table_plain t
shown_plain (ModifyColumnFamilies t) h = table_plain t
shown_plain DropRowRange h = refl
shown_plain MutateRow h = refl
shown_plain (MutateRows ss) h = absurd (cc)
shown_plain (ReadRows cs) h = neither (has_float (shown_chunks cs)) false (shown_chunks_plain cs) refl
shown_plain (CheckAndMutateRow matched) h = neither (has_float (shown_match matched)) false (match_plain matched) refl
shown_plain (ReadModifyWriteRow key cells) h =
    let row : has_float (object_with (codes "row") (shown_row key cells)) ≡ false = neither (has_float (shown_row key cells)) false (row_plain key cells) refl in
    neither (has_float (object_with (codes "row") (shown_row key cells))) false row refl
