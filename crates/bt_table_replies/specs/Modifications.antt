-- ModifyColumnFamilies (google.bigtable.admin.v2): families are made, changed and dropped, all or none.
use Rattle.std.specs.Prelude.{ℕ, ◌&&◌, Bool, true, false, not, nat_le, List, [], ◌∷◌, ◌++◌, length, map, filter, bytes_eq, Option, Some, None, Result, Ok, Err, if◌then◌else◌}
use Rattle.std.specs.List.{flat_map, list_any}
use Rattle.std.specs.Ordering.{nat_cmp, match_ordering}
use Rattle.std.specs.Cmp.Lexicographic.{slice_cmp}
use Rattle.bt_types.specs.Grammar.{is_family_name}
use Rattle.bt_types.specs.declared.cell.Cell.{Cell}
use Rattle.bt_types.specs.declared.mutation.Mutation.{Mutation}
use Rattle.bt_types.specs.declared.mutation.Mutation.TheVariants.{DeleteFamily}
use Rattle.bt_rules.specs.declared.family.Family.{Family}
use Rattle.bt_rules.specs.declared.rule.Rule.{Rule}
use Rattle.bt_rules.specs.Rules.{is_lawful_or_none}
use Rattle.bt_entry.specs.Grammar.{most_families}
use Rattle.bt_entry.specs.declared.entry.Entry.TheVariants.{Alter, Row}
use Rattle.bt_entry.specs.declared.table_info.TableInfo.{TableInfo}
use Rattle.bt_messages.specs.Lines.{line_of, ok_line, response_data}
use Rattle.bt_messages.specs.Responses.{shown}
use Rattle.bt_messages.specs.declared.refusal.Refusal.{Refusal}
use Rattle.bt_messages.specs.declared.refusal.Refusal.TheVariants as refusal
use Rattle.bt_messages.specs.declared.response.Response.TheVariants.{ModifyColumnFamilies}
use Rattle.bt_requests.specs.declared.families.FamilyChange.{FamilyChange}
use Rattle.bt_requests.specs.declared.families.FamilyChange.TheVariants.{Missing, Create, Update, Drop}
use Rattle.bt_requests.specs.declared.families.Modification.{Modification}
use Rattle.bt_contents.specs.Contents.{Contents}
use Rattle.bt_schema.specs.Schema.{is_family_of, with_families}
use Rattle.bt_state.specs.State.{Event, Present, rows_of}
use Rattle.bt_plans.specs.Replies.{Reply, event, refused}

-- ---- what becomes of the families

abbrev pub family : List ℕ → Option Rule → Family
family name rule = record { name = name; rule = rule }

-- the families, with this one in its place and in place of the one of its name
abbrev pub with_family : Family → List Family → List Family
with_family f [] = f ∷ []
with_family f (g ∷ gs) = match_ordering (slice_cmp nat_cmp f.name g.name) (f ∷ g ∷ gs) (f ∷ gs) (g ∷ with_family f gs)

abbrev pub without_family : List ℕ → List Family → List Family
without_family name families = filter (λ f. not (bytes_eq f.name name)) families

-- the families after a change of the one of that name, or why it is refused
abbrev pub after_change : List ℕ → FamilyChange → List Family → Result (List Family) Refusal
after_change name Missing families = Err refusal.ModificationWithoutKind
after_change name (Create rule) families =
    if not (is_family_name name) then Err refusal.BadFamilyName
    else if is_family_of families name then Err refusal.FamilyExists
    else if not (is_lawful_or_none rule) then Err refusal.BadGcRule
    else if nat_le most_families (length families) then Err refusal.TooManyFamilies
    else Ok (with_family (family name rule) families)
after_change name (Update rule) families =
    if not (is_family_name name) then Err refusal.BadFamilyName
    else if not (is_family_of families name) then Err refusal.FamilyNotFound
    else if not (is_lawful_or_none rule) then Err refusal.BadGcRule
    else Ok (with_family (family name rule) families)
after_change name (Drop false) families = Err refusal.FlagNotTrue
after_change name (Drop true) families =
    if not (is_family_name name) then Err refusal.BadFamilyName
    else if not (is_family_of families name) then Err refusal.FamilyNotFound
    else Ok (without_family name families)

-- the next step, where nothing was refused so far
abbrev pub and_then : {A : Type 0} → (A → Result A Refusal) → Result A Refusal → Result A Refusal
and_then next (Err why) = Err why
and_then next (Ok x) = next x

-- after changes in order, each seeing those before it; or why the first one that is refused is
abbrev pub after_changes : List Modification → List Family → Result (List Family) Refusal
after_changes [] families = Ok families
after_changes (m ∷ ms) families = and_then (after_changes ms) (after_change m.id m.change families)

-- ---- what becomes of the rows

abbrev pub is_drop : FamilyChange → Bool
is_drop Missing = false
is_drop (Create rule) = false
is_drop (Update rule) = false
is_drop (Drop drop) = drop

-- the families of the table that some modification drops, in byte order
abbrev pub dropped : List Modification → TableInfo → List Family
dropped ms t = filter (λ f. list_any (λ m. is_drop m.change && bytes_eq m.id f.name) ms) t.families

-- a deletion of each of these families that the row has
abbrev pub deletions : List Family → List Cell → List Mutation
deletions families row = map (λ f. DeleteFamily f.name) (filter (λ f. list_any (λ c. bytes_eq c.family f.name) row) families)

-- the entry of a row that has one of them
abbrev pub row_events : ℕ → ℕ → List ℕ → List Mutation → List Event
row_events m incarnation key [] = []
row_events m incarnation key (d ∷ ds) = event m (Row incarnation key false (d ∷ ds)) ∷ []

-- the entries of the rows that have one of them, in the order of keys
abbrev pub rows_events : ℕ → ℕ → List Family → Contents → List Event
rows_events m incarnation families rows = flat_map (λ r. row_events m incarnation r.0 (deletions families r.1)) rows

-- ---- the reply

-- one record: the rows that lose cells, and then the families
abbrev pub modified_reply : Present → ℕ → List Modification → TableInfo → Result (List Family) Refusal → Reply
modified_reply p m ms t (Err why) = refused why
modified_reply p m ms t (Ok families) = record {
  responses = line_of (response_data (shown (ModifyColumnFamilies (with_families families t)))) ∷ [];
  status = ok_line;
  records = (rows_events m t.incarnation (dropped ms t) (rows_of t.incarnation p.contents) ++ event m (Alter t.incarnation families) ∷ []) ∷ [];
}

abbrev pub modify_reply : Present → ℕ → List Modification → Option TableInfo → Reply
modify_reply p m ms None = refused refusal.TableNotFound
modify_reply p m [] (Some t) = refused refusal.NoModifications
modify_reply p m (c ∷ cs) (Some t) = modified_reply p m (c ∷ cs) t (after_changes (c ∷ cs) t.families)
