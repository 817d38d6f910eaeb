-- What requests on tables are answered.
use Rattle.std.specs.Prelude.{ℕ, ℤ, pos, negsuc, ◌+◌, ◌++◌, nat_le, nat_lt, not, Bool, false, List, [], ◌∷◌, length, map, filter, codes, bytes_eq, Option, Some, None, if◌then◌else◌}
use Rattle.std.specs.List.{list_any}
use Rattle.std.specs.Option.{option_or}
use Rattle.bt_types.specs.Grammar.{is_family_name}
use Rattle.bt_rules.specs.declared.family.Family.{Family}
use Rattle.bt_rules.specs.Rules.{is_lawful_or_none}
use Rattle.bt_entry.specs.declared.entry.Entry.TheVariants.{Create, Delete, Stream}
use Rattle.bt_entry.specs.declared.table_info.TableInfo.{TableInfo}
use Rattle.bt_entry.specs.Grammar.{is_lawful_retention, most_families}
use Rattle.bt_messages.specs.Lines.{is_nonempty}
use Rattle.bt_messages.specs.declared.refusal.Refusal.{Refusal}
use Rattle.bt_messages.specs.declared.refusal.Refusal.TheVariants as refusal
use Rattle.bt_messages.specs.declared.response.Response.TheVariants.{CreateTable, GetTable, ListTables, DeleteTable, UpdateTable}
use Rattle.bt_requests.specs.declared.families.AskedFamily.{AskedFamily}
use Rattle.bt_schema.specs.Schema.{Schema, most_tables, new_table, with_retention}
use Rattle.bt_state.specs.State.{Present}
use Rattle.bt_plans.specs.Beginnings.{begins_with}
use Rattle.bt_plans.specs.Replies.{Reply, answers, changes, refused, refused_if, unless_refused}

-- ---- CreateTable

-- families of these names and rules
abbrev pub families_of : List AskedFamily → List Family
families_of families = map (λ f. record { name = f.name; rule = f.rule }) families

-- what is wrong with a family that is to be made
abbrev pub family_refusal : AskedFamily → Option Refusal
family_refusal f =
    if not (is_family_name f.name) then Some refusal.BadFamilyName
    else if not (is_lawful_or_none f.rule) then Some refusal.BadGcRule
    else None

-- what is wrong with the first of them that has a fault
abbrev pub first_bad_family : List AskedFamily → Option Refusal
first_bad_family [] = None
first_bad_family (f ∷ fs) = option_or (family_refusal f) (first_bad_family fs)

-- a retention that was asked for is from one day to seven days
abbrev pub is_lawful_asked : ℤ → Bool
is_lawful_asked (pos n) = is_lawful_retention n
is_lawful_asked (negsuc n) = false

abbrev pub retention_refusal : Option ℤ → Option Refusal
retention_refusal None = None
retention_refusal (Some r) = if is_lawful_asked r then None else Some refusal.BadRetention

-- the retention that is used; 0 is for no stream
abbrev pub retention_used : Option ℤ → ℕ
retention_used None = 0
retention_used (Some (pos n)) = n
retention_used (Some (negsuc n)) = 0

-- what is wrong with a new table: with its families, their number, its stream, or with one more table
abbrev pub create_refusal : Present → List AskedFamily → Option ℤ → Option Refusal
create_refusal p families retention =
    option_or (first_bad_family families)
    (option_or (refused_if (nat_lt most_families (length families)) refusal.TooManyFamilies)
    (option_or (retention_refusal retention)
    (refused_if (nat_le most_tables (length p.schema)) refusal.TooManyTables)))

-- CreateTable (google.bigtable.admin.v2), where a table of that name is there or not: a new table, which is shown
abbrev pub create_reply : Present → ℕ → List ℕ → List AskedFamily → Option ℤ → Option TableInfo → Reply
create_reply p m name families retention (Some t) = refused refusal.TableExists
create_reply p m name families retention None =
    unless_refused (create_refusal p families retention)
    (changes (CreateTable (new_table (p.last + 1) m name (families_of families) (retention_used retention))) m (Create name (families_of families) (retention_used retention)))

-- ---- GetTable, ListTables, DeleteTable

-- GetTable (google.bigtable.admin.v2): the table is shown
abbrev pub get_reply : Option TableInfo → Reply
get_reply None = refused refusal.TableNotFound
get_reply (Some t) = answers (GetTable t)

-- the names of the tables of an instance, in byte order
abbrev pub names_under : List ℕ → Schema → List (List ℕ)
names_under parent schema = filter (begins_with (parent ++ codes "/tables/")) (map (λ t. t.0) schema)

-- ListTables (google.bigtable.admin.v2): all on one page
abbrev pub list_reply : Present → List ℕ → List ℕ → Reply
list_reply p parent page_token =
    unless_refused (refused_if (is_nonempty page_token) refusal.BadPageToken) (answers (ListTables (names_under parent p.schema)))

-- DeleteTable (google.bigtable.admin.v2): the table goes
abbrev pub delete_reply : ℕ → Option TableInfo → Reply
delete_reply m None = refused refusal.TableNotFound
delete_reply m (Some t) = changes DeleteTable m (Delete t.incarnation)

-- ---- UpdateTable

-- the paths that name the change stream, in JSON and as in the message
abbrev pub stream_paths : List (List ℕ)
stream_paths =
    codes "changeStreamConfig"
    ∷ codes "change_stream_config"
    ∷ codes "changeStreamConfig.retentionPeriod"
    ∷ codes "changeStreamConfig.retention_period"
    ∷ codes "change_stream_config.retentionPeriod"
    ∷ codes "change_stream_config.retention_period"
    ∷ []

-- the change stream alone is to be updated
abbrev pub is_stream_mask : List ℕ → Bool
is_stream_mask mask = list_any (bytes_eq mask) stream_paths

abbrev pub update_refusal : List ℕ → Option ℤ → Option Refusal
update_refusal mask retention = option_or (refused_if (not (is_stream_mask mask)) refusal.BadUpdateMask) (retention_refusal retention)

-- UpdateTable (google.bigtable.admin.v2): its stream begins, ends, or keeps changes for another time; the table is shown
abbrev pub update_reply : Present → ℕ → List ℕ → Option ℤ → Option TableInfo → Reply
update_reply p m mask retention None = refused refusal.TableNotFound
update_reply p m mask retention (Some t) =
    unless_refused (update_refusal mask retention)
    (changes (UpdateTable (with_retention (p.last + 1) m (retention_used retention) t)) m (Stream t.incarnation (retention_used retention)))
