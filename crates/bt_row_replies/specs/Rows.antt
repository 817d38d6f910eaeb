-- What requests on rows are answered.
use Rattle.std.specs.Prelude.{◌≡◌, ◌⊎◌, ℕ, ℤ, pos, negsuc, false, List, Option, Some, None}
use Rattle.bt_entry.specs.declared.entry.Entry.TheVariants.{Row}
use Rattle.bt_entry.specs.declared.table_info.TableInfo.{TableInfo}
use Rattle.bt_filter.specs.Building.{filter_of}
use Rattle.bt_filter.specs.Flaws.{IsRefusedFor, IsValidFilter}
use Rattle.bt_filter.specs.declared.asked.AskedFilter.{AskedFilter}
use Rattle.bt_filter.specs.declared.refusal.FilterRefusal.TheVariants.{BadFilter}
use Rattle.bt_filter.specs.declared.refusal.Why.{Why}
use Rattle.bt_messages.specs.declared.refusal.Refusal.{Refusal}
use Rattle.bt_messages.specs.declared.refusal.Refusal.TheVariants as refusal
use Rattle.bt_messages.specs.declared.response.Response.TheVariants.{MutateRow}
use Rattle.bt_mutation.specs.Resolution.{resolved}
use Rattle.bt_mutation.specs.declared.asked.AskedMutation.{AskedMutation}
use Rattle.bt_contents.specs.Contents.{Contents}
use Rattle.bt_state.specs.State.{Present, rows_of}
use Rattle.bt_range.specs.declared.asked_range.AskedRange.{AskedRange}
use Rattle.bt_read.specs.Answers.{answer}
use Rattle.bt_plans.specs.Replies.{Reply, changes, refused, rows_reply, unless_refused}
use Rattle.bt_plans.specs.FilterRefusals.{refusal_for_filter}
use Rattle.bt_plans.specs.RowEntries.{mutate_refusal}

-- MutateRow (google.bigtable.v2): the mutations of the row, in order, all or none
abbrev pub mutate_reply : ℕ → List ℕ → List AskedMutation → Option TableInfo → Reply
mutate_reply m key ms None = refused refusal.TableNotFound
mutate_reply m key ms (Some t) = unless_refused (mutate_refusal key ms t) (changes MutateRow m (Row t.incarnation key false (resolved m ms)))

-- the limit, unless it is negative
abbrev pub limit_in : ℤ → Option ℕ
limit_in (pos n) = Some n
limit_in (negsuc n) = None

-- Over these rows: the answer of the read, where nothing is against the filter, or the refusal for what is against it.
abbrev pub IsFilteredReply : Contents → List (List ℕ) → List AskedRange → AskedFilter → ℕ → Reply → Type 0
IsFilteredReply rows keys ranges f n r =
    (IsValidFilter f × (r ≡ rows_reply (answer rows keys ranges (filter_of f) n)))
    ⊎ ((cause : Why) × (node : ℕ) × IsRefusedFor f (BadFilter cause node) × (r ≡ refused (refusal_for_filter cause)))

abbrev pub IsLimitedReply : Contents → List (List ℕ) → List AskedRange → AskedFilter → Option ℕ → Reply → Type 0
IsLimitedReply rows keys ranges f None r = r ≡ refused refusal.NegativeRowsLimit
IsLimitedReply rows keys ranges f (Some n) r = IsFilteredReply rows keys ranges f n r

-- ReadRows (google.bigtable.v2): the rows that are asked for, in the order of their keys, each with what the filter leaves of it
abbrev pub IsReadReply : Present → List (List ℕ) → List AskedRange → AskedFilter → ℤ → Option TableInfo → Reply → Type 0
IsReadReply p keys ranges f limit None r = r ≡ refused refusal.TableNotFound
IsReadReply p keys ranges f limit (Some t) r = IsLimitedReply (rows_of t.incarnation p.contents) keys ranges f (limit_in limit) r
