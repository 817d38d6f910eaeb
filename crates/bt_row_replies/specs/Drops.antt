-- DropRowRange (google.bigtable.admin.v2): rows go, a thousand in each record.
use Rattle.std.specs.Prelude.{ℕ, ◌<◌, Bool, true, false, IsTrue, nat_lt, not, List, [], ◌∷◌, ◌++◌, length, map, filter, fold, Option, Some, None, if◌then◌else◌}
use Rattle.std.specs.Prelude.{All as Each}
use Rattle.std.specs.Map.{keys_of}
use Rattle.bt_types.specs.Grammar.{is_row_key}
use Rattle.bt_types.specs.declared.row_range.RowRange.{RowRange}
use Rattle.bt_types.specs.declared.mutation.Mutation.TheVariants.{DeleteRow}
use Rattle.bt_entry.specs.declared.entry.Entry.{Entry}
use Rattle.bt_entry.specs.declared.entry.Entry.TheVariants.{Row}
use Rattle.bt_entry.specs.declared.table_info.TableInfo.{TableInfo}
use Rattle.bt_messages.specs.Lines.{line_of, ok_line, response_data}
use Rattle.bt_messages.specs.Responses.{shown}
use Rattle.bt_messages.specs.declared.refusal.Refusal.{Refusal}
use Rattle.bt_messages.specs.declared.refusal.Refusal.TheVariants as refusal
use Rattle.bt_messages.specs.declared.response.Response.TheVariants.{DropRowRange}
use Rattle.bt_requests.specs.declared.request.DropTarget.{DropTarget}
use Rattle.bt_requests.specs.declared.request.DropTarget.TheVariants.{Prefix, All}
use Rattle.bt_contents.specs.Contents.{Contents}
use Rattle.bt_state.specs.State.{Present, rows_of}
use Rattle.bt_row_replies.specs.Prefixes.{prefix_range}
use Rattle.bt_plans.specs.Replies.{Reply, event, refused, unless_refused}
use Rattle.bt_plans.specs.Beginnings.{begins_with}

-- the row at a key is to go
abbrev pub is_target : DropTarget → List ℕ → Bool
is_target (Prefix front) key = begins_with front key
is_target (All all) key = all

-- no rows are named: by nothing, or by an empty prefix
abbrev pub target_refusal : Option DropTarget → Option Refusal
target_refusal None = Some refusal.NoTarget
target_refusal (Some (Prefix [])) = Some refusal.NoTarget
target_refusal (Some (Prefix (b ∷ bs))) = None
target_refusal (Some (All all)) = None

-- the range of the keys of the rows that are to go, or none where none are
abbrev pub target_range : DropTarget → Option RowRange
target_range (Prefix front) = Some (prefix_range front)
target_range (All true) = Some (prefix_range [])
target_range (All false) = None

-- what the type of a key tells of its bytes
pub record IsKey (key : List ℕ) : Type 0 where
  pub lawful : IsTrue (is_row_key key)
  pub bytes : Each (λ b. b < 256) key

-- the keys of the rows that are to go, in order
abbrev pub target_keys : Option DropTarget → Contents → List (List ℕ)
target_keys None rows = []
target_keys (Some target) rows = filter (is_target target) (keys_of rows)

-- a further item, in the last piece, or in a new one where that has n already
abbrev pub with_item : {A : Type 0} → ℕ → List (List A) → A → List (List A)
with_item n [] x = (x ∷ []) ∷ []
with_item n (piece ∷ []) x = if nat_lt (length piece) n then (piece ++ x ∷ []) ∷ [] else piece ∷ (x ∷ []) ∷ []
with_item n (piece ∷ next ∷ pieces) x = piece ∷ with_item n (next ∷ pieces) x

-- a further item needs a new piece
abbrev pub is_full : {A : Type 0} → ℕ → List (List A) → Bool
is_full n [] = true
is_full n (piece ∷ []) = not (nat_lt (length piece) n)
is_full n (piece ∷ next ∷ pieces) = is_full n (next ∷ pieces)

-- pieces of n items, the last of which may have fewer
abbrev pub cut_every : {A : Type 0} → ℕ → List A → List (List A)
cut_every n xs = fold (with_item n) [] xs

abbrev pub deletion_of : TableInfo → List ℕ → Entry
deletion_of t key = Row t.incarnation key false (DeleteRow ∷ [])

abbrev pub drop_reply : Present → ℕ → Option DropTarget → Option TableInfo → Reply
drop_reply p m target None = refused refusal.TableNotFound
drop_reply p m target (Some t) = unless_refused (target_refusal target) (record {
  responses = line_of (response_data (shown DropRowRange)) ∷ [];
  status = ok_line;
  records = cut_every 1000 (map (λ key. event m (deletion_of t key)) (target_keys target (rows_of t.incarnation p.contents)));
})
