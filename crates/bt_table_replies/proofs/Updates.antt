-- Change streams that are updated.
use Rattle.std.proofs.Common.{◌≡◌, ℕ, ◌+◌, true, List, None, Some, refl}
use Rattle.std.specs.Prelude.{ℤ, Option}
use Rattle.bt_entry.specs.declared.entry.Entry.TheVariants.{Stream}
use Rattle.bt_entry.specs.declared.table_info.TableInfo.{TableInfo}
use Rattle.bt_messages.specs.declared.response.Response.TheVariants.{UpdateTable}
use Rattle.bt_plans.specs.Replies.{changes}
use Rattle.bt_schema.specs.Schema.{with_retention}
use Rattle.bt_state.specs.State.{Present}
use Rattle.bt_table_replies.specs.Tables.{is_stream_mask, retention_refusal, retention_used, update_reply}

-- the table with its new retention is shown
pub update_reply-is : (p : Present) (m : ℕ) (mask : List ℕ) (retention : Option ℤ) (t : TableInfo) → is_stream_mask mask ≡ true → retention_refusal retention ≡ None
    → (used : ℕ) → used ≡ retention_used retention → (kept : TableInfo) → kept ≡ with_retention (p.last + 1) m used t
    → update_reply p m mask retention (Some t) ≡ changes (UpdateTable kept) m (Stream kept.incarnation used)
update_reply-is p m mask retention t named none used is_used kept is_kept = rw (is_kept, is_used, named, none) refl
