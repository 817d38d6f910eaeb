-- Entries of rows that may come next.
use Rattle.std.specs.Prelude.{◌≡◌, ◌≤◌, ℕ, Some}
use Rattle.bt_entry.specs.declared.entry.Entry.{Entry}
use Rattle.bt_entry.specs.declared.table_info.TableInfo.{TableInfo}
use Rattle.bt_plans.specs.Replies.{event}
use Rattle.bt_schema.specs.Schema.{table_at}
use Rattle.bt_state.specs.State.{IsLawful, IsOfRow, Present}

-- the table takes this entry of a row at that moment, whatever its rows are
pub record MayCome (t : TableInfo) (m : ℕ) (e : Entry) : Type 0 where
  pub of_row : IsOfRow e
  pub lawful : (p : Present) → table_at t.incarnation p.schema ≡ Some t → p.floor ≤ m → IsLawful p (event m e)
