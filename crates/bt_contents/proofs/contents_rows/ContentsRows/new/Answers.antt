use Rattle.std.proofs.Common.{[], arith, refl}
use Rattle.std.specs.Prelude.{unwrap_or}
use Rattle.bt_contents.proofs.Rows.{table_of}
use Rattle.bt_contents.proofs.contents_rows.ContentsRows.new.Goals as goal

-- no row is at hand
pub invariant_of-result : goal.invariant_of-result
invariant_of-result c =
    let rows = unwrap_or c.args.rows [] in
    let table = table_of rows c.requires in
    record {
      sorted = table.sorted;
      behind = tt;
      no_row = refl;
      row = record { ordered = tt; unlabelled = λ k d lt. absurd (omega (arith, lt)) };
      short = λ k d lt. absurd (omega (arith, lt));
      ordered_rows = table.ordered;
      short_rows = table.short;
      later = tt;
    }
