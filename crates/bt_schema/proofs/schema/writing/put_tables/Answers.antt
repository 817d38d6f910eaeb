use Rattle.std.proofs.Common.{◌≡◌, ℕ, List, ◌∷◌, ◌++◌, length, sym, ap, ◌∙◌, subst, append_assoc, rules}
use Rattle.std.proofs.lemmas.List.{append-nil}
use Rattle.std.specs.Int.{w32, to_be_bytes}
use Rattle.std.specs.List.{flat_map}
use Rattle.bt_entry.specs.declared.table_info.TableInfo.{TableInfo}
use Rattle.bt_schema.specs.Schema.{Schema}
use Rattle.bt_schema.specs.Grammar.{AreSpellableTables, AreWritableTables}
use Rattle.bt_schema.specs.Spelling.{named, spelling}
use Rattle.bt_schema.proofs.Written.{one_written}
use Rattle.bt_schema.proofs.schema.writing.put_tables.Goals as goal

-- all tables are left
pub loop-table-init : goal.loop-table-init
loop-table-init c =
    let tables = c.args.tables.now.entries in
    let all : c.into_iter-table-iterator.result ≡ tables = search rules in
    let count : c.put_u32.new.out.items ≡ c.args.out.now.items ++ to_be_bytes w32 (length tables) = c.in_ok-put_u32.ensures ∙ ap (λ (n : ℕ). c.args.out.now.items ++ to_be_bytes w32 n) c.len.ensures.len in
    record {
      spelled =
          ap (λ (b : List ℕ). b ++ flat_map named c.into_iter-table-iterator.result) count
          ∙ append_assoc c.args.out.now.items (to_be_bytes w32 (length tables)) (flat_map named c.into_iter-table-iterator.result)
          ∙ ap (λ (ts : Schema). c.args.out.now.items ++ (to_be_bytes w32 (length tables) ++ flat_map named ts)) all;
      writable = subst AreWritableTables (sym all) c.requires.1;
      spellable = λ h. subst AreSpellableTables all h;
    }

-- the first of those left is written
pub loop-table-preserved : goal.loop-table-preserved
loop-table-preserved c =
    let t : List ℕ × TableInfo = (c.in-Some.field-0-0.now, c.in-Some.table.now) in
    let first : c.loop-table.table-iterator ≡ t ∷ c.next.new.self = c.in-Some.ensures.steps in
    let so_far = c.loop-table.invariant in
    record {
      spelled = one_written c.loop-table.out.items c.put_table.new.out.items (c.args.out.now.items ++ spelling c.args.tables.now.entries) t c.loop-table.table-iterator c.next.new.self so_far.spelled first c.in_ok-put_table.ensures.spelled;
      writable = (subst AreWritableTables first so_far.writable).1;
      spellable = λ h. so_far.spellable (subst AreSpellableTables (sym first) (c.in_ok-put_table.ensures.spellable, h));
    }

pub put_table-requires : goal.put_table-requires
put_table-requires c =
    let t : List ℕ × TableInfo = (c.in-Some.field-0-0.now, c.in-Some.table.now) in
    let first : c.loop-table.table-iterator ≡ t ∷ c.next.new.self = c.in-Some.ensures.steps in
    (subst AreWritableTables first c.loop-table.invariant.writable).0

-- none is left
pub returns-clause-spelled : goal.returns-clause-spelled
returns-clause-spelled c =
    sym (append-nil c.loop-table.out.items)
    ∙ ap (λ (ts : Schema). c.loop-table.out.items ++ flat_map named ts) (sym c.in-None.ensures.steps.0)
    ∙ c.loop-table.invariant.spelled

pub returns-clause-spellable : goal.returns-clause-spellable
returns-clause-spellable c = c.loop-table.invariant.spellable (subst AreSpellableTables (sym c.in-None.ensures.steps.0) tt)
