-- Replies to requests on tables: their records may come.
use Rattle.std.proofs.Common.{◌≡◌, ◌≤◌, ◌==◌, ℕ, true, List, [], ◌∷◌, Option, Some, None, refl, subst, sym}
use Rattle.std.specs.Prelude.{ℤ, pos, negsuc, not, IsTrue, Result, Ok, Err}
use Rattle.std.proofs.lemmas.Bool.{or_right}
use Rattle.std.specs.List.{AllByRecursion}
use Rattle.std.specs.Map.{keys_of}
use Rattle.bt_types.specs.Grammar.{is_row_key, is_table_name}
use Rattle.bt_rules.specs.declared.family.Family.{Family}
use Rattle.bt_entry.specs.Grammar.{is_lawful_retention, is_retention, last_moment}
use Rattle.bt_entry.specs.declared.entry.Entry.TheVariants.{Delete, Stream}
use Rattle.bt_entry.specs.declared.table_info.TableInfo.{TableInfo}
use Rattle.bt_messages.specs.declared.refusal.Refusal.{Refusal}
use Rattle.bt_messages.specs.declared.refusal.Refusal.TheVariants.{BadRetention, BadUpdateMask}
use Rattle.bt_plans.specs.Replies.{event, refused_if}
use Rattle.bt_requests.specs.Readers.{Ascend}
use Rattle.bt_requests.specs.declared.families.AskedFamily.{AskedFamily}
use Rattle.bt_requests.specs.declared.families.Modification.{Modification}
use Rattle.bt_schema.specs.Schema.{table_of}
use Rattle.bt_state.specs.State.{IsLawful, Present, rows_of}
use Rattle.bt_table_replies.proofs.Creates.{may_create}
use Rattle.bt_table_replies.proofs.Losing.{all_losses, names_of}
use Rattle.bt_table_replies.proofs.Modifying.{all_lawful, modified-is}
use Rattle.bt_table_replies.specs.Losses.{AreFound, Losses, losses}
use Rattle.bt_table_replies.specs.Modifications.{after_changes, dropped, modified_reply, modify_reply}
use Rattle.bt_table_replies.specs.Tables.{create_refusal, create_reply, delete_reply, is_stream_mask, retention_refusal, retention_used, update_refusal, update_reply}
use Rattle.bt_run_laws.proofs.Refusals.{both_none, passes}
use Rattle.bt_run_laws.proofs.Turning.{row_keys, Comes, IsOwn, one, unless}

module _ (p : Present) (m : ℕ) (before : p.floor ≤ m) (not_past : m ≤ last_moment) where
  pub create_comes : (name : List ℕ) (families : List AskedFamily) (retention : Option ℤ) (o : Option TableInfo) → table_of name p.schema ≡ o → IsTrue (is_table_name name) → Ascend families → Comes p (create_reply p m name families retention o)
  create_comes name families retention (Some t) found named sorted = tt
  create_comes name families retention None absent named sorted =
      unless p (create_refusal p families retention) _ (λ none. one p _ (may_create p m name families retention none absent sorted named before not_past))

  delete_lawful : (t : TableInfo) → IsOwn p t → IsLawful p (event m (Delete t.incarnation))
  delete_lawful t is = record { spellable = is.small; not_past = not_past; not_before = before; allowed = rw is.own refl }

  pub delete_comes : (o : Option TableInfo) → ((t : TableInfo) → o ≡ Some t → IsOwn p t) → Comes p (delete_reply m o)
  delete_comes None is = tt
  delete_comes (Some t) is = one p _ (delete_lawful t (is t refl))

  -- a retention that is not refused can be used
  lawful_used : (retention : Option ℤ) → retention_refusal retention ≡ None → is_retention (retention_used retention) ≡ true
  lawful_used None none = refl
  lawful_used (Some (pos n)) none = or_right (n == 0) (is_lawful_retention n) (passes (is_lawful_retention n) BadRetention none)
  lawful_used (Some (negsuc n)) none = absurd cc

  stream_lawful : (t : TableInfo) (retention : Option ℤ) → IsOwn p t → retention_refusal retention ≡ None → IsLawful p (event m (Stream t.incarnation (retention_used retention)))
  stream_lawful t retention is none = record { spellable = (is.small, lawful_used retention none); not_past = not_past; not_before = before; allowed = rw is.own refl }

  pub update_comes : (mask : List ℕ) (retention : Option ℤ) (o : Option TableInfo) → ((t : TableInfo) → o ≡ Some t → IsOwn p t) → Comes p (update_reply p m mask retention o)
  update_comes mask retention None is = tt
  update_comes mask retention (Some t) is =
      unless p (update_refusal mask retention) _
      (λ none. one p _ (stream_lawful t retention (is t refl) (both_none (refused_if (not (is_stream_mask mask)) BadUpdateMask) (retention_refusal retention) none).1))

  -- ---- ModifyColumnFamilies

  of_losses : (ls : Losses) → AllByRecursion (λ k. IsTrue (is_row_key k)) (keys_of ls) → AllByRecursion (λ l. IsTrue (is_row_key l.0)) ls
  of_losses [] all = tt
  of_losses (l ∷ ls) all = (all.0, of_losses ls all.1)

  found_in : (t : TableInfo) (names : List (List ℕ)) → IsOwn p t → AreFound names t.incarnation p
  found_in t names is =
      let rows = rows_of t.incarnation p.contents in
      record {
        sorted = is.rows.lawful.sorted;
        keys = of_losses (losses names rows) (all_losses (λ k. IsTrue (is_row_key k)) names rows (row_keys rows is.rows.lawful.each));
        ordered = is.ordered;
      }

  modified_comes : (ms : List Modification) (t : TableInfo) (r : Result (List Family) Refusal) → after_changes ms t.families ≡ r → IsOwn p t → Comes p (modified_reply p m ms t r)
  modified_comes ms t (Err why) changed is = tt
  modified_comes ms t (Ok families) changed is =
      let names = names_of (dropped ms t) in
      let lawful = all_lawful p m t ms families changed is.families (found_in t names is) is.small not_past before is.own in
      subst (Comes p) (sym (modified-is p m t ms families)) (lawful, tt)

  pub modify_comes : (ms : List Modification) (o : Option TableInfo) → ((t : TableInfo) → o ≡ Some t → IsOwn p t) → Comes p (modify_reply p m ms o)
  modify_comes ms None is = tt
  modify_comes [] (Some t) is = tt
  modify_comes (c ∷ cs) (Some t) is = modified_comes (c ∷ cs) t (after_changes (c ∷ cs) t.families) refl (is t refl)
