-- Records that come in turn, and what is known of a table of a valid state.
use Rattle.std.proofs.Common.{◌≡◌, ◌<◌, ◌≤◌, ◌^◌, ◌==◌, ℕ, Bool, true, false, List, [], ◌∷◌, Option, Some, None, refl, subst, sym, cond, arith, eqb-true, eq-eqb}
use Rattle.std.specs.List.{AllByRecursion}
use Rattle.std.specs.Map.{keys_of, lookup}
use Rattle.std.specs.Prelude.{IsTrue}
use Rattle.bt_types.specs.Grammar.{is_row_key}
use Rattle.bt_contents.specs.Contents.{Contents}
use Rattle.bt_laws.specs.Tables.{IsLawfulRow}
use Rattle.bt_entry.specs.declared.table_info.TableInfo.{TableInfo}
use Rattle.bt_entry.specs.Grammar.{AreSpellableFamilies}
use Rattle.bt_messages.specs.declared.refusal.Refusal.{Refusal}
use Rattle.bt_plans.specs.Replies.{Reply, unless_refused}
use Rattle.bt_schema.specs.Schema.{Schema, name_is, table_at, table_of}
use Rattle.bt_state.specs.State.{AreLawful, AreOrdered, Event, IsLawful, Present, State, after, after_record, families_of, presents_after, rows_of}
use Rattle.bt_laws.specs.States.{HaveOwnIncarnations, AreLawfulRecords, AreRowsOf, IsTableAt, IsValid}

-- the records may come one after another
abbrev pub ComeInTurn : Present → List (List Event) → Type 0
ComeInTurn p [] = Unit {0}
ComeInTurn p (r ∷ rs) = AreLawful p r × ComeInTurn (presents_after p r) rs

present_of : (s : State) (r : List Event) → (after_record s r).present ≡ presents_after s.present r
present_of s [] = refl
present_of s (e ∷ es) = present_of (after s e) es

pub lawful_records : (s : State) (rs : List (List Event)) → ComeInTurn s.present rs → AreLawfulRecords s rs
lawful_records s [] come = tt
lawful_records s (r ∷ rs) come = (come.0, lawful_records (after_record s r) rs (subst (λ p. ComeInTurn p rs) (sym (present_of s r)) come.1))

-- a reply whose records may
abbrev pub Comes : Present → Reply → Type 0
Comes p r = ComeInTurn p r.records

pub one : (p : Present) (e : Event) → IsLawful p e → ComeInTurn p ((e ∷ []) ∷ [])
one p e is = ((is, tt), tt)

pub unless : (p : Present) (why : Option Refusal) (r : Reply) → (why ≡ None → Comes p r) → Comes p (unless_refused why r)
unless p None r comes = comes refl
unless p (Some why) r comes = tt

-- ---- tables

-- what is known of a table of a valid state, by its name or its incarnation
pub record IsOwn (p : Present) (t : TableInfo) : Type 0 where
  pub own : table_at t.incarnation p.schema ≡ Some t
  pub small : t.incarnation < 2 ^ 64
  pub families : AreSpellableFamilies t.families
  pub rows : AreRowsOf t.families (rows_of t.incarnation p.contents)
  pub ordered : AreOrdered p.contents

pub row_keys : (rows : Contents) → AllByRecursion IsLawfulRow rows → AllByRecursion (λ k. IsTrue (is_row_key k)) (keys_of rows)
row_keys [] all = tt
row_keys (r ∷ rows) all = (all.0.key, row_keys rows all.1)

some_same : (a b : TableInfo) → Some a ≡ Some b → a ≡ b
some_same a b e = cc

module _ (name : List ℕ) (t : TableInfo) where
  -- the table that has the name is the one of its incarnation
  own_table : (ts : Schema) → lookup (name_is name) ts ≡ Some t → HaveOwnIncarnations ts → table_at t.incarnation ts ≡ Some t
  own_table [] e apart = absurd cc
  own_table (u ∷ us) e apart = by (name_is name u.0) e (λ later. own_table us later apart.1)
    where
      here : (b : Bool) → (u.1.incarnation == u.1.incarnation) ≡ b → cond b (Some u.1) (table_at u.1.incarnation us) ≡ Some u.1
      here true is = refl
      here false is = let same : (u.1.incarnation == u.1.incarnation) ≡ true = eq-eqb u.1.incarnation u.1.incarnation refl in absurd cc

      there : (b : Bool) → (u.1.incarnation == t.incarnation) ≡ b → table_at t.incarnation us ≡ Some t → cond b (Some u.1) (table_at t.incarnation us) ≡ Some t
      there true is later =
          let same : u.1.incarnation ≡ t.incarnation = eqb-true u.1.incarnation t.incarnation is in
          let none : table_at t.incarnation us ≡ None = subst (λ n. table_at n us ≡ None) same apart.0 in
          absurd cc
      there false is later = later

      by : (b : Bool) → cond b (Some u.1) (lookup (name_is name) us) ≡ Some t → (lookup (name_is name) us ≡ Some t → table_at t.incarnation us ≡ Some t) → table_at t.incarnation (u ∷ us) ≡ Some t
      by true e rest = subst (λ x. table_at x.incarnation (u ∷ us) ≡ Some x) (some_same u.1 t e) (here (u.1.incarnation == u.1.incarnation) refl)
      by false e rest = there (u.1.incarnation == t.incarnation) refl (rest e)

  named_table : (last floor : ℕ) (ts : Schema) → lookup (name_is name) ts ≡ Some t → AllByRecursion (IsTableAt last floor) ts → (t.incarnation ≤ last) × AreSpellableFamilies t.families
  named_table last floor [] e all = absurd cc
  named_table last floor (u ∷ us) e all = by (name_is name u.0) e (λ later. named_table last floor us later all.1)
    where
      by : (b : Bool) → cond b (Some u.1) (lookup (name_is name) us) ≡ Some t → (lookup (name_is name) us ≡ Some t → (t.incarnation ≤ last) × AreSpellableFamilies t.families) → (t.incarnation ≤ last) × AreSpellableFamilies t.families
      by true e rest = subst (λ (x : TableInfo). (x.incarnation ≤ last) × AreSpellableFamilies x.families) (some_same u.1 t e) (all.0.made.1, all.0.families)
      by false e rest = rest e

  pub is_own : (s : State) → IsValid s → table_of name s.present.schema ≡ Some t → IsOwn s.present t
  is_own s valid e =
      let own = own_table s.present.schema e valid.apart in
      let known = named_table s.present.last s.present.floor s.present.schema e valid.tables in
      let within = valid.within in
      record {
        own = own;
        small = omega (arith, known.0, within);
        families = known.1;
        rows = subst (λ (o : Option TableInfo). AreRowsOf (families_of o) (rows_of t.incarnation s.present.contents)) own (valid.rows t.incarnation);
        ordered = valid.ordered;
      }
