-- Entries that may come next.
use Rattle.std.specs.Prelude.{is_none}
use Rattle.std.proofs.Common.{◌≡◌, Bool, true, false, ◌&&◌, ◌||◌, ℕ, List, [], ◌∷◌, Option, Some, None, refl}
use Rattle.bt_entry.specs.declared.numbered.Numbered.{Numbered}
use Rattle.bt_rules.specs.declared.family.Family.{Family}
use Rattle.bt_entry.specs.declared.entry.Entry.{Entry}
use Rattle.bt_entry.specs.declared.entry.Entry.TheVariants.{Row, Create, Delete, Alter, Stream, Floor}
use Rattle.bt_schema.specs.Schema.{Schema, IsNew, change_refusal, is_family_of, table_at}
use Rattle.bt_state.specs.State.{IsLawful, Present, event_of, keep_used, keeps_rows}

-- where no table has the sequence, an entry may make one
pub is_new : (sequence : ℕ) (entry : Entry) (ts : Schema) → table_at sequence ts ≡ None → IsNew sequence entry ts
is_new sequence (Row incarnation key by_rule mutations) ts none = tt
is_new sequence (Create name families retention) ts none = none
is_new sequence (Delete incarnation) ts none = tt
is_new sequence (Alter incarnation families) ts none = tt
is_new sequence (Stream incarnation retention) ts none = tt
is_new sequence Floor ts none = tt

kept_by : (b : Bool) → (b || true) ≡ true
kept_by true = refl
kept_by false = refl

-- where no row has a cell, each family may go
pub none_used : (kept families : List Family) → keep_used kept families [] ≡ true
none_used kept [] = refl
none_used kept (f ∷ fs) = rw (kept_by (is_family_of kept f.name)) (none_used kept fs)

pub both_true : (a b : Bool) → (a && b) ≡ true → (a ≡ true) × (b ≡ true)
both_true true b e = (refl, e)
both_true false b e = cc

none_of : {X : Type 0} (o : Option X) → is_none o ≡ true → o ≡ None
none_of None e = refl
none_of (Some x) e = cc

-- a lawful entry is one that the tables let come
pub not_refused : (p : Present) (n : Numbered) → IsLawful p (event_of n) → change_refusal n.entry p.schema ≡ None
not_refused p n lawful = none_of (change_refusal n.entry p.schema) (both_true (is_none (change_refusal n.entry p.schema)) (keeps_rows n.entry p) lawful.allowed).0
