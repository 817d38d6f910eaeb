-- What the entries of a batch change, taken apart, makes the same present as they do in turn.
use Rattle.std.proofs.Common.{◌≡◌, ℕ, ◌+◌, ◌<◌, ◌≤◌, true, List, [], ◌∷◌, length, None, refl, sym, ap, ◌∙◌, subst, arith}
use Rattle.std.specs.List.{AllByRecursion, cons_option, list_all}
use Rattle.std.specs.Ordering.{nat_cmp}
use Rattle.std.specs.BTreeMap.{is_at}
use Rattle.std.proofs.lemmas.Cmp.{nat_cmp_total}
use Rattle.bt_types.specs.declared.mutation.Mutation.{Mutation}
use Rattle.bt_types.specs.declared.mutation.Mutation.TheVariants.{SetCell, DeleteColumn, DeleteFamily, DeleteRow}
use Rattle.bt_entry.specs.declared.entry.Entry.{Entry}
use Rattle.bt_entry.specs.declared.entry.Entry.TheVariants.{Row, Create, Delete, Alter, Stream, Floor}
use Rattle.bt_entry.specs.declared.numbered.Numbered.{Numbered}
use Rattle.bt_entry.specs.Grammar.{AreNumbered, IsSpellableEntry, IsSpellableMutation}
use Rattle.bt_schema.specs.Schema.{Schema, change_refusal, schema_after, table_at}
use Rattle.bt_schema.proofs.Altered.{gone}
use Rattle.bt_all_contents.specs.declared.row_change.RowChange.{RowChange}
use Rattle.bt_contents.specs.Contents.{put_row}
use Rattle.bt_row.specs.Sound.{HaveShort, IsShort}
use Rattle.bt_all_contents.specs.AllContents.{AllContents, all_changed, rows_of}
use Rattle.bt_state.specs.State.{AreLawful, AreMade, AreOrdered, IsLawful, Present, contents_after, event_of, events_of, present_after, presents_after}
use Rattle.bt_state.specs.Batches.{AreChanges, deleted_by, deleted_of, floor_after, keeps_schema, row_change_of, row_changes_of, schema_by, schema_by_all, without_all}
use Rattle.bt_state.proofs.Entries.{both_true, is_new, not_refused}
use Rattle.bt_state.proofs.Gone.{all_apart, apart, ordered_with}
use Rattle.bt_state.proofs.Made.{made_after, none_past}
use Rattle.bt_state.proofs.Maps.{sorted_remove}

-- the entries take the next numbers, and are lawful in turn
abbrev pub MayCome : Present → List Numbered → Type 0
MayCome p batch = AreNumbered (p.last + 1) batch × AreLawful p (events_of batch)

-- ---- the tables without their rows

kept_by : (e : Entry) (sequence moment : ℕ) (ts : Schema) → keeps_schema e ≡ true → schema_after sequence moment e ts ≡ ts
kept_by (Row incarnation key by_rule mutations) sequence moment ts keeps = refl
kept_by (Create name families retention) sequence moment ts keeps = cc
kept_by (Delete incarnation) sequence moment ts keeps = cc
kept_by (Alter incarnation families) sequence moment ts keeps = cc
kept_by (Stream incarnation retention) sequence moment ts keeps = cc
kept_by Floor sequence moment ts keeps = refl

-- rows alone leave the tables as they are
pub schema_kept : (batch : List Numbered) (ts : Schema) → list_all (λ n. keeps_schema n.entry) batch ≡ true → schema_by_all ts batch ≡ ts
schema_kept [] ts keep = refl
schema_kept (n ∷ batch) ts keep =
    let parts = both_true (keeps_schema n.entry) (list_all (λ m. keeps_schema m.entry) batch) keep in
    ap (λ s. schema_by_all s batch) (kept_by n.entry n.sequence n.moment ts parts.0) ∙ schema_kept batch ts parts.1

-- the entry's own number is the next one
own_number : (p : Present) (n : Numbered) → n.sequence ≡ p.last + 1 → schema_by p.schema n ≡ (present_after p (event_of n)).schema
own_number p n is = ap (λ s. schema_after s n.moment n.entry p.schema) is

pub schemas : (p : Present) (batch : List Numbered) → AreNumbered (p.last + 1) batch → (presents_after p (events_of batch)).schema ≡ schema_by_all p.schema batch
schemas p [] numbered = refl
schemas p (n ∷ batch) numbered = schemas (present_after p (event_of n)) batch numbered.1 ∙ ap (λ s. schema_by_all s batch) (sym (own_number p n numbered.0))

-- the tables let lawful entries come in turn
pub changes : (p : Present) (batch : List Numbered) → AreMade p.last p.schema → MayCome p batch → AreChanges p.schema batch
changes p [] made may = tt
changes p (n ∷ batch) made may = (
  record {
    allowed = not_refused p n may.1.0;
    new = is_new n.sequence n.entry p.schema (none_past p.last n.sequence (omega (arith, may.0.0)) p.schema made);
  },
  subst (λ s. AreChanges s batch) (sym (own_number p n may.0.0))
      (changes (present_after p (event_of n)) batch (made_after p.last n.moment n.entry p.schema made) (may.0.1, may.1.1)),
)

-- ---- rows

-- an entry leaves the rows of tables in order
pub ordered_after : (e : Entry) (contents : AllContents) → AreOrdered contents → AreOrdered (contents_after e contents)
ordered_after (Row incarnation key by_rule mutations) contents ordered = ordered_with incarnation (put_row key mutations (rows_of incarnation contents)) contents ordered
ordered_after (Create name families retention) contents ordered = ordered
ordered_after (Delete incarnation) contents ordered = sorted_remove nat_cmp_total (is_at (nat_cmp incarnation)) contents ordered
ordered_after (Alter incarnation families) contents ordered = ordered
ordered_after (Stream incarnation retention) contents ordered = ordered
ordered_after Floor contents ordered = ordered

deleted_made : (n : ℕ) (p : Present) → AreMade p.last p.schema → change_refusal (Delete n) p.schema ≡ None → n ≤ p.last
deleted_made n p made allowed =
    let not_past : p.last < n → ⊥ = λ past. let absent : table_at n p.schema ≡ None = none_past p.last n past p.schema made in cc (rw absent at allowed) in
    omega (arith, not_past)

module _ (p : Present) (m : Numbered) (batch : List Numbered) (made : AreMade p.last p.schema) (ordered : AreOrdered p.contents) where
  abbrev Joins : Entry → Type 0
  Joins e = without_all (deleted_of batch) (all_changed (row_changes_of batch) (contents_after e p.contents))
      ≡ without_all (cons_option (deleted_by e) (deleted_of batch)) (all_changed (cons_option (row_change_of e) (row_changes_of batch)) p.contents)

  joined : (e : Entry) → m.entry ≡ e → IsLawful p (event_of m) → AreLawful (present_after p (event_of m)) (events_of batch) → Joins e
  joined (Row incarnation key by_rule mutations) is head rest = refl
  joined (Create name families retention) is head rest = refl
  joined (Delete n) is head rest =
      let allowed : change_refusal (Delete n) p.schema ≡ None = rw is at (not_refused p m head) in
      let le : n ≤ p.last = deleted_made n p made allowed in
      let none : table_at n (present_after p (event_of m)).schema ≡ None = ap (λ e. table_at n (schema_after (p.last + 1) m.moment e p.schema)) is ∙ gone [] n p.schema in
      ap (without_all (deleted_of batch)) (all_apart n (row_changes_of batch) p.contents (apart n (present_after p (event_of m)) batch (omega (arith, le)) none rest) ordered)
  joined (Alter incarnation families) is head rest = refl
  joined (Stream incarnation retention) is head rest = refl
  joined Floor is head rest = refl

-- the rows changed, and then the deleted tables let go
pub contents_are : (p : Present) (batch : List Numbered) → AreMade p.last p.schema → AreOrdered p.contents → AreLawful p (events_of batch) → (presents_after p (events_of batch)).contents ≡ without_all (deleted_of batch) (all_changed (row_changes_of batch) p.contents)
contents_are p [] made ordered lawful = refl
contents_are p (m ∷ batch) made ordered lawful =
    contents_are (present_after p (event_of m)) batch (made_after p.last m.moment m.entry p.schema made) (ordered_after m.entry p.contents ordered) lawful.1
    ∙ joined p m batch made ordered m.entry refl lawful.0 lawful.1

short_mutation : (m : Mutation) → IsSpellableMutation m → IsShort m
short_mutation (SetCell family qualifier at value) spellable = spellable.3
short_mutation (DeleteColumn family qualifier start end) spellable = tt
short_mutation (DeleteFamily family) spellable = tt
short_mutation DeleteRow spellable = tt

short_mutations : (ms : List Mutation) → AllByRecursion IsSpellableMutation ms → HaveShort ms
short_mutations [] spellable = tt
short_mutations (m ∷ ms) spellable = (short_mutation m spellable.0, short_mutations ms spellable.1)

short_by : (e : Entry) (cs : List RowChange) → IsSpellableEntry e → AllByRecursion (λ c. HaveShort c.mutations) cs → AllByRecursion (λ c. HaveShort c.mutations) (cons_option (row_change_of e) cs)
short_by (Row incarnation key by_rule mutations) cs spellable rest = (short_mutations mutations spellable.2.2, rest)
short_by (Create name families retention) cs spellable rest = rest
short_by (Delete incarnation) cs spellable rest = rest
short_by (Alter incarnation families) cs spellable rest = rest
short_by (Stream incarnation retention) cs spellable rest = rest
short_by Floor cs spellable rest = rest

-- no value is too long
pub short : (p : Present) (batch : List Numbered) → AreLawful p (events_of batch) → AllByRecursion (λ c. HaveShort c.mutations) (row_changes_of batch)
short p [] lawful = tt
short p (m ∷ batch) lawful = short_by m.entry (row_changes_of batch) lawful.0.spellable (short (present_after p (event_of m)) batch lawful.1)

-- ---- all of it

pub last_is : (p : Present) (batch : List Numbered) → (presents_after p (events_of batch)).last ≡ p.last + length batch
last_is p [] = omega arith
last_is p (m ∷ batch) = let rest = last_is (present_after p (event_of m)) batch in omega (arith, rest)

pub floor_is : (p : Present) (batch : List Numbered) → (presents_after p (events_of batch)).floor ≡ floor_after p.floor batch
floor_is p [] = refl
floor_is p (m ∷ batch) = floor_is (present_after p (event_of m)) batch

-- what a present keeps
pub made_all : (p : Present) (batch : List Numbered) → AreMade p.last p.schema → AreMade (presents_after p (events_of batch)).last (presents_after p (events_of batch)).schema
made_all p [] made = made
made_all p (m ∷ batch) made = made_all (present_after p (event_of m)) batch (made_after p.last m.moment m.entry p.schema made)

pub ordered_all : (p : Present) (batch : List Numbered) → AreOrdered p.contents → AreOrdered (presents_after p (events_of batch)).contents
ordered_all p [] ordered = ordered
ordered_all p (m ∷ batch) ordered = ordered_all (present_after p (event_of m)) batch (ordered_after m.entry p.contents ordered)

same : (p : Present) (schema : Schema) (contents : AllContents) (last floor : ℕ) → schema ≡ p.schema → contents ≡ p.contents → last ≡ p.last → floor ≡ p.floor → record { schema = schema; contents = contents; last = last; floor = floor } ≡ p
same p schema contents last floor schema_is contents_is last_is floor_is = rw (schema_is, contents_is, last_is, floor_is) refl

-- the parts after a batch make the present after it
pub present_is : (p : Present) (batch : List Numbered) (schema : Schema) (contents : AllContents) (last floor : ℕ) → AreMade p.last p.schema → AreOrdered p.contents → MayCome p batch
    → schema ≡ schema_by_all p.schema batch → contents ≡ without_all (deleted_of batch) (all_changed (row_changes_of batch) p.contents) → last ≡ p.last + length batch → floor ≡ floor_after p.floor batch
    → record { schema = schema; contents = contents; last = last; floor = floor } ≡ presents_after p (events_of batch)
present_is p batch schema contents last floor made ordered may schema_so contents_so last_so floor_so =
    same (presents_after p (events_of batch)) schema contents last floor
    (schema_so ∙ sym (schemas p batch may.0)) (contents_so ∙ sym (contents_are p batch made ordered may.1)) (last_so ∙ sym (last_is p batch)) (floor_so ∙ sym (floor_is p batch))
