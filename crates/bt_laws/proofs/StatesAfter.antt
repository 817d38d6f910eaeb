-- Lawful events lead from valid states to valid states.
use Rattle.std.proofs.Common.{◌≡◌, ◌≤◌, ◌+◌, ℕ, List, [], ◌∷◌, length, true, None, ◌<◌, refl, arith}
use Rattle.std.specs.Prelude.{is_none}
use Rattle.std.specs.List.{AllByRecursion}
use Rattle.std.specs.List.Sorted.{IsStrictlySortedBy}
use Rattle.std.proofs.lemmas.List.Elements.{All-nil}
use Rattle.bt_entry.specs.declared.numbered.Numbered.{Numbered}
use Rattle.bt_entry.specs.Grammar.{IsSpellableNumbered}
use Rattle.bt_schema.specs.Schema.{change_refusal}
use Rattle.bt_contents.specs.Contents.{Contents}
use Rattle.bt_state.specs.State.{AreLawful, Event, State, after, after_record, after_records, empty_state, greatest_sequence, keeps_rows, numbered}
use Rattle.bt_state.proofs.Entries.{both_true, not_refused}
use Rattle.bt_state.proofs.InTurn.{ordered_after}
use Rattle.bt_laws.specs.States.{IsValid, ValidAfter, ValidAfterRecords}
use Rattle.bt_laws.proofs.StatesContents.{filled_after, owned_after, rows_after}
use Rattle.bt_laws.proofs.StatesHistory.{all_push, numbered_after, timed_after, weaker}
use Rattle.bt_laws.proofs.StatesRows.{no_rows}
use Rattle.bt_laws.proofs.StatesSchema.{apart_after, few_after, made_of, sorted_after, tables_after}

pub empty_valid : IsValid empty_state
unfolding IsStrictlySortedBy
empty_valid = record {
  numbered = (omega arith, tt);
  timed = tt;
  past = tt;
  spellable = tt;
  sorted = tt;
  apart = tt;
  few = omega arith;
  tables = tt;
  ordered = tt;
  filled = All-nil (λ (rows : Contents). 0 < length rows);
  owned = λ n none. refl;
  rows = λ n. no_rows [];
  lost = tt;
  floor = omega arith;
  within = omega arith;
}

pub valid_after : ValidAfter
valid_after s e valid may room =
    let p = s.present in
    let n : Numbered = numbered (p.last + 1) e in
    let allowed : change_refusal e.entry p.schema ≡ None = not_refused p n may in
    let keeps : keeps_rows e.entry p ≡ true = (both_true (is_none (change_refusal e.entry p.schema)) (keeps_rows e.entry p) may.allowed).1 in
    let past : AllByRecursion (λ m. m.moment ≤ e.moment) s.history = weaker (λ (m : Numbered). m.moment ≤ p.floor) (λ (m : Numbered). m.moment ≤ e.moment) (λ m le. let later = may.not_before in omega (arith, le, later)) s.history valid.past in
    let made = made_of p.last p.floor p.schema valid.tables in
    record {
      numbered = numbered_after p.last s.history n refl valid.numbered;
      timed = timed_after s.history n past valid.timed;
      past = all_push (λ (m : Numbered). m.moment ≤ e.moment) s.history n past (omega arith);
      spellable = all_push IsSpellableNumbered s.history n valid.spellable (may.not_past, may.spellable);
      sorted = sorted_after (p.last + 1) e.moment e.entry p.schema valid.sorted;
      apart = apart_after p.last p.floor e.moment e.entry p.schema allowed valid.tables valid.apart;
      few = few_after (p.last + 1) e.moment e.entry p.schema allowed valid.few;
      tables = tables_after p.last e.moment p.floor e.entry p.schema may.spellable may.not_before valid.tables;
      ordered = ordered_after e.entry p.contents valid.ordered;
      filled = filled_after e.entry p.contents valid.filled;
      owned = owned_after p made valid.ordered valid.owned e.entry e.moment allowed valid.rows may.spellable;
      rows = rows_after p made valid.ordered valid.owned e.entry e.moment allowed keeps may.spellable valid.rows;
      lost = weaker (λ (l : ℕ × ℕ). l.1 ≤ p.last) (λ (l : ℕ × ℕ). l.1 ≤ p.last + 1) (λ l le. omega (arith, le)) s.lost valid.lost;
      floor = may.not_past;
      within = omega (arith, room);
    }

-- ---- records

last_rises : (s : State) (r : List Event) → s.present.last ≤ (after_record s r).present.last
last_rises s [] = omega arith
last_rises s (e ∷ es) = let rest = last_rises (after s e) es in omega (arith, rest)

last_of : (s : State) (rs : List (List Event)) → s.present.last ≤ (after_records s rs).present.last
last_of s [] = omega arith
last_of s (r ∷ rs) =
    let first = last_rises s r in
    let rest = last_of (after_record s r) rs in
    omega (arith, first, rest)

valid_record : (s : State) (r : List Event) → IsValid s → AreLawful s.present r → (after_record s r).present.last ≤ greatest_sequence → IsValid (after_record s r)
valid_record s [] valid may room = valid
valid_record s (e ∷ es) valid may room =
    let rest = last_rises (after s e) es in
    valid_record (after s e) es (valid_after s e valid may.0 (omega (arith, rest, room))) may.1 room

pub valid_after_records : ValidAfterRecords
valid_after_records s [] valid may room = valid
valid_after_records s (r ∷ rs) valid may room =
    let rest = last_of (after_record s r) rs in
    valid_after_records (after_record s r) rs (valid_record s r valid may.0 (omega (arith, rest, room))) may.1 room
