-- Entries that are kept no longer.
use Rattle.std.proofs.Common.{◌≡◌, ◌<◌, ◌≤◌, ◌+◌, ◌-◌, ◌==◌, ℕ, Bool, true, false, List, [], ◌∷◌, length, Option, Some, cond, refl, sym, ap, subst, arith, if◌then◌else◌}
use Rattle.std.specs.Prelude.{filter, max, nat_lt, unwrap_or}
use Rattle.std.specs.List.{AllByRecursion}
use Rattle.std.specs.Ordering.{nat_cmp}
use Rattle.std.specs.Map.{lookup}
use Rattle.std.specs.BTreeMap.{is_at}
use Rattle.std.proofs.lemmas.Bool.{ltb-false}
use Rattle.bt_entry.specs.declared.entry.Entry.{Entry}
use Rattle.bt_entry.specs.declared.entry.Entry.TheVariants.{Row, Create, Delete, Alter, Stream, Floor}
use Rattle.bt_entry.specs.declared.numbered.Numbered.{Numbered}
use Rattle.bt_codec.specs.Lists.{AllFrom}
use Rattle.bt_entry.specs.Grammar.{AreNumbered, IsSpellableNumbered}
use Rattle.bt_schema.specs.Schema.{Schema}
use Rattle.bt_state.specs.State.{State, greatest_lost, is_past, lost_after, lost_of, sequence_in}
use Rattle.bt_laws.specs.States.{AreNumberedTo, ValidCut, moment_of}

module _ (n : ℕ) where
  abbrev left : List Numbered → List Numbered
  left es = filter (is_past n) es

  -- ---- what holds of each entry, and of each behind another

  kept_by : (P : Numbered → Type 0) (e : Numbered) (es : List Numbered) (b : Bool) → P e → AllByRecursion P es → AllByRecursion P (cond b (e ∷ es) es)
  kept_by P e es true here all = (here, all)
  kept_by P e es false here all = all

  all_left : (P : Numbered → Type 0) (es : List Numbered) → AllByRecursion P es → AllByRecursion P (left es)
  all_left P [] all = tt
  all_left P (e ∷ es) all = kept_by P e (left es) (is_past n e) all.0 (all_left P es all.1)

  abbrev Fall : ℕ → List Numbered → Type 0
  Fall before es = AllFrom moment_of (λ m e. m ≤ e.moment) before es

  timed_by : (before : ℕ) (e : Numbered) (es : List Numbered) (b : Bool) → before ≤ e.moment → ((m : ℕ) → m ≤ e.moment → Fall m es) → Fall before (cond b (e ∷ es) es)
  timed_by before e es true le rest = (le, rest e.moment (omega arith))
  timed_by before e es false le rest = rest before le

  timed_left : (before m : ℕ) (es : List Numbered) → before ≤ m → Fall m es → Fall before (left es)
  timed_left before m [] le all = tt
  timed_left before m (e ∷ es) le all = let later = all.0 in timed_by before e (left es) (is_past n e) (omega (arith, le, later)) (λ k lower. timed_left k e.moment es lower all.1)

  -- ---- sequences

  few_by : (e : Numbered) (es rest : List Numbered) (b : Bool) → length rest ≤ length es → length (cond b (e ∷ rest) rest) ≤ length (e ∷ es)
  few_by e es rest true le = omega (arith, le)
  few_by e es rest false le = omega (arith, le)

  few_left : (es : List Numbered) → length (left es) ≤ length es
  few_left [] = omega arith
  few_left (e ∷ es) = few_by e es (left es) (is_past n e) (few_left es)

  past_by : (e : Numbered) (es rest : List Numbered) (b : Bool) → nat_lt n e.sequence ≡ b → n < e.sequence → rest ≡ es → cond b (e ∷ rest) rest ≡ e ∷ es
  past_by e es rest true is past same = ap (λ xs. e ∷ xs) same
  past_by e es rest false is past same = let le = ltb-false n e.sequence is in absurd (omega (arith, le, past))

  -- entries past n are all kept
  all_past : (first : ℕ) (es : List Numbered) → n < first → AreNumbered first es → left es ≡ es
  all_past first [] past all = refl
  all_past first (e ∷ es) past all = let is = all.0 in past_by e es (left es) (is_past n e) refl (omega (arith, past, is)) (all_past (first + 1) es (omega (arith, past)) all.1)

  module _ (last : ℕ) where
    abbrev EndNumbered : List Numbered → Type 0
    EndNumbered es = AreNumbered (last + 1 - length es) es

    ends_by : (first : ℕ) (e : Numbered) (es : List Numbered) (b : Bool) → nat_lt n e.sequence ≡ b → first + length (e ∷ es) ≡ last + 1 → AreNumbered first (e ∷ es) → EndNumbered (left es) → EndNumbered (cond b (e ∷ left es) (left es))
    ends_by first e es true is end all rest =
        let past : n < e.sequence = grind (arith, is) in
        let here = all.0 in
        let same : left es ≡ es = all_past (first + 1) es (omega (arith, past, here)) all.1 in
        let start : first ≡ last + 1 - length (e ∷ es) = omega (arith, end) in
        subst (λ xs. EndNumbered (e ∷ xs)) (sym same) (subst (λ m. AreNumbered m (e ∷ es)) start all)
    ends_by first e es false is end all rest = rest

    ends_left : (first : ℕ) (es : List Numbered) → first + length es ≡ last + 1 → AreNumbered first es → EndNumbered (left es)
    ends_left first [] end all = tt
    ends_left first (e ∷ es) end all = ends_by first e es (is_past n e) refl end all (ends_left (first + 1) es (omega (arith, end)) all.1)

    numbered_left : (es : List Numbered) → AreNumberedTo last es → AreNumberedTo last (left es)
    numbered_left es all =
        let le = all.0 in
        let few = few_left es in
        (omega (arith, le, few), ends_left (last + 1 - length es) es (omega (arith, le)) all.1)

    -- ---- lost numbers

    up_to : (first : ℕ) (es : List Numbered) → first + length es ≡ last + 1 → AreNumbered first es → AllByRecursion (λ e. e.sequence ≤ last) es
    up_to first [] end all = tt
    up_to first (e ∷ es) end all = let is = all.0 in (omega (arith, end, is), up_to (first + 1) es (omega (arith, end)) all.1)

    sequence_by : (b : Bool) (sequence : ℕ) → sequence ≤ last → (if b then sequence else 0) ≤ last
    sequence_by true sequence le = le
    sequence_by false sequence le = omega arith

    sequence_of : (incarnation : ℕ) (e : Entry) (sequence : ℕ) → sequence ≤ last → sequence_in incarnation e sequence ≤ last
    sequence_of incarnation (Row other key by_rule mutations) sequence le = sequence_by (other == incarnation) sequence le
    sequence_of incarnation (Create name families retention) sequence le = omega arith
    sequence_of incarnation (Delete other) sequence le = omega arith
    sequence_of incarnation (Alter other families) sequence le = omega arith
    sequence_of incarnation (Stream other retention) sequence le = omega arith
    sequence_of incarnation Floor sequence le = omega arith

    greater_by : (b : Bool) (m k : ℕ) → m ≤ last → k ≤ last → (if b then m else max m k) ≤ last
    greater_by true m k one two = one
    greater_by false m k one two = omega (arith, one, two)

    lost_up_to : (incarnation before : ℕ) (es : List Numbered) → before ≤ last → AllByRecursion (λ e. e.sequence ≤ last) es → greatest_lost incarnation n es before ≤ last
    lost_up_to incarnation before [] le all = le
    lost_up_to incarnation before (e ∷ es) le all =
        lost_up_to incarnation (if is_past n e then before else max before (sequence_in incarnation e.entry e.sequence)) es
        (greater_by (is_past n e) before (sequence_in incarnation e.entry e.sequence) le (sequence_of incarnation e.entry e.sequence all.0)) all.1

    found_by : (l : ℕ × ℕ) (ls : List (ℕ × ℕ)) (b : Bool) (o : Option ℕ) → l.1 ≤ last → unwrap_or o 0 ≤ last → unwrap_or (cond b (Some l.1) o) 0 ≤ last
    found_by l ls true o here rest = here
    found_by l ls false o here rest = rest

    found_lost : (incarnation : ℕ) (ls : List (ℕ × ℕ)) → AllByRecursion (λ l. l.1 ≤ last) ls → unwrap_or (lookup (is_at (nat_cmp incarnation)) ls) 0 ≤ last
    found_lost incarnation [] all = omega arith
    found_lost incarnation (l ∷ ls) all = found_by l ls (is_at (nat_cmp incarnation) l.0) (lookup (is_at (nat_cmp incarnation)) ls) all.0 (found_lost incarnation ls all.1)

    all_lost : (s : State) (ts : Schema) → AllByRecursion (λ l. l.1 ≤ last) s.lost → AllByRecursion (λ e. e.sequence ≤ last) s.history → AllByRecursion (λ l. l.1 ≤ last) (lost_after n s ts)
    all_lost s [] lost all = tt
    all_lost s (t ∷ ts) lost all = (lost_up_to t.1.incarnation (lost_of t.1.incarnation s) s.history (found_lost t.1.incarnation s.lost lost) all, all_lost s ts lost all)

pub valid_cut : ValidCut
valid_cut s n valid =
    let p = s.present in
    let le = valid.numbered.0 in
    record {
      numbered = numbered_left n p.last s.history valid.numbered;
      timed = timed_left n 0 0 s.history (omega arith) valid.timed;
      past = all_left n (λ (e : Numbered). e.moment ≤ p.floor) s.history valid.past;
      spellable = all_left n IsSpellableNumbered s.history valid.spellable;
      sorted = valid.sorted;
      apart = valid.apart;
      few = valid.few;
      tables = valid.tables;
      ordered = valid.ordered;
      filled = valid.filled;
      owned = valid.owned;
      rows = valid.rows;
      lost = all_lost n p.last s p.schema valid.lost (up_to n p.last (p.last + 1 - length s.history) s.history (omega (arith, le)) valid.numbered.1);
      floor = valid.floor;
      within = valid.within;
    }
