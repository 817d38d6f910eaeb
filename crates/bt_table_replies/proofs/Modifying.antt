-- The record of ModifyColumnFamilies may come next.
use Rattle.std.proofs.Common.{◌≡◌, ◌≤◌, ◌<◌, ◌^◌, ◌+◌, ℕ, Bool, true, false, List, [], ◌∷◌, ◌++◌, length, map, Some, Result, Ok, Err, refl, ap, ◌∙◌, sym, subst, cond, arith}
use Rattle.std.specs.Prelude.{◌&&◌, ◌||◌, IfOk, IsTrue, OnOk, filter, nat_lt, not, bytes_eq}
use Rattle.std.specs.List.{AllByRecursion, list_all, list_any}
use Rattle.std.specs.Result.{result_err}
use Rattle.std.proofs.lemmas.Bool.{and_from, le-ltb, or_left, or_right}
use Rattle.std.proofs.lemmas.List.{length-append, length-map, map-append}
use Rattle.std.proofs.lemmas.Slice.Eq.{bytes_eq-Decides}
use Rattle.bt_types.specs.Grammar.{is_family_name, is_row_key}
use Rattle.bt_types.specs.declared.cell.Cell.{Cell}
use Rattle.bt_types.specs.declared.mutation.Mutation.{Mutation}
use Rattle.bt_types.specs.declared.mutation.Mutation.TheVariants.{DeleteFamily}
use Rattle.bt_rules.specs.declared.family.Family.{Family}
use Rattle.bt_rules.specs.Rules.{is_lawful_or_none}
use Rattle.bt_entry.specs.Grammar.{AreSpellableFamilies, IsSpellableMutation, last_moment, most_families}
use Rattle.bt_entry.specs.declared.entry.Entry.{Entry}
use Rattle.bt_entry.specs.declared.entry.Entry.TheVariants.{Alter}
use Rattle.bt_entry.specs.declared.numbered.Numbered.{Numbered}
use Rattle.bt_entry.specs.declared.table_info.TableInfo.{TableInfo}
use Rattle.bt_messages.specs.Lines.{line_of, ok_line, response_data}
use Rattle.bt_messages.specs.Responses.{shown}
use Rattle.bt_messages.specs.declared.refusal.Refusal.{Refusal}
use Rattle.bt_messages.specs.declared.response.Response.TheVariants.{ModifyColumnFamilies}
use Rattle.bt_requests.specs.declared.families.Modification.{Modification}
use Rattle.bt_contents.specs.Contents.{Contents, is_used}
use Rattle.bt_table_replies.proofs.Altering.{all_kept, all_spellable, lawful_of, length_filtered, named_of}
use Rattle.bt_plans.proofs.InTurn.{MayCome, are_numbered, come_in_turn, events-numbered_from, length-numbered_from, numbered_from-append, reply_lines-is, rows_after}
use Rattle.bt_table_replies.proofs.Losing.{events-are, names_of}
use Rattle.bt_table_replies.proofs.Lost.{is_one_of, rows_left, unused}
use Rattle.bt_table_replies.specs.Losses.{AreFound, Losses, deletions_of, has_cell, loss, loss_entry, losses, modified, modified_entries}
use Rattle.bt_table_replies.specs.Modifications.{after_changes, dropped, is_drop, modified_reply, modify_reply}
use Rattle.bt_plans.specs.Plans.{IsPlan}
use Rattle.bt_plans.specs.Records.{as_record, numbered_from, plan_of}
use Rattle.bt_plans.specs.Replies.{event}
use Rattle.bt_plans.specs.declared.answer.Answer.TheVariants.{Lines, Refused}
use Rattle.bt_plans.specs.declared.plan.Plan.{Plan}
use Rattle.bt_plans.specs.declared.plan.Plan.TheVariants.{Says}
use Rattle.bt_schema.specs.Schema.{is_family_of, is_of_family, table_at, with_families}
use Rattle.bt_state.specs.State.{AreLawful, Event, IsLawful, Present, keep_used, numbered, present_after, presents_after, rows_of}

-- ---- each is among all

module _ {A : Type 0} (same : A → A → Bool) (itself : (x : A) → same x x ≡ true) where
  abbrev IsAmong : List A → A → Type 0
  IsAmong xs x = list_any (λ y. same y x) xs ≡ true

  among_more : (x : A) (xs ys : List A) → AllByRecursion (IsAmong xs) ys → AllByRecursion (IsAmong (x ∷ xs)) ys
  among_more x xs [] all = tt
  among_more x xs (y ∷ ys) all = (or_right (same x y) (list_any (λ z. same z y) xs) all.0, among_more x xs ys all.1)

  each_among : (xs : List A) → AllByRecursion (IsAmong xs) xs
  each_among [] = tt
  each_among (x ∷ xs) = (or_left (same x x) (list_any (λ y. same y x) xs) (itself x), among_more x xs xs (each_among xs))

itself : (a : List ℕ) → bytes_eq a a ≡ true
itself a = (bytes_eq-Decides a a).1 refl

module _ {A : Type 0} (P Q : A → Type 0) where
  pub all_both : (xs : List A) → AllByRecursion P xs → AllByRecursion Q xs → AllByRecursion (λ x. P x × Q x) xs
  all_both [] all also = tt
  all_both (x ∷ xs) all also = ((all.0, also.0), all_both xs all.1 also.1)

  weaker : ((x : A) → P x → Q x) → (xs : List A) → AllByRecursion P xs → AllByRecursion Q xs
  weaker f [] all = tt
  weaker f (x ∷ xs) all = (f x all.0, weaker f xs all.1)

module _ {A : Type 0} (P : A → Type 0) (p : A → Bool) where
  filtered_by : (x : A) (xs : List A) (b : Bool) → P x → AllByRecursion P (filter p xs) → AllByRecursion P (cond b (x ∷ filter p xs) (filter p xs))
  filtered_by x xs true here rest = (here, rest)
  filtered_by x xs false here rest = rest

  filtered : (xs : List A) → AllByRecursion P xs → AllByRecursion P (filter p xs)
  filtered [] all = tt
  filtered (x ∷ xs) all = filtered_by x xs (p x) all.0 (filtered xs all.1)

-- ---- the entries of rows

module _ (t : TableInfo) where
  -- a lawful name of a family of the table
  abbrev IsOwn : List ℕ → Type 0
  IsOwn n = (is_family_name n ≡ true) × (is_family_of t.families n ≡ true)

  own_names : (fs : List Family) → AllByRecursion (λ f. (is_family_name f.name ≡ true) × (is_family_of t.families f.name ≡ true)) fs → AllByRecursion IsOwn (names_of fs)
  own_names [] all = tt
  own_names (f ∷ fs) all = (all.0, own_names fs all.1)

  pub own_dropped : (ms : List Modification) → AreSpellableFamilies t.families → AllByRecursion IsOwn (names_of (dropped ms t))
  own_dropped ms spellable =
      let each = all_both (λ (f : Family). is_family_name f.name ≡ true) (λ (f : Family). is_family_of t.families f.name ≡ true) t.families (named_of [] t.families spellable.1) (each_among (λ (f g : Family). bytes_eq f.name g.name) (λ f. itself f.name) t.families) in
      own_names (dropped ms t) (filtered (λ (f : Family). (is_family_name f.name ≡ true) × (is_family_of t.families f.name ≡ true)) (λ f. list_any (λ m. is_drop m.change && bytes_eq m.id f.name) ms) t.families each)

  spellable_deletions : (ns : List (List ℕ)) → AllByRecursion IsOwn ns → AllByRecursion IsSpellableMutation (map (λ n. DeleteFamily n) ns)
  spellable_deletions [] all = tt
  spellable_deletions (n ∷ ns) all = (all.0.0, spellable_deletions ns all.1)

  own_deletions : (ns : List (List ℕ)) → AllByRecursion IsOwn ns → list_all (is_of_family t) (map (λ n. DeleteFamily n) ns) ≡ true
  own_deletions [] all = refl
  own_deletions (n ∷ ns) all = and_from (is_family_of t.families n) (list_all (is_of_family t) (map (λ n. DeleteFamily n) ns)) all.0.1 (own_deletions ns all.1)

  -- deletions that the table takes
  record AreTaken (ds : List Mutation) : Type 0 where
    few : length ds ≤ most_families
    spellable : AllByRecursion IsSpellableMutation ds
    own : list_all (is_of_family t) ds ≡ true

  taken : (names : List (List ℕ)) (row : List Cell) → length names ≤ most_families → AllByRecursion IsOwn names → AreTaken (deletions_of names row)
  taken names row few all =
      let left = filter (has_cell row) names in
      let own = filtered IsOwn (has_cell row) names all in
      record { few = omega (arith, few, length_filtered (has_cell row) names, length-map left (λ n. DeleteFamily n)); spellable = spellable_deletions left own; own = own_deletions left own }

  module _ (m : ℕ) (small : t.incarnation < 2 ^ 64) (not_past : m ≤ last_moment) where
    one_comes : (key : List ℕ) (d : Mutation) (ds : List Mutation) → is_row_key key ≡ true → AreTaken (d ∷ ds) → MayCome t m (loss_entry t.incarnation (key, d ∷ ds))
    one_comes key d ds lawful is = record {
      of_row = tt;
      lawful = λ p found before. record { spellable = (small, lawful, (omega arith, omega (arith, is.few), is.spellable)); not_past = not_past; not_before = before; allowed = rw (found, is.own) refl };
    }

    loss_comes : (key : List ℕ) (ds : List Mutation) (ls : Losses) → AllByRecursion (λ l. IsTrue (is_row_key l.0)) (loss key ds ++ ls) → AreTaken ds → (AllByRecursion (λ l. IsTrue (is_row_key l.0)) ls → AllByRecursion (MayCome t m) (map (loss_entry t.incarnation) ls))
        → AllByRecursion (MayCome t m) (map (loss_entry t.incarnation) (loss key ds ++ ls))
    loss_comes key [] ls keys is rest = rest keys
    loss_comes key (d ∷ ds) ls keys is rest = (one_comes key d ds keys.0 is, rest keys.1)

    -- the table takes the entries of rows that lose families of it
    losses_come : (names : List (List ℕ)) (rows : Contents) → length names ≤ most_families → AllByRecursion IsOwn names → AllByRecursion (λ l. IsTrue (is_row_key l.0)) (losses names rows) → AllByRecursion (MayCome t m) (map (loss_entry t.incarnation) (losses names rows))
    losses_come names [] few own keys = tt
    losses_come names (r ∷ rows) few own keys = loss_comes r.0 (deletions_of names r.1) (losses names rows) keys (taken names r.1 few own) (losses_come names rows few own)

-- ---- the families that are left

-- families that are dropped have no cell, and the others stay
used_kept : (p : Family → Bool) (gs fs : List Family) (rows : Contents) → AllByRecursion (λ f. p f ≡ false → is_family_of gs f.name ≡ true) fs → AllByRecursion (λ n. is_used n rows ≡ false) (names_of (filter p fs)) → keep_used gs fs rows ≡ true
used_kept p gs [] rows stay unused = refl
used_kept p gs (f ∷ fs) rows stay unused = by (p f) refl unused (used_kept p gs fs rows stay.1)
  where
    by : (b : Bool) → p f ≡ b → AllByRecursion (λ n. is_used n rows ≡ false) (names_of (cond b (f ∷ filter p fs) (filter p fs))) → (AllByRecursion (λ n. is_used n rows ≡ false) (names_of (filter p fs)) → keep_used gs fs rows ≡ true) → keep_used gs (f ∷ fs) rows ≡ true
    by true is none rest = and_from (is_family_of gs f.name || not (is_used f.name rows)) (keep_used gs fs rows) (or_right (is_family_of gs f.name) (not (is_used f.name rows)) (ap not none.0)) (rest none.1)
    by false is none rest = and_from (is_family_of gs f.name || not (is_used f.name rows)) (keep_used gs fs rows) (or_left (is_family_of gs f.name) (not (is_used f.name rows)) (stay.0 is)) (rest none)

-- ---- the record

lawful_append : (p : Present) (es fs : List Event) → AreLawful p es → AreLawful (presents_after p es) fs → AreLawful p (es ++ fs)
lawful_append p [] fs lawful also = also
lawful_append p (e ∷ es) fs lawful also = (lawful.0, lawful_append (present_after p e) es fs lawful.1 also)

module _ (p : Present) (m : ℕ) (t : TableInfo) (ms : List Modification) (gs : List Family) where
  abbrev gone : List (List ℕ)
  gone = names_of (dropped ms t)

  abbrev rows : Contents
  rows = rows_of t.incarnation p.contents

  abbrev first : List Event
  first = map (event m) (map (loss_entry t.incarnation) (losses gone rows))

  -- the reply
  pub modified-is : modified_reply p m ms t (Ok gs) ≡ modified m (modified_entries gone rows (with_families gs t)) (with_families gs t)
  modified-is = ap (λ es. record {
    responses = (modified m [] (with_families gs t)).responses;
    status = (modified m [] (with_families gs t)).status;
    records = (es ++ event m (Alter t.incarnation gs) ∷ []) ∷ [];
  }) (events-are m t.incarnation (dropped ms t) rows) ∙ ap (λ es. record {
    responses = (modified m [] (with_families gs t)).responses;
    status = (modified m [] (with_families gs t)).status;
    records = es ∷ [];
  }) (sym (map-append (event m) (map (loss_entry t.incarnation) (losses gone rows)) (Alter t.incarnation gs ∷ [])))

  module _ (changed : after_changes ms t.families ≡ Ok gs) (spellable : AreSpellableFamilies t.families) where
    stay_of : (fs : List Family) → AllByRecursion (λ f. is_family_of t.families f.name ≡ true) fs → AllByRecursion (λ f. list_any (λ m. is_drop m.change && bytes_eq m.id f.name) ms ≡ false → is_family_of gs f.name ≡ true) fs
    stay_of [] all = tt
    stay_of (f ∷ fs) all = ((λ stays. all_kept f.name ms t.families gs changed stays all.0), stay_of fs all.1)

    unused_of : (names : List (List ℕ)) → AllByRecursion (λ n. is_one_of n gone ≡ true) names → AreFound gone t.incarnation p → AllByRecursion (λ n. is_used n (rows_of t.incarnation (presents_after p first).contents) ≡ false) names
    unused_of [] all found = tt
    unused_of (n ∷ ns) all found = (rw (rows_left m t.incarnation (losses gone rows) p found.ordered) (unused n gone rows all.0 found.sorted), unused_of ns all.1 found)

    -- once the rows have lost their cells, the families may go
    alter_lawful : AreFound gone t.incarnation p → t.incarnation < 2 ^ 64 → m ≤ last_moment → (q : Present) → q ≡ presents_after p first → q.floor ≤ m → table_at t.incarnation q.schema ≡ Some t → IsLawful q (event m (Alter t.incarnation gs))
    alter_lawful found small not_past q is before own =
        let fine = all_spellable ms t.families gs changed spellable in
        let few : nat_lt most_families (length gs) ≡ false = le-ltb most_families (length gs) fine.0 in
        let lawful : list_all (λ f. is_lawful_or_none f.rule) gs ≡ true = lawful_of [] gs fine.1 in
        let stay = stay_of t.families (each_among (λ (f g : Family). bytes_eq f.name g.name) (λ f. itself f.name) t.families) in
        let none = unused_of gone (each_among bytes_eq itself gone) found in
        let kept : keep_used gs t.families (rows_of t.incarnation q.contents) ≡ true =
        rw is (used_kept (λ f. list_any (λ m. is_drop m.change && bytes_eq m.id f.name) ms) gs t.families (rows_of t.incarnation (presents_after p first).contents) stay none) in
        record { spellable = (small, fine); not_past = not_past; not_before = before; allowed = rw (own, lawful, few, kept) refl }

    -- the record may come next
    pub all_lawful : AreFound gone t.incarnation p → t.incarnation < 2 ^ 64 → m ≤ last_moment → p.floor ≤ m → table_at t.incarnation p.schema ≡ Some t → AreLawful p (map (event m) (modified_entries gone rows (with_families gs t)))
    all_lawful found small not_past before own =
        let few : length gone ≤ most_families = omega (arith, spellable.0, length-map (dropped ms t) (λ f. f.name), length_filtered (λ f. list_any (λ m. is_drop m.change && bytes_eq m.id f.name) ms) t.families) in
        let come = losses_come t m small not_past gone rows few (own_dropped t ms spellable) found.keys in
        let after = rows_after t m (map (loss_entry t.incarnation) (losses gone rows)) come p before in
        let there : table_at t.incarnation (presents_after p first).schema ≡ Some t = ap (table_at t.incarnation) after.schema ∙ own in
        rw (map-append (event m) (map (loss_entry t.incarnation) (losses gone rows)) (Alter t.incarnation gs ∷ []))
        (lawful_append p first (event m (Alter t.incarnation gs) ∷ []) (come_in_turn t m (map (loss_entry t.incarnation) (losses gone rows)) come p own before)
        (alter_lawful found small not_past (presents_after p first) refl after.floor there, tt))

-- one more entry takes the next number
numbered_push : (first m : ℕ) (es : List Entry) (e : Entry) → numbered_from first m es ++ numbered (first + length (numbered_from first m es)) (event m e) ∷ [] ≡ numbered_from first m (es ++ e ∷ [])
numbered_push first m es e = rw (length-numbered_from first m es) (sym (numbered_from-append first m es (e ∷ [])))

entries_plan : (p : Present) (m : ℕ) (t : TableInfo) (es : List Entry) (lines : List ℕ) → 1 ≤ length es → lines ≡ line_of (response_data (shown (ModifyColumnFamilies t))) ++ ok_line → AreLawful p (map (event m) es)
    → IsPlan (plan_of (as_record (numbered_from (p.last + 1) m es)) (Lines lines)) p (modified m es t)
entries_plan p m t [] lines some said lawful = absurd (omega (arith, some))
entries_plan p m t (e ∷ es) lines some said lawful =
    let events = events-numbered_from (p.last + 1) m (e ∷ es) in
    record {
      lines = reply_lines-is (response_data (shown (ModifyColumnFamilies t))) lines (map (event m) (e ∷ es) ∷ []) said;
      events = ap (λ (xs : List Event). xs ∷ []) (sym events);
      lawful = (omega arith, are_numbered (p.last + 1) m (e ∷ es), subst (AreLawful p) (sym events) lawful, tt);
    }

-- the record is a plan, where it may come next
pub record_plan : (p : Present) (m : ℕ) (t : TableInfo) (names : List (List ℕ)) (found : Losses) (rows batch : List Numbered) (lines : List ℕ) → found ≡ losses names (rows_of t.incarnation p.contents)
    → rows ≡ numbered_from (p.last + 1) m (map (loss_entry t.incarnation) found) → batch ≡ rows ++ numbered (p.last + 1 + length rows) (event m (Alter t.incarnation t.families)) ∷ []
    → lines ≡ line_of (response_data (shown (ModifyColumnFamilies t))) ++ ok_line → AreLawful p (map (event m) (modified_entries names (rows_of t.incarnation p.contents) t))
    → IsPlan (plan_of (as_record batch) (Lines lines)) p (modified m (modified_entries names (rows_of t.incarnation p.contents) t) t)
record_plan p m t names found rows batch lines found_is rows_are batch_is said lawful =
    let es = map (loss_entry t.incarnation) (losses names (rows_of t.incarnation p.contents)) in
    let last = Alter t.incarnation t.families in
    let made : batch ≡ numbered_from (p.last + 1) m (es ++ last ∷ []) = rw (batch_is, rows_are, found_is) (numbered_push (p.last + 1) m es last) in
    rw made (entries_plan p m t (es ++ last ∷ []) lines (omega (arith, length-append es (last ∷ []))) said lawful)

-- ---- the answer

modify-is : (p : Present) (m : ℕ) (ms : List Modification) (t : TableInfo) → (ms ≡ [] → ⊥) → modify_reply p m ms (Some t) ≡ modified_reply p m ms t (after_changes ms t.families)
modify-is p m [] t some = absurd (some refl)
modify-is p m (c ∷ cs) t some = refl

refused_by : (r : Result (List Family) Refusal) (why : Refusal) → result_err r ≡ Some why → r ≡ Err why
refused_by (Ok families) why is = absurd cc
refused_by (Err other) why is = cc

-- changes that are refused leave the table as it is
pub refused_plan : (p : Present) (m : ℕ) (ms : List Modification) (t : TableInfo) (why : Refusal) → (ms ≡ [] → ⊥) → result_err (after_changes ms t.families) ≡ Some why → IsPlan (Says (Refused why)) p (modify_reply p m ms (Some t))
refused_plan p m ms t why some is = rw (modify-is p m ms t some, refused_by (after_changes ms t.families) why is) (record { lines = refl; records = refl })

both_ok : {A E : Type 0} (r : Result A E) (F : Type 0) (P Q : A → Type 0) → OnOk r F → IfOk r P → ((x : A) → F → P x → Q x) → IfOk r Q
both_ok (Ok x) F P Q fact here f = f x fact here
both_ok (Err e) F P Q fact here f = tt

-- and the others make it another
pub modify_plan : {E : Type 0} (p : Present) (m : ℕ) (ms : List Modification) (t : TableInfo) (gs : List Family) (r : Result Plan E) → (ms ≡ [] → ⊥) → after_changes ms t.families ≡ Ok gs → AreSpellableFamilies t.families
    → t.incarnation < 2 ^ 64 → m ≤ last_moment → p.floor ≤ m → table_at t.incarnation p.schema ≡ Some t → OnOk r (AreFound (names_of (dropped ms t)) t.incarnation p)
    → IfOk r (λ plan. AreLawful p (map (event m) (modified_entries (names_of (dropped ms t)) (rows_of t.incarnation p.contents) (with_families gs t))) → IsPlan plan p (modified m (modified_entries (names_of (dropped ms t)) (rows_of t.incarnation p.contents) (with_families gs t)) (with_families gs t)))
    → IfOk r (λ plan. IsPlan plan p (modify_reply p m ms (Some t)))
modify_plan p m ms t gs r some changed spellable small not_past before own found plans =
    let entries = modified_entries (names_of (dropped ms t)) (rows_of t.incarnation p.contents) (with_families gs t) in
    rw (modify-is p m ms t some, changed, modified-is p m t ms gs)
    (both_ok r (AreFound (names_of (dropped ms t)) t.incarnation p) (λ plan. AreLawful p (map (event m) entries) → IsPlan plan p (modified m entries (with_families gs t))) (λ plan. IsPlan plan p (modified m entries (with_families gs t))) found plans
    (λ plan known is. is (all_lawful p m t ms gs changed spellable known small not_past before own)))
