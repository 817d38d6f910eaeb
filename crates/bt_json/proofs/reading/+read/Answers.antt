use Rattle.std.proofs.Common.{◌≡◌, ◌-◌, ◌<◌, [], ◌∷◌, length, Some, None, refl, subst, sym, ap, ap₂, ◌∙◌, arith, rules}
use Rattle.json.specs.Token.{Token}
use Rattle.json.specs.Json.{parse_map, after_end_array, read_key, items, members, value}
use Rattle.json.specs.Reads.{token_of}
use Rattle.json.proofs.Grammar.{value_is, value-begin_array, value-begin_object, read_key-shorter}
use Rattle.serde_json.specs.Data.{null, boolean, number, string, array, object, put}
use Rattle.serde_json.specs.Read.{of_json, of_items, of_members, converted}
use Rattle.bt_json.specs.Names.{AreSorted}
use Rattle.bt_json.specs.View.{view, number_view, members_view}
use Rattle.bt_json.specs.declared.value.Value.{String, Number, Bool, Null, the_lemmas}
use Rattle.bt_json.proofs.Sorted.{none_sorted, put_sorted}
use Rattle.bt_json.proofs.Views.{view-Array, view-Object, inserted}
use Rattle.bt_json.proofs.Turns.{array_converted, object_converted, item_read, item_refused, items_over, member_read, member_refused, key_refused, members_over, items_after, none_after, one_more, as_it_is, if_ok_map}
use Rattle.bt_json.proofs.reading.+read.Goals as goal

pub read_value-returns-in_err-ok_or-clause-ill_formed : goal.read_value-returns-in_err-ok_or-clause-ill_formed
read_value-returns-in_err-ok_or-clause-ill_formed t c refused =
    let empty : c.args.reader.now ≡ [] = grind arith in
    ap (converted of_json) (ap (value c.args.depth) empty ∙ value_is c.args.depth [])

pub read_value-returns-in_err-read_items-in-BeginArray-clause-ill_formed : goal.read_value-returns-in_err-read_items-in-BeginArray-clause-ill_formed
read_value-returns-in_err-read_items-in-BeginArray-clause-ill_formed t c refused =
    let first : c.args.reader.now ≡ token_of c.in_ok-ok_or.field-0 ∷ c.next.new.self = grind arith in
    let opened = ap (converted of_json) (ap (value c.args.depth) (first ∙ ap (λ k. token_of k ∷ c.next.new.self) c.in-BeginArray.is) ∙ value-begin_array c.args.depth c.next.new.self (omega arith)) ∙ array_converted (items (value (c.args.depth - 1)) (length c.next.new.self) c.next.new.self) in
    opened ∙ ap (parse_map array) (c.read_items.ensures.ill_formed (grind arith))

pub read_value-returns-in_ok-read_items-in-BeginArray-clause-ok : goal.read_value-returns-in_ok-read_items-in-BeginArray-clause-ok
read_value-returns-in_ok-read_items-in-BeginArray-clause-ok t c =
    let first : c.args.reader.now ≡ token_of c.in_ok-ok_or.field-0 ∷ c.next.new.self = grind arith in
    let opened = ap (converted of_json) (ap (value c.args.depth) (first ∙ ap (λ k. token_of k ∷ c.next.new.self) c.in-BeginArray.is) ∙ value-begin_array c.args.depth c.next.new.self (omega arith)) ∙ array_converted (items (value (c.args.depth - 1)) (length c.next.new.self) c.next.new.self) in
    let found = c.in_ok-read_items-in-BeginArray in
    opened ∙ ap (parse_map array) found.ensures.ok ∙ ap (λ d. Some (d, c.read_items.new.reader)) (sym (view-Array found.field-0))

pub read_value-returns-in_err-read_members-in-BeginObject-clause-ill_formed : goal.read_value-returns-in_err-read_members-in-BeginObject-clause-ill_formed
read_value-returns-in_err-read_members-in-BeginObject-clause-ill_formed t c refused =
    let first : c.args.reader.now ≡ token_of c.in_ok-ok_or.field-0 ∷ c.next.new.self = grind arith in
    let opened = ap (converted of_json) (ap (value c.args.depth) (first ∙ ap (λ k. token_of k ∷ c.next.new.self) c.in-BeginObject.is) ∙ value-begin_object c.args.depth c.next.new.self (omega arith)) ∙ object_converted (members (value (c.args.depth - 1)) (length c.next.new.self) c.next.new.self) in
    opened ∙ ap (parse_map object) (c.read_members.ensures.ill_formed (grind arith))

pub read_value-returns-in_ok-read_members-in-BeginObject-clause-ok : goal.read_value-returns-in_ok-read_members-in-BeginObject-clause-ok
read_value-returns-in_ok-read_members-in-BeginObject-clause-ok t c =
    let first : c.args.reader.now ≡ token_of c.in_ok-ok_or.field-0 ∷ c.next.new.self = grind arith in
    let opened = ap (converted of_json) (ap (value c.args.depth) (first ∙ ap (λ k. token_of k ∷ c.next.new.self) c.in-BeginObject.is) ∙ value-begin_object c.args.depth c.next.new.self (omega arith)) ∙ object_converted (members (value (c.args.depth - 1)) (length c.next.new.self) c.next.new.self) in
    let found = c.in_ok-read_members-in-BeginObject in
    opened ∙ ap (parse_map object) found.ensures.ok ∙ ap (λ d. Some (d, c.read_members.new.reader)) (sym (view-Object found.field-0))

pub read_value-returns-in-Null-clause-ok : goal.read_value-returns-in-Null-clause-ok
read_value-returns-in-Null-clause-ok t c =
    let first : c.args.reader.now ≡ token_of c.in_ok-ok_or.field-0 ∷ c.next.new.self = grind arith in
    let is : c.args.reader.now ≡ Token.null ∷ c.next.new.self = grind (arith, first) in
    let seen : view (Null) ≡ null = search (rules, the_lemmas) in
    ap (converted of_json) (ap (value c.args.depth) is ∙ value_is c.args.depth _) ∙ ap (λ d. Some (d, c.next.new.self)) (sym seen)

pub read_value-returns-in-Bool-clause-ok : goal.read_value-returns-in-Bool-clause-ok
read_value-returns-in-Bool-clause-ok t c =
    let first : c.args.reader.now ≡ token_of c.in_ok-ok_or.field-0 ∷ c.next.new.self = grind arith in
    let is : c.args.reader.now ≡ Token.boolean c.in-Bool.truth ∷ c.next.new.self = grind (arith, first) in
    let seen : view (Bool c.in-Bool.truth) ≡ boolean c.in-Bool.truth = search (rules, the_lemmas) in
    ap (converted of_json) (ap (value c.args.depth) is ∙ value_is c.args.depth _) ∙ ap (λ d. Some (d, c.next.new.self)) (sym seen)

pub read_value-returns-in-String-clause-ok : goal.read_value-returns-in-String-clause-ok
read_value-returns-in-String-clause-ok t c =
    let first : c.args.reader.now ≡ token_of c.in_ok-ok_or.field-0 ∷ c.next.new.self = grind arith in
    let is : c.args.reader.now ≡ Token.string c.in-String.text.now ∷ c.next.new.self = grind (arith, first) in
    let seen : view (String c.in-String.text) ≡ string c.in-String.text.now = search (rules, the_lemmas) in
    ap (converted of_json) (ap (value c.args.depth) is ∙ value_is c.args.depth _) ∙ ap (λ d. Some (d, c.next.new.self)) (sym seen)

pub read_value-returns-in-Some-clause-ok : goal.read_value-returns-in-Some-clause-ok
read_value-returns-in-Some-clause-ok t c =
    let first : c.args.reader.now ≡ token_of c.in_ok-ok_or.field-0 ∷ c.next.new.self = grind arith in
    let is : c.args.reader.now ≡ Token.number c.in-Number.text.now ∷ c.next.new.self = grind (arith, first) in
    let seen : view (Number c.in-Some.number) ≡ number (number_view c.in-Some.number) = search (rules, the_lemmas) in
    ap (converted of_json) (ap (value c.args.depth) is ∙ value_is c.args.depth _) ∙ rw (← c.in-Some.ensures, seen)

pub read_value-returns-in-None-clause-ill_formed : goal.read_value-returns-in-None-clause-ill_formed
read_value-returns-in-None-clause-ill_formed t c refused =
    let first : c.args.reader.now ≡ token_of c.in_ok-ok_or.field-0 ∷ c.next.new.self = grind arith in
    let is : c.args.reader.now ≡ Token.number c.in-Number.text.now ∷ c.next.new.self = grind (arith, first) in
    ap (converted of_json) (ap (value c.args.depth) is ∙ value_is c.args.depth _) ∙ rw (← c.in-None.ensures)

pub read_value-returns-then-depth-eq0-clause-ill_formed : goal.read_value-returns-then-depth-eq0-clause-ill_formed
unfolding value
read_value-returns-then-depth-eq0-clause-ill_formed t c refused =
    let first : c.args.reader.now ≡ token_of c.in_ok-ok_or.field-0 ∷ c.next.new.self = grind arith in
    let none : c.args.depth ≡ 0 = omega arith in
    ap (converted of_json) (ap₂ value none (first ∙ ap (λ k. token_of k ∷ c.next.new.self) c.in-BeginArray.is))

pub read_value-returns-then-depth-eq0-2-clause-ill_formed : goal.read_value-returns-then-depth-eq0-2-clause-ill_formed
unfolding value
read_value-returns-then-depth-eq0-2-clause-ill_formed t c refused =
    let first : c.args.reader.now ≡ token_of c.in_ok-ok_or.field-0 ∷ c.next.new.self = grind arith in
    let none : c.args.depth ≡ 0 = omega arith in
    ap (converted of_json) (ap₂ value none (first ∙ ap (λ k. token_of k ∷ c.next.new.self) c.in-BeginObject.is))

pub read_value-returns-in-Key-clause-ill_formed : goal.read_value-returns-in-Key-clause-ill_formed
read_value-returns-in-Key-clause-ill_formed t c refused =
    let first : c.args.reader.now ≡ token_of c.in_ok-ok_or.field-0 ∷ c.next.new.self = grind arith in
    let none : value c.args.depth c.args.reader.now ≡ None = rw (value_is c.args.depth c.args.reader.now, first) (grind arith) in
    ap (converted of_json) none

pub read_items-items-init : goal.read_items-items-init
read_items-items-init t c =
    let all = converted of_items (items (value c.args.depth) (length c.args.reader.now) c.args.reader.now) in
    (length c.args.reader.now, omega arith, as_it_is all ∙ ap (λ vs. parse_map (items_after vs) all) (sym c.new-found.ensures.items), omega arith)

pub read_items-returns-in_err-item-clause-ill_formed : goal.read_items-returns-in_err-item-clause-ill_formed
read_items-returns-in_err-item-clause-ill_formed t c refused =
    let p = value c.args.depth in
    let l = c.items in
    let n = l.invariant.0 in
    let going : (after_end_array l.reader ≡ None) × (c.take_end_array.new.self ≡ l.reader) = grind arith in
    l.invariant.2 ∙ ap (parse_map (items_after l.found.items)) (item_refused p n l.reader going.0 (rw (← going.1) (c.read_value.ensures.ill_formed (grind arith))))

pub read_items-items-preserved : goal.read_items-items-preserved
read_items-items-preserved t c =
    let p = value c.args.depth in
    let l = c.items in
    let n = l.invariant.0 in
    let going : (after_end_array l.reader ≡ None) × (c.take_end_array.new.self ≡ l.reader) = grind arith in
    let done = c.in_ok-item.ensures in
    let v = c.in_ok-item.item in
    let r = c.read_value.new.reader in
    let less : length r < length l.reader = rw (← going.1) done.shorter in
    let turn = item_read p n l.reader r (view v) (omega (arith, l.invariant.1)) going.0 (rw (← going.1) done.ok) in (
      n - 1,
      omega (arith, l.invariant.1),
      l.invariant.2 ∙ ap (parse_map (items_after l.found.items)) turn ∙ one_more l.found.items v _
          ∙ ap (λ vs. parse_map (items_after vs) (converted of_items (items p (n - 1) r))) (sym c.in_ok-push.ensures.items),
      omega (arith, l.invariant.3),
    )

pub read_items-returns-clause-ok : goal.read_items-returns-clause-ok
read_items-returns-clause-ok t c =
    let p = value c.args.depth in
    let l = c.items in
    let n = l.invariant.0 in
    let r = c.take_end_array.new.self in
    l.invariant.2 ∙ ap (parse_map (items_after l.found.items)) (items_over p n l.reader r l.invariant.1 (grind arith)) ∙ ap (λ ds. Some (ds, r)) (none_after l.found.items)

pub read_members-members-init : goal.read_members-members-init
read_members-members-init t c =
    let all = members (value c.args.depth) (length c.args.reader.now) c.args.reader.now in
    (length c.args.reader.now, omega arith, ap (λ es. converted (λ ms. of_members ms (members_view es)) all) (sym c.new-found.ensures.items), omega arith, subst AreSorted (sym c.new-found.ensures.items) none_sorted)

pub read_members-returns-in_err-name-clause-ill_formed : goal.read_members-returns-in_err-name-clause-ill_formed
read_members-returns-in_err-name-clause-ill_formed t c refused =
    let p = value c.args.depth in
    let l = c.members in
    let n = l.invariant.0 in
    let old = members_view l.found.items in
    l.invariant.2 ∙ key_refused p old n l.reader c.in_err-name.ensures.value

pub read_members-returns-in_err-member-clause-ill_formed : goal.read_members-returns-in_err-member-clause-ill_formed
read_members-returns-in_err-member-clause-ill_formed t c refused =
    let p = value c.args.depth in
    let l = c.members in
    let n = l.invariant.0 in
    let old = members_view l.found.items in
    let k = c.in-Some.name.now in
    let s = c.next_key.new.self in
    let named : read_key l.reader ≡ Some (Some k, s) = grind arith in
    l.invariant.2 ∙ member_refused p old n k l.reader s named (c.read_value.ensures.ill_formed (grind arith))

pub read_members-members-preserved : goal.read_members-members-preserved
read_members-members-preserved t c =
    let p = value c.args.depth in
    let l = c.members in
    let n = l.invariant.0 in
    let old = members_view l.found.items in
    let k = c.in-Some.name.now in
    let s = c.next_key.new.self in
    let named : read_key l.reader ≡ Some (Some k, s) = grind arith in
    let done = c.in_ok-member.ensures in
    let v = c.in_ok-member.member in
    let r = c.read_value.new.reader in
    let less = read_key-shorter l.reader (Some k) s named in
    let lesser = done.shorter in
    let put_in : members_view c.put.new.members.items ≡ put k (view v) old = ap members_view c.in_ok-put.ensures.entries ∙ inserted l.found.items c.in-Some.name v in
    let turn = l.invariant.2 ∙ member_read p old n k l.reader s r (view v) (omega (arith, l.invariant.1)) named done.ok
    ∙ ap (λ found. converted (λ ms. of_members ms found) (members p (n - 1) r)) (sym put_in) in
    let sorted : AreSorted c.put.new.members.items = subst AreSorted (sym c.in_ok-put.ensures.entries) (put_sorted c.in-Some.name v l.found.items l.invariant.4) in
    (n - 1, omega (arith, l.invariant.1), turn, omega (arith, l.invariant.3), sorted)

pub read_members-to_map-requires : goal.read_members-to_map-requires
read_members-to_map-requires t c =
    record { sorted = subst AreSorted (sym c.in_ok-put.ensures.entries) (put_sorted c.in-Some.name c.in_ok-member.member c.members.found.items c.members.invariant.4) }

pub read_members-returns-then-len-eq-MOST_IN_LIST-clause-ok : goal.read_members-returns-then-len-eq-MOST_IN_LIST-clause-ok
read_members-returns-then-len-eq-MOST_IN_LIST-clause-ok t c =
    let p = value c.args.depth in
    let l = c.members in
    let n = l.invariant.0 in
    let old = members_view l.found.items in
    let k = c.in-Some.name.now in
    let s = c.next_key.new.self in
    let named : read_key l.reader ≡ Some (Some k, s) = grind arith in
    let done = c.in_ok-member.ensures in
    let v = c.in_ok-member.member in
    let r = c.read_value.new.reader in
    let less = read_key-shorter l.reader (Some k) s named in
    let lesser = done.shorter in
    let put_in : members_view c.put.new.members.items ≡ put k (view v) old = ap members_view c.in_ok-put.ensures.entries ∙ inserted l.found.items c.in-Some.name v in
    let turn = l.invariant.2 ∙ member_read p old n k l.reader s r (view v) (omega (arith, l.invariant.1)) named done.ok
    ∙ ap (λ found. converted (λ ms. of_members ms found) (members p (n - 1) r)) (sym put_in) in
    let mapped = turn ∙ ap (λ es. converted (λ ms. of_members ms (members_view es)) (members p (n - 1) r)) (sym c.in_ok-map.ensures.exact) in
    if_ok_map c.read_more_members.result (λ m e. mapped ∙ e) (c.read_more_members.ensures.ok (n - 1) (omega (arith, l.invariant.1)))

pub read_members-returns-then-len-eq-MOST_IN_LIST-clause-ill_formed : goal.read_members-returns-then-len-eq-MOST_IN_LIST-clause-ill_formed
read_members-returns-then-len-eq-MOST_IN_LIST-clause-ill_formed t c refused =
    let p = value c.args.depth in
    let l = c.members in
    let n = l.invariant.0 in
    let old = members_view l.found.items in
    let k = c.in-Some.name.now in
    let s = c.next_key.new.self in
    let named : read_key l.reader ≡ Some (Some k, s) = grind arith in
    let done = c.in_ok-member.ensures in
    let v = c.in_ok-member.member in
    let r = c.read_value.new.reader in
    let less = read_key-shorter l.reader (Some k) s named in
    let lesser = done.shorter in
    let put_in : members_view c.put.new.members.items ≡ put k (view v) old = ap members_view c.in_ok-put.ensures.entries ∙ inserted l.found.items c.in-Some.name v in
    let turn = l.invariant.2 ∙ member_read p old n k l.reader s r (view v) (omega (arith, l.invariant.1)) named done.ok
    ∙ ap (λ found. converted (λ ms. of_members ms found) (members p (n - 1) r)) (sym put_in) in
    let mapped = turn ∙ ap (λ es. converted (λ ms. of_members ms (members_view es)) (members p (n - 1) r)) (sym c.in_ok-map.ensures.exact) in
    mapped ∙ c.read_more_members.ensures.ill_formed (n - 1) (omega (arith, l.invariant.1)) refused

pub read_members-returns-clause-ok : goal.read_members-returns-clause-ok
read_members-returns-clause-ok t c =
    let p = value c.args.depth in
    let l = c.members in
    let n = l.invariant.0 in
    let old = members_view l.found.items in
    l.invariant.2 ∙ members_over p old n l.reader c.next_key.new.self l.invariant.1 (grind arith)

pub read_more_members-members-init : goal.read_more_members-members-init
read_more_members-members-init t c = (λ most h. (most, h, refl), omega arith)

pub read_more_members-returns-in_err-name-clause-ill_formed : goal.read_more_members-returns-in_err-name-clause-ill_formed
read_more_members-returns-in_err-name-clause-ill_formed t c most h refused =
    let p = value c.args.depth in
    let l = c.members in
    let i = l.invariant.0 most h in
    let old = members_view l.found.entries in
    i.2 ∙ key_refused p old i.0 l.reader c.in_err-name.ensures.value

pub read_more_members-returns-in_err-member-clause-ill_formed : goal.read_more_members-returns-in_err-member-clause-ill_formed
read_more_members-returns-in_err-member-clause-ill_formed t c most h refused =
    let p = value c.args.depth in
    let l = c.members in
    let i = l.invariant.0 most h in
    let old = members_view l.found.entries in
    let k = c.in-Some.name.now in
    let s = c.next_key.new.self in
    let named : read_key l.reader ≡ Some (Some k, s) = grind arith in
    i.2 ∙ member_refused p old i.0 k l.reader s named (c.read_value.ensures.ill_formed (grind arith))

pub read_more_members-members-preserved : goal.read_more_members-members-preserved
read_more_members-members-preserved t c =
    let p = value c.args.depth in
    let l = c.members in
    let old = members_view l.found.entries in
    let k = c.in-Some.name.now in
    let s = c.next_key.new.self in
    let named : read_key l.reader ≡ Some (Some k, s) = grind arith in
    let done = c.in_ok-member.ensures in
    let v = c.in_ok-member.member in
    let r = c.read_value.new.reader in
    let less = read_key-shorter l.reader (Some k) s named in
    let lesser = done.shorter in
    let put_in : members_view c.insert.new.self.entries ≡ put k (view v) old = ap members_view c.in_ok-insert.ensures.entries ∙ inserted l.found.entries c.in-Some.name v in (
      λ most h. let i = l.invariant.0 most h in (
        i.0 - 1,
        omega (arith, i.1),
        i.2 ∙ member_read p old i.0 k l.reader s r (view v) (omega (arith, i.1)) named done.ok
            ∙ ap (λ found. converted (λ ms. of_members ms found) (members p (i.0 - 1) r)) (sym put_in),
      ),
      omega (arith, l.invariant.1),
    )

pub read_more_members-returns-clause-ok : goal.read_more_members-returns-clause-ok
read_more_members-returns-clause-ok t c most h =
    let p = value c.args.depth in
    let l = c.members in
    let i = l.invariant.0 most h in
    let old = members_view l.found.entries in
    let over = i.2 ∙ members_over p old i.0 l.reader c.next_key.new.self i.1 (grind arith) in
    if_ok_map c.from_map.result (λ m same. over ∙ ap (λ es. Some (members_view es, c.next_key.new.self)) (sym same)) c.from_map.ensures.exact
