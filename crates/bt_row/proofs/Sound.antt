-- What is made of sound values is sound.
use Rattle.std.proofs.Common.{◌≡◌, ◌≤◌, ℕ, Bool, true, false, List, [], ◌∷◌, Option, Some, None, cond, length, refl, subst, sym, arith}
use Rattle.std.specs.Prelude.{◌&&◌, is_some, All, IfSome, IsSome}
use Rattle.std.specs.Map.{keys_of, values_of}
use Rattle.std.proofs.lemmas.Cmp.{eq_by_cmp_equiv}
use Rattle.std.proofs.lemmas.List.Elements.{All-cons, All-head, All-tail}
use Rattle.std.proofs.lemmas.Map.Keys.{IsDistinct-from_sorted}
use Rattle.std.proofs.lemmas.Map.Views.{All-keys_from_lookup, All-values_from_lookup, IfSome-lookup_from_All}
use Rattle.std.specs.BTreeMap.{is_at}
use Rattle.bt_types.specs.declared.cell.Cell.{Cell}
use Rattle.bt_types.specs.Time.{is_micros}
use Rattle.bt_entry.specs.Grammar.{most_of_value}
use Rattle.bt_row.specs.declared.cell_key.CellKey.{CellKey}
use Rattle.bt_row.specs.declared.plan.Ending.{Ending}
use Rattle.bt_row.specs.declared.plan.Ending.TheVariants.{CarryOut, TakeBack}
use Rattle.bt_row.specs.declared.plan.Outcome.{Outcome}
use Rattle.bt_row.specs.declared.plan.Plan.{Plan}
use Rattle.bt_row.specs.Sound.{AreShort, IsSound}
use Rattle.bt_row.specs.Extents.{AreTimed, IsTimed}
use Rattle.bt_row.specs.Keys.{AreSorted, Keyed, cell_at, cells_of, key_cmp, key_total}
use Rattle.bt_row.specs.Plans.{AreLawful, IsShortOrNone, is_new, is_wanted, outcome_or, placed, settled, value_at}
use Rattle.bt_row.proofs.Plans.{same_key, untimed_none}

-- the value at a key is short, and the key has the timestamp of a cell where there is one
IsGood : CellKey → Option (List ℕ) → Type 0
IsGood k o = (IsSome o → IsTimed k) × IsShortOrNone o

timed_some : {X : Type 0} (es : List (CellKey × X)) (k : CellKey) → AreTimed (keys_of es) → IsSome (value_at es k) → IsTimed k
timed_some es k timed some = by (is_micros k.at) refl
  where
    by : (t : Bool) → is_micros k.at ≡ t → IsTimed k
    by true is = is
    by false is = let nothing = untimed_none es k timed is in absurd (cc (rw nothing at some))

short_values : (es : Keyed) → AreShort (cells_of es) → All (λ (v : List ℕ). length v ≤ most_of_value) (values_of es)
short_values [] short = λ k d lt. absurd (omega (arith, lt))
short_values (e ∷ es) short =
    All-cons (λ (v : List ℕ). length v ≤ most_of_value) e.1 (values_of es) (All-head (λ (c : Cell). length c.value ≤ most_of_value) (cell_at e.0 e.1) (cells_of es) short) (short_values es (All-tail (λ (c : Cell). length c.value ≤ most_of_value) (cell_at e.0 e.1) (cells_of es) short))

short_cells : (es : Keyed) → All (λ (v : List ℕ). length v ≤ most_of_value) (values_of es) → AreShort (cells_of es)
short_cells [] short = λ k d lt. absurd (omega (arith, lt))
short_cells (e ∷ es) short =
    All-cons (λ (c : Cell). length c.value ≤ most_of_value) (cell_at e.0 e.1) (cells_of es) (All-head (λ (v : List ℕ). length v ≤ most_of_value) e.1 (values_of es) short) (short_cells es (All-tail (λ (v : List ℕ). length v ≤ most_of_value) e.1 (values_of es) short))

good_at : (es : Keyed) → IsSound es → (k : CellKey) → IsGood k (value_at es k)
unfolding IsGood
good_at es sound k = (timed_some es k sound.timed, IfSome-lookup_from_All (λ (v : List ℕ). length v ≤ most_of_value) (is_at (key_cmp k)) es (short_values es sound.short))

sound_from : (es : Keyed) → AreSorted es → ((k : CellKey) → IsGood k (value_at es k)) → IsSound es
unfolding IsGood
sound_from es sorted good = record {
  sorted = sorted;
  timed = All-keys_from_lookup (eq_by_cmp_equiv key_total) IsTimed es (λ k. (good k).0);
  short = short_cells es (All-values_from_lookup (eq_by_cmp_equiv key_total) (λ (v : List ℕ). length v ≤ most_of_value) es (IsDistinct-from_sorted key_cmp (keys_of es) sorted) (λ k. (good k).1));
}

no_value_good : (k : CellKey) → IsGood k None
unfolding IsGood
no_value_good k = (λ some. absurd (cc some), tt)

module _ (es : Keyed) (sound : IsSound es) (fs : Keyed) (sorted : AreSorted fs) where
  -- with a short value put in at a key with the timestamp of a cell it is
  pub put_sound : (key : CellKey) (v : List ℕ) → IsTimed key → length v ≤ most_of_value → ((k : CellKey) → value_at fs k ≡ cond (is_at (key_cmp k) key) (Some v) (value_at es k)) → IsSound fs
  unfolding IsGood
  put_sound key v timed short values = sound_from fs sorted (λ k. rw (values k) (by k (is_at (key_cmp k) key) refl))
    where
      by : (k : CellKey) (t : Bool) → is_at (key_cmp k) key ≡ t → IsGood k (cond t (Some v) (value_at es k))
      by k true same = (λ some. subst IsTimed (sym (same_key k key same)) timed, short)
      by k false other = good_at es sound k

  -- without some of the values it is
  pub fewer_sound : (goes : CellKey → Bool) → ((k : CellKey) → value_at fs k ≡ cond (goes k) None (value_at es k)) → IsSound fs
  fewer_sound goes values = sound_from fs sorted (λ k. rw (values k) (by k (goes k)))
    where
      by : (k : CellKey) (t : Bool) → IsGood k (cond t None (value_at es k))
      by k true = no_value_good k
      by k false = good_at es sound k

module _ (outcomes : List (CellKey × Outcome)) (lawful : AreLawful outcomes) (es : Keyed) (sound : IsSound es) (fs : Keyed) (sorted : AreSorted fs) where
  -- with places it is
  pub placed_sound : ((k : CellKey) → value_at fs k ≡ placed outcomes (value_at es) k) → IsSound fs
  unfolding IsGood
  placed_sound places = sound_from fs sorted (λ k. rw (places k) (by k (value_at outcomes k) refl))
    where
      empty : (k : CellKey) (o : Outcome) → value_at outcomes k ≡ Some o → (t : Bool) → IsGood k (cond t (Some []) (value_at es k))
      empty k o is true = (λ some. timed_some outcomes k lawful.timed (rw is refl), omega arith)
      empty k o is false = good_at es sound k

      by : (k : CellKey) (o : Option Outcome) → value_at outcomes k ≡ o → IsGood k (cond (is_wanted o) (Some []) (value_at es k))
      by k None is = good_at es sound k
      by k (Some o) is = empty k o is (o.is_new && is_some o.value)

-- so it is once a plan has ended
pub settled_sound : (ending : Ending) (p : Plan) → AreLawful p.outcomes.entries → (es fs : Keyed) → IsSound es → AreSorted fs → ((k : CellKey) → value_at fs k ≡ settled ending p es k) → IsSound fs
unfolding IsGood
settled_sound ending p lawful es fs sound sorted values = sound_from fs sorted (λ k. rw (values k) (of ending k))
  where
    either : (k : CellKey) (t : Bool) → IsGood k (cond t None (value_at es k))
    either k true = no_value_good k
    either k false = good_at es sound k

    by : (k : CellKey) (o : Option Outcome) → value_at p.outcomes.entries k ≡ o → IfSome o (λ o. IsShortOrNone o.value) → IsGood k (outcome_or o (cond p.clears None (value_at es k)))
    by k None is short = either k p.clears
    by k (Some o) is short = (λ some. timed_some p.outcomes.entries k lawful.timed (rw is refl), short)

    of : (ending : Ending) (k : CellKey) → IsGood k (settled ending p es k)
    of CarryOut k = by k (value_at p.outcomes.entries k) refl (lawful.short k)
    of TakeBack k = either k (is_new (value_at p.outcomes.entries k))
