-- What an open log reads as, and what an append makes of it.
use Rattle.std.proofs.Common.{◌≡◌, ◌≢◌, ◌<◌, inl, inr, ℕ, suc, ◌+◌, ◌-◌, ◌^◌, List, [], ◌∷◌, ◌++◌, length, take, Ok, Err, sym, ◌∙◌, ap, subst, arith, append_assoc, length-append}
use Rattle.std.specs.Int.{w32, to_be_bytes}
use Rattle.std.proofs.lemmas.Bool.{cases_eq}
use Rattle.std.proofs.lemmas.List.{take_at, append-nil}
use Rattle.bt_outside.specs.declared.disk.Disk.{Ghosts}
use Rattle.bt_outside.specs.Disk.{Files, Settles}
use Rattle.bt_crash.specs.Steps.{StepsAt}
use Rattle.bt_crash.proofs.Chains.{in_words}
use Rattle.bt_gate.specs.Gate.{Gated, IsReady, IsOpened}
use Rattle.bt_entry.specs.declared.numbered.Numbered.{Numbered}
use Rattle.bt_entry.specs.Grammar.{IsSpellable, AreNumbered}
use Rattle.bt_entry.specs.Spelling.{spelling}
use Rattle.bt_log.specs.Place.{Place}
use Rattle.bt_log.specs.Segment.{Records, behind, records_at, placed, segment_in, segment, entries_of}
use Rattle.bt_log.specs.Staged.{staged}
use Rattle.bt_log.specs.Log.{IsOpen, WithOrWithout}
use Rattle.bt_log.proofs.Fronts.{IsFront, front_then, front_one, record_again, ends_at, closed_of, read_is}

-- a segment: a front, and then a closed gate at that place
pub record Opens (first : ℕ) (entries : List Numbered) (end : ℕ) (bytes : List ℕ) : Type 0 where
  pub done : List ℕ
  pub gate : ℕ
  pub rest : List ℕ
  pub front : IsFront first entries done
  pub shut : gate ≢ 1
  pub is : bytes ≡ done ++ gate ∷ rest
  pub size : length done ≡ end

abbrev read_so : List Numbered → ℕ → Records
read_so entries end = Ok (entries, end)

placed_is : (bytes : List ℕ) (entries : List Numbered) (end : ℕ) (r : Records) → placed bytes r ≡ read_so entries end → (left : ℕ) × (r ≡ read_so entries left) × (length bytes - left ≡ end)
placed_is bytes entries end (Ok x) e =
    let both : (x.0, length bytes - x.1) ≡ (entries, end) = read_is (x.0, length bytes - x.1) (entries, end) e in
    (x.1, ap (λ (l : List Numbered). read_so l x.1) (ap (λ (p : List Numbered × ℕ). p.0) both), ap (λ (p : List Numbered × ℕ). p.1) both)
placed_is bytes entries end (Err left) e = absurd cc

pub opens : (first : ℕ) (bytes : List ℕ) (entries : List Numbered) (end : ℕ) → segment_in first bytes ≡ read_so entries end → Opens first entries end bytes
opens first bytes entries end e =
    let p = placed_is bytes entries end (records_at (suc (length bytes)) first bytes) e in
    let c = closed_of (suc (length bytes)) first bytes entries p.0 p.1 in
    let all : length bytes ≡ length c.done + suc (length c.rest) = ap length c.is ∙ length-append c.done (c.gate ∷ c.rest) in
    record { done = c.done; gate = c.gate; rest = c.rest; front = c.front; shut = c.shut; is = c.is; size = omega (arith, all, c.size, p.2) }

-- a front and then a closed gate are a segment
pub reads : (first : ℕ) (entries : List Numbered) (done : List ℕ) (gate : ℕ) (rest : List ℕ) → IsFront first entries done → gate ≢ 1 → segment_in first (done ++ gate ∷ rest) ≡ read_so entries (length done)
reads first entries done gate rest front shut =
    let bytes = done ++ gate ∷ rest in
    let all : length (done ++ gate ∷ rest) ≡ length done + suc (length rest) = length-append done (gate ∷ rest) in
    let m = length (done ++ gate ∷ rest) - front.count in
    let steps : suc (length (done ++ gate ∷ rest)) ≡ front.count + suc (length (done ++ gate ∷ rest) - front.count) = omega (arith, front.few, all) in
    let end : length (done ++ gate ∷ rest) - suc (length rest) ≡ length done = omega (arith, all) in
    ap (λ (k : ℕ). placed bytes (records_at k first bytes)) steps
    ∙ ap (placed bytes) (front.reads (suc m) (gate ∷ rest) ∙ ap (behind entries) (ends_at m (first + length entries) gate rest shut))
    ∙ ap (λ (l : List Numbered). read_so l (length bytes - suc (length rest))) (append-nil entries)
    ∙ ap (read_so entries) end

pub is_segment : (first : ℕ) (entries : List Numbered) (done : List ℕ) (gate : ℕ) (rest : List ℕ) → IsFront first entries done → gate ≢ 1 → segment first (done ++ gate ∷ rest) ≡ Ok entries
is_segment first entries done gate rest front shut = ap entries_of (reads first entries done gate rest front shut)

-- the front of an open log, with the closed gate behind it
pub ready : (log : Place) (first : ℕ) (entries : List Numbered) (held : Files) (images : Files → Type 0) → IsOpen log first entries held images → IsReady log.file (take log.end (held log.file)) held images
ready log first entries held images is =
    let o = opens first (held log.file) entries log.end is.reads in
    let front : take log.end (held log.file) ≡ o.done = ap (take log.end) o.is ∙ take_at o.done (o.gate ∷ o.rest) log.end o.size in
    record {
      closed = record { gate = o.gate; rest = o.rest; shut = o.shut; is = o.is ∙ ap (λ (l : List ℕ). l ++ o.gate ∷ o.rest) (sym front) };
      settled = is.settled;
    }

pub within : (log : Place) (first : ℕ) (entries : List Numbered) (held : Files) (images : Files → Type 0) → IsOpen log first entries held images → log.end < length (held log.file)
within log first entries held images is =
    let o = opens first (held log.file) entries log.end is.reads in
    omega (arith, ap length o.is, length-append o.done (o.gate ∷ o.rest), o.size)

-- the front with the record that was staged behind an opened gate
opened_front : (front body rest : List ℕ) → front ++ 1 ∷ (staged body ++ rest) ≡ (front ++ 1 ∷ (to_be_bytes w32 (length body) ++ body)) ++ 0 ∷ rest
opened_front front body rest =
    let size = to_be_bytes w32 (length body) in
    let tail : staged body ++ rest ≡ (size ++ body) ++ 0 ∷ rest = append_assoc size (body ++ 0 ∷ []) rest ∙ ap (λ (l : List ℕ). size ++ l) (append_assoc body (0 ∷ []) rest) ∙ sym (append_assoc size body (0 ∷ rest)) in
    ap (λ (l : List ℕ). front ++ 1 ∷ l) tail ∙ sym (append_assoc front (1 ∷ (size ++ body)) (0 ∷ rest))

module _ (log : Place) (first : ℕ) (entries batch : List Numbered) (held : Files) (images : Files → Type 0) (is : IsOpen log first entries held images)
    (fits : IsSpellable batch) (own : AreNumbered (first + length entries) batch) (short : length (spelling batch) < 2 ^ 32) where
  abbrev front : List ℕ
  front = take log.end (held log.file)

  abbrev one : List ℕ
  one = 1 ∷ (to_be_bytes w32 (length (spelling batch)) ++ spelling batch)

  front_is : IsFront first entries (take log.end (held log.file))
  front_is =
      let o = opens first (held log.file) entries log.end is.reads in
      let same : take log.end (held log.file) ≡ o.done = ap (take log.end) o.is ∙ take_at o.done (o.gate ∷ o.rest) log.end o.size in
      subst (λ (l : List ℕ). IsFront first entries l) (sym same) o.front

  more_is : IsFront first (entries ++ batch) (front ++ one)
  more_is = front_then first entries batch front one front_is (front_one (first + length entries) batch one (omega arith) (record_again (first + length entries) batch fits own short))

  opened_reads : (rest : List ℕ) → segment_in first (front ++ 1 ∷ (staged (spelling batch) ++ rest)) ≡ read_so (entries ++ batch) (length (front ++ one))
  opened_reads rest = ap (segment_in first) (opened_front front (spelling batch) rest) ∙ reads first (entries ++ batch) (front ++ one) 0 rest more_is (λ e. absurd (omega (arith, e)))

  -- what a crash leaves of an append is the entries, with the batch or without
  pub gated_reads : (old new : List ℕ) → Gated (take log.end (held log.file)) (staged (spelling batch)) old new → WithOrWithout first entries batch old new
  gated_reads old new (inl closed) = inl (ap (segment first) closed.is ∙ is_segment first entries front closed.gate closed.rest front_is closed.shut)
  gated_reads old new (inr whole) = elim (cases_eq whole.gate 1) [
    | inl open_gate ↦ inr (ap (segment first) (whole.is ∙ ap (λ (g : ℕ). front ++ g ∷ (staged (spelling batch) ++ whole.rest)) open_gate) ∙ ap entries_of (opened_reads whole.rest))
    | inr shut ↦ inl (ap (segment first) whole.is ∙ is_segment first entries front whole.gate (staged (spelling batch) ++ whole.rest) front_is shut)
  ]

  front_size : length (take log.end (held log.file)) ≡ log.end
  front_size =
      let o = opens first (held log.file) entries log.end is.reads in
      let same : take log.end (held log.file) ≡ o.done = ap (take log.end) o.is ∙ take_at o.done (o.gate ∷ o.rest) log.end o.size in
      ap length same ∙ o.size

  -- the log is open behind the record
  pub open_again : (next : Place) (new : Files) (now : Files → Type 0) → next.file ≡ log.file → next.end ≡ log.end + (5 + length (spelling batch))
      → IsOpened (take log.end (held log.file)) (staged (spelling batch)) (new log.file) → Settles log.file (new log.file) now → IsOpen next first (entries ++ batch) new now
  open_again next new now file end opened settled =
      let one_size : length one ≡ 5 + length (spelling batch) = omega (arith, length-append (to_be_bytes w32 (length (spelling batch))) (spelling batch)) in
      let size : length (front ++ one) ≡ next.end = omega (arith, length-append front one, front_size, one_size, end) in
      record {
        reads = ap (λ (f : ℕ). segment_in first (new f)) file ∙ ap (segment_in first) opened.1 ∙ opened_reads opened.0 ∙ ap (read_so (entries ++ batch)) size;
        settled = subst (λ (f : ℕ). Settles f (new f) now) (sym file) settled;
      }

module _ {D : Type 0} (disk : Ghosts D) (log : Place) (body bytes : List ℕ) (old new : D) (short : length body < 2 ^ 32) (is : bytes ≡ staged body)
    (first : ℕ) (entries batch : List Numbered) (fits : IsSpellable batch) (own : AreNumbered (first + length entries) batch) (spells : body ≡ spelling batch) where
  small : length (spelling batch) < 2 ^ 32
  small = subst (λ (l : List ℕ). length l < 2 ^ 32) spells short

  staged_is : bytes ≡ staged (spelling batch)
  staged_is = is ∙ ap staged spells

  -- the steps of an append in the words of its log
  pub steps : (disk.tells → IsOpen log first entries (disk.held old) (disk.may_leave old)) → StepsAt disk log.file (Gated (take log.end (disk.held old log.file)) bytes) old new → StepsAt disk log.file (WithOrWithout first entries batch) old new
  steps open_now gated =
      in_words disk log.file (Gated (take log.end (disk.held old log.file)) bytes) (WithOrWithout first entries batch) old new gated
      (λ tells b c step. gated_reads log first entries batch (disk.held old) (disk.may_leave old) (open_now tells) fits own small b c (subst (λ (l : List ℕ). Gated (take log.end (disk.held old log.file)) l b c) staged_is step))

  -- the log behind the record that was added
  pub opens_next : (next : Place) → next.file ≡ log.file → next.end ≡ log.end + (5 + length body) → IsOpen log first entries (disk.held old) (disk.may_leave old)
      → IsOpened (take log.end (disk.held old log.file)) bytes (disk.held new log.file) → Settles log.file (disk.held new log.file) (disk.may_leave new) → IsOpen next first (entries ++ batch) (disk.held new) (disk.may_leave new)
  opens_next next file end open_now opened settled =
      open_again log first entries batch (disk.held old) (disk.may_leave old) open_now fits own small next (disk.held new) (disk.may_leave new) file
      (omega (arith, end, ap length spells))
      (subst (λ (l : List ℕ). IsOpened (take log.end (disk.held old log.file)) l (disk.held new log.file)) staged_is opened) settled

-- the place behind a record that was staged
pub end_is : (bytes body : List ℕ) (end : ℕ) → bytes ≡ staged body → end + length bytes ≡ end + (5 + length body)
end_is bytes body end is =
    let size = to_be_bytes w32 (length body) in
    omega (arith, ap length is, length-append size (body ++ 0 ∷ []), length-append body (0 ∷ []))
