-- What a crash leaves after each call of an append.
use Rattle.std.proofs.Common.{◌≡◌, ◌<◌, ◌≤◌, inl, inr, ℕ, ◌+◌, List, [], ◌∷◌, ◌++◌, length, get_or, take, drop, refl, ◌∙◌, ap, subst, arith, length-append}
use Rattle.std.proofs.lemmas.List.{length-take-le}
use Rattle.bt_outside.specs.declared.disk.Disk.{Ghosts}
use Rattle.bt_base.specs.Counts.{counted}
use Rattle.bt_outside.specs.Disk.{Files, size, Alike, AtFile, Follows, Holds, Torn, Settles}
use Rattle.bt_crash.specs.Moments.{AllImages, Keeps}
use Rattle.bt_crash.specs.Steps.{Reaches}
use Rattle.bt_crash.proofs.Chains.{OnlyNow, Passes, begun, goes_on}
use Rattle.bt_gate.specs.Gate.{IsWhole, IsOpened, Gated, IsReady}
use Rattle.bt_gate.proofs.Bytes.{torn_behind, written_behind, torn_gate, written_gate}

-- an image that is a step from one that is a step
pub reached : (file : ℕ) (step first second : List ℕ → List ℕ → Type 0) (images : Files → Type 0) (d c : Files) → Reaches file first images d → AtFile file second d c → ((b : List ℕ) → step b (c file)) → Reaches file step images c
reached file step first second images d c reaches go here = (reaches.0, reaches.1, record { here = here (reaches.0 file); others = λ other away. go.others other away ∙ reaches.2.others other away })

module _ {D : Type 0} (disk : Ghosts D) (first : D) (file at : ℕ) (body : List ℕ) where
  abbrev pub front : List ℕ
  front = take at (disk.held first file)

  abbrev pub Fine : Files → Type 0
  Fine = Reaches file (Gated front body) (disk.may_leave first)

  module _ (ready : disk.tells → IsReady file front (disk.held first) (disk.may_leave first)) (long : disk.tells → at < size (disk.held first) file) (law : OnlyNow disk first) where
    front_size : disk.tells → length front ≡ at
    front_size tells = length-take-le at (disk.held first file) (omega (arith, long tells))

    fine0 : AllImages disk first Fine
    fine0 tells c now =
        let r = ready tells in
        let closed = r.closed in (
          c,
          now,
          record {
            here = inl (record { gate = closed.gate; rest = closed.rest; shut = closed.shut; is = r.settled c now ∙ closed.is });
            others = λ other away. refl;
          },
        )

    fine1 : (d1 : D) → (disk.tells → Follows (AtFile file (Torn (at + 1) (length body))) (disk.may_leave first) (disk.may_leave d1)) → AllImages disk d1 Fine
    fine1 d1 crash tells c now =
        let r = ready tells in
        let closed = r.closed in
        let from = crash tells c now in
        let is : from.0 file ≡ front ++ closed.gate ∷ closed.rest = r.settled from.0 from.1 ∙ closed.is in
        let torn = subst (λ (l : List ℕ). Torn (at + 1) (length body) l (c file)) is from.2.here in
        (from.0, from.1, record { here = inl (torn_behind front closed.rest closed.gate at (front_size tells) (length body) (c file) closed.shut torn); others = from.2.others })

    pub written : (d1 : D) → disk.moment d1 ≡ counted (disk.moment first) → Passes disk first d1 → (disk.tells → Follows (AtFile file (Torn (at + 1) (length body))) (disk.may_leave first) (disk.may_leave d1)) → Keeps disk first d1 Fine
    written d1 counts time crash = goes_on disk first first d1 Fine (begun disk first Fine law fine0) counts time (fine1 d1 crash)

    -- what stands behind the front before the gate is opened
    pub staged : (held : Files) → disk.tells → AtFile file (Holds (at + 1) body) (disk.held first) held → IsWhole front body (held file)
    staged held tells step =
        let closed = (ready tells).closed in
        record {
          gate = closed.gate;
          rest = drop (at + 1 + length body) (front ++ closed.gate ∷ closed.rest);
          is = written_behind front closed.rest closed.gate at (front_size tells) body (held file) (subst (λ (l : List ℕ). Holds (at + 1) body l (held file)) closed.is step.here);
        }

    pub staged_long : (held new : Files) → disk.tells → AtFile file (Holds (at + 1) body) (disk.held first) held → Alike held new → at ≤ length (new file)
    staged_long held new tells step same =
        let whole = staged held tells step in
        let all = ap length (same file ∙ whole.is) in
        omega (arith, all, length-append front (whole.gate ∷ (body ++ whole.rest)), front_size tells)

    fine3 : (d1 d2 d3 : D) → (disk.tells → AtFile file (Holds (at + 1) body) (disk.held first) (disk.held d1)) → (disk.tells → Settles file (disk.held d1 file) (disk.may_leave d2)) → AllImages disk d2 Fine
        → (disk.tells → Follows (AtFile file (Torn at 1)) (disk.may_leave d2) (disk.may_leave d3)) → AllImages disk d3 Fine
    fine3 d1 d2 d3 step settled before crash tells c now =
        let whole = staged (disk.held d1) tells (step tells) in
        let from = crash tells c now in
        let is = settled tells from.0 from.1 ∙ whole.is in
        let torn = subst (λ (l : List ℕ). Torn at 1 l (c file)) is from.2.here in
        let bytes = torn_gate front (body ++ whole.rest) whole.gate at (front_size tells) (c file) torn in
        reached file (Gated front body) (Gated front body) (Torn at 1) (disk.may_leave first) from.0 c (before tells from.0 from.1) from.2 (λ b. inr (record { gate = get_or (c file) at 0; rest = whole.rest; is = bytes }))

    pub opening : (d1 d2 d3 : D) → Keeps disk first d2 Fine → (disk.tells → AtFile file (Holds (at + 1) body) (disk.held first) (disk.held d1)) → (disk.tells → Settles file (disk.held d1 file) (disk.may_leave d2))
        → disk.moment d3 ≡ counted (disk.moment d2) → Passes disk d2 d3 → (disk.tells → Follows (AtFile file (Torn at 1)) (disk.may_leave d2) (disk.may_leave d3)) → Keeps disk first d3 Fine
    opening d1 d2 d3 so_far step settled counts time crash = goes_on disk first d2 d3 Fine so_far counts time (fine3 d1 d2 d3 step settled so_far.now crash)

    -- the bytes as they are read at last
    pub opened : (h1 h2 h3 h4 : Files) → disk.tells → AtFile file (Holds (at + 1) body) (disk.held first) h1 → Alike h1 h2 → AtFile file (Holds at (1 ∷ [])) h2 h3 → Alike h3 h4 → AtFile file (λ _ bytes. IsOpened front body bytes) (disk.held first) h4
    opened h1 h2 h3 h4 tells step same step2 same2 =
        let whole = staged h1 tells step in
        let holds = subst (λ (l : List ℕ). Holds at (1 ∷ []) l (h3 file)) (same file ∙ whole.is) step2.here in
        record {
          here = (whole.rest, same2 file ∙ written_gate front (body ++ whole.rest) whole.gate at (front_size tells) 1 (h3 file) holds);
          others = λ other away. same2 other ∙ step2.others other away ∙ same other ∙ step.others other away;
        }
