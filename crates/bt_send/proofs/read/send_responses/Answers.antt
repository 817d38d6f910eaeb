use Rattle.std.proofs.Common.{◌≡◌, ℕ, false, true, List, ◌∷◌, refl, ap, ◌∙◌, subst}
use Rattle.std.proofs.lemmas.Result.{err_from_is_err_and}
use Rattle.std.specs.Prelude.{Option}
use Rattle.bt_chunks.specs.declared.chunk.Chunk.{Chunk}
use Rattle.bt_scan.specs.Responses.{GivesResponse}
use Rattle.bt_send.specs.Reads.{read_line, read_lines}
use Rattle.bt_send.specs.Writes.{Sends, has_failed}
use Rattle.bt_send.proofs.Reading.{SoFar, begins, goes_on, is_lost, stops}
use Rattle.bt_send.proofs.read.send_responses.Goals as goal

pub loop-chunks-init : goal.loop-chunks-init
loop-chunks-init g c = (λ tells. begins (read_lines c.args.scan.now) (g.D.Disk.moment c.args.disk.now) (g.L.Links.sent c.args.links.now), refl, refl, λ tells. refl, λ tells. refl)

pub returns-in_err-chunks-clause-wrote : goal.returns-in_err-chunks-clause-wrote
returns-in_err-chunks-clause-wrote g c tells =
    let p = err_from_is_err_and c.from_residual.result c.from_residual.ensures.1 in
    rw (p.1, p.2) (stops _ _ _ _ _ (c.loop-chunks.invariant.0 tells))

pub returns-in_err-line-clause-wrote : goal.returns-in_err-line-clause-wrote
returns-in_err-line-clause-wrote g c tells =
    let p = err_from_is_err_and c.from_residual-in_err-line.result c.from_residual-in_err-line.ensures.1 in
    rw (p.1, p.2) (stops _ _ _ _ _ (c.loop-chunks.invariant.0 tells))

pub returns-in_err-send-clause-wrote : goal.returns-in_err-send-clause-wrote
returns-in_err-send-clause-wrote g c tells =
    let m = g.D.Disk.moment c.args.disk.now in
    let all = read_lines c.args.scan.now in
    let line = read_line c.in-Some.chunks in
    let old = g.L.Links.sent c.args.links.now in
    let mid = g.L.Links.sent c.loop-chunks.links in
    let new = g.L.Links.sent c.send.new.links in
    let given : c.loop-chunks.scan ≡ c.in-Some.chunks ∷ c.next_response.new.self =
    subst (λ (o : Option (List Chunk)). GivesResponse o c.loop-chunks.scan c.next_response.new.self) c.in-Some.is c.in_ok-chunks.ensures
    in
    let so : SoFar all (line ∷ read_lines c.next_response.new.self) m old mid = subst (λ (ls : List (List ℕ)). SoFar all ls m old mid) (ap read_lines given) (c.loop-chunks.invariant.0 tells) in
    let sends : Sends (λ out. out ≡ line) true m mid new = subst (λ (t : List ℕ). Sends (λ out. out ≡ t) true m mid new) (c.bytes.ensures ∙ c.in_ok-line.ensures) (c.in_err-send.ensures.sends tells) in
    let p = err_from_is_err_and c.from_residual-in_err-send.result c.from_residual-in_err-send.ensures.1 in
    rw (p.1, p.2) (is_lost all (read_lines c.next_response.new.self) line m old mid new so true refl sends)

pub loop-chunks-preserved : goal.loop-chunks-preserved
loop-chunks-preserved g c =
    let inv = c.loop-chunks.invariant in
    let m = g.D.Disk.moment c.args.disk.now in
    let all = read_lines c.args.scan.now in
    let line = read_line c.in-Some.chunks in
    let old = g.L.Links.sent c.args.links.now in
    let mid = g.L.Links.sent c.loop-chunks.links in
    let new = g.L.Links.sent c.send.new.links in
    let given : c.loop-chunks.scan ≡ c.in-Some.chunks ∷ c.next_response.new.self =
    subst (λ (o : Option (List Chunk)). GivesResponse o c.loop-chunks.scan c.next_response.new.self) c.in-Some.is c.in_ok-chunks.ensures
    in (
      λ tells.
          let so : SoFar all (line ∷ read_lines c.next_response.new.self) m old mid = subst (λ (ls : List (List ℕ)). SoFar all ls m old mid) (ap read_lines given) (inv.0 tells) in
          let sends : Sends (λ out. out ≡ line) false m mid new = subst (λ (t : List ℕ). Sends (λ out. out ≡ t) false m mid new) (c.bytes.ensures ∙ c.in_ok-line.ensures) (c.in_ok-send.ensures.sends tells) in
          goes_on all (read_lines c.next_response.new.self) line m old mid new so false refl sends,
      c.in_ok-send.ensures.faults.fine refl ∙ inv.1,
      c.in_ok-send.ensures.next_faults ∙ inv.2,
      λ tells. c.in_ok-send.ensures.left tells ∙ inv.3 tells,
      λ tells. c.in_ok-send.ensures.at_hand tells ∙ inv.4 tells,
    )
