-- What acts are about: views of 64 bits, and members.
use Rattle.std.proofs.Common.{◌≡◌, ⊎_elim, ℕ, ◌<◌, ◌^◌, ◌==◌, ◌&&◌, Bool, true, false, List, [], ◌∷◌, ◌++◌, Option, Some, None, sym, ◌∙◌, ap, subst, arith}
use Rattle.std.specs.Prelude.{All, Contains, IfSome, find, nat_lt}
use Rattle.std.proofs.lemmas.Bool.{and_parts, eqb-true}
use Rattle.std.proofs.lemmas.List.Elements.{All-cons, All-nil, Contains-append_left}
use Rattle.types_quorum.specs.Counting.{Contains-cases, Contains-head, Contains-nil, Contains-rest}
use Rattle.types_core.specs.declared.position.Round.{Round}
use Rattle.types_core.specs.declared.scheme.Scheme.{Ghosts}
use Rattle.types_core.specs.Positions.{HasRoom}
use Rattle.types_core.specs.Subject.{Statement, notarize, statement_round}
use Rattle.messages_certificates.specs.declared.artifact.Artifact.{Artifact}
use Rattle.messages_certificates.specs.declared.artifact.Artifact.TheVariants as artifact
use Rattle.messages_certificates.specs.declared.certificate.Certificate.{Certificate}
use Rattle.messages_certificates.specs.declared.certificate.Certificate.TheVariants as certificate
use Rattle.messages_certificates.specs.Artifact.{certificate_artifact}
use Rattle.messages_certificates.specs.Certificate.{certificate_round}
use Rattle.simplex_messages.specs.declared.vote.Vote.{Vote}
use Rattle.simplex_messages.specs.declared.vote.Vote.TheVariants as vote
use Rattle.simplex_messages.specs.VoteParts.{vote_round, vote_signer}
use Rattle.types_terms.specs.Spans.{term_end-above}
use Rattle.simplex_record.specs.Record.{Entry, HasTaken, enters, entries, entry, greatest, taken}
use Rattle.simplex_record.specs.Rules.{MayFollow}
use Rattle.voter_history.specs.declared.timeout_reason.TimeoutReason.{TimeoutReason}
use Rattle.voter_history.specs.declared.timeout_reason.TimeoutReason.TheVariants as reason
use Rattle.voter_laws.specs.Matching.{EachHistoryMatches}
use Rattle.batcher_verifier.specs.History.{accepted}
use Rattle.simplex_batcher.specs.Queries.{is_nullify}
use Rattle.simplex_resolver.specs.declared.ask.Ask.{Ask}
use Rattle.simplex_member.specs.declared.asked.Asked.{Asked}
use Rattle.simplex_member.specs.Allowed.{Allowed, AreAllowed, HasReason, IsSought, LeaderGaveUp}
use Rattle.simplex_member.specs.Asked.{asks_of}
use Rattle.simplex_member.specs.Doing.{IsAmong, doing, doings}
use Rattle.simplex_member.specs.Laws.{RecordLaws}
use Rattle.simplex_member.specs.Layers.{all_votes, current_of, floor_of, is_begun, stage, voter_of, votes_of, IsUp}
use Rattle.simplex_member.specs.Member.{Goes}
use Rattle.simplex_member.specs.Packet.{Formats}
use Rattle.simplex_member.specs.Point.{Point, Opened, Found, Began, Told, Heard, Came, Wanted, Built, Checked, Judged, Leads, Forwards, Constructs, Latches, Polls, AsksBuild, AsksVerify, AsksCertify, GivesBack, LeavesBehind, PutsOff, Asks, Resolves, Votes, Repeats, Rewrote, AreActs, History, is_act}
use Rattle.simplex_member.specs.Recorded.{record_of}
use Rattle.simplex_member.specs.Setup.{Setup, GoesByMembers}
use Rattle.simplex_member.proofs.Asking.{AreSmall, asked-low, room-small}
use Rattle.simplex_member.proofs.Ballots.{collected-up}
use Rattle.simplex_member.proofs.Binding.{is-some}
use Rattle.simplex_member.proofs.Blame.{placed}
use Rattle.simplex_member.proofs.Coming.{stage-room}
use Rattle.simplex_member.proofs.Going.{Lawful, allowed-lawful}
use Rattle.simplex_member.proofs.Lacking.{missing-room}
use Rattle.simplex_member.proofs.Listed.{accepted-known, kept-only}
use Rattle.simplex_member.proofs.Lists.{Contains-map, Contains-mapped}
use Rattle.simplex_member.proofs.Lone.{leader-below}
use Rattle.simplex_member.proofs.Peace.{find-there}
use Rattle.simplex_member.proofs.Raising.{acts-head, acts-rest}
use Rattle.simplex_member.proofs.Recordable.{matches}
use Rattle.simplex_member.proofs.Telling.{apart}

greatest-low : {X : Type 0} (least : ℕ) (k : X → ℕ) (xs : List X) (most : ℕ) → least < most → ((x : X) → Contains xs x → k x < most) → greatest least k xs < most
greatest-low least k [] most first each = first
greatest-low least k (x ∷ xs) most first each =
    let here = each x (Contains-head x xs) in
    let rest = greatest-low least k xs most first (λ y later. each y (Contains-rest x xs y later)) in
    omega (arith, here, rest)

module _ {S D P G C : Type 0} (g : Ghosts S D P G C) (f : Formats S D P G C) (s : Setup S D C) where
  -- a vote that was heard is of a view with room
  heard-room : (h : History S D P G C) → AreAllowed g f s h → (v : Vote S D P G C) → Contains h (Heard v) → HasRoom s.voter.length (vote_round v).view
  heard-room [] all v here = absurd (Contains-nil (Heard v) here)
  heard-room (p ∷ h) all v here = ⊎_elim
      (λ is. let a : Allowed g f s h (Heard v) = subst (λ (q : Point S D P G C). Allowed g f s h q) is all.0 in a.due.room)
      (λ before. heard-room h all.1 v before)
      (Contains-cases p h (Heard v) here)

  module _ (grows : RecordLaws g) (terms : 0 < s.voter.length) where
    -- what a lawful record took, it took of a view with room
    taken-room : (r : List (Artifact S D P G C)) → Lawful g f s r → (x : Statement D) → HasTaken (entries r) x → HasRoom s.voter.length (statement_round x).view
    taken-room r lawful x here =
        let of = Contains-mapped entry r (taken x) here in
        let at = placed g f s r lawful of.0 of.1 in
        let may : MayFollow s.voter.length (entries at.0) (taken x) = subst (λ (e : Entry D). MayFollow s.voter.length (entries at.0) e) of.2 at.3.follows in
        may.room

    certificate-room : (r : List (Artifact S D P G C)) → Lawful g f s r → (c : Certificate S D P G C) → Contains r (certificate_artifact c) → HasRoom s.voter.length (certificate_round c).view
    certificate-room r lawful (certificate.Notarization c) here = (placed g f s r lawful (artifact.Notarization c) here).3.follows.room
    certificate-room r lawful (certificate.Nullification c) here = (placed g f s r lawful (artifact.Nullification c) here).3.follows.room
    certificate-room r lawful (certificate.Finalization c) here = (placed g f s r lawful (artifact.Finalization c) here).3.follows.room

    small-record : (h : History S D P G C) → AreAllowed g f s h → AreSmall (record_of h)
    small-record h all c here = room-small s.voter.length (certificate_round c).view terms (certificate-room (record_of h) (allowed-lawful g f s grows h all) c here)

    -- an entry enters a view of 64 bits
    enters-low : (r : List (Artifact S D P G C)) → Lawful g f s r → (x : Artifact S D P G C) → Contains r x → enters s.voter.length (entry x) < 2 ^ 64
    enters-low r lawful (artifact.Notarize v) here = omega arith
    enters-low r lawful (artifact.Notarization c) here = omega arith
    enters-low r lawful (artifact.Certification t true) here =
        let at = placed g f s r lawful (artifact.Certification t true) here in
        let of = at.3.follows.notarized in
        let there = subst (λ (l : List (Artifact S D P G C)). HasTaken (entries l) (notarize of.0)) (sym at.2) (taken-behind at.0 (artifact.Certification t true ∷ at.1) (notarize of.0) of.2) in
        let room = subst (λ (u : Round). HasRoom s.voter.length u.view) of.1 (taken-room r lawful (notarize of.0) there) in
        let end = term_end-above s.voter.length t.view terms in
        omega (arith, room, end)
      where
        taken-behind : (xs ys : List (Artifact S D P G C)) (z : Statement D) → HasTaken (entries xs) z → HasTaken (entries (xs ++ ys)) z
        taken-behind xs ys z there =
            let of = Contains-mapped entry xs (taken z) there in
            subst (λ (e : Entry D). Contains (entries (xs ++ ys)) e) of.2 (Contains-map entry (xs ++ ys) of.0 (Contains-append_left xs ys of.0 of.1))
    enters-low r lawful (artifact.Certification t false) here = omega arith
    enters-low r lawful (artifact.Nullify v) here = omega arith
    enters-low r lawful (artifact.Nullification c) here = let room = certificate-room r lawful (certificate.Nullification c) here in omega (arith, room)
    enters-low r lawful (artifact.Finalize v) here = omega arith
    enters-low r lawful (artifact.Finalization c) here =
        let room = certificate-room r lawful (certificate.Finalization c) here in
        let end = term_end-above s.voter.length c.proposal.round.view terms in
        omega (arith, room, end)

    module _ (law : EachHistoryMatches S D P G C) where
      current-low : (h : History S D P G C) → AreAllowed g f s h → is_begun h ≡ true → current_of s h < 2 ^ 64
      current-low [] all begun = absurd (apart begun)
      current-low (q ∷ h) all begun =
          let is = (matches g f s law q h all).current in
          let low = greatest-low 1 (enters s.voter.length) (entries (record_of (q ∷ h))) (2 ^ 64) (omega arith)
          (λ e here.
          let of = Contains-mapped entry (record_of (q ∷ h)) e here in
          subst (λ (x : Entry D). enters s.voter.length x < 2 ^ 64) of.2 (enters-low (record_of (q ∷ h)) (allowed-lawful g f s grows (q ∷ h) all) of.0 of.1)) in
          subst (λ (n : ℕ). n < 2 ^ 64) (sym is) low

      -- a view that its leader gave up
      gave-up-low : (h : History S D P G C) → AreAllowed g f s h → (view : ℕ) → LeaderGaveUp g f s h view → view < 2 ^ 64
      gave-up-low h all view gave =
          let gives : Vote S D P G C → Bool = λ v. (vote_signer v == gave.index) && is_nullify v in
          let one = is-some (find gives (accepted (votes_of s h view))) gave.gave_up in
          let at = find-there gives (accepted (votes_of s h view)) one.0 one.1 in
          let signer = eqb-true (vote_signer one.0) gave.index (and_parts (vote_signer one.0 == gave.index) (is_nullify one.0) at.1).0 in
          let from = accepted-known g f s h all view one.0 (kept-only (nat_lt view (floor_of s h)) (all_votes view h) one.0 at.0) in
          let same : (vote_round one.0).view ≡ view = ap (λ (r : Round). r.view) from.ours in
          ⊎_elim
          (λ heard. subst (λ (n : ℕ). n < 2 ^ 64) same (room-small s.voter.length (vote_round one.0).view terms (heard-room h all one.0 heard)))
          (λ own. absurd (gave.another (sym signer ∙ own.0)))
          from.known

      reason-low : (h : History S D P G C) → AreAllowed g f s h → is_begun h ≡ true → (view : ℕ) (why : TimeoutReason) → HasReason g f s h view why → view < 2 ^ 64
      reason-low h all begun view reason.LeaderNullify there = gave-up-low h all view there
      reason-low h all begun view reason.Inactivity there = subst (λ (n : ℕ). n < 2 ^ 64) (sym there.0) (current-low h all begun)
      reason-low h all begun view reason.InvalidProposal there = room-small s.voter.length view terms there.1.waits.opens.room
      reason-low h all begun view why there = absurd there

      module _ (n : ℕ) (member : s.me < n) (by : GoesByMembers s n) where
        asked-of : (h : History S D P G C) (view : ℕ) (ask : Ask) (to : Option ℕ) → IsSought g f s h view ask to → IfSome to (λ i. i < n)
        asked-of h view ask None sought = tt
        asked-of h view ask (Some target) sought = subst (λ (o : Option ℕ). IfSome o (λ i. i < n)) sought.4 (leader-below s.voter n s.me by.own member by.named (voter_of s h) sought.1)

        -- who is asked, where those are members who were before
        asked-behind : (h : History S D P G C) → ((x : Asked) → Contains (asks_of h) x → IfSome x.to (λ i. i < n)) → (view : ℕ) (ask : Ask) (to : Option ℕ) → Allowed g f s h (Asks view ask to) → IfSome to (λ i. i < n)
        asked-behind h before view ask to a = ⊎_elim (λ sought. asked-of h view ask to sought) (λ pending. before (record { view = view; ask = ask; to = to }) pending.1) a.due.sought

        all-asked : (h : History S D P G C) → AreAllowed g f s h → (x : Asked) → Contains (asks_of h) x → IfSome x.to (λ i. i < n)
        all-asked [] all x here = absurd (Contains-nil x here)
        all-asked (Asks view ask to ∷ h) all x here = ⊎_elim
            (λ is. subst (λ (y : Asked). IfSome y.to (λ i. i < n)) is (asked-behind h (all-asked h all.1) view ask to all.0))
            (λ before. all-asked h all.1 x before)
            (Contains-cases {X = Asked} (record { view = view; ask = ask; to = to }) (asks_of h) x here)
        all-asked (p ∷ h) all x here = all-asked h all.1 x here

        up-low : (h : History S D P G C) (view : ℕ) → IsUp (stage s h view) → view < 2 ^ 64
        up-low h view up = room-small s.voter.length view terms (stage-room s h view up)

        act-among : (p : Point S D P G C) (h : History S D P G C) → AreAllowed g f s h → Allowed g f s h p → is_act p ≡ true → IsAmong (2 ^ 64) n (doing s h p)
        act-among (Opened now) h all a own = absurd (apart own)
        act-among (Found x took) h all a own = absurd (apart own)
        act-among Began h all a own = absurd (apart own)
        act-among (Told now) h all a own = absurd (apart own)
        act-among (Heard v) h all a own = absurd (apart own)
        act-among (Came c) h all a own = absurd (apart own)
        act-among (Wanted member view) h all a own = absurd (apart own)
        act-among (Built number handoff context payload took) h all a own = absurd (apart own)
        act-among (Checked number view answer outcome) h all a own = absurd (apart own)
        act-among (Judged r ok) h all a own = absurd (apart own)
        act-among (Rewrote c) h all a own = absurd (apart own)
        act-among (Leads view index) h all a own = up-low h view a.due.0
        act-among (Forwards view p) h all a own = up-low h view a.due.0
        act-among (Constructs view kind batch) h all a own = up-low h view (collected-up a.due.0)
        act-among (Latches view why) h all a own = reason-low h all a.order view why a.due.there
        act-among Polls h all a own = current-low h all a.order
        act-among (AsksBuild number handoff context) h all a own = tt
        act-among (AsksVerify number context p) h all a own = tt
        act-among (AsksCertify p) h all a own = room-small s.voter.length p.round.view terms a.due.opens.room
        act-among (GivesBack number view) h all a own = tt
        act-among (LeavesBehind number) h all a own = tt
        act-among (PutsOff view) h all a own = room-small s.voter.length view terms a.due.due.waits.opens.room
        act-among (Asks view ask to) h all a own = (asked-low g f s grows law h all (small-record h all) view ask to a, asked-behind h (all-asked h all) view ask to a)
        act-among (Resolves view kind u) h all a own = room-small s.voter.length view terms (missing-room s h view kind u a.due.missing)
        act-among (Votes (vote.Notarize v)) h all a own = room-small s.voter.length v.proposal.round.view terms a.due.0.room
        act-among (Votes (vote.Nullify v)) h all a own = subst (λ (k : ℕ). k < 2 ^ 64) (sym a.due.0) (current-low h all a.order)
        act-among (Votes (vote.Finalize v)) h all a own = room-small s.voter.length v.proposal.round.view terms a.due.0.room
        act-among (Repeats v best) h all a own = subst (λ (k : ℕ). k < 2 ^ 64) (sym a.due.due.0) (current-low h all a.order)

        pub acts-among : (h : History S D P G C) → AreAllowed g f s h → (points : List (Point S D P G C)) (end : History S D P G C) → Goes g f s h points end → AreActs points → All (IsAmong (2 ^ 64) n) (doings s h points)
        acts-among h all [] end goes acts = All-nil (IsAmong (2 ^ 64) n)
        acts-among h all (p ∷ points) end goes acts = All-cons (IsAmong (2 ^ 64) n) (doing s h p) (doings s (p ∷ h) points) (act-among p h all goes.0 (acts-head g f s p points acts))
            (acts-among (p ∷ h) (goes.0, all) points end goes.1 (acts-rest g f s p points acts))
