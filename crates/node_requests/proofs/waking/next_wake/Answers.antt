use Rattle.std.proofs.Common.{◌≡◌, ◌∷◌, ◌∙◌, ℕ, None, sym, subst}
use Rattle.std.proofs.lemmas.Bool.{false≢true}
use Rattle.std.specs.Prelude.{if◌then◌else◌, nat_lt}
use Rattle.voter_history.specs.History.{current, polled}
use Rattle.voter_rules.specs.GivingUp.{timeout}
use Rattle.simplex_state.specs.State as voting
use Rattle.simplex_member.specs.Layers.{current_of, finalized_of, latest, voter_of}
use Rattle.simplex_member.specs.Member.{IsGivenUpAt}
use Rattle.simplex_member.specs.Packet.{formats}
use Rattle.node_requests.specs.Polling.{after_poll_by, allowed_after, asker_after, current_after, latest_after}
use Rattle.node_requests.specs.Waking.{after_poll}
use Rattle.node_requests.proofs.Ending.{HasTimeout, has_timeout_after, is_repetition, never_without_room, never_without_timeout, no_repetition, room_here, told_next, told_none, wakes_at_deadline, wakes_to_repeat}
use Rattle.node_requests.proofs.Silences.{latest_fits}
use Rattle.node_requests.proofs.Wakes.{IsTold, told_after}
use Rattle.node_requests.proofs.waking.next_wake.Goals as goal

pub returns-then-not-has_room-clause-looks : goal.returns-then-not-has_room-clause-looks
returns-then-not-has_room-clause-looks g c = λ repair s h keeps.
    let f = formats g.D.PartialEq.eq g.D.Write.spelling g.S.Signature.Write.spelling g.S.Certificate.Write.spelling g.D.Read.reading g.S.Signature.Read.reading g.S.Certificate.Read.reading (g.S.Scheme.size s.voter.scheme) in
    after_poll_by g.S.Scheme f s h (λ k. voting.Keeps g.S.Scheme g.L.Elector s.voter c.next_timeout.new.self (voter_of s k))
    (λ lacks. subst (λ (t : ℕ). voting.Keeps g.S.Scheme g.L.Elector s.voter c.next_timeout.new.self (polled t ∷ voter_of s h)) (c.moment.ensures (finalized_of s h) h keeps.tables_are)
    (c.in-Ok-Some.ensures.keeps s.voter (voter_of s h) keeps.voter_is))
    (c.in-Ok-Some.ensures.unchanged s.voter (voter_of s h) keeps.voter_is)

pub returns-then-eq-clause-looks : goal.returns-then-eq-clause-looks
returns-then-eq-clause-looks g c = λ repair s h keeps.
    let f = formats g.D.PartialEq.eq g.D.Write.spelling g.S.Signature.Write.spelling g.S.Certificate.Write.spelling g.D.Read.reading g.S.Signature.Read.reading g.S.Certificate.Read.reading (g.S.Scheme.size s.voter.scheme) in
    after_poll_by g.S.Scheme f s h (λ k. voting.Keeps g.S.Scheme g.L.Elector s.voter c.next_timeout.new.self (voter_of s k))
    (λ lacks. subst (λ (t : ℕ). voting.Keeps g.S.Scheme g.L.Elector s.voter c.next_timeout.new.self (polled t ∷ voter_of s h)) (c.moment.ensures (finalized_of s h) h keeps.tables_are)
    (c.in-Ok-Some.ensures.keeps s.voter (voter_of s h) keeps.voter_is))
    (c.in-Ok-Some.ensures.unchanged s.voter (voter_of s h) keeps.voter_is)

pub returns-else-eq-clause-looks : goal.returns-else-eq-clause-looks
returns-else-eq-clause-looks g c = λ repair s h keeps.
    let f = formats g.D.PartialEq.eq g.D.Write.spelling g.S.Signature.Write.spelling g.S.Certificate.Write.spelling g.D.Read.reading g.S.Signature.Read.reading g.S.Certificate.Read.reading (g.S.Scheme.size s.voter.scheme) in
    after_poll_by g.S.Scheme f s h (λ k. voting.Keeps g.S.Scheme g.L.Elector s.voter c.next_timeout.new.self (voter_of s k))
    (λ lacks. subst (λ (t : ℕ). voting.Keeps g.S.Scheme g.L.Elector s.voter c.next_timeout.new.self (polled t ∷ voter_of s h)) (c.moment.ensures (finalized_of s h) h keeps.tables_are)
    (c.in-Ok-Some.ensures.keeps s.voter (voter_of s h) keeps.voter_is))
    (c.in-Ok-Some.ensures.unchanged s.voter (voter_of s h) keeps.voter_is)

pub returns-in-Ok-None-clause-looks : goal.returns-in-Ok-None-clause-looks
returns-in-Ok-None-clause-looks g c = λ repair s h keeps.
    let f = formats g.D.PartialEq.eq g.D.Write.spelling g.S.Signature.Write.spelling g.S.Certificate.Write.spelling g.D.Read.reading g.S.Signature.Read.reading g.S.Certificate.Read.reading (g.S.Scheme.size s.voter.scheme) in
    after_poll_by g.S.Scheme f s h (λ k. voting.Keeps g.S.Scheme g.L.Elector s.voter c.next_timeout.new.self (voter_of s k))
    (λ lacks. subst (λ (t : ℕ). voting.Keeps g.S.Scheme g.L.Elector s.voter c.next_timeout.new.self (polled t ∷ voter_of s h)) (c.moment.ensures (finalized_of s h) h keeps.tables_are)
    (c.in-Ok-None.ensures.keeps s.voter (voter_of s h) keeps.voter_is))
    (c.in-Ok-None.ensures.unchanged s.voter (voter_of s h) keeps.voter_is)

pub returns-then-not-has_room-clause-wakes : goal.returns-then-not-has_room-clause-wakes
returns-then-not-has_room-clause-wakes g c = λ repair s h keeps of early t ahead.
    let f = formats g.D.PartialEq.eq g.D.Write.spelling g.S.Signature.Write.spelling g.S.Certificate.Write.spelling g.D.Read.reading g.S.Signature.Read.reading g.S.Certificate.Read.reading (g.S.Scheme.size s.voter.scheme) in
    let v = voter_of s h in
    let same = c.lookahead-length.ensures.length s.voter v (c.views.ensures s.voter v keeps.voter_is) in
    let at = current_after g.S.Scheme f s h ∙ sym (c.current_view.ensures s.voter v keeps.voter_is) in
    never_without_room g.S.Scheme f s (after_poll s h)
    (λ room. false≢true (sym c.if-not-has_room.true ∙ c.has_room-has_room.ensures.1 (room_here s.voter.length (current_of s (after_poll s h)) c.lookahead-length.result.length c.current_view.result (sym same) at room))) t

pub returns-then-eq-clause-wakes : goal.returns-then-eq-clause-wakes
returns-then-eq-clause-wakes g c = λ repair s h keeps of early.
    let f = formats g.D.PartialEq.eq g.D.Write.spelling g.S.Signature.Write.spelling g.S.Certificate.Write.spelling g.D.Read.reading g.S.Signature.Read.reading g.S.Certificate.Read.reading (g.S.Scheme.size s.voter.scheme) in
    let v = voter_of s h in
    let k = after_poll s h in
    let answer = subst (λ (t : ℕ). c.in-Ok-Some.field-0 ≡ (if nat_lt 0 (current s.voter v) then timeout s.voter (polled t ∷ v) t else None)) (c.moment.ensures (finalized_of s h) h keeps.tables_are) (c.in-Ok-Some.ensures.answer s.voter v keeps.voter_is) in
    let told : IsTold s.voter (voter_of s k) (latest k) c.in-Ok-Some.field-0 = subst (λ (t : ℕ). IsTold s.voter (voter_of s k) t c.in-Ok-Some.field-0) (sym (latest_after g.S.Scheme f s h)) (told_after g.S.Scheme f s h c.in-Ok-Some.field-0 c.the_timeout_is_the_earliest.ensures.kept answer) in
    let same = c.lookahead-length.ensures.length s.voter v (c.views.ensures s.voter v keeps.voter_is) in
    let at = c.current_view.ensures s.voter v keeps.voter_is ∙ sym (current_after g.S.Scheme f s h) in
    let next = told_next s.voter (voter_of s k) (latest k) c.in-Ok-Some.field-0 told (c.in-Ok-Some.moment, c.in-Ok-Some.why) c.in-Ok-Some.field-0-is in
    let room = room_here c.lookahead-length.result.length c.current_view.result s.voter.length (current_of s k) same at (c.has_room-has_room.ensures.0 c.if-not-has_room.false) in
    let still_early = subst (λ (t : ℕ). ¬ IsGivenUpAt g.S.Scheme f s k t) (sym (latest_after g.S.Scheme f s h)) early in
    let all = allowed_after g.S.Scheme f s h keeps.begun keeps.allowed in
    wakes_to_repeat g.S.Scheme f s k all c.the_timeout_is_the_earliest.ensures.earliest c.in-Ok-Some.moment c.in-Ok-Some.why next.1 next.0 room still_early
    (is_repetition c.in-Ok-Some.why c.eq.result c.eq.ensures c.if-eq.true)

pub returns-else-eq-clause-wakes : goal.returns-else-eq-clause-wakes
returns-else-eq-clause-wakes g c = λ repair s h keeps of early.
    let f = formats g.D.PartialEq.eq g.D.Write.spelling g.S.Signature.Write.spelling g.S.Certificate.Write.spelling g.D.Read.reading g.S.Signature.Read.reading g.S.Certificate.Read.reading (g.S.Scheme.size s.voter.scheme) in
    let v = voter_of s h in
    let k = after_poll s h in
    let answer = subst (λ (t : ℕ). c.in-Ok-Some.field-0 ≡ (if nat_lt 0 (current s.voter v) then timeout s.voter (polled t ∷ v) t else None)) (c.moment.ensures (finalized_of s h) h keeps.tables_are) (c.in-Ok-Some.ensures.answer s.voter v keeps.voter_is) in
    let told : IsTold s.voter (voter_of s k) (latest k) c.in-Ok-Some.field-0 = subst (λ (t : ℕ). IsTold s.voter (voter_of s k) t c.in-Ok-Some.field-0) (sym (latest_after g.S.Scheme f s h)) (told_after g.S.Scheme f s h c.in-Ok-Some.field-0 c.the_timeout_is_the_earliest.ensures.kept answer) in
    let same = c.lookahead-length.ensures.length s.voter v (c.views.ensures s.voter v keeps.voter_is) in
    let at = c.current_view.ensures s.voter v keeps.voter_is ∙ sym (current_after g.S.Scheme f s h) in
    let next = told_next s.voter (voter_of s k) (latest k) c.in-Ok-Some.field-0 told (c.in-Ok-Some.moment, c.in-Ok-Some.why) c.in-Ok-Some.field-0-is in
    let room = room_here c.lookahead-length.result.length c.current_view.result s.voter.length (current_of s k) same at (c.has_room-has_room.ensures.0 c.if-not-has_room.false) in
    let still_early = subst (λ (t : ℕ). ¬ IsGivenUpAt g.S.Scheme f s k t) (sym (latest_after g.S.Scheme f s h)) early in
    let all = allowed_after g.S.Scheme f s h keeps.begun keeps.allowed in
    let asks = asker_after g.S.Scheme g.L.Elector f s h keeps
    (after_poll_by g.S.Scheme f s h (λ k. voting.Keeps g.S.Scheme g.L.Elector s.voter c.next_timeout.new.self (voter_of s k))
    (λ lacks. subst (λ (t : ℕ). voting.Keeps g.S.Scheme g.L.Elector s.voter c.next_timeout.new.self (polled t ∷ v)) (c.moment.ensures (finalized_of s h) h keeps.tables_are) (c.in-Ok-Some.ensures.keeps s.voter v keeps.voter_is))
    (c.in-Ok-Some.ensures.unchanged s.voter v keeps.voter_is)) in
    wakes_at_deadline g.S.Scheme f s k all c.the_timeout_is_the_earliest.ensures.earliest c.in-Ok-Some.moment c.in-Ok-Some.why next.1 next.0 room still_early
    (no_repetition c.in-Ok-Some.why c.eq.result c.eq.ensures c.if-eq.false) c.earliest.result (latest_fits g.S.Scheme f s k asks.begun asks.allowed) c.earliest.type_inv
    (c.earliest.ensures repair s k asks of)

pub returns-in-Ok-None-clause-wakes : goal.returns-in-Ok-None-clause-wakes
returns-in-Ok-None-clause-wakes g c = λ repair s h keeps of early t ahead.
    let f = formats g.D.PartialEq.eq g.D.Write.spelling g.S.Signature.Write.spelling g.S.Certificate.Write.spelling g.D.Read.reading g.S.Signature.Read.reading g.S.Certificate.Read.reading (g.S.Scheme.size s.voter.scheme) in
    let v = voter_of s h in
    let k = after_poll s h in
    let answer = subst (λ (t : ℕ). c.in-Ok-None.field-0 ≡ (if nat_lt 0 (current s.voter v) then timeout s.voter (polled t ∷ v) t else None)) (c.moment.ensures (finalized_of s h) h keeps.tables_are) (c.in-Ok-None.ensures.answer s.voter v keeps.voter_is) in
    let told : IsTold s.voter (voter_of s k) (latest k) c.in-Ok-None.field-0 = subst (λ (t : ℕ). IsTold s.voter (voter_of s k) t c.in-Ok-None.field-0) (sym (latest_after g.S.Scheme f s h)) (told_after g.S.Scheme f s h c.in-Ok-None.field-0 c.the_timeout_is_the_earliest.ensures.kept answer) in
    never_without_timeout g.S.Scheme f s k (allowed_after g.S.Scheme f s h keeps.begun keeps.allowed) c.the_timeout_is_the_earliest.ensures.earliest
    (subst (λ (now : ℕ). HasTimeout s.voter (voter_of s k) now) (sym (latest_after g.S.Scheme f s h)) (has_timeout_after g.S.Scheme f s h c.the_timeout_is_the_earliest.ensures.there c.the_timeout_is_the_earliest.ensures.kept))
    (λ some. told_none s.voter (voter_of s k) (latest k) c.in-Ok-None.field-0 told c.in-Ok-None.field-0-is some) t ahead
