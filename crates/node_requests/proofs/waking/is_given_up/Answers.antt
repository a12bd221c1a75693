use Rattle.std.proofs.Common.{◌≡◌, ◌∷◌, ℕ, None, subst}
use Rattle.std.specs.Prelude.{if◌then◌else◌, nat_lt}
use Rattle.voter_history.specs.History.{current, polled}
use Rattle.voter_rules.specs.GivingUp.{timeout}
use Rattle.simplex_state.specs.State as voting
use Rattle.simplex_member.specs.Layers.{current_of, finalized_of, latest, voter_of}
use Rattle.simplex_member.specs.Packet.{formats}
use Rattle.node_requests.specs.Polling.{after_poll_by}
use Rattle.node_requests.specs.Waking.{after_poll}
use Rattle.node_requests.proofs.Wakes.{due_when_reached, never_due, reached_by, told_after}
use Rattle.node_requests.proofs.waking.is_given_up.Goals as goal

pub returns-in-Ok-Some-clause-looks : goal.returns-in-Ok-Some-clause-looks
returns-in-Ok-Some-clause-looks g c = λ repair s h keeps.
    let f = formats g.D.PartialEq.eq g.D.Write.spelling g.S.Signature.Write.spelling g.S.Certificate.Write.spelling g.D.Read.reading g.S.Signature.Read.reading g.S.Certificate.Read.reading (g.S.Scheme.size s.voter.scheme) in
    after_poll_by g.S.Scheme f s h (λ k. voting.Keeps g.S.Scheme g.L.Elector s.voter c.next_timeout.new.self (voter_of s k))
    (λ lacks. subst (λ (t : ℕ). voting.Keeps g.S.Scheme g.L.Elector s.voter c.next_timeout.new.self (polled t ∷ voter_of s h)) (c.moment-now.ensures (finalized_of s h) h keeps.tables_are)
    (c.in-Ok-Some.ensures.keeps s.voter (voter_of s h) keeps.voter_is))
    (c.in-Ok-Some.ensures.unchanged s.voter (voter_of s h) keeps.voter_is)

pub returns-in-Ok-None-clause-looks : goal.returns-in-Ok-None-clause-looks
returns-in-Ok-None-clause-looks g c = λ repair s h keeps.
    let f = formats g.D.PartialEq.eq g.D.Write.spelling g.S.Signature.Write.spelling g.S.Certificate.Write.spelling g.D.Read.reading g.S.Signature.Read.reading g.S.Certificate.Read.reading (g.S.Scheme.size s.voter.scheme) in
    after_poll_by g.S.Scheme f s h (λ k. voting.Keeps g.S.Scheme g.L.Elector s.voter c.next_timeout.new.self (voter_of s k))
    (λ lacks. subst (λ (t : ℕ). voting.Keeps g.S.Scheme g.L.Elector s.voter c.next_timeout.new.self (polled t ∷ voter_of s h)) (c.moment-now.ensures (finalized_of s h) h keeps.tables_are)
    (c.in-Ok-None.ensures.keeps s.voter (voter_of s h) keeps.voter_is))
    (c.in-Ok-None.ensures.unchanged s.voter (voter_of s h) keeps.voter_is)

pub returns-in-Ok-Some-clause-due : goal.returns-in-Ok-Some-clause-due
returns-in-Ok-Some-clause-due g c = λ repair s h keeps may.
    let f = formats g.D.PartialEq.eq g.D.Write.spelling g.S.Signature.Write.spelling g.S.Certificate.Write.spelling g.D.Read.reading g.S.Signature.Read.reading g.S.Certificate.Read.reading (g.S.Scheme.size s.voter.scheme) in
    let at = c.moment-now.ensures (finalized_of s h) h keeps.tables_are in
    let v = voter_of s h in
    let answer = subst (λ (t : ℕ). c.in-Ok-Some.field-0 ≡ (if nat_lt 0 (current s.voter v) then timeout s.voter (polled t ∷ v) t else None)) at (c.in-Ok-Some.ensures.answer s.voter v keeps.voter_is) in
    due_when_reached s.voter (voter_of s (after_poll s h)) (latest h) c.in-Ok-Some.field-0 (told_after g.S.Scheme f s h c.in-Ok-Some.field-0 c.the_timeout_is_the_earliest.ensures.kept answer) _ _ c.in-Ok-Some.field-0-is
    (reached_by c.in-Ok-Some.moment c.moment-now.result (latest h) at) (current_of s h) may

pub returns-in-Ok-None-clause-due : goal.returns-in-Ok-None-clause-due
returns-in-Ok-None-clause-due g c = λ repair s h keeps may.
    let f = formats g.D.PartialEq.eq g.D.Write.spelling g.S.Signature.Write.spelling g.S.Certificate.Write.spelling g.D.Read.reading g.S.Signature.Read.reading g.S.Certificate.Read.reading (g.S.Scheme.size s.voter.scheme) in
    let at = c.moment-now.ensures (finalized_of s h) h keeps.tables_are in
    let v = voter_of s h in
    let answer = subst (λ (t : ℕ). c.in-Ok-None.field-0 ≡ (if nat_lt 0 (current s.voter v) then timeout s.voter (polled t ∷ v) t else None)) at (c.in-Ok-None.ensures.answer s.voter v keeps.voter_is) in
    never_due s.voter (voter_of s (after_poll s h)) (latest h) c.in-Ok-None.field-0 (told_after g.S.Scheme f s h c.in-Ok-None.field-0 c.the_timeout_is_the_earliest.ensures.kept answer) c.in-Ok-None.field-0-is (current_of s h) may
