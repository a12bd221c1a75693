use Rattle.std.proofs.Common.{[], ◌∷◌, ℕ, Option, refl, sym, subst}
use Rattle.std.proofs.lemmas.Result.{on_ok_weaker}
use Rattle.node_outbox.specs.Handing.{nothing_more}
use Rattle.node_requests.specs.Polling.{no_poll}
use Rattle.node_requests.specs.Waking.{wakes}
use Rattle.simplex_state.specs.State as voting
use Rattle.simplex_member.specs.Deeds.{Wakes}
use Rattle.simplex_member.specs.Layers.{latest, voter_of}
use Rattle.simplex_member.specs.Member.{EndsWith, IsGivenUpAt}
use Rattle.simplex_member.specs.Packet.{formats}
use Rattle.node_due.proofs.GivenUp.{not_given_up}
use Rattle.node_due.proofs.Trying.{asks, was_settled}
use Rattle.node_due.proofs.asking.say_when.Goals as goal

pub returns-in-Ok-Some-clause-settled : goal.returns-in-Ok-Some-clause-settled
returns-in-Ok-Some-clause-settled g c = λ s h k none.
    let f = formats {S = g.row.S.Denot} {P = g.row.S-PublicKey.Denot} g.D.PartialEq.eq g.D.Write.spelling g.S.Signature.Write.spelling g.S.Certificate.Write.spelling g.D.Read.reading g.S.Signature.Read.reading g.S.Certificate.Read.reading (g.S.Scheme.size s.voter.scheme) in
    let here = no_poll g.S.Scheme f s h none.votes.retry_known in
    let looks = subst (λ at. voting.Keeps g.S.Scheme g.L.Elector s.voter c.next_wake.new.voter (voter_of s at)) here (c.in-Ok-Some.ensures.looks c.args.core.now.repair s h (asks k)) in
    let ends = subst (λ (o : Option ℕ). EndsWith g.S.Scheme f s h (wakes o)) c.in-Ok-Some.field-0-is
    (subst (λ at. EndsWith g.S.Scheme f s at (wakes c.in-Ok-Some.field-0)) here
    (c.in-Ok-Some.ensures.wakes c.args.core.now.repair s h (asks k) (c.silence-silence.ensures f s h k)
    (subst (λ at. ¬ IsGivenUpAt g.S.Scheme f s at (latest h)) (sym here) (not_given_up g.S.Scheme f s h none)))) in
    was_settled k c.next_wake.new.voter (Wakes c.in-Ok-Some.moment ∷ []) c.a_ledger_at_rest_leaves_its_record.ensures none
    (on_ok_weaker c.hand_out.result (λ done. (looks, ends, done f (Wakes c.in-Ok-Some.moment) refl)) c.hand_out.ensures.done)

pub returns-in-Ok-None-clause-settled : goal.returns-in-Ok-None-clause-settled
returns-in-Ok-None-clause-settled g c = λ s h k none.
    let f = formats {S = g.row.S.Denot} {P = g.row.S-PublicKey.Denot} g.D.PartialEq.eq g.D.Write.spelling g.S.Signature.Write.spelling g.S.Certificate.Write.spelling g.D.Read.reading g.S.Signature.Read.reading g.S.Certificate.Read.reading (g.S.Scheme.size s.voter.scheme) in
    let here = no_poll g.S.Scheme f s h none.votes.retry_known in
    let looks = subst (λ at. voting.Keeps g.S.Scheme g.L.Elector s.voter c.next_wake.new.voter (voter_of s at)) here (c.in-Ok-None.ensures.looks c.args.core.now.repair s h (asks k)) in
    let ends = subst (λ (o : Option ℕ). EndsWith g.S.Scheme f s h (wakes o)) c.in-Ok-None.field-0-is
    (subst (λ at. EndsWith g.S.Scheme f s at (wakes c.in-Ok-None.field-0)) here
    (c.in-Ok-None.ensures.wakes c.args.core.now.repair s h (asks k) (c.silence-silence.ensures f s h k)
    (subst (λ at. ¬ IsGivenUpAt g.S.Scheme f s at (latest h)) (sym here) (not_given_up g.S.Scheme f s h none)))) in
    was_settled k c.next_wake.new.voter [] c.a_ledger_at_rest_leaves_its_record.ensures none
    (looks, ends, nothing_more f c.args.out.now.items)

pub returns-in-Err-clause-settled : goal.returns-in-Err-clause-settled
returns-in-Err-clause-settled g c = λ s h k none. was_settled k c.next_wake.new.voter [] c.a_ledger_at_rest_leaves_its_record.ensures none tt
