use Rattle.std.proofs.Common.{Some, refl, sym, subst}
use Rattle.simplex_member.specs.Packet.{IsReadable, formats, of_certificate}
use Rattle.simplex_member.specs.Refusals.{certificate_tests, packet_tests}
use Rattle.node_input.specs.declared.deciding.Decided.TheVariants as decided
use Rattle.node_inbox.specs.declared.packets.Message.{Message}
use Rattle.node_input.specs.Deciding.{IsDecided}
use Rattle.node_inbox.specs.Packets.{as_packet}
use Rattle.node_input.specs.Refusing.{first_vote_tests, last_vote_tests}
use Rattle.node_input.proofs.Tests.{first-behind, first-has, first-in-front}
use Rattle.node_input.proofs.Refusals.{is_other, other-is}
use Rattle.node_input.proofs.deciding.decide_message.Goals as goal

pub returns-in-Some : goal.returns-in-Some
returns-in-Some g c = λ s h k another small readable.
    let f = formats {S = g.row.S.Denot} {P = g.row.S-PublicKey.Denot} g.D.PartialEq.eq g.D.Write.spelling g.S.Signature.Write.spelling g.S.Certificate.Write.spelling g.D.Read.reading g.S.Signature.Read.reading g.S.Certificate.Read.reading (g.S.Scheme.size s.voter.scheme) in
    let v = c.in-Vote.vote in
    subst (λ (m : Message g.row.S.Denot g.row.D.Denot g.row.S-PublicKey.Denot g.row.S-Signature.Denot g.row.S-Certificate.Denot). IsDecided g.S.Scheme f s h c.args.sender (Some (as_packet m)) (packet_tests g.S.Scheme f s h c.args.sender (Some (as_packet m))) (decided.Refused c.in-Some.refusal)) (sym c.in-Vote.is)
    (let first = c.in-Some.ensures.first f s h k in (first-in-front (first_vote_tests g.S.Scheme f s h c.args.sender v) (last_vote_tests g.S.Scheme f s h c.args.sender v) c.in-Some.refusal first, other-is c.in-Some.refusal (first-has is_other (first_vote_tests g.S.Scheme f s h c.args.sender v) c.in-Some.refusal refl first)))

pub returns-in-None : goal.returns-in-None
returns-in-None g c = λ s h k another small readable.
    let f = formats {S = g.row.S.Denot} {P = g.row.S-PublicKey.Denot} g.D.PartialEq.eq g.D.Write.spelling g.S.Signature.Write.spelling g.S.Certificate.Write.spelling g.D.Read.reading g.S.Signature.Read.reading g.S.Certificate.Read.reading (g.S.Scheme.size s.voter.scheme) in
    let v = c.in-Vote.vote in
    subst (λ (m : Message g.row.S.Denot g.row.D.Denot g.row.S-PublicKey.Denot g.row.S-Signature.Denot g.row.S-Certificate.Denot). IsDecided g.S.Scheme f s h c.args.sender (Some (as_packet m)) (packet_tests g.S.Scheme f s h c.args.sender (Some (as_packet m))) (decided.Vote v)) (sym c.in-Vote.is)
    (refl, another, c.in-None.ensures.may f s h k, λ answer last. first-behind (first_vote_tests g.S.Scheme f s h c.args.sender v) (last_vote_tests g.S.Scheme f s h c.args.sender v) answer (c.in-None.ensures.first f s h k) last)

pub returns-in-Some-certificate_refusal : goal.returns-in-Some-certificate_refusal
returns-in-Some-certificate_refusal g c = λ s h k another small readable.
    let f = formats {S = g.row.S.Denot} {P = g.row.S-PublicKey.Denot} g.D.PartialEq.eq g.D.Write.spelling g.S.Signature.Write.spelling g.S.Certificate.Write.spelling g.D.Read.reading g.S.Signature.Read.reading g.S.Certificate.Read.reading (g.S.Scheme.size s.voter.scheme) in
    let v = c.in-Certificate.certificate in
    subst (λ (m : Message g.row.S.Denot g.row.D.Denot g.row.S-PublicKey.Denot g.row.S-Signature.Denot g.row.S-Certificate.Denot). IsDecided g.S.Scheme f s h c.args.sender (Some (as_packet m)) (packet_tests g.S.Scheme f s h c.args.sender (Some (as_packet m))) (decided.Refused c.in-Some-certificate_refusal.refusal)) (sym c.in-Certificate.is)
    (let first = c.in-Some-certificate_refusal.ensures.first s h k in (first, other-is c.in-Some-certificate_refusal.refusal (first-has is_other (certificate_tests g.S.Scheme f s h v) c.in-Some-certificate_refusal.refusal refl first)))

pub returns-in-None-certificate_refusal : goal.returns-in-None-certificate_refusal
returns-in-None-certificate_refusal g c = λ s h k another small readable.
    let f = formats {S = g.row.S.Denot} {P = g.row.S-PublicKey.Denot} g.D.PartialEq.eq g.D.Write.spelling g.S.Signature.Write.spelling g.S.Certificate.Write.spelling g.D.Read.reading g.S.Signature.Read.reading g.S.Certificate.Read.reading (g.S.Scheme.size s.voter.scheme) in
    let v = c.in-Certificate.certificate in
    let read : IsReadable f (of_certificate v) = subst (λ (m : Message g.row.S.Denot g.row.D.Denot g.row.S-PublicKey.Denot g.row.S-Signature.Denot g.row.S-Certificate.Denot). IsReadable f (as_packet m)) c.in-Certificate.is readable in
    subst (λ (m : Message g.row.S.Denot g.row.D.Denot g.row.S-PublicKey.Denot g.row.S-Signature.Denot g.row.S-Certificate.Denot). IsDecided g.S.Scheme f s h c.args.sender (Some (as_packet m)) (packet_tests g.S.Scheme f s h c.args.sender (Some (as_packet m))) (decided.Certificate v)) (sym c.in-Certificate.is)
    (refl, c.in-None-certificate_refusal.ensures.first s h k, c.in-None-certificate_refusal.ensures.may s h k ((c.packets_are_read_back.ensures.read_back (g.S.Scheme.size s.voter.scheme) small).taken v read))
