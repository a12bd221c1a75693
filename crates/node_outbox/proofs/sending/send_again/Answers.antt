use Rattle.std.proofs.Common.{◌≡◌, [], ◌∷◌, None, ap, map, refl}
use Rattle.std.specs.Prelude.{option_to_list}
use Rattle.std.proofs.lemmas.Result.{on_ok_weaker}
use Rattle.simplex_messages.specs.declared.vote.Vote.TheVariants as vote
use Rattle.simplex_messages.specs.Vote.{any_vote_spelling}
use Rattle.simplex_member.specs.Deeds.{Sends}
use Rattle.simplex_member.specs.Packet.{formats, of_certificate, of_vote}
use Rattle.node_outbox.specs.Handing.{both_more, hands_as}
use Rattle.node_outbox.proofs.sending.send_again.Goals as goal

pub returns-in-Some-clause-done : goal.returns-in-Some-clause-done
returns-in-Some-clause-done g c = on_ok_weaker c.send-in-Some.result (λ done. λ n.
    let f = formats g.D.PartialEq.eq g.D.Write.spelling g.S.Signature.Write.spelling g.S.Certificate.Write.spelling g.D.Read.reading g.S.Signature.Read.reading g.S.Certificate.Read.reading n in
    let copied : c.args.recorded.now ≡ c.in-Ok.copy = cc c.in-Ok.ensures in
    let again = Sends None (of_vote (vote.Nullify c.args.recorded.now)) in
    let with = Sends None (of_certificate c.in-Some.certificate) in
    hands_as f c.args.out.now.items c.send-in-Some.new.out.items (again ∷ map (λ x. Sends None (of_certificate x)) (option_to_list c.args.best)) (again ∷ with ∷ [])
    (ap (λ o. again ∷ map (λ x. Sends None (of_certificate x)) (option_to_list o)) c.in-Some.is)
    (both_more f c.args.out.now.items c.send.new.out.items c.send-in-Some.new.out.items (again ∷ []) (with ∷ [])
    (c.in_ok-send.ensures.done f (of_vote (vote.Nullify c.args.recorded.now)) (ap (λ v. any_vote_spelling g.D.Write.spelling g.S.Signature.Write.spelling (vote.Nullify v)) copied) refl)
    (done f (of_certificate c.in-Some.certificate) refl refl)))
    c.send-in-Some.ensures.done
