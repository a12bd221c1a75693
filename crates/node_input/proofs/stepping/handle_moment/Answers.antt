use Rattle.std.proofs.Common.{refl, sym, subst, None, Ok, List, [], append-nil}
use Rattle.simplex_member.specs.declared.event.Event.TheVariants as event
use Rattle.simplex_member.specs.Deeds.{AreActions}
use Rattle.simplex_member.specs.Packet.{formats}
use Rattle.simplex_member.specs.Recorded.{kept_of}
use Rattle.simplex_member.specs.Setup.{owner_of}
use Rattle.node_core.specs.Keeps.{book_of}
use Rattle.node_input.proofs.Replying.{rest-reached, still-reached, stepped, turned-down, unasked}
use Rattle.node_input.proofs.stepping.handle_moment.Goals as goal

pub returns-in-Some-clause-handled : goal.returns-in-Some-clause-handled
returns-in-Some-clause-handled g c = λ s h k.
    let f = formats {S = g.row.S.Denot} {P = g.row.S-PublicKey.Denot} g.D.PartialEq.eq g.D.Write.spelling g.S.Signature.Write.spelling g.S.Certificate.Write.spelling g.D.Read.reading g.S.Signature.Read.reading g.S.Certificate.Read.reading (g.S.Scheme.size s.voter.scheme) in
    record {
      ok = turned-down (event.Moment c.args.now) [] c.in-Some.refusal (c.in-Some.ensures.first f s h k) tt k;
      any_moment = λ keeps. rest-reached g.S.Scheme f s h g.K.Disk _ _ (event.Moment c.args.now) (c.a_ledger_at_rest_leaves_its_record.ensures (owner_of s) c.args.core.now.ledger (kept_of s.voter.length h) k.ledger keeps);
      without_memory = λ r first needs. refl;
    }

pub returns-clause-handled : goal.returns-clause-handled
returns-clause-handled g c = λ s h k.
    let f = formats {S = g.row.S.Denot} {P = g.row.S-PublicKey.Denot} g.D.PartialEq.eq g.D.Write.spelling g.S.Signature.Write.spelling g.S.Certificate.Write.spelling g.D.Read.reading g.S.Signature.Read.reading g.S.Certificate.Read.reading (g.S.Scheme.size s.voter.scheme) in
    let may = c.in_default.ensures.may f s h k in
    let told = c.take_moment.ensures.taken f s h k refl may.0 may.1 in
    record {
      ok = stepped (event.Moment c.args.now) [] (c.in_default.ensures.first f s h k) refl (record { keeps = told; acts = λ deeds are. subst (λ (l : List _). AreActions f [] l) (sym (append-nil deeds)) are });
      any_moment = λ keeps. still-reached g.S.Scheme f s h g.K.Disk _ _ (event.Moment c.args.now) c.take_moment.ensures.book (c.a_ledger_at_rest_leaves_its_record.ensures (owner_of s) c.args.core.now.ledger (kept_of s.voter.length h) k.ledger keeps);
      without_memory = λ r first needs. refl;
    }

pub returns-clause-faults : goal.returns-clause-faults
returns-clause-faults g c = unasked g.K.Disk (book_of c.args.core.now) (book_of c.take_moment.new.core) (Ok None) c.take_moment.ensures.book tt
