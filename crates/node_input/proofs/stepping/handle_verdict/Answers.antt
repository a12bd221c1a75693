use Rattle.std.proofs.Common.{refl, sym, subst, Err, List, [], Option}
use Rattle.simplex_member.specs.declared.event.Event.TheVariants as event
use Rattle.simplex_member.specs.declared.refusal.Refusal.{Refusal}
use Rattle.simplex_member.specs.Deeds.{AreActions}
use Rattle.simplex_member.specs.Packet.{formats}
use Rattle.simplex_member.specs.Point.{Judged}
use Rattle.simplex_member.specs.Recorded.{kept_of}
use Rattle.simplex_member.specs.Setup.{owner_of}
use Rattle.node_input.proofs.Replying.{from-nothing, none-due, point-reached, rest-reached, stepped, turned-down}
use Rattle.node_input.proofs.stepping.handle_verdict.Goals as goal

pub returns-in-Some-clause-handled : goal.returns-in-Some-clause-handled
returns-in-Some-clause-handled g c = λ s h k none.
    let f = formats {S = g.row.S.Denot} {P = g.row.S-PublicKey.Denot} g.D.PartialEq.eq g.D.Write.spelling g.S.Signature.Write.spelling g.S.Certificate.Write.spelling g.D.Read.reading g.S.Signature.Read.reading g.S.Certificate.Read.reading (g.S.Scheme.size s.voter.scheme) in
    record {
      ok = turned-down (event.Verdict c.args.view c.args.ok) c.args.out.now.items c.in-Some.refusal (c.in-Some.ensures.first s h k c.args.ok) (subst (λ (l : List _). AreActions f l []) (sym none) tt) k;
      any_moment = λ keeps. rest-reached g.S.Scheme f s h g.K.Disk _ _ (event.Verdict c.args.view c.args.ok) (c.a_ledger_at_rest_leaves_its_record.ensures (owner_of s) c.args.core.now.ledger (kept_of s.voter.length h) k.ledger keeps);
      without_memory = λ r first needs. refl;
    }

pub returns-in-Ok-clause-handled : goal.returns-in-Ok-clause-handled
returns-in-Ok-clause-handled g c = λ s h k none.
    let f = formats {S = g.row.S.Denot} {P = g.row.S-PublicKey.Denot} g.D.PartialEq.eq g.D.Write.spelling g.S.Signature.Write.spelling g.S.Certificate.Write.spelling g.D.Read.reading g.S.Signature.Read.reading g.S.Certificate.Read.reading (g.S.Scheme.size s.voter.scheme) in
    let awaited = c.in_default.ensures.may s h k in
    record {
      ok = stepped (event.Verdict c.args.view c.args.ok) c.take_verdict.new.out.items (c.in_default.ensures.first s h k c.args.ok) (refl, refl) (from-nothing g.S.Scheme g.L.Elector g.K.Disk f s c.take_verdict.new.core h (Judged (record { epoch = s.voter.epoch; view = c.args.view }) c.args.ok) c.args.out.now.items c.take_verdict.new.out.items none (c.in-Ok.ensures.taken s h k awaited));
      any_moment = λ keeps. point-reached g.S.Scheme f s h g.K.Disk _ _ (event.Verdict c.args.view c.args.ok) (Judged (record { epoch = s.voter.epoch; view = c.args.view }) c.args.ok) (c.in_default.ensures.first s h k c.args.ok) (refl, refl) (c.in-Ok.ensures.any_moment s h k awaited keeps);
      without_memory = λ r first needs. refl;
    }

pub returns-in-Err-clause-handled : goal.returns-in-Err-clause-handled
returns-in-Err-clause-handled g c = λ s h k none.
    let f = formats {S = g.row.S.Denot} {P = g.row.S-PublicKey.Denot} g.D.PartialEq.eq g.D.Write.spelling g.S.Signature.Write.spelling g.S.Certificate.Write.spelling g.D.Read.reading g.S.Signature.Read.reading g.S.Certificate.Read.reading (g.S.Scheme.size s.voter.scheme) in
    record {
      ok = tt;
      any_moment = λ keeps. point-reached g.S.Scheme f s h g.K.Disk _ _ (event.Verdict c.args.view c.args.ok) (Judged (record { epoch = s.voter.epoch; view = c.args.view }) c.args.ok) (c.in_default.ensures.first s h k c.args.ok) (refl, refl) (c.in-Err.ensures.any_moment s h k (c.in_default.ensures.may s h k) keeps);
      without_memory = none-due g.S.Scheme f s h (event.Verdict c.args.view c.args.ok) {A = Option Refusal} (Err c.in-Err.fault) (c.in_default.ensures.first s h k c.args.ok);
    }
